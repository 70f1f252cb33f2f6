use Rattle.std.proofs.Common.{◌∙◌, ap, subst, sym}
use Rattle.std.specs.Prelude.{IfSome}
use Rattle.nx_copies.specs.hearing.CopyHearing.{CopyHearing}
use Rattle.nx_copies.specs.Events.{elements_among, first_setting, settings}
use Rattle.nx_receiver.specs.Receiver.{HeadsText, Stands, headed_list, text_of}
use Rattle.nx_copies.specs.hearing.CopyHearer.{ready_copies}
use Rattle.nx_copies.specs.hearing.CopyTaker.{hearer_of}
use Rattle.nx_copies.proofs.lemmas.copy_hearer.Takes.{all_closed}
use Rattle.nx_receiver.proofs.lemmas.receiver.Printing.{prints_to_end}
use Rattle.nx_receiver.proofs.receiver.Receiver.end.Goals as goal

pub returns-clause-stands : goal.returns-clause-stands
returns-clause-stands g c start history log stands =
    let content = g.M.Recall.content in
    let first = first_setting start in
    let before = subst (λ r. Stands content start r history log) (sym c.self.view_is) stands in
    let hearer = hearer_of c.self.inside.synchroniser c.self.inside.taker in
    let closed : CopyHearing = record hearer { reader = c.close.new.self } in
    let ended = all_closed first hearer c.close.new.self (elements_among history)
    (settings first history) before.copies c.close.ensures.closes before.hearer in
    prints_to_end content start history c.self.inside.memory before.copies log
    (ready_copies closed) (headed_list c.judge_ready.result (text_of c.judge_ready.new.self)) ended
    before.printed before.memory
    (λ entries h. ap (λ (w : CopyHearing). headed_list c.judge_ready.result w.reader.finder.text)
    c.judge_ready.ensures.hearer ∙ c.judge_ready.ensures.printed entries h)
