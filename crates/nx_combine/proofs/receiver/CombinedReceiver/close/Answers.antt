use Rattle.std.proofs.Common.{◌++◌, ◌∷◌, ◌∙◌, [], ap, subst, sym, true}
use Rattle.nx_copies.specs.copies.FoundCopies.{headed_copy}
use Rattle.nx_receiver.specs.Receiver.{entry_list, headed_list}
use Rattle.nx_combine.specs.CombinedPrinting.{PrintsCombinedToEnd}
use Rattle.nx_combine.specs.CombinedReceiver.{StandsAfterAll, text_over}
use Rattle.nx_combine.proofs.receiver.CombinedReceiver.close.Goals as goal

pub returns-in_err-head-clause-stands : goal.returns-in_err-head-clause-stands
returns-in_err-head-clause-stands g c start history log stands =
    let text = text_over c.end.new.self in
    subst (λ l. PrintsCombinedToEnd start history (log ++ l))
    (ap (λ o. headed_list o text) c.in_err-head.was ∙ sym (ap entry_list c.from_residual.ensures))
    (c.end.ensures.stands start history log
    (subst (λ r. StandsAfterAll g.M.Recall.content start r history log) (sym c.self.view_is)
    stands))

pub returns-clause-stands : goal.returns-clause-stands
returns-clause-stands g c start history log stands =
    let head = c.in_ok-head.head in
    let text = text_over c.end.new.self in
    subst (λ l. PrintsCombinedToEnd start history (log ++ l))
    (ap (λ o. headed_list o text) c.in_ok-head.was
    ∙ sym (ap (λ x. x ∷ [])
    (c.of.ensures.copy ∙ ap (λ t. headed_copy head t true) c.text.ensures.text)))
    (c.end.ensures.stands start history log
    (subst (λ r. StandsAfterAll g.M.Recall.content start r history log) (sym c.self.view_is)
    stands))
