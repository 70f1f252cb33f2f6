use Rattle.std.proofs.Common.{◌∙◌, List, ap, map}
use Rattle.std.proofs.lemmas.Result.{on_ok_weaker}
use Rattle.nx_code.specs.declared.signals.Comb.{Comb}
use Rattle.nx_station.specs.Broadcast.{head}
use Rattle.nx_station.proofs.lemmas.broadcasts.Broadcast.{message-positions}
use Rattle.nx_station.proofs.broadcast.push_message.Goals as goal

pub returns : goal.returns
returns c =
    let numbers = λ (combs : List Comb). map (λ (comb : Comb). comb.number) combs in
    on_ok_weaker c.push_ending.result
    (λ e. message-positions c.args.message.now (numbers c.deref.result.now) c.args.phasing _ _ _ _ _
    (numbers c.head_of.result) c.extent_of_text.result
    c.in_ok-push_many.ensures c.in_ok-push_combs.ensures
    (c.head_of.ensures ∙ ap head c.identity.ensures) c.in_ok-push_combs-2.ensures e
    (rw c.deref.ensures.value c.in_ok-text.ensures) c.extent_of_text.ensures.spells)
    c.push_ending.ensures
