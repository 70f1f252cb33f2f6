use Rattle.std.proofs.Common.{ap, ◌∙◌, eq-eqb, length}
use Rattle.std.proofs.lemmas.Bool.{false≢true}
use Rattle.std.proofs.lemmas.Result.{err_from_is_err_and}
use Rattle.nx_station.proofs.lemmas.strict_reading.PrintedText.{left-fault}
use Rattle.nx_station.proofs.printed.messages_printed.Goals as goal

pub returns-in_err-part-clause-fault : goal.returns-in_err-part-clause-fault
returns-in_err-part-clause-fault c =
    let p = err_from_is_err_and c.from_residual.result c.from_residual.ensures.1 in
    let before = c.loop-rest.invariant in
    rw p.1 (rw p.2 (left-fault c.args.text.now c.loop-rest.rest.now c.loop-rest.messages.items
    c.in_err-part.field-0.0 before.whole before.sound
    (λ e. false≢true (c.loop-rest-test.ensures ∙ eq-eqb _ _ (ap length e)))
    c.in_err-part.ensures.fault))
