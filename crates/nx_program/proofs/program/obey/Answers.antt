use Rattle.std.proofs.Common.{inr, map, refl, subst, sym}
use Rattle.nx_fec.specs.Transfers.{devices}
use Rattle.nx_watch.specs.Stamps.{counted_of}
use Rattle.nx_program.specs.Program.{EndsOnStreams}
use Rattle.nx_program.proofs.lemmas.outcomes.Program.{called-ends, uncalled-ends}
use Rattle.nx_program.proofs.program.obey.Goals as goal

pub returns-in-Err : goal.returns-in-Err
returns-in-Err g c =
    let answered = c.answer_uncalled in
    let arguments = map g.S.AsStr.text c.args.arguments.now in
    let made = c.new-in-Err.ensures in
    inr (inr (
      record { unopened = refl; unstamped = made.stamps; unnoted = made.cuts; untold = refl },
      subst (λ r. EndsOnStreams arguments (devices g.R.Read.remaining g.W.Write.contents
          c.args.input r c.args.writer.now answered.new.writer) answered.result) (sym made.reader)
          (uncalled-ends arguments g.R.Read.remaining g.W.Write.contents c.args.input
          c.args.writer.now answered.new.writer answered.result
          (answered.ensures arguments c.in-Err.ensures.refused)),
    ))

pub returns-in-Ok : goal.returns-in-Ok
returns-in-Ok g c =
    let made = c.new.ensures in
    inr (inr (
      record { unopened = refl; unstamped = made.stamps; unnoted = made.cuts; untold = refl },
      called-ends (map g.S.AsStr.text c.args.arguments.now) g.R.Read.remaining
          g.W.Write.contents c.args.input c.perform-outcome.new.reader (counted_of c.new.result)
          c.args.writer.now c.perform-outcome.new.writer c.in-Ok.call c.perform-outcome.result
          c.call_outcome.result c.in-Ok.ensures.named made.reader c.perform-outcome.ensures
          c.call_outcome.ensures,
    ))
