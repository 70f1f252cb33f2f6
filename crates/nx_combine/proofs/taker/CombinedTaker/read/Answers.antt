use Rattle.std.proofs.Common.{length, subst}
use Rattle.nx_combine.specs.CombinedTaker.{positions_after}
use Rattle.nx_combine.specs.Notes.{IsNoted}
use Rattle.nx_combine.specs.private.TakerSteps.{from_after}
use Rattle.nx_combine.proofs.lemmas.Taking.{one_read}
use Rattle.nx_combine.proofs.taker.CombinedTaker.read.Goals as goal

pub returns-clause-notes : goal.returns-clause-notes
returns-clause-notes c = record {
  reads = c.read_position-position.ensures.hears;
  notes = λ first words n from reads is role noted.
      let read = c.read_position-position.result in
      subst (λ lock. IsNoted c.take.new.self lock (from_after read.1 (length lock.taken) from))
      (one_read first words n read.0
      (c.read_position-position.ensures.position first words n reads is role))
      (c.take.ensures (positions_after first words n) from noted);
}
