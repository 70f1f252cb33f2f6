use Rattle.std.proofs.Common.{length, subst, sym}
use Rattle.nx_combine.specs.Notes.{IsNoted}
use Rattle.nx_combine.specs.private.TakerSteps.{from_after, with_read}
use Rattle.nx_combine.proofs.notes.PositionNotes.take.Goals as goal

pub returns-in-Header : goal.returns-in-Header
returns-in-Header c = λ lock from is.
    let all = with_read lock c.args.read in
    subst (λ event. IsNoted c.begin.new.self all (from_after event (length all.taken) from))
    (sym c.in-Header.is) (c.begin.ensures.anew all from (c.note_read.ensures lock from is))
