use Rattle.std.proofs.Common.{refl, ap}
use Rattle.nx_combine.proofs.lemmas.Noted.{begins_anew}
use Rattle.nx_combine.proofs.notes.PositionNotes.begin.Goals as goal

pub returns-clause-anew : goal.returns-clause-anew
returns-clause-anew c = λ lock from is.
    begins_anew c.args.self.now _ lock from is c.clear.ensures refl
    (ap (λ notes. notes.was_alike) c.self.view_is)
