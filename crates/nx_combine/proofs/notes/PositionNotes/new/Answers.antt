use Rattle.std.proofs.Common.{refl}
use Rattle.nx_combine.proofs.lemmas.Noted.{fresh_noted}
use Rattle.nx_combine.proofs.notes.PositionNotes.new.Goals as goal

pub returns : goal.returns
returns c = fresh_noted _ (c.new.ensures) refl refl
