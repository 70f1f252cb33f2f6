use Rattle.std.proofs.Common.{◌∙◌, refl, ap}
use Rattle.nx_combine.specs.Notes.{Noting}
use Rattle.nx_combine.proofs.lemmas.Noted.{fresh_noted}
use Rattle.nx_combine.proofs.notes.PositionNotes.restart.Goals as goal

pub returns : goal.returns
returns c = fresh_noted _
    (ap (λ (n : Noting). n.positions) (c.self.view_is ∙ c.begin.ensures.none))
    (ap (λ (n : Noting). n.sure) (c.self.view_is ∙ c.begin.ensures.none)) refl
