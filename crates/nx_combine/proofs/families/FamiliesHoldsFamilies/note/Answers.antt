use Rattle.std.proofs.Common.{◌≡◌, zero, suc, ℕ, List, [], ◌∷◌, Option, Some, None, refl, sym, ap, ◌∙◌}
use Rattle.std.proofs.Math.ListN.{set}
use Rattle.std.specs.Prelude.{slice_get}
use Rattle.std.specs.Option.{option_copied_mut}
use Rattle.nx_copies.specs.declared.entry.EntryHead.{EntryHead}
use Rattle.nx_combine.specs.Judging.{HeldFamilies}
use Rattle.nx_combine.specs.declared.families.Families.TheInside.{Inside}
use Rattle.nx_combine.proofs.families.FamiliesHoldsFamilies.note.Goals as goal
use Rattle.nx_combine.proofs.families.FamiliesHoldsFamilies.note.Goals.{in-Some, in_default}

-- nothing is set behind the end
set_past : {X : Type 0} (xs : List X) (i : ℕ) (x : X) → slice_get xs i ≡ None → xs ≡ set xs i x
set_past [] i x none = refl
set_past (y ∷ xs) zero x none = absurd (let contra : Some y ≡ None = none in cc)
set_past (y ∷ xs) (suc i) x none = ap (λ l. y ∷ l) (set_past xs i x none)

pub returns-clause-printed : goal.returns-clause-printed
returns-clause-printed c =
    let index = c.args.index in
    let head : Option EntryHead = Some c.args.head in
    let same : c.self.inside.printed.items ≡ c.args.self.now.printed =
    ap (λ (v : HeldFamilies). v.printed) c.self.view_is in
    elim c.match-get_mut.branch [
      | in-Some w ↦
          ap (λ (it : Inside). it.printed.items) w.self-inside-is
          ∙ ap (λ (l : List (Option EntryHead)). set l index head) same
      | in_default w ↦
          let gone : slice_get c.self.inside.printed.items index ≡ None =
          sym c.get_mut.ensures.value ∙ ap option_copied_mut w.in_default.is in
          ap (λ (it : Inside). it.printed.items) w.self-inside-is
          ∙ set_past c.self.inside.printed.items index head gone
          ∙ ap (λ (l : List (Option EntryHead)). set l index head) same
    ]
