use Rattle.std.proofs.Common.{◌≡◌, ◌+◌, ◌<◌, ℕ, Option, Some, None, ap, sym, ◌∙◌, arith}
use Rattle.std.specs.Prelude.{IfSome}
use Rattle.nx_code.specs.Reading.{character_of}
use Rattle.nx_code.specs.declared.shifts.Shift.{Shift}
use Rattle.nx_code.proofs.lemmas.Place.{place_in_either, place_for-BY_CHARACTER}
use Rattle.nx_code.proofs.lemmas.Place.{place_in_either-printed, place_in_either-Some}
use Rattle.nx_code.proofs.table_indexes.place_of_character.Goals as goal

-- where the place is that of the index, it is of a combination that prints the character
printed_there : (c : ℕ) (result : Option ℕ) → result ≡ place_in_either c
    → IfSome result (λ at. (at < 32) × (shift : Shift) × (character_of (at + 1) shift ≡ Some c))
printed_there c None h = tt
printed_there c (Some at) h = place_in_either-Some c at (sym h)

pub returns-clause-found : goal.returns-clause-found
returns-clause-found c number shift low high h =
    let below : c.from.result < 256 = omega (arith, c.from.ensures, c.ranges.character) in
    c.place_given.ensures ∙ place_for-BY_CHARACTER c.from.result _ below
    ∙ ap place_in_either c.from.ensures
    ∙ place_in_either-printed shift number c.args.character low high h

pub returns-clause-printed : goal.returns-clause-printed
returns-clause-printed c =
    let below : c.from.result < 256 = omega (arith, c.from.ensures, c.ranges.character) in
    printed_there c.args.character c.place_given.result
    (c.place_given.ensures ∙ place_for-BY_CHARACTER c.from.result _ below
    ∙ ap place_in_either c.from.ensures)
