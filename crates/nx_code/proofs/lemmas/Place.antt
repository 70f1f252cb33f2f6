-- The indexes answer as a search of the table does, by one computation each.
use Rattle.std.proofs.Common.{◌≡◌, ℕ, ◌+◌, ◌-◌, ◌<◌, ◌≤◌, refl, sym, ap, ◌∙◌, Option, Some, None}
use Rattle.std.proofs.Common.{map, get_or, arith, if◌then◌else◌}
use Rattle.std.specs.Prelude.{◌==◌}
use Rattle.std.proofs.lemmas.Bool.{ne_eqb}
use Rattle.std.specs.List.{range_with_len}
use Rattle.std.proofs.lemmas.List.{get_or-map}
use Rattle.std.proofs.lemmas.List.FromFn.{get_or-map-range_with_len}
use Rattle.nx_code.specs.declared.table_indexes.TheConstants.{BY_CHARACTER}
use Rattle.nx_code.specs.declared.shifts.Shift.{Shift}
use Rattle.nx_code.specs.declared.shifts.Shift.TheVariants.{Letters, Figures}
use Rattle.nx_code.specs.Classes.{class_of}
use Rattle.nx_code.specs.Table.{table, words, place_of}
use Rattle.nx_code.specs.private.Rows.{place_below, place_given}
use Rattle.nx_code.specs.Reading.{character_of}
use Rattle.nx_code.proofs.lemmas.Character.{place_for, place_for-Some, place_for-printed}
use Rattle.nx_code.proofs.lemmas.Character.{same_place_for}

-- the place of a word: a service signal by its own word, and a combination by its class
abbrev place_by_class : ℕ → Option ℕ
place_by_class word =
    if word == 15 then Some 32
    else (if word == 51 then Some 33
    else (if word == 102 then Some 34 else place_below (class_of word)))

all_words : map place_by_class (range_with_len 0 128) ≡ map place_of (range_with_len 0 128)
unfolding class_of place_of words table
all_words = refl

place_of-by : (word : ℕ) → word < 128 → place_of word ≡ place_by_class word
place_of-by word h =
    sym (get_or-map-range_with_len place_of 0 128 word word None h (omega arith))
    ∙ ap (λ l. get_or l word None) (sym all_words)
    ∙ get_or-map-range_with_len place_by_class 0 128 word word None h (omega arith)

pub place_of-alpha : place_of 15 ≡ Some 32
place_of-alpha = place_of-by 15 (omega arith)

pub place_of-beta : place_of 51 ≡ Some 33
place_of-beta = place_of-by 51 (omega arith)

pub place_of-repeat : place_of 102 ≡ Some 34
place_of-repeat = place_of-by 102 (omega arith)

pub place_of-other : (word : ℕ) → word < 128 → (word ≡ 15 → ⊥) → (word ≡ 51 → ⊥)
    → (word ≡ 102 → ⊥) → place_of word ≡ place_below (class_of word)
place_of-other word h a b c =
    place_of-by word h
    ∙ rw (ne_eqb word 15 a) (rw (ne_eqb word 51 b) (rw (ne_eqb word 102 c) refl))

-- the first of two places that is one
abbrev pub or_else : Option ℕ → Option ℕ → Option ℕ
or_else (Some at) other = Some at
or_else None other = other

-- the place of the combination that prints a character in letters, else of the one that prints it
-- in figures
abbrev pub place_in_either : ℕ → Option ℕ
place_in_either c = or_else (place_for Letters c) (place_for Figures c)

all_characters : map place_given BY_CHARACTER ≡ map place_in_either (range_with_len 0 256)
all_characters = refl

pub place_for-BY_CHARACTER : (c fallback : ℕ) → c < 256
    → place_given (get_or BY_CHARACTER c fallback) ≡ place_in_either c
place_for-BY_CHARACTER c fallback h =
    sym (get_or-map place_given BY_CHARACTER c fallback None h)
    ∙ ap (λ l. get_or l c None) all_characters
    ∙ get_or-map-range_with_len place_in_either 0 256 c c None h (omega arith)

-- a character that a combination prints has its place
pub place_in_either-printed : (shift : Shift) (n c : ℕ) → 1 ≤ n → n ≤ 32
    → character_of n shift ≡ Some c → place_in_either c ≡ Some (n - 1)
place_in_either-printed Letters n c low high h =
    ap (λ o. or_else o (place_for Figures c)) (place_for-printed Letters n c low high h)
place_in_either-printed Figures n c low high h =
    let figure = place_for-printed Figures n c low high h in
    elim (place_for Letters c) as (λ o. place_for Letters c ≡ o
    → or_else o (place_for Figures c) ≡ Some (n - 1)) [
      | Some at ↦ λ e. ap Some (sym (same_place_for c at (n - 1) e figure))
      | None ↦ λ e. figure
    ] refl

-- what has a place is printed by the combination there
pub place_in_either-Some : (c at : ℕ) → place_in_either c ≡ Some at
    → (at < 32) × (shift : Shift) × (character_of (at + 1) shift ≡ Some c)
place_in_either-Some c at =
    elim (place_for Letters c) as (λ o. place_for Letters c ≡ o
    → or_else o (place_for Figures c) ≡ Some at
    → (at < 32) × (shift : Shift) × (character_of (at + 1) shift ≡ Some c)) [
      | Some other ↦ λ e h. let found = place_for-Some Letters c at (e ∙ h) in
          (found.0, Letters, found.1)
      | None ↦ λ e h. let found = place_for-Some Figures c at h in (found.0, Figures, found.1)
    ] refl
