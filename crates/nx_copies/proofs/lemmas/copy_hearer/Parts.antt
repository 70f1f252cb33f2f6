-- A part of all packed elements that is heard.
use Rattle.std.proofs.Common.{◌≡◌, ℕ, ◌-◌, ◌≤◌, Bool, List, Option, length, take, drop, ap, ◌∙◌, subst}
use Rattle.std.proofs.Common.{sym}
use Rattle.nx_code.specs.Packed.{elements_of_numbers, packed_part}
use Rattle.nx_sync.proofs.lemmas.hunting.PackedParts.{first_part}
use Rattle.nx_sync.specs.Synchroniser.{Held}
use Rattle.nx_copies.specs.WordLoop.{HearsPart}
use Rattle.nx_copies.specs.declared.copy_taker.CopyTaker.{CopyTaker}
use Rattle.nx_copies.specs.declared.copy_taker.Over.{Over}
use Rattle.nx_copies.specs.hearing.CopyTaker.{Hears}
use Rattle.nx_copies.proofs.lemmas.copy_hearer.Packed.{all_is}

-- a part of all packed elements from a place on is that of the elements from there on
pub part_of_all : (all : List Bool) (numbers : List ℕ) (from count : ℕ) (old new : Held)
    (before after : CopyTaker) (heard : ℕ × Option Over)
    → all ≡ take (length all) (elements_of_numbers numbers) → from ≤ length all
    → count ≡ length all - from → HearsPart Hears old before numbers from count new after heard
    → Hears old before (take heard.0 (drop from all)) new after heard.1
part_of_all all numbers from count old new before after heard is room rest part =
    let same : packed_part numbers from heard.0 ≡ take heard.0 (drop from all) =
    sym (first_part numbers from count heard.0 part.within)
    ∙ ap (take heard.0) (ap (packed_part numbers from) rest ∙ all_is all numbers from is room) in
    subst (λ bits. Hears old before bits new after heard.1) same part.hears
