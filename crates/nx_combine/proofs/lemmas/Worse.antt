-- No combined copy is worse than its copy, and what was taken stays.
use Rattle.std.proofs.Common.{◌≡◌, ℕ, Bool, true, false, ◌&&◌, ◌||◌, if◌then◌else◌, Option, Some, None}
use Rattle.std.proofs.Common.{List, length, ◌-◌, refl, ap, ◌∙◌, arith, nat_lt}
use Rattle.std.proofs.lemmas.Bool.Decides.{nat_tests}
use Rattle.std.proofs.lemmas.Bool.{eq-eqb}
use Rattle.std.specs.Prelude.{slice_get}
use Rattle.std.specs.Option.{option_map_or}
use Rattle.nx_code.specs.Reading.{Reception, combination, idle, lost}
use Rattle.nx_envelope.specs.Copies.{errors_of}
use Rattle.nx_copies.specs.copies.FoundCopies.{TaggedCopy}
use Rattle.nx_copies.specs.copies.Printing.{has_fewer_errors, is_better, is_full}
use Rattle.nx_combine.specs.CopyPositions.{HeardCopy}
use Rattle.nx_combine.specs.Families.{CombinedCopy, Family, alone, combined, combined_at, combined_copy_holding}
use Rattle.nx_combine.specs.Families.{given_by, has_family, index_joined_holding}
use Rattle.nx_combine.specs.Families.{joined_by, together}
use Rattle.nx_combine.specs.Joining.{joined, joined_position}
use Rattle.nx_combine.specs.Laws.{AreAllTakenAlike, AreTakenAlike, joined_where}
use Rattle.nx_combine.proofs.lemmas.Joined.{slice_get-joined}

lt-itself : (n : ℕ) → nat_lt n n ≡ false
lt-itself n = grind (arith, nat_tests)

neither : (full fewer : Bool) → fewer ≡ false
    → (if full then full && fewer else full || fewer) ≡ false
neither true fewer is = is
neither false fewer is = is

-- a copy isn't better than itself
pub better_than_itself : (copy : TaggedCopy) → is_better copy copy ≡ false
better_than_itself copy =
    neither (is_full copy.how) (has_fewer_errors copy copy) (lt-itself (errors_of copy.text))

chosen : (copy given : TaggedCopy) (b : Bool) → is_better copy given ≡ b
    → is_better copy (if b then copy else given) ≡ false
chosen copy given true is = better_than_itself copy
chosen copy given false is = is

-- nor than what its family gives, combined
combined_isnt_worse : (positions : List Reception) (copy : TaggedCopy)
    → is_better copy (combined positions copy) ≡ false
combined_isnt_worse positions copy =
    chosen copy (given_by positions copy) (is_better copy (given_by positions copy)) refl

at_isnt_worse : (heard : HeardCopy) (number : ℕ) (o : Option Family)
    → is_better heard.copy
    (option_map_or (λ family. together number (joined_by heard family) heard) o
    (alone None heard)).copy ≡ false
at_isnt_worse heard number None = better_than_itself heard.copy
at_isnt_worse heard number (Some family) =
    combined_isnt_worse (joined_by heard family).positions heard.copy

joined_isnt_worse : (families : List Family) (heard : HeardCopy) (number : ℕ) (o : Option ℕ)
    → is_better heard.copy
    (option_map_or (combined_at families heard) o (alone (Some number) heard)).copy ≡ false
joined_isnt_worse families heard number None = better_than_itself heard.copy
joined_isnt_worse families heard number (Some index) =
    at_isnt_worse heard (length families - 1 - index) (slice_get families index)

either : (heard : HeardCopy) (one other : CombinedCopy) (b : Bool)
    → is_better heard.copy one.copy ≡ false → is_better heard.copy other.copy ≡ false
    → is_better heard.copy (if b then one else other).copy ≡ false
either heard one other true first second = first
either heard one other false first second = second

pub isnt_worse : (limit : ℕ) (families : List Family) (heard : HeardCopy)
    → is_better heard.copy (combined_copy_holding limit families heard).copy ≡ false
unfolding combined_copy_holding
isnt_worse limit families heard =
    either heard
    (option_map_or (combined_at families heard) (index_joined_holding limit families heard)
    (alone (Some (length families)) heard))
    (alone None heard) (has_family heard)
    (joined_isnt_worse families heard (length families) (index_joined_holding limit families heard))
    (better_than_itself heard.copy)

-- a combination that another list doesn't take otherwise stays
stays_at : (number : ℕ) (y : Reception) → AreTakenAlike (combination number) y
    → joined_position (combination number) y ≡ combination number
stays_at number (combination n) alike = rw (eq-eqb number n alike) refl
stays_at number idle alike = refl
stays_at number lost alike = refl

stays_where : (number : ℕ) (o : Option Reception)
    → ((y : Reception) → o ≡ Some y → AreTakenAlike (combination number) y)
    → joined_where (Some (combination number)) o ≡ Some (combination number)
stays_where number None alike = refl
stays_where number (Some y) alike = ap Some (stays_at number y (alike y refl))

pub combination_stays : (first second : List Reception) (index number : ℕ)
    → AreAllTakenAlike first second → slice_get first index ≡ Some (combination number)
    → slice_get (joined first second) index ≡ Some (combination number)
combination_stays first second index number alike there =
    slice_get-joined first second index
    ∙ ap (λ o. joined_where o (slice_get second index)) there
    ∙ stays_where number (slice_get second index)
    (λ y is. alike index (combination number) y there is)
