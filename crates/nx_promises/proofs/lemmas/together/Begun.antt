-- Copies of other identities begin no family of this one, and nothing that is printed of them bears
-- it.
use Rattle.std.proofs.Common.{◌≡◌, ℕ, zero, suc, ◌+◌, Bool, true, false, cond, Option, Some}
use Rattle.std.proofs.Common.{None, List, [], ◌∷◌, ◌++◌, slice_get, refl, sym, ap, ◌∙◌, subst, arith}
use Rattle.std.proofs.Common.{length, nat_lt}
use Rattle.std.specs.Prelude.{slice_set}
use Rattle.std.specs.List.{AllByRecursion, position_or_len}
use Rattle.std.specs.Option.{option_map_or}
use Rattle.std.proofs.lemmas.Bool.{le-ltb, true≢false}
use Rattle.nx_envelope.specs.Identity.{same_identity}
use Rattle.nx_envelope.specs.declared.identity.Identity.{Identity}
use Rattle.nx_combine.specs.CombinedPrinting.{if_printed_combined, is_printed_combined}
use Rattle.nx_combine.specs.CopyPositions.{HeardCopy}
use Rattle.nx_combine.specs.Families.{Family, begun_by, families_after}
use Rattle.nx_combine.specs.private.Families.{combined_copy}
use Rattle.nx_combine.specs.Families.{has_family, joined_at, joined_by, last_index}
use Rattle.nx_combine.specs.private.Families.{index_joined}
use Rattle.nx_combine.specs.Families.{families_after_holding}
use Rattle.nx_combine.specs.Judging.{Judged, all_printed, judged_after, judged_behind}
use Rattle.nx_combine.specs.Laws.{IsWholeCopy, bears, is_named}
use Rattle.nx_combine.proofs.lemmas.Once.{all_if, named_as}
use Rattle.nx_promises.specs.laws.Together.{NoneBears}

-- the family is of another identity
abbrev IsOther : Identity → Family → Type 0
IsOther identity family = same_identity family.identity identity ≡ false

others-set : (identity : Identity) (families : List Family) (index : ℕ) (family new : Family)
    → slice_get families index ≡ Some family → new.identity ≡ family.identity
    → AllByRecursion (IsOther identity) families
    → AllByRecursion (IsOther identity) (slice_set families index new)
others-set identity [] index family new there same all = tt
others-set identity (x ∷ families) zero family new there same all =
    let first : x ≡ family = (let inside : Some x ≡ Some family = there in cc) in (
      ap (λ i. same_identity i identity) (same ∙ ap (λ (f : Family). f.identity) (sym first)) ∙
          all.0,
      all.1,
    )
others-set identity (x ∷ families) (suc index) family new there same all =
    (all.0, others-set identity families index family new there same all.1)

others-joined : (identity : Identity) (families : List Family) (heard : HeardCopy) (index : ℕ)
    (there : Option Family) → slice_get families index ≡ there
    → AllByRecursion (IsOther identity) families
    → AllByRecursion (IsOther identity)
    (option_map_or (λ family. slice_set families index (joined_by heard family)) there families)
others-joined identity families heard index None is all = all
others-joined identity families heard index (Some family) is all =
    others-set identity families index family (joined_by heard family) is refl all

others-if : (identity : Identity) (families : List Family) (heard : HeardCopy) (has : Bool)
    (index : Option ℕ) → bears identity heard ≡ false → AllByRecursion (IsOther identity) families
    → AllByRecursion (IsOther identity)
    (cond has (option_map_or (joined_at families heard) index (begun_by heard ∷ families)) families)
others-if identity families heard false index not all = all
others-if identity families heard true None not all = (not, all)
others-if identity families heard true (Some index) not all =
    others-joined identity families heard index (slice_get families index) refl all

others-after : (identity : Identity) (families : List Family) (heard : HeardCopy)
    → bears identity heard ≡ false → AllByRecursion (IsOther identity) families
    → AllByRecursion (IsOther identity) (families_after families heard)
unfolding families_after_holding
others-after identity families heard not all =
    others-if identity families heard (has_family heard) (index_joined families heard) not all

others-behind : (identity : Identity) (so_far : Judged) (copies : List HeardCopy)
    → NoneBears identity copies → AllByRecursion (IsOther identity) so_far.families
    → AllByRecursion (IsOther identity) (judged_behind so_far copies).families
others-behind identity so_far [] none all = all
others-behind identity so_far (heard ∷ copies) none all =
    others-behind identity (judged_after so_far heard) copies none.1
    (others-after identity so_far.families heard none.0 all)

last-none_if : (identity : Identity) (families : List Family)
    → AllByRecursion (IsOther identity) families
    → position_or_len (λ (family : Family). same_identity family.identity identity) families
    ≡ length families
last-none_if identity [] all = refl
last-none_if identity (family ∷ families) all =
    let one : 1 + length families ≡ suc (length families) = omega arith in
    rw (all.0) (ap (λ n. 1 + n) (last-none_if identity families all.1) ∙ one)

-- behind them no family bears the identity
pub none_begun : (identity : Identity) (so_far : Judged) (copies : List HeardCopy)
    → NoneBears identity copies → so_far.families ≡ []
    → last_index identity (judged_behind so_far copies).families ≡ None
none_begun identity so_far copies none empty =
    let families = (judged_behind so_far copies).families in
    let all = others-behind identity so_far copies none
    (subst (AllByRecursion (IsOther identity)) (sym empty) tt) in
    ap (λ n. cond (nat_lt n (length families)) (Some n) None) (last-none_if identity families all)
    ∙ ap (λ b. cond b (Some (length families)) None)
    (le-ltb (length families) (length families) (omega arith))

-- and nothing that is printed of them is a whole copy of it
pub none_whole : (identity : Identity) (so_far : Judged) (copies : List HeardCopy)
    → NoneBears identity copies
    → AllByRecursion (λ other. is_named identity other ≡ true → ¬ IsWholeCopy other)
    (all_printed so_far copies)
unfolding if_printed_combined
none_whole identity so_far [] none = tt
none_whole identity so_far (heard ∷ copies) none =
    let one = combined_copy so_far.families heard in
    all_if (λ other. is_named identity other ≡ true → ¬ IsWholeCopy other) one
    (all_printed (judged_after so_far heard) copies)
    (is_printed_combined so_far.entries so_far.printed one)
    (λ named whole. true≢false (sym named ∙ named_as 200 identity so_far.families heard ∙ none.0))
    (none_whole identity (judged_after so_far heard) copies none.1)

pub judged_behind-append : (so_far : Judged) (xs ys : List HeardCopy)
    → judged_behind so_far (xs ++ ys) ≡ judged_behind (judged_behind so_far xs) ys
judged_behind-append so_far [] ys = refl
judged_behind-append so_far (x ∷ xs) ys = judged_behind-append (judged_after so_far x) xs ys
