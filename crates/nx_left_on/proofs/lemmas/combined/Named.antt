-- What is printed of a family bears the identity of the family.
use Rattle.std.proofs.Common.{◌≡◌, inl, inr, ℕ, zero, suc, ◌+◌, ◌-◌, ◌<◌, ◌==◌, ◌&&◌, Bool, true, false, not, cond}
use Rattle.std.proofs.Common.{List, [], ◌∷◌, ◌++◌, length, get_or, set, Option, Some, None, refl, sym, ap, ◌∙◌, subst, arith}
use Rattle.std.specs.Prelude.{is_some, nat_le, slice_get}
use Rattle.std.specs.List.{AllByRecursion, find}
use Rattle.std.specs.Option.{option_and_then, option_map_or}
use Rattle.std.proofs.lemmas.Bool.{and_parts, cases_eq, ne_eqb, true≢false}
use Rattle.std.proofs.lemmas.List.{length-set}
use Rattle.std.proofs.lemmas.List.Quantifiers.{position-Some}
use Rattle.nx_envelope.specs.Identity.{same_identity}
use Rattle.nx_envelope.specs.declared.identity.Identity.{Identity}
use Rattle.nx_envelope.proofs.lemmas.headers.Identities.{same_identity-true, same_itself}
use Rattle.nx_copies.specs.copies.Printing.{is_better, is_number_00}
use Rattle.nx_combine.specs.CombinedPrinting.{if_printed_combined, is_better_than_before}
use Rattle.nx_combine.specs.CombinedPrinting.{is_printed_combined}
use Rattle.nx_combine.specs.CopyPositions.{HeardCopy}
use Rattle.nx_combine.specs.Families.{CombinedCopy, Family, begun_by, families_after}
use Rattle.nx_combine.specs.private.Families.{combined_copy}
use Rattle.nx_combine.specs.Families.{has_family, joined_by, last_index, most_positions}
use Rattle.nx_combine.specs.private.Families.{index_joined}
use Rattle.nx_combine.specs.Families.{index_joined_holding}
use Rattle.nx_combine.specs.Judging.{Judged, is_of_number, judged_after}
use Rattle.nx_combine.specs.Laws.{is_named}
use Rattle.nx_combine.proofs.lemmas.Held.{Begins, HasNone, Joins, begins_one, from_if, joined_at_index}
use Rattle.nx_combine.proofs.lemmas.Held.{joins_one, no_family}
use Rattle.nx_combine.proofs.lemmas.Invented.{set_other}
use Rattle.nx_combine.proofs.lemmas.Judged.{better_alone, find_by_number}
use Rattle.nx_combine.proofs.lemmas.Once.{tagged_as}

pub same_back : (a b : Identity) → same_identity b a ≡ false → same_identity a b ≡ false
same_back a b isnt = elim (same_identity a b) as (λ (c : Bool). same_identity a b ≡ c → c ≡ false) [
  | true ↦ λ is.
      let other : same_identity b a ≡ true =
      ap (λ (i : Identity). same_identity b i) (same_identity-true a b is) ∙ same_itself b in
      absurd (true≢false (sym other ∙ isnt))
  | false ↦ λ is. refl
] refl

-- the family of this number, of these, which stand newest first, bears the identity
pub record IsOf (families : List Family) (number : ℕ) (identity : Identity) : Type 0 where
  pub index : ℕ
  pub family : Family
  pub there : slice_get families index ≡ Some family
  pub at : index + number + 1 ≡ length families
  pub same : family.identity ≡ identity

-- the combined copy bears the identity of its family, if it has one
abbrev pub IsNamedIn : List Family → CombinedCopy → Type 0
IsNamedIn families one = (number : ℕ) → one.family ≡ Some number
    → IsOf families number one.copy.identity

-- ---- families go on

of-begun : (families : List Family) (next : Family) (number : ℕ) (identity : Identity)
    → IsOf families number identity → IsOf (next ∷ families) number identity
of-begun families next number identity h = record {
  index = suc h.index;
  family = h.family;
  there = h.there;
  at = omega (arith, h.at);
  same = h.same;
}

set-there : (families : List Family) (index : ℕ) (old new : Family)
    → slice_get families index ≡ Some old → slice_get (set families index new) index ≡ Some new
set-there [] index old new is = absurd (nothing is)
  where
    nothing : None ≡ Some old → ⊥
    nothing e = cc
set-there (x ∷ families) zero old new is = refl
set-there (x ∷ families) (suc index) old new is = set-there families index old new is

some-is : (a b : Family) → Some a ≡ Some b → a ≡ b
some-is a b e = cc

of-joined : (families : List Family) (heard : HeardCopy) (index : ℕ) (family : Family)
    (number : ℕ) (identity : Identity) → slice_get families index ≡ Some family
    → IsOf families number identity
    → IsOf (set families index (joined_by heard family)) number identity
of-joined families heard index family number identity there h =
    let long = length-set families index (joined_by heard family) in
    elim (cases_eq h.index index) [
      | inl same ↦
          let one : h.family ≡ family =
          some-is h.family family
          (sym h.there ∙ ap (λ (k : ℕ). slice_get families k) same ∙ there) in
          record {
            index = index;
            family = joined_by heard family;
            there = set-there families index family (joined_by heard family) there;
            at = omega (arith, h.at, same, long);
            same = ap (λ (f : Family). f.identity) (sym one) ∙ h.same;
          }
      | inr apart ↦ record {
        index = h.index;
        family = h.family;
        there = set_other families index h.index (joined_by heard family) apart ∙ h.there;
        at = omega (arith, h.at, long);
        same = h.same;
      }
    ]

-- ---- what becomes of a copy

-- it has no family, begins one, or joins one
data Becomes (families : List Family) (heard : HeardCopy) : Type 0 where
  is_alone : HasNone 200 families heard → Becomes families heard
  is_first : has_family heard ≡ true → Begins 200 families heard → Becomes families heard
  is_joined : (index : ℕ) (family : Family) → has_family heard ≡ true
      → slice_get families index ≡ Some family → family.identity ≡ heard.copy.identity
      → Joins 200 families heard index family → Becomes families heard

joined-last : (families : List Family) (heard : HeardCopy) (o : Option ℕ) (index : ℕ)
    → last_index heard.copy.identity families ≡ o → index_joined families heard ≡ Some index
    → o ≡ Some index
unfolding index_joined_holding
joined-last families heard None index last is =
    absurd (nothing (ap (option_and_then _) (sym last) ∙ is))
  where
    nothing : None ≡ Some index → ⊥
    nothing e = cc
joined-last families heard (Some k) index last is =
    ap Some (from_if _ k index (ap (option_and_then _) (sym last) ∙ is)).1

joined-named : (families : List Family) (heard : HeardCopy) (index : ℕ) (family : Family)
    → index_joined families heard ≡ Some index → slice_get families index ≡ Some family
    → family.identity ≡ heard.copy.identity
joined-named families heard index family is there =
    let p : Family → Bool = λ (f : Family). same_identity f.identity heard.copy.identity in
    let last = joined-last families heard (last_index heard.copy.identity families) index refl is in
    let found = position-Some p families index family last in
    same_identity-true family.identity heard.copy.identity
    (ap p (sym (get-is families index family there)) ∙ found.1)
  where
    get-is : (families : List Family) (index : ℕ) (family : Family)
        → slice_get families index ≡ Some family → get_or families index family ≡ family
    get-is [] index family is = refl
    get-is (x ∷ families) zero family is = some-is x family is
    get-is (x ∷ families) (suc index) family is = get-is families index family is

becomes-joining : (families : List Family) (heard : HeardCopy) (o : Option ℕ)
    → has_family heard ≡ true → index_joined families heard ≡ o → Becomes families heard
becomes-joining families heard None has is = is_first has (begins_one 200 families heard has is)
becomes-joining families heard (Some index) has is =
    let at = joined_at_index 200 families heard index is in
    is_joined index at.family has at.there (joined-named families heard index at.family is at.there)
    (joins_one 200 families heard index at.family has is at.there)

becomes-if : (families : List Family) (heard : HeardCopy) (b : Bool) → has_family heard ≡ b
    → Becomes families heard
becomes-if families heard true is =
    becomes-joining families heard (index_joined families heard) is refl
becomes-if families heard false is = is_alone (no_family 200 families heard is)

becomes : (families : List Family) (heard : HeardCopy) → Becomes families heard
becomes families heard = becomes-if families heard (has_family heard) refl

of-after : (families : List Family) (heard : HeardCopy) (number : ℕ) (identity : Identity)
    → IsOf families number identity → IsOf (families_after families heard) number identity
of-after families heard number identity h = by (becomes families heard)
  where
    by : Becomes families heard → IsOf (families_after families heard) number identity
    by (is_alone n) = subst (λ those. IsOf those number identity) (sym n.after) h
    by (is_first has b) =
        subst (λ those. IsOf those number identity) (sym b.after)
        (of-begun families (begun_by heard) number identity h)
    by (is_joined index family has there same j) =
        subst (λ those. IsOf those number identity) (sym j.after)
        (of-joined families heard index family number identity there h)

number-is : (m n : ℕ) → Some m ≡ Some n → m ≡ n
number-is m n e = cc

named-after : (families : List Family) (heard : HeardCopy) (number : ℕ)
    → (combined_copy families heard).family ≡ Some number
    → IsOf (families_after families heard) number heard.copy.identity
named-after families heard number is = by (becomes families heard)
  where
    nothing : None ≡ Some number → ⊥
    nothing e = cc

    by : Becomes families heard → IsOf (families_after families heard) number heard.copy.identity
    by (is_alone n) =
        absurd (nothing (sym (ap (λ (c : CombinedCopy). c.family) n.one) ∙ is))
    by (is_first has b) =
        let at : length families ≡ number =
        number-is (length families) number (sym (ap (λ (c : CombinedCopy). c.family) b.one) ∙ is) in
        subst (λ those. IsOf those number heard.copy.identity) (sym b.after) (record {
          index = 0;
          family = begun_by heard;
          there = refl;
          at = omega (arith, at);
          same = refl;
        })
    by (is_joined index family has there same j) =
        let at : length families - 1 - index ≡ number =
        number-is (length families - 1 - index) number
        (sym (ap (λ (c : CombinedCopy). c.family) j.one) ∙ is) in
        let within = below families index family there in
        let long = length-set families index (joined_by heard family) in
        subst (λ those. IsOf those number heard.copy.identity) (sym j.after) (record {
          index = index;
          family = joined_by heard family;
          there = set-there families index family (joined_by heard family) there;
          at = omega (arith, at, within, long);
          same = same;
        })
      where
        below : (families : List Family) (index : ℕ) (family : Family)
            → slice_get families index ≡ Some family → index < length families
        below [] index family is = absurd (empty is)
          where
            empty : None ≡ Some family → ⊥
            empty e = cc
        below (x ∷ families) zero family is = omega arith
        below (x ∷ families) (suc index) family is = omega (arith, below families index family is)

-- a copy with a family isn't numbered 00
pub family-numbered : (families : List Family) (heard : HeardCopy)
    → is_some (combined_copy families heard).family ≡ true
    → is_number_00 (combined_copy families heard).copy ≡ false
family-numbered families heard some = by (becomes families heard)
  where
    same : is_number_00 (combined_copy families heard).copy ≡ is_number_00 heard.copy
    same = ap (λ (i : Identity). i.number == 0) (tagged_as families heard).identity

    numbered : has_family heard ≡ true → is_number_00 heard.copy ≡ false
    numbered has =
        let outer = and_parts (heard.copy.selected && not (is_number_00 heard.copy))
        (nat_le (length heard.positions) most_positions) has in
        let inner = and_parts heard.copy.selected (not (is_number_00 heard.copy)) outer.0 in
        of (is_number_00 heard.copy) inner.1
      where
        of : (b : Bool) → not b ≡ true → b ≡ false
        of true h = cc
        of false h = refl

    by : Becomes families heard → is_number_00 (combined_copy families heard).copy ≡ false
    by (is_alone n) =
        absurd (true≢false (sym some ∙ ap (λ (c : CombinedCopy). is_some c.family) n.one))
    by (is_first has b) = same ∙ numbered has
    by (is_joined index family has there named j) = same ∙ numbered has

-- ---- what was printed

abbrev pub AreNamed : Judged → Type 0
AreNamed so_far = AllByRecursion (IsNamedIn so_far.families) so_far.printed

all-after : (families : List Family) (heard : HeardCopy) (printed : List CombinedCopy)
    → AllByRecursion (IsNamedIn families) printed
    → AllByRecursion (IsNamedIn (families_after families heard)) printed
all-after families heard [] h = tt
all-after families heard (one ∷ printed) h = (
  λ number is. of-after families heard number one.copy.identity (h.0 number is),
  all-after families heard printed h.1,
)

one-named : (families : List Family) (heard : HeardCopy)
    → IsNamedIn (families_after families heard) (combined_copy families heard)
one-named families heard number is =
    subst (IsOf (families_after families heard) number)
    (sym (tagged_as families heard).identity) (named-after families heard number is)

pub named-more : (so_far : Judged) (heard : HeardCopy) → AreNamed so_far
    → AreNamed (judged_after so_far heard)
unfolding if_printed_combined
named-more so_far heard h =
    let one = combined_copy so_far.families heard in
    let after = families_after so_far.families heard in
    let rest = all-after so_far.families heard so_far.printed h in
    elim (is_printed_combined so_far.entries so_far.printed one) as (λ b.
    AllByRecursion (IsNamedIn after) (cond b (one ∷ []) [] ++ so_far.printed)) [
      | true ↦ (one-named so_far.families heard, rest)
      | false ↦ rest
    ]

-- ---- where none of the identity was printed, nothing of its family was

-- of one number there is one identity
one-of : (families : List Family) (number : ℕ) (a b : Identity) → IsOf families number a
    → IsOf families number b → a ≡ b
one-of families number a b h k =
    let place : h.index ≡ k.index = omega (arith, h.at, k.at) in
    let family : h.family ≡ k.family =
    some-is h.family k.family
    (sym h.there ∙ ap (λ (i : ℕ). slice_get families i) place ∙ k.there) in
    sym h.same ∙ ap (λ (f : Family). f.identity) family ∙ k.same

apart-from : (families : List Family) (identity : Identity) (one other : CombinedCopy)
    (number : ℕ) → one.family ≡ Some number → IsNamedIn families one → IsNamedIn families other
    → is_named identity one ≡ true → is_named identity other ≡ false
    → is_of_number number other ≡ false
apart-from families identity one other number of h k is isnt = by other.family refl
  where
    unlike : (own : ℕ) → other.family ≡ Some own → number ≡ own → ⊥
    unlike own has same =
        let here = subst (λ (n : ℕ). IsOf families n one.copy.identity) same (h number of) in
        let both = one-of families own one.copy.identity other.copy.identity here (k own has) in
        true≢false
        (sym is ∙ ap (λ (i : Identity). same_identity i identity) both ∙ isnt)

    by : (o : Option ℕ) → other.family ≡ o → is_of_number number other ≡ false
    by None has = ap (λ (o : Option ℕ). option_map_or (λ own. number == own) o false) has
    by (Some own) has =
        ap (λ (o : Option ℕ). option_map_or (λ own. number == own) o false) has
        ∙ ne_eqb number own (unlike own has)

none-found : (p : CombinedCopy → Bool) (copies : List CombinedCopy)
    → AllByRecursion (λ other. p other ≡ false) copies → find p copies ≡ None
none-found p [] none = refl
none-found p (other ∷ copies) none =
    ap (λ b. cond b (Some other) (find p copies)) none.0 ∙ none-found p copies none.1

all-apart : (families : List Family) (identity : Identity) (one : CombinedCopy) (number : ℕ)
    (printed : List CombinedCopy) → one.family ≡ Some number → IsNamedIn families one
    → AllByRecursion (IsNamedIn families) printed → is_named identity one ≡ true
    → AllByRecursion (λ other. is_named identity other ≡ false) printed
    → AllByRecursion (λ other. is_of_number number other ≡ false) printed
all-apart families identity one number [] of h all is none = tt
all-apart families identity one number (other ∷ printed) of h all is none = (
  apart-from families identity one other number of h all.0 is none.0,
  all-apart families identity one number printed of h all.1 is none.1,
)

-- So it isn't better than any that was printed of its family: there is none.
better-by : (so_far : Judged) (heard : HeardCopy) (identity : Identity) (o : Option ℕ)
    → (combined_copy so_far.families heard).family ≡ o → AreNamed so_far
    → AllByRecursion (λ other. is_named identity other ≡ false) so_far.printed
    → is_named identity (combined_copy so_far.families heard) ≡ true
    → is_better_than_before so_far.printed (combined_copy so_far.families heard) ≡ false
unfolding is_better_than_before
better-by so_far heard identity None of named none is =
    better_alone so_far.printed (combined_copy so_far.families heard) of
better-by so_far heard identity (Some number) of named none is =
    let one = combined_copy so_far.families heard in
    ap (λ o. option_map_or (λ (last : CombinedCopy). is_better one.copy last.copy) o false)
    (find_by_number so_far.printed one number of
    ∙ none-found (is_of_number number) so_far.printed
    (all-apart (families_after so_far.families heard) identity one number so_far.printed of
    (one-named so_far.families heard) (all-after so_far.families heard so_far.printed named) is
    none))

pub not-better : (so_far : Judged) (heard : HeardCopy) (identity : Identity) → AreNamed so_far
    → AllByRecursion (λ other. is_named identity other ≡ false) so_far.printed
    → is_named identity (combined_copy so_far.families heard) ≡ true
    → is_better_than_before so_far.printed (combined_copy so_far.families heard) ≡ false
not-better so_far heard identity named none is =
    better-by so_far heard identity (combined_copy so_far.families heard).family refl named none is
