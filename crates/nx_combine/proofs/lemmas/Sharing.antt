-- How many copies of its family a combined copy is put together from.
use Rattle.std.proofs.Common.{◌≡◌, inl, inr, ℕ, zero, suc, ◌+◌, ◌-◌, ◌≤◌, Bool, true, false, if◌then◌else◌}
use Rattle.std.proofs.Common.{Option, Some, None, List, [], ◌∷◌, ◌++◌, length, refl, sym, ap, ap₂}
use Rattle.std.proofs.Common.{◌∙◌, subst, arith, append_assoc, append-nil, cond}
use Rattle.std.proofs.Math.ListN.{set}
use Rattle.std.proofs.lemmas.Bool.{cases_eq, eq-eqb, ne_eqb}
use Rattle.std.proofs.lemmas.List.{length-append, length-set}
use Rattle.std.proofs.lemmas.List.Elements.{filter-append}
use Rattle.std.proofs.lemmas.Option.{slice_get_within}
use Rattle.std.specs.Prelude.{slice_get}
use Rattle.std.specs.List.{AllByRecursion, filter}
use Rattle.std.specs.Option.{option_map_or}
use Rattle.nx_fec.specs.Transfers.{count_of}
use Rattle.nx_combine.specs.CombinedPrinting.{are_of_one_family}
use Rattle.nx_combine.specs.CopyPositions.{HeardCopy}
use Rattle.nx_combine.specs.Families.{CombinedCopy, Family, alone, begun_by, combined_at}
use Rattle.nx_combine.specs.Families.{combined_copies_holding, combined_copy_holding}
use Rattle.nx_combine.specs.Families.{families_after_holding, has_family}
use Rattle.nx_combine.specs.Families.{index_joined_holding, joined_at, joined_by, together}
use Rattle.nx_combine.specs.Judging.{IsOfBegun, is_of_number}
use Rattle.nx_combine.specs.Laws.{copies_of_family, is_own_better}
use Rattle.nx_combine.proofs.lemmas.Invented.{set_at, set_other}
use Rattle.nx_combine.proofs.lemmas.Judged.{number_by, still_begun}

-- How many copies there are of a family.

-- those of the family of so many begun before it
abbrev copies_of : ℕ → List CombinedCopy → ℕ
copies_of number copies = length (filter (is_of_number number) copies)

copies_of-push : (number : ℕ) (before : List CombinedCopy) (c : CombinedCopy) (b : Bool)
    → is_of_number number c ≡ b
    → copies_of number (before ++ c ∷ []) ≡ copies_of number before + (if b then 1 else 0)
copies_of-push number before c b is =
    ap length (filter-append (is_of_number number) before (c ∷ []))
    ∙ length-append (filter (is_of_number number) before) (filter (is_of_number number) (c ∷ []))
    ∙ ap (λ n. copies_of number before + n) (one (is_of_number number c) is) where
      one : (x : Bool) → x ≡ b → length (cond x (c ∷ []) []) ≡ (if b then 1 else 0)
      one true is = ap (λ y. if y then 1 else 0) is
      one false is = ap (λ y. if y then 1 else 0) is

filter_as : {X : Type 0} (p q : X → Bool) (xs : List X) → ((x : X) → p x ≡ q x)
    → filter p xs ≡ filter q xs
filter_as p q [] alike = refl
filter_as p q (x ∷ xs) alike =
    ap₂ (λ b l. cond b (x ∷ l) l) (alike x) (filter_as p q xs alike)

by_number : (one : CombinedCopy) (before : List CombinedCopy) (number : ℕ)
    → one.family ≡ Some number → copies_of_family one before ≡ copies_of number before
by_number one before number is =
    ap length (filter_as (are_of_one_family one) (is_of_number number) before
    (λ other. number_by one other number other.family is refl))

is_own : (c : CombinedCopy) (number : ℕ) → c.family ≡ Some number → is_of_number number c ≡ true
is_own c number is = rw is (eq-eqb number number refl)

is_other : (c : CombinedCopy) (own number : ℕ) → c.family ≡ Some own → (number ≡ own → ⊥)
    → is_of_number number c ≡ false
is_other c own number is apart = rw is (ne_eqb number own apart)

is_none : (c : CombinedCopy) (number : ℕ) → c.family ≡ None → is_of_number number c ≡ false
is_none c number is = rw is refl

-- of a family that isn't begun yet there are none
none_begun : (before : List CombinedCopy) (count number : ℕ)
    → AllByRecursion (IsOfBegun count) before → count ≤ number → copies_of number before ≡ 0
none_begun [] count number begun past = refl
none_begun (one ∷ before) count number begun past =
    ap (λ b. length (cond b (one ∷ filter (is_of_number number) before)
    (filter (is_of_number number) before))) (other one.family refl)
    ∙ none_begun before count number begun.1 past where
      other : (own : Option ℕ) → one.family ≡ own → is_of_number number one ≡ false
      other None is = is_none one number is
      other (Some own) is =
          let below = begun.0 own is in
          is_other one own number is (λ same. omega arith)

all_push : {X : Type 0} (P : X → Type 0) (xs : List X) (x : X) → AllByRecursion P xs → P x
    → AllByRecursion P (xs ++ x ∷ [])
all_push P [] x all one = (one, tt)
all_push P (y ∷ xs) x all one = (all.0, all_push P xs x all.1 one)

counts_on : (n : ℕ) → count_of (count_of n + 1) ≡ count_of (n + 1)
counts_on n = omega arith

-- The copies of each family that was begun so far are counted.

record AreCounted (families : List Family) (before : List CombinedCopy) : Type 0 where
  each : (k : ℕ) (family : Family) → slice_get families k ≡ Some family
      → family.sendings ≡ count_of (copies_of (length families - 1 - k) before)
  begun : AllByRecursion (IsOfBegun (length families)) before

-- a combined copy that its family gave is put together from all of its copies up to it
abbrev IsCounted : List CombinedCopy → CombinedCopy → Type 0
IsCounted before c =
    (number : ℕ) → c.family ≡ Some number → is_own_better c ≡ false
    → c.sendings ≡ count_of (copies_of number before + 1)

-- what one more copy gives
record StepCounted (families : List Family) (before : List CombinedCopy) (c : CombinedCopy)
    (after : List Family) : Type 0 where
  own : IsCounted before c
  held : AreCounted after (before ++ c ∷ [])

-- a copy that joins none: it is alone
alone_step : (families : List Family) (before : List CombinedCopy) (heard : HeardCopy)
    → AreCounted families before → StepCounted families before (alone None heard) families
alone_step families before heard counted = record {
  own = λ number is. absurd (let contra : None ≡ Some number = is in cc);
  held = record {
    each = λ k family is.
        let number = length families - 1 - k in
        counted.each k family is
        ∙ ap count_of (let e = copies_of-push number before c false (is_none c number refl) in
        omega (arith, e));
    begun = all_push (IsOfBegun (length families)) before c counted.begun
        (λ number is. absurd (let contra : None ≡ Some number = is in cc));
  };
} where
  c : CombinedCopy
  c = alone None heard

-- a copy that begins a family
begun_step : (families : List Family) (before : List CombinedCopy) (heard : HeardCopy)
    → AreCounted families before
    → StepCounted families before (alone (Some (length families)) heard)
    (begun_by heard ∷ families)
begun_step families before heard counted = record {
  own = λ number is better.
      let same : length families ≡ number =
      let inside : Some (length families) ≡ Some number = is in cc in
      ap (λ n. count_of (n + 1)) (sym (none_begun before (length families) number counted.begun
      (omega (arith, same))));
  held = record {
    each = all_each;
    begun = all_push (IsOfBegun (suc (length families))) before c
        (still_begun before (length families) (suc (length families)) counted.begun (omega arith))
        (λ number is.
        let same : length families ≡ number =
        let inside : Some (length families) ≡ Some number = is in cc in omega (arith, same));
  };
} where
  c : CombinedCopy
  c = alone (Some (length families)) heard

  all_each : (k : ℕ) (family : Family) → slice_get (begun_by heard ∷ families) k ≡ Some family
      → family.sendings
      ≡ count_of (copies_of (length (begun_by heard ∷ families) - 1 - k) (before ++ c ∷ []))
  all_each zero family is =
      let same : begun_by heard ≡ family =
      let inside : Some (begun_by heard) ≡ Some family = is in cc in
      let n = length families in
      let count : n ≡ length (begun_by heard ∷ families) - 1 - 0 = omega arith in
      let now = copies_of-push n before c true (is_own c n refl) in
      let none = none_begun before n n counted.begun (omega arith) in
      ap (λ (f : Family). f.sendings) (sym same)
      ∙ ap count_of (let one : 1 ≡ copies_of n (before ++ c ∷ []) = omega (arith, now, none) in one)
      ∙ ap (λ m. count_of (copies_of m (before ++ c ∷ []))) count
  all_each (suc k) family is =
      let n = length families - 1 - k in
      let within = slice_get_within families k family is in
      let count : n ≡ length (begun_by heard ∷ families) - 1 - suc k = omega arith in
      let now = copies_of-push n before c false
      (is_other c (length families) n refl (λ same. omega (arith, same, within))) in
      counted.each k family is
      ∙ ap count_of (let e : copies_of n before ≡ copies_of n (before ++ c ∷ []) =
      omega (arith, now) in e)
      ∙ ap (λ m. count_of (copies_of m (before ++ c ∷ []))) count

-- a copy that joins the family of this index
joined_step : (families : List Family) (before : List CombinedCopy) (heard : HeardCopy) (index : ℕ)
    (family : Family) → slice_get families index ≡ Some family → AreCounted families before
    → StepCounted families before
    (together (length families - 1 - index) (joined_by heard family) heard)
    (set families index (joined_by heard family))
joined_step families before heard index family there counted = record {
  own = λ number is better.
      let same : number_of ≡ number =
      let inside : Some number_of ≡ Some number = is in cc in
      ap (λ b. if b then 1 else joined.sendings) better
      ∙ ap (λ n. count_of (n + 1)) (counted.each index family there)
      ∙ counts_on (copies_of number_of before)
      ∙ ap (λ n. count_of (copies_of n before + 1)) same;
  held = record {
    each = all_each;
    begun = subst (λ n. AllByRecursion (IsOfBegun n) (before ++ c ∷ [])) (sym same_length)
        (all_push (IsOfBegun (length families)) before c counted.begun
        (λ number is.
        let same : number_of ≡ number =
        let inside : Some number_of ≡ Some number = is in cc in
        let within = slice_get_within families index family there in
        omega (arith, same, within)));
  };
} where
  number_of : ℕ
  number_of = length families - 1 - index

  joined : Family
  joined = joined_by heard family

  c : CombinedCopy
  c = together number_of joined heard

  same_length : length (set families index joined) ≡ length families
  same_length = length-set families index joined

  all_each : (k : ℕ) (other : Family) → slice_get (set families index joined) k ≡ Some other
      → other.sendings
      ≡ count_of (copies_of (length (set families index joined) - 1 - k) (before ++ c ∷ []))
  all_each k other is = elim (cases_eq k index) [
    | inl same ↦
        let this : joined ≡ other =
        set_at families index joined other
        (ap (slice_get (set families index joined)) (sym same) ∙ is) in
        let now = copies_of-push number_of before c true (is_own c number_of refl) in
        let count : number_of ≡ length (set families index joined) - 1 - k =
        let long = same_length in omega arith in
        ap (λ (f : Family). f.sendings) (sym this)
        ∙ ap (λ n. count_of (n + 1)) (counted.each index family there)
        ∙ counts_on (copies_of number_of before)
        ∙ ap count_of (sym now)
        ∙ ap (λ n. count_of (copies_of n (before ++ c ∷ []))) count
    | inr apart ↦
        let was : slice_get families k ≡ Some other =
        sym (set_other families index k joined apart) ∙ is in
        let n = length families - 1 - k in
        let within = slice_get_within families k other was in
        let there_within = slice_get_within families index family there in
        let now = copies_of-push n before c false
        (is_other c number_of n refl (λ same. apart (omega (arith, same, within, there_within)))) in
        let count : n ≡ length (set families index joined) - 1 - k =
        let long = same_length in omega arith in
        counted.each k other was
        ∙ ap count_of (let e : copies_of n before ≡ copies_of n (before ++ c ∷ []) =
        omega (arith, now) in e)
        ∙ ap (λ m. count_of (copies_of m (before ++ c ∷ []))) count
  ]

-- the step by what is found of the families
step_at : (families : List Family) (before : List CombinedCopy) (heard : HeardCopy) (index : ℕ)
    (o : Option Family) → slice_get families index ≡ o → AreCounted families before
    → StepCounted families before
    (option_map_or
    (λ family. together (length families - 1 - index) (joined_by heard family) heard) o
    (alone None heard))
    (option_map_or (λ family. set families index (joined_by heard family)) o families)
step_at families before heard index None is counted = alone_step families before heard counted
step_at families before heard index (Some family) is counted =
    joined_step families before heard index family is counted

step_by : (families : List Family) (before : List CombinedCopy) (heard : HeardCopy) (o : Option ℕ)
    → AreCounted families before
    → StepCounted families before
    (option_map_or (combined_at families heard) o (alone (Some (length families)) heard))
    (option_map_or (joined_at families heard) o (begun_by heard ∷ families))
step_by families before heard None counted = begun_step families before heard counted
step_by families before heard (Some index) counted =
    step_at families before heard index (slice_get families index) refl counted

step_if : (limit : ℕ) (families : List Family) (before : List CombinedCopy) (heard : HeardCopy)
    (b : Bool) → AreCounted families before
    → StepCounted families before
    (if b then option_map_or (combined_at families heard)
    (index_joined_holding limit families heard)
    (alone (Some (length families)) heard) else alone None heard)
    (if b then option_map_or (joined_at families heard) (index_joined_holding limit families heard)
    (begun_by heard ∷ families) else families)
step_if limit families before heard true counted =
    step_by families before heard (index_joined_holding limit families heard) counted
step_if limit families before heard false counted = alone_step families before heard counted

step : (limit : ℕ) (families : List Family) (before : List CombinedCopy) (heard : HeardCopy)
    → AreCounted families before
    → StepCounted families before (combined_copy_holding limit families heard)
    (families_after_holding limit families heard)
unfolding combined_copy_holding families_after_holding
step limit families before heard counted =
    step_if limit families before heard (has_family heard) counted

-- behind these combined copies, the next ones are counted so
abbrev AreCountedBehind : List CombinedCopy → List CombinedCopy → Type 0
AreCountedBehind before copies =
    (front later : List CombinedCopy) (one : CombinedCopy) → copies ≡ front ++ one ∷ later
    → IsCounted (before ++ front) one

none_behind : (before : List CombinedCopy) → AreCountedBehind before []
none_behind before [] later one is = absurd (let contra : [] ≡ one ∷ later = is in cc)
none_behind before (x ∷ front) later one is =
    absurd (let contra : [] ≡ x ∷ (front ++ one ∷ later) = is in cc)

one_behind : (before tail : List CombinedCopy) (c : CombinedCopy) → IsCounted before c
    → AreCountedBehind (before ++ c ∷ []) tail → AreCountedBehind before (c ∷ tail)
one_behind before tail c own rest [] later one is =
    let whole : c ∷ tail ≡ one ∷ later = is in
    let same : c ≡ one = cc in
    subst (λ o. IsCounted (before ++ []) o) same
    (subst (λ l. IsCounted l c) (sym (append-nil before)) own)
one_behind before tail c own rest (x ∷ front) later one is =
    let whole : c ∷ tail ≡ x ∷ (front ++ one ∷ later) = is in
    let same : c ≡ x = cc in
    let others : tail ≡ front ++ one ∷ later = cc in
    subst (λ l. IsCounted l one)
    (append_assoc before (c ∷ []) front ∙ ap (λ y. before ++ y ∷ front) same)
    (rest front later one others)

selected_step : (limit : ℕ) (families : List Family) (before tail : List CombinedCopy)
    (heard : HeardCopy) (b : Bool) → heard.copy.selected ≡ b → AreCounted families before
    → ((before : List CombinedCopy)
    → AreCounted (families_after_holding limit families heard) before
    → AreCountedBehind before tail)
    → AreCountedBehind before
    ((if b then combined_copy_holding limit families heard ∷ [] else []) ++ tail)
unfolding families_after_holding
selected_step limit families before tail heard true is counted rest =
    let next = step limit families before heard counted in
    one_behind before tail (combined_copy_holding limit families heard) next.own
    (rest (before ++ combined_copy_holding limit families heard ∷ []) next.held)
selected_step limit families before tail heard false is counted rest =
    let none : has_family heard ≡ false = rw is refl in
    let same : families_after_holding limit families heard ≡ families = rw none refl in
    rest before (subst (λ l. AreCounted l before) (sym same) counted)

all_behind : (limit : ℕ) (families : List Family) (before : List CombinedCopy)
    (copies : List HeardCopy) → AreCounted families before
    → AreCountedBehind before (combined_copies_holding limit families copies)
unfolding combined_copies_holding
all_behind limit families before [] counted = none_behind before
all_behind limit families before (heard ∷ later) counted =
    selected_step limit families before
    (combined_copies_holding limit (families_after_holding limit families heard) later) heard
    heard.copy.selected refl counted
    (λ now held. all_behind limit (families_after_holding limit families heard) now later held)

none_counted : AreCounted [] []
none_counted = record {
  each = λ k family is. absurd (let contra : None ≡ Some family = is in cc);
  begun = tt;
}

pub counted_by_family : (held : ℕ) (copies : List HeardCopy) (before later : List CombinedCopy)
    (one : CombinedCopy) → combined_copies_holding held [] copies ≡ before ++ one ∷ later
    → (number : ℕ) → one.family ≡ Some number → is_own_better one ≡ false
    → one.sendings ≡ count_of (copies_of_family one before + 1)
counted_by_family held copies before later one whole number is better =
    all_behind held [] [] copies none_counted before later one whole number is better
    ∙ ap (λ n. count_of (n + 1)) (sym (by_number one before number is))

-- A combined copy that stands for itself is of one sending.

own_at : (families : List Family) (heard : HeardCopy) (index : ℕ) (o : Option Family)
    → slice_get families index ≡ o → is_own_better (combined_at families heard index) ≡ true
    → (combined_at families heard index).sendings ≡ 1
own_at families heard index None is = rw is (λ _. refl)
own_at families heard index (Some family) is =
    rw is (λ better. ap (λ b. if b then 1 else (joined_by heard family).sendings) better)

own_if : (families : List Family) (heard : HeardCopy) (b : Bool) (o : Option ℕ)
    → is_own_better (if b then option_map_or (combined_at families heard) o
    (alone (Some (length families)) heard) else alone None heard) ≡ true
    → (if b then option_map_or (combined_at families heard) o
    (alone (Some (length families)) heard) else alone None heard).sendings ≡ 1
own_if families heard false o better = refl
own_if families heard true None better = refl
own_if families heard true (Some index) better =
    own_at families heard index (slice_get families index) refl better

pub own_sending : (held : ℕ) (families : List Family) (heard : HeardCopy)
    → is_own_better (combined_copy_holding held families heard) ≡ true
    → (combined_copy_holding held families heard).sendings ≡ 1
unfolding combined_copy_holding
own_sending held families heard better =
    own_if families heard (has_family heard) (index_joined_holding held families heard) better

none_at : (families : List Family) (heard : HeardCopy) (index : ℕ) (o : Option Family)
    → slice_get families index ≡ o → (combined_at families heard index).family ≡ None
    → (combined_at families heard index).sendings ≡ 1
none_at families heard index None is = rw is (λ _. refl)
none_at families heard index (Some family) is =
    rw is (λ none. absurd (let contra : Some (length families - 1 - index) ≡ None = none in cc))

none_if : (families : List Family) (heard : HeardCopy) (b : Bool) (o : Option ℕ)
    → (if b then option_map_or (combined_at families heard) o
    (alone (Some (length families)) heard) else alone None heard).family ≡ None
    → (if b then option_map_or (combined_at families heard) o
    (alone (Some (length families)) heard) else alone None heard).sendings ≡ 1
none_if families heard false o none = refl
none_if families heard true None none = refl
none_if families heard true (Some index) none =
    none_at families heard index (slice_get families index) refl none

pub alone_sending : (held : ℕ) (families : List Family) (heard : HeardCopy)
    → (combined_copy_holding held families heard).family ≡ None
    → (combined_copy_holding held families heard).sendings ≡ 1
unfolding combined_copy_holding
alone_sending held families heard none =
    none_if families heard (has_family heard) (index_joined_holding held families heard) none
