-- Nothing is invented: each combination of a family was taken at its index by one of its copies.
use Rattle.std.proofs.Common.{◌≡◌, ◌≢◌, ◌⊎◌, inl, inr, ℕ, zero, suc, ◌-◌, Bool, true, false}
use Rattle.std.proofs.Common.{if◌then◌else◌, Option, Some, None, List, [], ◌∷◌, ◌++◌, length}
use Rattle.std.proofs.Common.{refl, sym, ap, ◌∙◌, subst, arith, append_assoc, append-nil}
use Rattle.std.proofs.Math.ListN.{set}
use Rattle.std.proofs.lemmas.Bool.{eq-eqb, cases_eq}
use Rattle.std.proofs.lemmas.List.{length-set}
use Rattle.std.proofs.lemmas.List.Elements.{Contains-append_left, Contains-append_right}
use Rattle.std.specs.Prelude.{Contains, slice_get, ◌==◌}
use Rattle.std.specs.Option.{option_map_or}
use Rattle.nx_code.specs.Reading.{Reception, combination, idle, lost}
use Rattle.nx_combine.specs.CombinedPrinting.{are_of_one_family}
use Rattle.nx_combine.specs.CopyPositions.{HeardCopy}
use Rattle.nx_combine.specs.Families.{CombinedCopy, Family, alone, begun_by, combined_at}
use Rattle.nx_combine.specs.Families.{combined_copies_holding}
use Rattle.nx_combine.specs.Families.{combined_copy_holding, families_after_holding, has_family}
use Rattle.nx_combine.specs.Families.{index_joined_holding, joined_at}
use Rattle.nx_combine.specs.Families.{joined_by, together}
use Rattle.nx_combine.specs.Joining.{joined, joined_position}
use Rattle.nx_combine.specs.Laws.{InventNothing, WasTaken, joined_where}
use Rattle.nx_combine.proofs.lemmas.Joined.{slice_get-joined}

-- A combination of the joined list is one of the two lists.

split_if : (m n number : ℕ) (b : Bool)
    → (if b then combination m else lost) ≡ combination number
    → (combination m ≡ combination number) ⊎ (combination n ≡ combination number)
split_if m n number true is = inl is
split_if m n number false is = absurd (let contra : lost ≡ combination number = is in cc)

split_position : (x y : Reception) (number : ℕ) → joined_position x y ≡ combination number
    → (x ≡ combination number) ⊎ (y ≡ combination number)
split_position (combination m) (combination n) number is = split_if m n number (m == n) is
split_position (combination m) idle number is = inl is
split_position (combination m) lost number is = inl is
split_position idle (combination n) number is = inr is
split_position idle idle number is = inl is
split_position idle lost number is = inr is
split_position lost (combination n) number is = inr is
split_position lost idle number is = inl is
split_position lost lost number is = inl is

pub split_where : (o p : Option Reception) (number : ℕ)
    → joined_where o p ≡ Some (combination number)
    → (o ≡ Some (combination number)) ⊎ (p ≡ Some (combination number))
split_where None p number is = inr is
split_where (Some x) None number is = inl is
split_where (Some x) (Some y) number is =
    let inside : joined_position x y ≡ combination number = cc in
    elim (split_position x y number inside) [
      | inl first ↦ inl (ap Some first)
      | inr second ↦ inr (ap Some second)
    ]

-- A family that was replaced among the others.

pub set_at : (families : List Family) (i : ℕ) (f g : Family)
    → slice_get (set families i f) i ≡ Some g → f ≡ g
set_at [] i f g is = absurd (let contra : None ≡ Some g = is in cc)
set_at (x ∷ families) zero f g is = let inside : Some f ≡ Some g = is in cc
set_at (x ∷ families) (suc i) f g is = set_at families i f g is

pub set_other : (families : List Family) (i k : ℕ) (f : Family) → k ≢ i
    → slice_get (set families i f) k ≡ slice_get families k
set_other [] i k f apart = refl
set_other (x ∷ families) zero zero f apart = absurd (apart refl)
set_other (x ∷ families) zero (suc k) f apart = refl
set_other (x ∷ families) (suc i) zero f apart = refl
set_other (x ∷ families) (suc i) (suc k) f apart =
    set_other families i k f (λ same. apart (ap suc same))

-- a combination was taken at the index by one of these copies, which is of the family of so many
-- begun before it
record TakenIn (before : List CombinedCopy) (family index number : ℕ) : Type 0 where
  by : CombinedCopy
  among : Contains before by
  of : by.family ≡ Some family
  taken : slice_get by.own.positions index ≡ Some (combination number)

taken_later : (before : List CombinedCopy) (c : CombinedCopy) (family index number : ℕ)
    → TakenIn before family index number → TakenIn (before ++ c ∷ []) family index number
taken_later before c family index number t = record {
  by = t.by;
  among = Contains-append_left before (c ∷ []) t.by t.among;
  of = t.of;
  taken = t.taken;
}

taken_now : (before : List CombinedCopy) (c : CombinedCopy) (family index number : ℕ)
    → c.family ≡ Some family → slice_get c.own.positions index ≡ Some (combination number)
    → TakenIn (before ++ c ∷ []) family index number
taken_now before c family index number of taken = record {
  by = c;
  among = Contains-append_right before (c ∷ []) c (0, omega arith, refl);
  of = of;
  taken = taken;
}

-- each combination of each of these families, which stand newest first, was taken so
abbrev FamiliesTaken : List Family → List CombinedCopy → Type 0
FamiliesTaken families before =
    (k : ℕ) (family : Family) → slice_get families k ≡ Some family → (index number : ℕ)
    → slice_get family.positions index ≡ Some (combination number)
    → TakenIn before (length families - 1 - k) index number

-- what one more copy gives: its combined copy has only what was taken, and so have the families
record StepTaken (families : List Family) (before : List CombinedCopy) (c : CombinedCopy)
    (after : List Family) : Type 0 where
  own : (index number : ℕ) → slice_get c.positions index ≡ Some (combination number)
      → WasTaken before c index number
  held : FamiliesTaken after (before ++ c ∷ [])

by_itself : (before : List CombinedCopy) (c : CombinedCopy) (index number : ℕ)
    → slice_get c.own.positions index ≡ Some (combination number) → WasTaken before c index number
by_itself before c index number taken = record { by = c; among = inl refl; taken = taken }

by_family : (before : List CombinedCopy) (c : CombinedCopy) (family index number : ℕ)
    → c.family ≡ Some family → TakenIn before family index number → WasTaken before c index number
by_family before c family index number of t = record {
  by = t.by;
  among = inr (record {
    heard_before = t.among;
    of_one = one_family c.family t.by.family family of t.of;
  });
  taken = t.taken;
} where
  one_family : (o p : Option ℕ) (n : ℕ) → o ≡ Some n → p ≡ Some n
      → are_of_one_family c t.by ≡ true
  one_family o p n is has = rw (of, t.of) (eq-eqb family family refl)

-- a copy that joins none: it is alone
alone_step : (families : List Family) (before : List CombinedCopy) (heard : HeardCopy)
    → FamiliesTaken families before → StepTaken families before (alone None heard) families
alone_step families before heard taken = record {
  own = λ index number has. by_itself before (alone None heard) index number has;
  held = λ k family is index number has.
      taken_later before (alone None heard) (length families - 1 - k) index number
      (taken k family is index number has);
}

-- a copy that begins a family
begun_step : (families : List Family) (before : List CombinedCopy) (heard : HeardCopy)
    → FamiliesTaken families before
    → StepTaken families before (alone (Some (length families)) heard) (begun_by heard ∷ families)
begun_step families before heard taken = record {
  own = λ index number has. by_itself before c index number has;
  held = all_held;
} where
  c : CombinedCopy
  c = alone (Some (length families)) heard

  all_held : FamiliesTaken (begun_by heard ∷ families) (before ++ c ∷ [])
  all_held zero family is index number has =
      let same : begun_by heard ≡ family =
      let inside : Some (begun_by heard) ≡ Some family = is in cc in
      let count : length families ≡ length (begun_by heard ∷ families) - 1 - 0 = omega arith in
      subst (λ n. TakenIn (before ++ c ∷ []) n index number) count
      (taken_now before c (length families) index number refl
      (ap (λ (f : Family). slice_get f.positions index) same ∙ has))
  all_held (suc k) family is index number has =
      let count : length families - 1 - k ≡ length (begun_by heard ∷ families) - 1 - suc k =
      omega arith in
      subst (λ n. TakenIn (before ++ c ∷ []) n index number) count
      (taken_later before c (length families - 1 - k) index number
      (taken k family is index number has))

-- a copy that joins the family of this index
joined_step : (families : List Family) (before : List CombinedCopy) (heard : HeardCopy) (index : ℕ)
    (family : Family) → slice_get families index ≡ Some family → FamiliesTaken families before
    → StepTaken families before
    (together (length families - 1 - index) (joined_by heard family) heard)
    (set families index (joined_by heard family))
joined_step families before heard index family there taken = record {
  own = λ at number has. elim (parts at number has) [
    | inl first ↦
        by_family before c number_of at number refl (taken index family there at number first)
    | inr second ↦ by_itself before c at number second
  ];
  held = all_held;
} where
  number_of : ℕ
  number_of = length families - 1 - index

  c : CombinedCopy
  c = together number_of (joined_by heard family) heard

  parts : (at number : ℕ)
      → slice_get (joined family.positions heard.positions) at ≡ Some (combination number)
      → (slice_get family.positions at ≡ Some (combination number))
      ⊎ (slice_get heard.positions at ≡ Some (combination number))
  parts at number has =
      split_where (slice_get family.positions at) (slice_get heard.positions at) number
      (sym (slice_get-joined family.positions heard.positions at) ∙ has)

  same_length : length (set families index (joined_by heard family)) ≡ length families
  same_length = length-set families index (joined_by heard family)

  now : (at number : ℕ)
      → slice_get (joined family.positions heard.positions) at ≡ Some (combination number)
      → TakenIn (before ++ c ∷ []) number_of at number
  now at number has = elim (parts at number has) [
    | inl first ↦
        taken_later before c number_of at number (taken index family there at number first)
    | inr second ↦ taken_now before c number_of at number refl second
  ]

  all_held : FamiliesTaken (set families index (joined_by heard family)) (before ++ c ∷ [])
  all_held k other is at number has = elim (cases_eq k index) [
    | inl same ↦
        let this : joined_by heard family ≡ other =
        set_at families index (joined_by heard family) other
        (ap (slice_get (set families index (joined_by heard family))) (sym same) ∙ is) in
        let count : number_of ≡ length (set families index (joined_by heard family)) - 1 - k =
        let long = same_length in omega arith in
        subst (λ n. TakenIn (before ++ c ∷ []) n at number) count
        (now at number (ap (λ (f : Family). slice_get f.positions at) this ∙ has))
    | inr apart ↦
        let was : slice_get families k ≡ Some other =
        sym (set_other families index k (joined_by heard family) apart) ∙ is in
        let count : length families - 1 - k
        ≡ length (set families index (joined_by heard family)) - 1 - k =
        let long = same_length in omega arith in
        subst (λ n. TakenIn (before ++ c ∷ []) n at number) count
        (taken_later before c (length families - 1 - k) at number (taken k other was at number has))
  ]

-- the step by what is found of the families
step_at : (families : List Family) (before : List CombinedCopy) (heard : HeardCopy) (index : ℕ)
    (o : Option Family) → slice_get families index ≡ o → FamiliesTaken families before
    → StepTaken families before
    (option_map_or
    (λ family. together (length families - 1 - index) (joined_by heard family) heard) o
    (alone None heard))
    (option_map_or (λ family. set families index (joined_by heard family)) o families)
step_at families before heard index None is taken = alone_step families before heard taken
step_at families before heard index (Some family) is taken =
    joined_step families before heard index family is taken

step_by : (families : List Family) (before : List CombinedCopy) (heard : HeardCopy) (o : Option ℕ)
    → FamiliesTaken families before
    → StepTaken families before
    (option_map_or (combined_at families heard) o (alone (Some (length families)) heard))
    (option_map_or (joined_at families heard) o (begun_by heard ∷ families))
step_by families before heard None taken = begun_step families before heard taken
step_by families before heard (Some index) taken =
    step_at families before heard index (slice_get families index) refl taken

step_if : (limit : ℕ) (families : List Family) (before : List CombinedCopy) (heard : HeardCopy)
    (b : Bool)
    → FamiliesTaken families before
    → StepTaken families before
    (if b then option_map_or (combined_at families heard)
    (index_joined_holding limit families heard)
    (alone (Some (length families)) heard) else alone None heard)
    (if b then option_map_or (joined_at families heard) (index_joined_holding limit families heard)
    (begun_by heard ∷ families) else families)
step_if limit families before heard true taken =
    step_by families before heard (index_joined_holding limit families heard) taken
step_if limit families before heard false taken = alone_step families before heard taken

step : (limit : ℕ) (families : List Family) (before : List CombinedCopy) (heard : HeardCopy)
    → FamiliesTaken families before
    → StepTaken families before (combined_copy_holding limit families heard)
    (families_after_holding limit families heard)
unfolding combined_copy_holding families_after_holding
step limit families before heard taken = step_if limit families before heard
    (has_family heard) taken

-- behind these combined copies, the next ones invent nothing
abbrev InventNothingBehind : List CombinedCopy → List CombinedCopy → Type 0
InventNothingBehind before copies =
    (front later : List CombinedCopy) (one : CombinedCopy) → copies ≡ front ++ one ∷ later
    → (index number : ℕ) → slice_get one.positions index ≡ Some (combination number)
    → WasTaken (before ++ front) one index number

none_behind : (before : List CombinedCopy) → InventNothingBehind before []
none_behind before [] later one is index number has =
    absurd (let contra : [] ≡ one ∷ later = is in cc)
none_behind before (x ∷ front) later one is index number has =
    absurd (let contra : [] ≡ x ∷ (front ++ one ∷ later) = is in cc)

one_behind : (before tail : List CombinedCopy) (c : CombinedCopy)
    → ((index number : ℕ) → slice_get c.positions index ≡ Some (combination number)
    → WasTaken before c index number)
    → InventNothingBehind (before ++ c ∷ []) tail → InventNothingBehind before (c ∷ tail)
one_behind before tail c own rest [] later one is index number has =
    let whole : c ∷ tail ≡ one ∷ later = is in
    let same : c ≡ one = cc in
    let was = own index number (ap (λ (o : CombinedCopy). slice_get o.positions index) same
    ∙ has) in
    subst (λ o. WasTaken (before ++ []) o index number) same
    (subst (λ l. WasTaken l c index number) (sym (append-nil before)) was)
one_behind before tail c own rest (x ∷ front) later one is index number has =
    let whole : c ∷ tail ≡ x ∷ (front ++ one ∷ later) = is in
    let same : c ≡ x = cc in
    let others : tail ≡ front ++ one ∷ later = cc in
    let was = rest front later one others index number has in
    subst (λ l. WasTaken l one index number)
    (append_assoc before (c ∷ []) front ∙ ap (λ y. before ++ y ∷ front) same) was

selected_step : (limit : ℕ) (families : List Family) (before tail : List CombinedCopy)
    (heard : HeardCopy)
    (b : Bool) → heard.copy.selected ≡ b → FamiliesTaken families before
    → ((before : List CombinedCopy) → FamiliesTaken
    (families_after_holding limit families heard) before
    → InventNothingBehind before tail)
    → InventNothingBehind before ((if b then combined_copy_holding limit families heard ∷ []
    else []) ++ tail)
unfolding families_after_holding
selected_step limit families before tail heard true is taken rest =
    let next = step limit families before heard taken in
    one_behind before tail (combined_copy_holding limit families heard) next.own
    (rest (before ++ combined_copy_holding limit families heard ∷ []) next.held)
selected_step limit families before tail heard false is taken rest =
    let none : has_family heard ≡ false = rw is refl in
    let same : families_after_holding limit families heard ≡ families = rw none refl in
    rest before (subst (λ l. FamiliesTaken l before) (sym same) taken)

all_behind : (limit : ℕ) (families : List Family) (before : List CombinedCopy)
    (copies : List HeardCopy)
    → FamiliesTaken families before
    → InventNothingBehind before (combined_copies_holding limit families copies)
unfolding combined_copies_holding
all_behind limit families before [] taken = none_behind before
all_behind limit families before (heard ∷ later) taken =
    selected_step limit families before (combined_copies_holding limit
    (families_after_holding limit families heard) later) heard
    heard.copy.selected refl taken
    (λ now held. all_behind limit (families_after_holding limit families heard) now later held)

none_taken : FamiliesTaken [] []
none_taken k family is index number has = absurd (let contra : None ≡ Some family = is in cc)

pub nothing_invented : (limit : ℕ) (copies : List HeardCopy)
    → InventNothing (combined_copies_holding limit [] copies)
nothing_invented limit copies = λ before later one is index number has.
    all_behind limit [] [] copies none_taken before later one is index number has
