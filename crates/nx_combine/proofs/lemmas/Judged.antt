-- How a combiner stands, and what it says of the copies that were printed.
use Rattle.std.proofs.Common.{◌≡◌, ℕ, zero, suc, ◌+◌, ◌-◌, ◌<◌, ◌≤◌, min, Bool, true, false, not}
use Rattle.std.proofs.Common.{cond}
use Rattle.std.proofs.Common.{◌&&◌, ◌||◌, if◌then◌else◌, Option, Some, None, List, [], ◌∷◌}
use Rattle.std.proofs.Common.{length, take, refl, sym, ap, ap₂, ◌∙◌, subst, arith}
use Rattle.std.proofs.Math.ListN.{set}
use Rattle.std.proofs.Math.Seq.{take-nil, take-set-lt}
use Rattle.std.proofs.lemmas.Bool.{eq-eqb, leb-false, leb-true, lt-leb, ne_eqb}
use Rattle.std.proofs.lemmas.List.{length-take}
use Rattle.std.specs.Prelude.{slice_get, is_some, IfSome, ◌==◌, nat_le}
use Rattle.std.specs.List.{AllByRecursion, find}
use Rattle.std.specs.Option.{option_map, option_map_or}
use Rattle.circular_buffer.proofs.Places.{slice_get-take}
use Rattle.nx_code.specs.Reading.{Reception}
use Rattle.nx_envelope.specs.Copies.{errors_of}
use Rattle.nx_envelope.specs.FinderView.{FinderView}
use Rattle.nx_code.specs.Lists.{last_of}
use Rattle.nx_memory.specs.Memory.{is_known, most_entries}
use Rattle.nx_memory.specs.declared.memories.entry.MemoryEntry.{MemoryEntry}
use Rattle.nx_copies.specs.copies.FoundCopies.{TaggedCopy, headed_copy}
use Rattle.nx_copies.specs.copies.Printing.{entry_of, is_better, is_good, is_printed}
use Rattle.nx_copies.specs.declared.entry.EntryHead.{EntryHead}
use Rattle.nx_combine.specs.CombinedPrinting.{are_of_one_family, entry_made_combined}
use Rattle.nx_combine.specs.CombinedPrinting.{if_printed_combined}
use Rattle.nx_combine.specs.CombinedPrinting.{is_better_than_before, is_entered_combined}
use Rattle.nx_combine.specs.CombinedPrinting.{is_printed_combined}
use Rattle.nx_combine.specs.Combining.{IsCombined, begun_with, heard_of, meant}
use Rattle.nx_combine.specs.CopyPositions.{HeardCopy}
use Rattle.nx_combine.specs.declared.combining.Combined.{Combined}
use Rattle.nx_combine.specs.Families.{CombinedCopy, Family, alone, combined_at}
use Rattle.nx_combine.specs.Families.{combined_copy_holding}
use Rattle.nx_combine.specs.Families.{families_after_holding, has_family, index_joined_holding}
use Rattle.nx_combine.specs.Judging.{IsGivenAs, IsOfBegun, StandsHolding, all_last_printed}
use Rattle.nx_combine.specs.private.Judging.{ComesTo}
use Rattle.nx_combine.specs.Judging.{head_of, is_of_number, last_printed}
use Rattle.nx_combine.proofs.lemmas.Held.{no_family, take-pushed}
use Rattle.nx_combine.proofs.lemmas.Sendings.{and_false}

-- The copies of a family among those that were printed.

pub find_as : {X : Type 0} (p q : X → Bool) (xs : List X) → ((x : X) → p x ≡ q x)
    → find p xs ≡ find q xs
find_as p q [] alike = refl
find_as p q (x ∷ xs) alike = ap₂ (λ b o. cond b (Some x) o) (alike x) (find_as p q xs alike)

pub number_by : (one other : CombinedCopy) (number : ℕ) (own : Option ℕ) → one.family ≡ Some number
    → other.family ≡ own → are_of_one_family one other ≡ is_of_number number other
number_by one other number None is has = rw (is, has) refl
number_by one other number (Some m) is has = rw (is, has) refl

pub find_by_number : (before : List CombinedCopy) (one : CombinedCopy) (number : ℕ)
    → one.family ≡ Some number
    → find (are_of_one_family one) before ≡ find (is_of_number number) before
find_by_number before one number is =
    find_as (are_of_one_family one) (is_of_number number) before
    (λ other. number_by one other number other.family is refl)

none_by : (one other : CombinedCopy) → one.family ≡ None → are_of_one_family one other ≡ false
none_by one other is = rw is refl

find_no : {X : Type 0} (p : X → Bool) (xs : List X) → ((x : X) → p x ≡ false) → find p xs ≡ None
find_no p [] none = refl
find_no p (x ∷ xs) none = ap (λ b. cond b (Some x) (find p xs)) (none x) ∙ find_no p xs none

pub find_alone : (before : List CombinedCopy) (one : CombinedCopy) → one.family ≡ None
    → find (are_of_one_family one) before ≡ None
find_alone before one is =
    find_no (are_of_one_family one) before (λ other. none_by one other is)

not_number : (one : CombinedCopy) (number count : ℕ) (own : Option ℕ) → one.family ≡ own
    → IsOfBegun count one → count ≤ number → is_of_number number one ≡ false
not_number one number count None is begun past = rw is refl
not_number one number count (Some m) is begun past =
    let below = begun m is in
    rw is (ne_eqb number m (λ same. omega arith))

find_past : (before : List CombinedCopy) (number count : ℕ)
    → AllByRecursion (IsOfBegun count) before → count ≤ number
    → find (is_of_number number) before ≡ None
find_past [] number count begun past = refl
find_past (one ∷ before) number count begun past =
    ap (λ b. cond b (Some one) (find (is_of_number number) before))
    (not_number one number count one.family refl begun.0 past)
    ∙ find_past before number count begun.1 past

-- of a family that isn't begun yet nothing was printed
pub last_past : (before : List CombinedCopy) (number count : ℕ)
    → AllByRecursion (IsOfBegun count) before → count ≤ number → last_printed before number ≡ None
unfolding last_printed
last_past before number count begun past =
    ap (option_map (λ (one : CombinedCopy). head_of one.copy)) (find_past before number count
    begun past)

-- what was begun so far stays so
pub still_begun : (before : List CombinedCopy) (count more : ℕ)
    → AllByRecursion (IsOfBegun count) before → count ≤ more
    → AllByRecursion (IsOfBegun more) before
still_begun [] count more begun few = tt
still_begun (one ∷ before) count more begun few = (
  λ number is. let below = begun.0 number is in omega arith,
  still_begun before count more begun.1 few,
)

-- The families that are held, and of each what was printed last.

all_last-begun : (before : List CombinedCopy) (count : ℕ)
    → AllByRecursion (IsOfBegun count) before
    → all_last_printed before (suc count) ≡ None ∷ all_last_printed before count
unfolding all_last_printed
all_last-begun before count begun =
    ap (λ o. o ∷ all_last_printed before count) (last_past before count count begun (omega arith))

-- a family that is begun stands first, and nothing of it was printed
pub stands_begun : (limit : ℕ) (families more held new : List Family)
    (before : List CombinedCopy) (printed now : List (Option EntryHead)) (was is : FinderView)
    → StandsHolding limit (record { families = held; printed = printed; finder = was }) families
    before
    → new ≡ take limit more → length more ≡ length families + 1 → now ≡ take limit (None ∷ printed)
    → StandsHolding limit (record { families = new; printed = now; finder = is }) more before
stands_begun limit families more held new before printed now was is stands held_is count now_is =
    let n = length families in
    let long : suc n ≡ length more = omega arith in
    record {
      held = held_is;
      printed = now_is
          ∙ ap (λ (l : List (Option EntryHead)). take limit (None ∷ l)) stands.printed
          ∙ take-pushed limit None (all_last_printed before n)
          ∙ ap (take limit) (sym (all_last-begun before n stands.begun))
          ∙ ap (λ m. take limit (all_last_printed before m)) long;
      begun = still_begun before n (length more) stands.begun (omega arith);
    }

-- else all stands as it stood
pub stands_kept : (limit : ℕ) (families more held new : List Family)
    (before : List CombinedCopy) (printed : List (Option EntryHead)) (was is : FinderView)
    → StandsHolding limit (record { families = held; printed = printed; finder = was }) families
    before
    → new ≡ take limit more → length more ≡ length families + 0
    → StandsHolding limit (record { families = new; printed = printed; finder = is }) more before
stands_kept limit families more held new before printed was is stands held_is count =
    let long : length families ≡ length more = omega arith in
    record {
      held = held_is;
      printed = stands.printed ∙ ap (λ m. take limit (all_last_printed before m)) long;
      begun = still_begun before (length families) (length more) stands.begun (omega arith);
    }

-- so all stands, whether one is begun or not
pub stands_taken : (limit : ℕ) (families more held new : List Family)
    (before : List CombinedCopy) (printed now : List (Option EntryHead)) (was is : FinderView)
    (begins : Bool)
    → StandsHolding limit (record { families = held; printed = printed; finder = was }) families
    before
    → new ≡ take limit more → length more ≡ length families + begun_with begins
    → now ≡ (if begins then take limit (None ∷ printed) else printed)
    → StandsHolding limit (record { families = new; printed = now; finder = is }) more before
stands_taken limit families more held new before printed now was is true stands held_is count
    now_is =
    stands_begun limit families more held new before printed now was is stands held_is count now_is
stands_taken limit families more held new before printed now was is false stands held_is count
    now_is =
    subst (λ (l : List (Option EntryHead)). StandsHolding limit
    (record { families = new; printed = l; finder = is }) more before) (sym now_is)
    (stands_kept limit families more held new before printed was is stands held_is count)

all_last-at : (before : List CombinedCopy) (n index : ℕ) → index < n
    → slice_get (all_last_printed before n) index ≡ Some (last_printed before (n - 1 - index))
unfolding all_last_printed
all_last-at before zero index below = absurd (omega arith)
all_last-at before (suc n) zero below =
    ap (λ m. Some (last_printed before m)) (let this : n ≡ suc n - 1 - 0 = omega arith in this)
all_last-at before (suc n) (suc index) below =
    all_last-at before n index (omega arith)
    ∙ ap (λ m. Some (last_printed before m))
    (let this : n - 1 - index ≡ suc n - 1 - suc index = omega arith in this)

-- what stands at the index of a family that is held
pub last_at : (limit : ℕ) (families held : List Family) (before : List CombinedCopy)
    (printed : List (Option EntryHead)) (finder : FinderView) (index : ℕ)
    → StandsHolding limit (record { families = held; printed = printed; finder = finder }) families
    before
    → index < length held
    → slice_get printed index ≡ Some (last_printed before (length families - 1 - index))
last_at limit families held before printed finder index stands below =
    let long : length held ≡ min limit (length families) =
    ap length stands.held ∙ length-take limit families in
    ap (λ (l : List (Option EntryHead)). slice_get l index) stands.printed
    ∙ slice_get-take limit (all_last_printed before (length families)) index (omega arith)
    ∙ all_last-at before (length families) index (omega arith)

-- Whether it is better than the last one.

no_last : (before : List CombinedCopy) (one : CombinedCopy)
    → find (are_of_one_family one) before ≡ None → is_better_than_before before one ≡ false
unfolding is_better_than_before
no_last before one is =
    ap (λ o. option_map_or (λ (l : CombinedCopy). is_better one.copy l.copy) o false) is

pub better_alone : (before : List CombinedCopy) (one : CombinedCopy) → one.family ≡ None
    → is_better_than_before before one ≡ false
better_alone before one is = no_last before one (find_alone before one is)

nothing_found : (found : Option CombinedCopy)
    → option_map (λ (one : CombinedCopy). head_of one.copy) found ≡ None → found ≡ None
nothing_found None is = refl
nothing_found (Some one) is = absurd (let contra : Some (head_of one.copy) ≡ None = is in cc)

pub better_none : (before : List CombinedCopy) (one : CombinedCopy) (number : ℕ)
    → one.family ≡ Some number → last_printed before number ≡ None
    → is_better_than_before before one ≡ false
unfolding last_printed
better_none before one number of is =
    no_last before one (find_by_number before one number of
    ∙ nothing_found (find (is_of_number number) before) is)

better_found : (one : CombinedCopy) (found : Option CombinedCopy) (head : EntryHead) (b : Bool)
    → option_map (λ (o : CombinedCopy). head_of o.copy) found ≡ Some head
    → ((other : TaggedCopy) → other.how ≡ head.how → head.errors ≡ errors_of other.text
    → b ≡ is_better one.copy other)
    → b ≡ option_map_or (λ (l : CombinedCopy). is_better one.copy l.copy) found false
better_found one None head b is better = absurd (let contra : None ≡ Some head = is in cc)
better_found one (Some other) head b is better =
    let same : head_of other.copy ≡ head = cc in
    better other.copy (ap (λ (h : EntryHead). h.how) same)
    (sym (ap (λ (h : EntryHead). h.errors) same))

pub better_last : (before : List CombinedCopy) (one : CombinedCopy) (number : ℕ) (head : EntryHead)
    (b : Bool) → one.family ≡ Some number → last_printed before number ≡ Some head
    → ((other : TaggedCopy) → other.how ≡ head.how → head.errors ≡ errors_of other.text
    → b ≡ is_better one.copy other)
    → b ≡ is_better_than_before before one
unfolding last_printed is_better_than_before
better_last before one number head b of is better =
    better_found one (find (is_of_number number) before) head b is better
    ∙ ap (λ o. option_map_or (λ (l : CombinedCopy). is_better one.copy l.copy) o false)
    (sym (find_by_number before one number of))

-- One more that is printed.

last-other : (before : List CombinedCopy) (one : CombinedCopy) (number : ℕ)
    → is_of_number number one ≡ false
    → last_printed (one ∷ before) number ≡ last_printed before number
unfolding last_printed
last-other before one number other =
    ap (λ b. option_map (λ (o : CombinedCopy). head_of o.copy)
    (cond b (Some one) (find (is_of_number number) before))) other

last-own : (before : List CombinedCopy) (one : CombinedCopy) (number : ℕ)
    → one.family ≡ Some number → last_printed (one ∷ before) number ≡ Some (head_of one.copy)
unfolding last_printed
last-own before one number is =
    let own : is_of_number number one ≡ true = rw is (eq-eqb number number refl) in
    ap (λ b. option_map (λ (o : CombinedCopy). head_of o.copy)
    (cond b (Some one) (find (is_of_number number) before))) own

all_last-same : (before : List CombinedCopy) (one : CombinedCopy) (n : ℕ)
    → ((number : ℕ) → number < n → is_of_number number one ≡ false)
    → all_last_printed (one ∷ before) n ≡ all_last_printed before n
unfolding all_last_printed
all_last-same before one zero other = refl
all_last-same before one (suc n) other =
    ap₂ (λ (o : Option EntryHead) (l : List (Option EntryHead)). o ∷ l)
    (last-other before one n (other n (omega arith)))
    (all_last-same before one n (λ number below. other number (omega arith)))

pub is_not : (one : CombinedCopy) (own number : ℕ) → one.family ≡ Some own → (number ≡ own → ⊥)
    → is_of_number number one ≡ false
is_not one own number is apart = rw is (ne_eqb number own apart)

all_last-noted : (before : List CombinedCopy) (one : CombinedCopy) (n index : ℕ) → index < n
    → one.family ≡ Some (n - 1 - index)
    → all_last_printed (one ∷ before) n
    ≡ set (all_last_printed before n) index (Some (head_of one.copy))
unfolding all_last_printed
all_last-noted before one zero index below is = absurd (omega arith)
all_last-noted before one (suc n) zero below is =
    let number : suc n - 1 - 0 ≡ n = omega arith in
    let this : one.family ≡ Some n = is ∙ ap Some number in
    ap₂ (λ (o : Option EntryHead) (l : List (Option EntryHead)). o ∷ l)
    (last-own before one n this)
    (all_last-same before one n (λ m below. is_not one n m this (λ same. omega arith)))
all_last-noted before one (suc n) (suc index) below is =
    let number : suc n - 1 - suc index ≡ n - 1 - index = omega arith in
    let this : one.family ≡ Some (n - 1 - index) = is ∙ ap Some number in
    ap₂ (λ (o : Option EntryHead) (l : List (Option EntryHead)). o ∷ l)
    (last-other before one n (is_not one (n - 1 - index) n this (λ same. omega arith)))
    (all_last-noted before one n index (omega arith) this)

pub stands_noted : (limit : ℕ) (families held : List Family) (before : List CombinedCopy)
    (one : CombinedCopy) (printed now : List (Option EntryHead)) (was is : FinderView) (index : ℕ)
    → StandsHolding limit (record { families = held; printed = printed; finder = was }) families
    before
    → index < length held → one.family ≡ Some (length families - 1 - index)
    → now ≡ set printed index (Some (head_of one.copy))
    → StandsHolding limit (record { families = held; printed = now; finder = is }) families
    (one ∷ before)
stands_noted limit families held before one printed now was is index stands below of noted =
    let n = length families in
    let long : length held ≡ min limit n = ap length stands.held ∙ length-take limit families in
    record {
      held = stands.held;
      printed = noted
          ∙ ap (λ (l : List (Option EntryHead)). set l index (Some (head_of one.copy)))
          stands.printed
          ∙ sym (take-set-lt limit (all_last_printed before n) index (Some (head_of one.copy))
          (omega arith))
          ∙ ap (take limit) (sym (all_last-noted before one n index (omega arith) of));
      begun = (
        λ number has.
            let same : Some number ≡ Some (n - 1 - index) = sym has ∙ of in
            let this : number ≡ n - 1 - index = cc in
            omega arith,
        stands.begun,
      );
    }

pub stands_unnoted : (limit : ℕ) (families held : List Family) (before : List CombinedCopy)
    (one : CombinedCopy) (printed : List (Option EntryHead)) (was is : FinderView)
    → StandsHolding limit (record { families = held; printed = printed; finder = was }) families
    before
    → one.family ≡ None
    → StandsHolding limit (record { families = held; printed = printed; finder = is }) families
    (one ∷ before)
stands_unnoted limit families held before one printed was is stands none = record {
  held = stands.held;
  printed = stands.printed
      ∙ ap (take limit) (sym (all_last-same before one (length families)
      (λ number below. rw none refl)));
  begun = (
    λ number has. absurd (let contra : None ≡ Some number = sym none ∙ has in cc),
    stands.begun,
  );
}

-- A copy whose positions are too many, and of which so many are given that it shows.

-- the two copies leave the same, and come to the same
pub record LeaveSame (limit : ℕ) (families : List Family) (cut heard : HeardCopy) : Type 0 where
  pub after : families_after_holding limit families cut
      ≡ families_after_holding limit families heard
  pub family : (combined_copy_holding limit families cut).family
      ≡ (combined_copy_holding limit families heard).family
  pub copy : (combined_copy_holding limit families cut).copy
      ≡ (combined_copy_holding limit families heard).copy
  pub sendings : (combined_copy_holding limit families cut).sendings
      ≡ (combined_copy_holding limit families heard).sendings

too_many : (heard : HeardCopy) → nat_le (length heard.positions) 8192 ≡ false
    → has_family heard ≡ false
too_many heard many = rw many (and_false _)

all_taken : {X : Type 0} (n : ℕ) (xs : List X) → length xs ≤ n → take n xs ≡ xs
all_taken zero [] few = refl
all_taken (suc n) [] few = refl
all_taken zero (x ∷ xs) few = absurd (omega arith)
all_taken (suc n) (x ∷ xs) few = ap (λ l. x ∷ l) (all_taken n xs (omega arith))

cut_by : (limit : ℕ) (families : List Family) (heard : HeardCopy) (copy : TaggedCopy)
    (positions : List Reception) (b : Bool) → heard.copy ≡ copy
    → positions ≡ take 8193 heard.positions → nat_le (length heard.positions) 8192 ≡ b
    → LeaveSame limit families (record { copy = copy; positions = positions }) heard
cut_by limit families heard copy positions true is given few =
    let all : take 8193 heard.positions ≡ heard.positions =
    all_taken 8193 heard.positions
    (let most = leb-true (length heard.positions) 8192 few in omega arith) in
    let same : record { copy = copy; positions = positions } ≡ heard =
    ap₂ (λ (c : TaggedCopy) (p : List Reception). record { copy = c; positions = p }) (sym is)
    (given ∙ all) in
    record {
      after = ap (families_after_holding limit families) same;
      family = ap (λ h. (combined_copy_holding limit families h).family) same;
      copy = ap (λ h. (combined_copy_holding limit families h).copy) same;
      sendings = ap (λ h. (combined_copy_holding limit families h).sendings) same;
    }
cut_by limit families heard copy positions false is given many =
    let cut : HeardCopy = record { copy = copy; positions = positions } in
    let long : length positions ≡ min 8193 (length heard.positions) =
    ap length given ∙ length-take 8193 heard.positions in
    let none = no_family limit families heard (too_many heard many) in
    let over : 8192 < length heard.positions = leb-false (length heard.positions) 8192 many in
    let none_cut =
    no_family limit families cut (too_many cut (lt-leb (length positions) 8192 (omega arith))) in
    record {
      after = none_cut.after ∙ sym none.after;
      family = ap (λ (o : CombinedCopy). o.family) none_cut.one
          ∙ sym (ap (λ (o : CombinedCopy). o.family) none.one);
      copy = ap (λ (o : CombinedCopy). o.copy) none_cut.one
          ∙ sym is
          ∙ sym (ap (λ (o : CombinedCopy). o.copy) none.one);
      sendings = ap (λ (o : CombinedCopy). o.sendings) none_cut.one
          ∙ sym (ap (λ (o : CombinedCopy). o.sendings) none.one);
    }

pub cut_same : (limit : ℕ) (families : List Family) (heard : HeardCopy) (copy : TaggedCopy)
    (positions : List Reception) → IsGivenAs heard copy positions
    → LeaveSame limit families (record { copy = copy; positions = positions }) heard
cut_same limit families heard copy positions is =
    cut_by limit families heard copy positions (nat_le (length heard.positions) 8192) is.heard_copy
    is.given refl

-- a combined copy is that of its own copy
own_at : (families : List Family) (heard : HeardCopy) (index : ℕ) (there : Option Family)
    → slice_get families index ≡ there → (combined_at families heard index).own ≡ heard
own_at families heard index None is = rw is refl
own_at families heard index (Some family) is = rw is refl

own_if : (families : List Family) (heard : HeardCopy) (b : Bool) (o : Option ℕ)
    → (if b then option_map_or (combined_at families heard) o (alone (Some (length families)) heard)
    else alone None heard).own ≡ heard
own_if families heard false o = refl
own_if families heard true None = refl
own_if families heard true (Some index) =
    own_at families heard index (slice_get families index) refl

pub own_is : (limit : ℕ) (families : List Family) (heard : HeardCopy)
    → (combined_copy_holding limit families heard).own ≡ heard
unfolding combined_copy_holding
own_is limit families heard = own_if families heard (has_family heard)
    (index_joined_holding limit families heard)

-- what a copy comes to, of which so many positions are given
pub comes_by : (limit : ℕ) (families : List Family) (heard : HeardCopy) (head : EntryHead)
    (text : List ℕ)
    (selected : Bool) (positions : List Reception) (read : List ℕ) (answer : Combined)
    → IsGivenAs heard (headed_copy head text selected) positions
    → IsCombined (combined_copy_holding limit families (heard_of head text selected positions))
    (families_after_holding limit families (heard_of head text selected positions)) read answer
    → ComesTo (combined_copy_holding limit families heard)
    (families_after_holding limit families heard) answer.family
    (meant answer.given read (headed_copy head text selected))
comes_by limit families heard head text selected positions read answer is combined =
    let cut = heard_of head text selected positions in
    let same = cut_same limit families heard (headed_copy head text selected) positions is in
    record {
      of_family = sym same.family
          ∙ combined.family
          ∙ ap (λ (l : List Family). option_map (λ i. length l - 1 - i) answer.family) same.after;
      is = sym same.copy
          ∙ combined.copy
          ∙ ap (λ (h : HeardCopy). meant answer.given read h.copy) (own_is limit families cut);
    }

-- What a call that looks at the index of a family finds.

-- the family of this index is this one, and nothing but this was printed last of it
pub record FoundAt (families : List Family) (before : List CombinedCopy) (one : CombinedCopy)
    (index : ℕ) (found : Option (Option EntryHead)) : Type 0 where
  pub of : one.family ≡ Some (length families - 1 - index)
  pub is : found ≡ Some (last_printed before (length families - 1 - index))

pub within_some : (family : Option ℕ) (index count : ℕ) → family ≡ Some index
    → IfSome family (λ i. i < count) → index < count
within_some family index count is within =
    subst (λ (o : Option ℕ). IfSome o (λ i. i < count)) is within

pub found_at : (limit : ℕ) (families held : List Family) (before : List CombinedCopy)
    (one : CombinedCopy)
    (printed : List (Option EntryHead)) (finder : FinderView) (family : Option ℕ) (index : ℕ)
    (copy : TaggedCopy) (found : Option (Option EntryHead))
    → StandsHolding limit (record { families = held; printed = printed; finder = finder }) families
    before
    → ComesTo one families family copy → family ≡ Some index
    → IfSome family (λ i. i < length held) → found ≡ slice_get printed index
    → FoundAt families before one index found
found_at limit families held before one printed finder family index copy found stands comes is
    within
    there =
    record {
      of = comes.of_family ∙ ap (option_map (λ i. length families - 1 - i)) is;
      is = there ∙ last_at limit families held before printed finder index stands
          (within_some family index (length held) is within);
    }

-- the head of a copy that it heads
pub head_is : (one : CombinedCopy) (head : EntryHead) (text : List ℕ) (selected : Bool)
    → one.copy ≡ headed_copy head text selected → head.errors ≡ errors_of text
    → head_of one.copy ≡ head
head_is one head text selected is errors =
    ap head_of is
    ∙ ap (λ n. let made : EntryHead = record {
      identity = head.identity;
      moment = head.moment;
      how = head.how;
      errors = n;
    } in made) (sym errors)

-- Whether it is printed, by whether its identity is known.

prints_where : (entries content : List MemoryEntry) (before : List CombinedCopy)
    (one : CombinedCopy) (head : EntryHead) (text : List ℕ) (selected known : Bool)
    → content ≡ last_of most_entries entries → one.copy ≡ headed_copy head text selected
    → known ≡ is_known head.identity head.moment content
    → is_printed_combined entries before one
    ≡ ((selected && ((head.identity.number == 0) || not known))
    || (known && is_better_than_before before one))
unfolding is_printed_combined is_printed
prints_where entries content before one head text selected known held is knows =
    ap (λ (t : TaggedCopy). (t.selected && ((t.identity.number == 0)
    || not (is_known t.identity t.moment (last_of most_entries entries))))
    || (is_known t.identity t.moment (last_of most_entries entries)
    && is_better_than_before before one)) is
    ∙ ap (λ k. (selected && ((head.identity.number == 0) || not k))
    || (k && is_better_than_before before one))
    (sym (knows ∙ ap (is_known head.identity head.moment) held))

pub or_false : (b : Bool) → (b || false) ≡ b
or_false true = refl
or_false false = refl

pub prints_known : (entries content : List MemoryEntry) (before : List CombinedCopy)
    (one : CombinedCopy) (head : EntryHead) (text : List ℕ) (selected urgent known : Bool)
    → content ≡ last_of most_entries entries → one.copy ≡ headed_copy head text selected
    → known ≡ is_known head.identity head.moment content → known ≡ true
    → urgent ≡ (selected && (head.identity.number == 0))
    → (urgent || is_better_than_before before one) ≡ is_printed_combined entries before one
prints_known entries content before one head text selected urgent known held is knows passes here =
    ap (λ u. u || is_better_than_before before one)
    (here ∙ ap (λ z. selected && z) (sym (or_false (head.identity.number == 0))))
    ∙ ap (λ k. (selected && ((head.identity.number == 0) || not k))
    || (k && is_better_than_before before one)) (sym passes)
    ∙ sym (prints_where entries content before one head text selected known held is knows)

pub or_true : (b : Bool) → (b || true) ≡ true
or_true true = refl
or_true false = refl

pub and_true : (b : Bool) → (b && true) ≡ b
and_true true = refl
and_true false = refl

pub prints_unknown : (entries content : List MemoryEntry) (before : List CombinedCopy)
    (one : CombinedCopy) (head : EntryHead) (text : List ℕ) (selected known : Bool)
    → content ≡ last_of most_entries entries → one.copy ≡ headed_copy head text selected
    → known ≡ is_known head.identity head.moment content → known ≡ false
    → selected ≡ is_printed_combined entries before one
prints_unknown entries content before one head text selected known held is knows fails =
    sym (or_false (selected && ((head.identity.number == 0) || true))
    ∙ ap (λ z. selected && z) (or_true (head.identity.number == 0))
    ∙ and_true selected)
    ∙ ap (λ k. (selected && ((head.identity.number == 0) || not k))
    || (k && is_better_than_before before one)) (sym fails)
    ∙ sym (prints_where entries content before one head text selected known held is knows)

-- What is left of it, by whether it is printed, and entered.

pub comes_as : (one : CombinedCopy) (families : List Family) (family : Option ℕ)
    (copy other : TaggedCopy) → ComesTo one families family copy → copy ≡ other
    → ComesTo one families family other
comes_as one families family copy other comes same =
    record { of_family = comes.of_family; is = comes.is ∙ same }

pub unprinted : (entries : List MemoryEntry) (before : List CombinedCopy) (one : CombinedCopy)
    → is_printed_combined entries before one ≡ false → if_printed_combined entries before one ≡ []
unfolding if_printed_combined
unprinted entries before one fails = ap (λ b. if b then one ∷ [] else []) fails

pub printed : (entries : List MemoryEntry) (before : List CombinedCopy) (one : CombinedCopy)
    → is_printed_combined entries before one ≡ true
    → if_printed_combined entries before one ≡ one ∷ []
unfolding if_printed_combined
printed entries before one passes = ap (λ b. if b then one ∷ [] else []) passes

pub made_unprinted : (entries : List MemoryEntry) (before : List CombinedCopy)
    (one : CombinedCopy) → is_printed_combined entries before one ≡ false
    → entry_made_combined entries before one ≡ []
unfolding entry_made_combined is_entered_combined
made_unprinted entries before one fails = rw fails refl

pub made_printed : (entries : List MemoryEntry) (before : List CombinedCopy) (one : CombinedCopy)
    (entered : Bool) → is_printed_combined entries before one ≡ true
    → entered ≡ (is_good one.copy && is_some one.family)
    → entry_made_combined entries before one ≡ (if entered then entry_of one.copy ∷ [] else [])
unfolding entry_made_combined is_entered_combined
made_printed entries before one entered passes is =
    ap (λ p. if p && is_good one.copy && is_some one.family then entry_of one.copy ∷ [] else [])
    passes
    ∙ ap (λ b. if b then entry_of one.copy ∷ [] else []) (sym is)

-- What is said of an index, where there is one.

pub some_as : (f : ℕ → ℕ) (o : Option ℕ) → is_some (option_map f o) ≡ is_some o
some_as f None = refl
some_as f (Some i) = refl

pub numbered_some : (o : Option ℕ) (P : Type 0) → is_some o ≡ true → IfSome o (λ i. P) → P
numbered_some None P is h = absurd (let contra : false ≡ true = is in cc)
numbered_some (Some i) P is h = h

-- A combiner that has judged nothing.

pub stands_first : (limit : ℕ) (held : List Family) (printed : List (Option EntryHead))
    (finder : FinderView) → held ≡ [] → printed ≡ []
    → StandsHolding limit (record { families = held; printed = printed; finder = finder }) [] []
unfolding all_last_printed
stands_first limit held printed finder none nothing = record {
  held = none ∙ sym (take-nil limit);
  printed = nothing ∙ sym (take-nil limit);
  begun = tt;
}
