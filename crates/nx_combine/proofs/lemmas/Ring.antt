-- What lies in a ring of places, newest first, where one of them is written.
use Rattle.std.proofs.Common.{◌≡◌, ℕ, zero, suc, ◌+◌, ◌-◌, ◌<◌, ◌≤◌, min, Bool, true, false, cond}
use Rattle.std.proofs.Common.{List, [], ◌∷◌, ◌++◌, Some, length, map, take, drop, nat_lt, refl, sym}
use Rattle.std.proofs.Common.{ap, ap₂, ◌∙◌, arith, append-nil, not, None}
use Rattle.std.proofs.Math.ListN.{set}
use Rattle.std.proofs.Math.Seq.{take-append-add, take-set-lt}
use Rattle.std.proofs.lemmas.Bool.{cases_lt, le-ltb, lt-ltb, ltb-false, ltb-true, ne_eqb}
use Rattle.std.proofs.lemmas.List.{drop-set, drop-set-add, drop-set-lt, length-append, length-drop}
use Rattle.std.proofs.lemmas.List.{length-take, set-append_left, set-append_right, take-set, take-set-le}
use Rattle.std.proofs.Common.{get_or, inl, inr}
use Rattle.std.proofs.lemmas.List.{length-map, length-set, map-set, take-map}
use Rattle.std.proofs.lemmas.Option.{slice_get-get_or, slice_get-map, slice_get_within}
use Rattle.std.specs.Prelude.{position, slice_get, ◌==◌}
use Rattle.std.specs.List.{prefix_len}
use Rattle.std.specs.Option.{option_map, option_map_or}
use Rattle.nx_code.specs.Reading.{Reception}
use Rattle.nx_envelope.specs.declared.identity.Identity.{Identity}
use Rattle.nx_combine.specs.CopyPositions.{HeardCopy}
use Rattle.nx_combine.specs.Families.{Family, joined_at, joined_by}
use Rattle.circular_buffer.proofs.Places.{slice_get-append_left, slice_get-append_right}
use Rattle.circular_buffer.proofs.Places.{slice_get-drop, slice_get-take}
use Rattle.nx_combine.specs.FamilyPlaces.{newest_first}
use Rattle.nx_combine.specs.private.RingPlaces.{place_at, place_before}

-- the places from the first one on
abbrev pub round : {X : Type 0} → ℕ → List X → List X
round first xs = drop first xs ++ take first xs

pub length-round : {X : Type 0} (first : ℕ) (xs : List X) → first ≤ length xs
    → length (round first xs) ≡ length xs
length-round first xs within =
    let long = length-append (drop first xs) (take first xs) in
    let behind = length-drop first xs in
    let before = length-take first xs in
    omega arith

pub length-newest : {X : Type 0} (first taken : ℕ) (xs : List X) → first ≤ length xs
    → taken ≤ length xs → length (newest_first first taken xs) ≡ taken
length-newest first taken xs within few =
    let cut = length-take taken (round first xs) in
    let long = length-round first xs within in
    omega arith

at_if : {X : Type 0} (first index : ℕ) (xs : List X) (b : Bool) → first < length xs
    → index < length xs → nat_lt index (length xs - first) ≡ b
    → slice_get (round first xs) index
    ≡ slice_get xs (cond b (first + index) (index - (length xs - first)))
at_if first index xs true within below is =
    let behind = length-drop first xs in
    let near = ltb-true index (length xs - first) is in
    slice_get-append_left (drop first xs) (take first xs) index (omega arith)
    ∙ slice_get-drop first xs index (first + index) refl
at_if first index xs false within below is =
    let behind = length-drop first xs in
    let far = ltb-false index (length xs - first) is in
    slice_get-append_right (drop first xs) (take first xs) index (index - (length xs - first))
    (omega arith)
    ∙ slice_get-take first xs (index - (length xs - first)) (omega arith)

-- what lies at an index
pub newest_at : {X : Type 0} (first taken index : ℕ) (xs : List X) → first < length xs
    → taken ≤ length xs → index < taken
    → slice_get (newest_first first taken xs) index
    ≡ slice_get xs (place_at first index (length xs))
newest_at first taken index xs within few below =
    slice_get-take taken (round first xs) index below
    ∙ at_if first index xs (nat_lt index (length xs - first)) within (omega arith) refl

set_if : {X : Type 0} (first index : ℕ) (xs : List X) (x : X) (b : Bool) → first < length xs
    → index < length xs → nat_lt index (length xs - first) ≡ b
    → round first (set xs (cond b (first + index) (index - (length xs - first))) x)
    ≡ set (round first xs) index x
set_if first index xs x true within below is =
    let behind = length-drop first xs in
    let near = ltb-true index (length xs - first) is in
    ap₂ (λ l r. l ++ r) (drop-set-add first xs index x)
    (take-set-le first xs (first + index) x (omega arith))
    ∙ sym (set-append_left (drop first xs) (take first xs) index x (omega arith))
set_if first index xs x false within below is =
    let behind = length-drop first xs in
    let far = ltb-false index (length xs - first) is in
    ap₂ (λ l r. l ++ r)
    (drop-set-lt first xs (index - (length xs - first)) x (omega arith))
    (take-set-lt first xs (index - (length xs - first)) x (omega arith))
    ∙ sym (set-append_right (drop first xs) (take first xs) (length xs - first) index x behind far)

-- where the place of an index is written, that at the index is another one
pub newest_set : {X : Type 0} (first taken index : ℕ) (xs : List X) (x : X) → first < length xs
    → taken ≤ length xs → index < taken
    → newest_first first taken (set xs (place_at first index (length xs)) x)
    ≡ set (newest_first first taken xs) index x
newest_set first taken index xs x within few below =
    ap (take taken)
    (set_if first index xs x (nat_lt index (length xs - first)) within (omega arith) refl)
    ∙ take-set-lt taken (round first xs) index x below

take_both : {X : Type 0} (a b : ℕ) (xs : List X) → take a (take b xs) ≡ take (min a b) xs
take_both zero b xs = ap (λ n. take n xs) (let none : 0 ≡ min 0 b = omega arith in none)
take_both (suc a) zero xs = ap (λ n. take n xs) (let none : 0 ≡ min (suc a) 0 = omega arith in none)
take_both (suc a) (suc b) [] =
    ap (λ n. take n []) (let one : suc (min a b) ≡ min (suc a) (suc b) = omega arith in one)
take_both (suc a) (suc b) (x ∷ xs) =
    ap (λ l. x ∷ l) (take_both a b xs)
    ∙ ap (λ n. take n (x ∷ xs))
    (let one : suc (min a b) ≡ min (suc a) (suc b) = omega arith in one)

drop_all : {X : Type 0} (n : ℕ) (xs : List X) → length xs ≤ n → drop n xs ≡ []
drop_all zero [] few = refl
drop_all (suc n) [] few = refl
drop_all zero (x ∷ xs) few = absurd (omega arith)
drop_all (suc n) (x ∷ xs) few = drop_all n xs (omega arith)

-- one more that begins before the first one, and the oldest is forgotten
round_begun : {X : Type 0} (first most : ℕ) (xs : List X) (x : X) → length xs ≡ suc most
    → first < length xs
    → round (place_before first (length xs)) (set xs (place_before first (length xs)) x)
    ≡ x ∷ take most (round first xs)
round_begun zero most xs x long within =
    let last : length xs - 1 ≡ most = omega arith in
    ap (λ n. round n (set xs n x)) last
    ∙ ap₂ (λ l r. l ++ r) (drop-set xs most x (omega arith)) (take-set xs most x)
    ∙ ap (λ l. (x ∷ l) ++ take most xs) (drop_all (most + 1) xs (omega arith))
    ∙ ap (λ l. x ∷ take most l) (sym (append-nil xs))
round_begun (suc first) most xs x long within =
    let none : (suc first == 0) ≡ false = ne_eqb (suc first) 0 (λ same. omega arith) in
    let one : suc first - 1 ≡ first = omega arith in
    let before : place_before (suc first) (length xs) ≡ first =
    ap (λ b. cond b (length xs - 1) (suc first - 1)) none ∙ one in
    let next : first + 1 ≡ suc first = omega arith in
    let behind = length-drop (suc first) xs in
    let much : most ≡ length (drop (suc first) xs) + first = omega arith in
    let fewer : first ≡ min first (suc first) = omega arith in
    ap (λ n. round n (set xs n x)) before
    ∙ ap₂ (λ l r. l ++ r) (drop-set xs first x (omega arith)) (take-set xs first x)
    ∙ ap (λ n. (x ∷ drop n xs) ++ take first xs) next
    ∙ ap (λ l. x ∷ (drop (suc first) xs ++ l))
    (ap (λ n. take n xs) fewer ∙ sym (take_both first (suc first) xs))
    ∙ ap (λ l. x ∷ l) (sym (take-append-add (drop (suc first) xs) (take (suc first) xs) first))
    ∙ ap (λ n. x ∷ take n (round (suc first) xs)) (sym much)

begun_by : {X : Type 0} (first taken most : ℕ) (xs : List X) (x : X) → length xs ≡ suc most
    → first < length xs → taken ≤ length xs
    → newest_first (place_before first (length xs)) (min (length xs) (taken + 1))
    (set xs (place_before first (length xs)) x)
    ≡ take (length xs) (x ∷ newest_first first taken xs)
begun_by first taken most xs x long within few =
    let count : min (length xs) (taken + 1) ≡ suc (min most taken) = omega arith in
    let fewer : min (min most taken) most ≡ min most taken = omega arith in
    ap₂ (λ n l. take n l) count (round_begun first most xs x long within)
    ∙ ap (λ l. x ∷ l) (take_both (min most taken) most (round first xs)
    ∙ ap (λ n. take n (round first xs)) fewer
    ∙ sym (take_both most taken (round first xs)))
    ∙ ap (λ n. take n (x ∷ newest_first first taken xs)) (sym long)

pub newest_begun : {X : Type 0} (first taken : ℕ) (xs : List X) (x : X) → first < length xs
    → taken ≤ length xs
    → newest_first (place_before first (length xs)) (min (length xs) (taken + 1))
    (set xs (place_before first (length xs)) x)
    ≡ take (length xs) (x ∷ newest_first first taken xs)
newest_begun first taken xs x within few =
    begun_by first taken (length xs - 1) xs x (omega arith) within few

-- What a place says, by what the families say that lie in the ring.

-- an index of what lies there is below the number of places that are taken
pub below_taken : {X Y : Type 0} (g : X → Y) (first taken index : ℕ) (xs : List X)
    → first < length xs → taken ≤ length xs
    → index < length (map g (newest_first first taken xs)) → index < taken
below_taken g first taken index xs within few below =
    let same = length-map (newest_first first taken xs) g in
    let long = length-newest first taken xs (omega arith) few in
    omega arith

-- what lies at an index is what lies at its place
pub lent_at : {X Y : Type 0} (g : X → Y) (first taken index at : ℕ) (xs : List X) (place : X)
    → first < length xs → taken ≤ length xs → index < taken
    → at ≡ place_at first index (length xs) → at < length xs → place ≡ get_or xs at place
    → slice_get (map g (newest_first first taken xs)) index ≡ Some (g place)
lent_at g first taken index at xs place within few below is there read =
    slice_get-map g (newest_first first taken xs) index
    ∙ ap (option_map g)
    (newest_at first taken index xs within few below
    ∙ ap (slice_get xs) (sym is)
    ∙ slice_get-get_or xs at place there
    ∙ ap Some (sym read))

-- what lies there where a place is written
pub lent_set : {X Y : Type 0} (g : X → Y) (first taken index at : ℕ) (xs : List X) (new : X)
    → first < length xs → taken ≤ length xs → index < taken
    → at ≡ place_at first index (length xs)
    → map g (newest_first first taken (set xs at new))
    ≡ set (map g (newest_first first taken xs)) index (g new)
lent_set g first taken index at xs new within few below is =
    ap (λ k. map g (newest_first first taken (set xs k new))) is
    ∙ ap (map g) (newest_set first taken index xs new within few below)
    ∙ map-set g (newest_first first taken xs) index new

-- nothing changes where the same is set
pub set_same : {Y : Type 0} (ys : List Y) (index : ℕ) (y : Y) → slice_get ys index ≡ Some y
    → set ys index y ≡ ys
set_same [] index y there = refl
set_same (x ∷ ys) zero y there =
    let same : x ≡ y = cc in ap (λ z. z ∷ ys) (sym same)
set_same (x ∷ ys) (suc index) y there = ap (λ l. x ∷ l) (set_same ys index y there)

pub lent_kept : {X Y : Type 0} (g : X → Y) (first taken index at : ℕ) (xs : List X)
    (place new : X) → first < length xs → taken ≤ length xs → index < taken
    → at ≡ place_at first index (length xs) → at < length xs → place ≡ get_or xs at place
    → g new ≡ g place
    → map g (newest_first first taken (set xs at new)) ≡ map g (newest_first first taken xs)
lent_kept g first taken index at xs place new within few below is there read same =
    lent_set g first taken index at xs new within few below is
    ∙ ap (set (map g (newest_first first taken xs)) index) same
    ∙ set_same (map g (newest_first first taken xs)) index (g place)
    (lent_at g first taken index at xs place within few below is there read)

-- what lies there where one more begins
pub lent_begun : {X Y : Type 0} (g : X → Y) (first taken at count : ℕ) (xs : List X) (new : X)
    (y : Y) → first < length xs → taken ≤ length xs → at ≡ place_before first (length xs)
    → count ≡ min (length (set xs at new)) (taken + 1) → g new ≡ y
    → map g (newest_first at count (set xs at new))
    ≡ take (length xs) (y ∷ map g (newest_first first taken xs))
lent_begun g first taken at count xs new y within few is counts same =
    let long = length-set xs at new in
    let same_count : count ≡ min (length xs) (taken + 1) =
    counts ∙ ap (λ n. min n (taken + 1)) long in
    ap₂ (λ k m. map g (newest_first k m (set xs k new))) is same_count
    ∙ ap (map g) (newest_begun first taken xs new within few)
    ∙ sym (take-map g (length xs) (new ∷ newest_first first taken xs))
    ∙ ap (λ z. take (length xs) (z ∷ map g (newest_first first taken xs))) same

-- the family that is joined, among those that lie there
pub lent_joined : (families : List Family) (heard : HeardCopy) (index : ℕ) (family new : Family)
    → slice_get families index ≡ Some family → new ≡ joined_by heard family
    → set families index new ≡ joined_at families heard index
lent_joined families heard index family new there is =
    ap (set families index) is
    ∙ ap (λ o. option_map_or (λ (f : Family). set families index (joined_by heard f)) o families)
    (sym there)

-- a family by its parts
pub family_is : (family : Family) (identity : Identity) (moment : ℕ) (positions : List Reception)
    (sendings : ℕ)
    → family.identity ≡ identity → family.moment ≡ moment → family.positions ≡ positions
    → family.sendings ≡ sendings
    → family ≡ record {
      identity = identity;
      moment = moment;
      positions = positions;
      sendings = sendings;
    }
family_is family identity moment positions sendings i m p s =
    ap₂ (λ a b. let made : Family = record {
      identity = a;
      moment = b;
      positions = family.positions;
      sendings = family.sendings;
    } in made) i m
    ∙ ap₂ (λ l n. let made : Family = record {
      identity = identity;
      moment = moment;
      positions = l;
      sendings = n;
    } in made) p s

-- The first index at which a test passes, by what stands at the indices.

first_by : {X : Type 0} (p : X → Bool) (xs : List X) (index : ℕ) (x : X)
    → slice_get xs index ≡ Some x → p x ≡ true
    → ((k : ℕ) (y : X) → k < index → slice_get xs k ≡ Some y → p y ≡ false)
    → prefix_len (λ y. not (p y)) xs ≡ index
first_by p [] index x there passes fails = absurd (let contra : None ≡ Some x = there in cc)
first_by p (y ∷ xs) zero x there passes fails =
    let same : y ≡ x = cc in
    ap (λ b. cond (not b) (1 + prefix_len (λ z. not (p z)) xs) 0) (ap p same ∙ passes)
first_by p (y ∷ xs) (suc index) x there passes fails =
    ap (λ b. cond (not b) (1 + prefix_len (λ z. not (p z)) xs) 0) (fails 0 y (omega arith) refl)
    ∙ ap (λ n. 1 + n) (first_by p xs index x there passes
    (λ k z below. fails (suc k) z (omega arith)))
    ∙ omega arith

all_by : {X : Type 0} (p : X → Bool) (xs : List X)
    → ((k : ℕ) (y : X) → slice_get xs k ≡ Some y → p y ≡ false)
    → prefix_len (λ y. not (p y)) xs ≡ length xs
all_by p [] fails = refl
all_by p (y ∷ xs) fails =
    ap (λ b. cond (not b) (1 + prefix_len (λ z. not (p z)) xs) 0) (fails 0 y refl)
    ∙ ap (λ n. 1 + n) (all_by p xs (λ k z. fails (suc k) z))
    ∙ omega arith

pub position_by : {X : Type 0} (p : X → Bool) (xs : List X) (index : ℕ) (x : X)
    → slice_get xs index ≡ Some x → p x ≡ true
    → ((k : ℕ) (y : X) → k < index → slice_get xs k ≡ Some y → p y ≡ false)
    → position p xs ≡ Some index
position_by p xs index x there passes fails =
    ap (λ a. cond (nat_lt a (length xs)) (Some a) None) (first_by p xs index x there passes fails)
    ∙ ap (λ b. cond b (Some index) None)
    (lt-ltb index (length xs) (slice_get_within xs index x there))

pub position_none : {X : Type 0} (p : X → Bool) (xs : List X)
    → ((k : ℕ) (y : X) → slice_get xs k ≡ Some y → p y ≡ false) → position p xs ≡ None
position_none p xs fails =
    ap (λ a. cond (nat_lt a (length xs)) (Some a) None) (all_by p xs fails)
    ∙ ap (λ b. cond b (Some (length xs)) None) (le-ltb (length xs) (length xs) (omega arith))

-- one index more at which the test fails
pub fails_next : {X : Type 0} (p : X → Bool) (xs : List X) (index : ℕ) (x : X)
    → slice_get xs index ≡ Some x → p x ≡ false
    → ((k : ℕ) (y : X) → k < index → slice_get xs k ≡ Some y → p y ≡ false)
    → (k : ℕ) (y : X) → k < index + 1 → slice_get xs k ≡ Some y → p y ≡ false
fails_next p xs index x there fails before k y below at =
    elim (cases_lt k index) [
      | inl less ↦ before k y less at
      | inr more ↦
          let here : k ≡ index = omega arith in
          let both : Some x ≡ Some y = sym there ∙ ap (slice_get xs) (sym here) ∙ at in
          let same : x ≡ y = cc in
          sym (ap p same) ∙ fails
    ]
