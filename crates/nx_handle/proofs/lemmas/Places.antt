-- Places in a list, and channels by their numbers.
use Rattle.std.proofs.Common.{◌≡◌, ◌≢◌, ◌<◌, ◌≤◌, ◌+◌, ◌⊎◌, inl, inr, ℕ, zero, suc, Bool, true, false, List, [], ◌∷◌, ◌++◌, length, map, take, drop, get_or, slice_get, slice_set, Option, Some, None, Result, Ok, Err, OnOk, arith, refl, sym, subst, ap, ap₂, ◌∙◌}
use Rattle.std.specs.List.{list_all}
use Rattle.std.proofs.lemmas.Option.{slice_get-get_or}
use Rattle.std.proofs.lemmas.Bool.{and_from, and_parts, true≢false}
use Rattle.std.proofs.lemmas.List.{length-map}
use Rattle.nx_fec.specs.air_files.Channels.{channel_number, same_channel}
use Rattle.nx_fec.specs.declared.air_files.channel.Channel.{Channel}
use Rattle.nx_fec.specs.declared.air_files.channel.Channel.TheVariants.{Zero, One, Two}
use Rattle.nx_handle.specs.PlaceKinds.{IsPlaceKind, PlaceKind, SameRoom}
use Rattle.nx_handle.specs.Places.{KeepsRoom, all_closed}
use Rattle.nx_handle.specs.private.Opening.{ShutSame}

pub some-is : {A : Type 0} {x y : A} → Some x ≡ Some y → x ≡ y
some-is e = cc

IsOne : {A : Type 0} → Option A → Type 0
IsOne None = ⊥
IsOne (Some x) = Unit {0}

pub none-is : {A : Type 0} {x : A} → None ≡ Some x → ⊥
unfolding IsOne
none-is {A} {x} e = subst (λ (o : Option A). IsOne o) (sym e) tt

-- ---- a list

pub set-here : {X : Type 0} (xs : List X) (k : ℕ) (x : X) → k < length xs
    → slice_get (slice_set xs k x) k ≡ Some x
set-here [] k x lt = absurd (omega (arith, lt))
set-here (y ∷ ys) zero x lt = refl
set-here (y ∷ ys) (suc k) x lt = set-here ys k x (omega (arith, lt))

pub set-there : {X : Type 0} (xs : List X) (k j : ℕ) (x : X) → j ≢ k
    → slice_get (slice_set xs k x) j ≡ slice_get xs j
set-there [] k j x apart = refl
set-there (y ∷ ys) zero zero x apart = absurd (apart refl)
set-there (y ∷ ys) zero (suc j) x apart = refl
set-there (y ∷ ys) (suc k) zero x apart = refl
set-there (y ∷ ys) (suc k) (suc j) x apart = set-there ys k j x (λ e. apart (ap suc e))

pub set-long : {X : Type 0} (xs : List X) (k : ℕ) (x : X)
    → length (slice_set xs k x) ≡ length xs
set-long [] k x = refl
set-long (y ∷ ys) zero x = refl
set-long (y ∷ ys) (suc k) x = ap suc (set-long ys k x)

-- one that stands there
pub there : {X : Type 0} (xs : List X) (k : ℕ) → k < length xs
    → (x : X) × (slice_get xs k ≡ Some x)
there [] k lt = absurd (omega (arith, lt))
there (y ∷ ys) zero lt = (y, refl)
there (y ∷ ys) (suc k) lt = there ys k (omega (arith, lt))

pub past : {X : Type 0} (xs : List X) (k : ℕ) → length xs ≤ k → slice_get xs k ≡ None
past [] k le = refl
past (y ∷ ys) zero le = absurd (omega (arith, le))
past (y ∷ ys) (suc k) le = past ys k (omega (arith, le))

pub within : {X : Type 0} (xs : List X) (k : ℕ) (x : X) → slice_get xs k ≡ Some x → k < length xs
within [] k x e = absurd (none-is e)
within (y ∷ ys) zero x e = omega arith
within (y ∷ ys) (suc k) x e = let lt = within ys k x e in omega (arith, lt)

-- lists are the same that have the same at each place
pub same-list : {X : Type 0} (xs ys : List X) → ((k : ℕ) → slice_get xs k ≡ slice_get ys k)
    → xs ≡ ys
same-list [] [] h = refl
same-list [] (y ∷ ys) h = absurd (none-is (h 0))
same-list (x ∷ xs) [] h = absurd (none-is (sym (h 0)))
same-list (x ∷ xs) (y ∷ ys) h =
    ap₂ (λ a rest. a ∷ rest) (some-is (h 0)) (same-list xs ys (λ k. h (suc k)))

-- ---- a test of each

pub each-is : {X : Type 0} (test : X → Bool) (xs : List X) (k : ℕ) (x : X)
    → list_all test xs ≡ true → slice_get xs k ≡ Some x → test x ≡ true
each-is test [] k x all e = absurd (none-is e)
each-is test (y ∷ ys) zero x all e =
    ap test (sym (some-is e)) ∙ (and_parts (test y) (list_all test ys) all).0
each-is test (y ∷ ys) (suc k) x all e =
    each-is test ys k x (and_parts (test y) (list_all test ys) all).1 e

-- another that passes the test
pub all-set : {X : Type 0} (test : X → Bool) (xs : List X) (k : ℕ) (x : X)
    → list_all test xs ≡ true → test x ≡ true → list_all test (slice_set xs k x) ≡ true
all-set test [] k x all is = all
all-set test (y ∷ ys) zero x all is =
    and_from (test x) (list_all test ys) is (and_parts (test y) (list_all test ys) all).1
all-set test (y ∷ ys) (suc k) x all is =
    and_from (test y) (list_all test (slice_set ys k x))
    (and_parts (test y) (list_all test ys) all).0
    (all-set test ys k x (and_parts (test y) (list_all test ys) all).1 is)

not-true : (b : Bool) → (b ≡ true → ⊥) → b ≡ false
not-true true never = absurd (never refl)
not-true false never = refl

-- not all pass where one doesn't
pub not-all : {X : Type 0} (test : X → Bool) (xs : List X) (k : ℕ) (x : X)
    → slice_get xs k ≡ Some x → test x ≡ false → list_all test xs ≡ false
not-all test xs k x e is =
    not-true (list_all test xs) (λ all. true≢false (sym (each-is test xs k x all e) ∙ is))

-- ---- places that are shut

pub shut-closed : {P : Type 0} (kind : PlaceKind P) → IsPlaceKind kind → (places : List P)
    → all_closed kind (map kind.shut places) ≡ true
shut-closed kind laws [] = refl
shut-closed kind laws (x ∷ xs) =
    and_from (kind.is_closed (kind.shut x)) (all_closed kind (map kind.shut xs))
    (laws.shut_closed x) (shut-closed kind laws xs)

-- a receiver that is closed stays as it is
pub closed-shut : {P : Type 0} (kind : PlaceKind P) → IsPlaceKind kind → (places : List P)
    → all_closed kind places ≡ true → map kind.shut places ≡ places
closed-shut kind laws [] e = refl
closed-shut kind laws (x ∷ xs) e =
    ap₂ (λ a rest. a ∷ rest)
    (laws.closed_shut x (and_parts (kind.is_closed x) (all_closed kind xs) e).0)
    (closed-shut kind laws xs (and_parts (kind.is_closed x) (all_closed kind xs) e).1)

-- where a function of a place stays the same once it is shut, it does of places
shut-keeps : {P Y : Type 0} (kind : PlaceKind P) (f : P → Y)
    → ((place : P) → f (kind.shut place) ≡ f place) → (places : List P)
    → map f (map kind.shut places) ≡ map f places
shut-keeps kind f same [] = refl
shut-keeps kind f same (x ∷ xs) =
    ap₂ (λ a rest. a ∷ rest) (same x) (shut-keeps kind f same xs)

-- places that are the same ones once they are closed have the same room, and are as many
pub room-kept : {P : Type 0} (kind : PlaceKind P) → IsPlaceKind kind → (old new : List P)
    → ShutSame kind old new → KeepsRoom kind old new
room-kept kind laws old new same = record {
  families = sym (shut-keeps kind kind.families (λ p. (laws.shut_room p).families) new)
      ∙ ap (map kind.families) same
      ∙ shut-keeps kind kind.families (λ p. (laws.shut_room p).families) old;
  vacant = sym (shut-keeps kind kind.vacant (λ p. (laws.shut_room p).vacant) new)
      ∙ ap (map kind.vacant) same
      ∙ shut-keeps kind kind.vacant (λ p. (laws.shut_room p).vacant) old;
}

pub rooms-same : {P : Type 0} (kind : PlaceKind P) {old new : List P} → new ≡ old
    → KeepsRoom kind old new
rooms-same kind is =
    record { families = ap (map kind.families) is; vacant = ap (map kind.vacant) is }

pub rooms-then : {P : Type 0} (kind : PlaceKind P) {old mid new : List P}
    → KeepsRoom kind old mid → KeepsRoom kind mid new → KeepsRoom kind old new
rooms-then kind first then = record {
  families = then.families ∙ first.families;
  vacant = then.vacant ∙ first.vacant;
}

pub room-then : {P : Type 0} (kind : PlaceKind P) {old mid new : P}
    → SameRoom kind old mid → SameRoom kind mid new → SameRoom kind old new
room-then kind first then = record {
  families = then.families ∙ first.families;
  vacant = then.vacant ∙ first.vacant;
}

pub long-kept : {P : Type 0} (kind : PlaceKind P) (old new : List P) → ShutSame kind old new
    → length new ≡ length old
long-kept kind old new same =
    sym (length-map new kind.shut) ∙ ap length same ∙ length-map old kind.shut

-- shutting them twice is shutting them once
shut-twice : {P : Type 0} (kind : PlaceKind P) → IsPlaceKind kind → (places : List P)
    → map kind.shut (map kind.shut places) ≡ map kind.shut places
shut-twice kind laws places =
    closed-shut kind laws (map kind.shut places) (shut-closed kind laws places)

pub shut-same : {P : Type 0} (kind : PlaceKind P) → IsPlaceKind kind → (old new : List P)
    → new ≡ map kind.shut old → ShutSame kind old new
shut-same kind laws old new e = ap (map kind.shut) e ∙ shut-twice kind laws old

-- a closed receiver that was opened is as it was once it is closed again
pub closed-again : {P : Type 0} (kind : PlaceKind P) → IsPlaceKind kind → (old new end : List P)
    → all_closed kind old ≡ true → ShutSame kind old new → end ≡ map kind.shut new → end ≡ old
closed-again kind laws old new end closed same e = e ∙ same ∙ closed-shut kind laws old closed

-- another place there, of which the same holds
-- those so far are shut, and the others are as they were
abbrev pub first_shut : {X : Type 0} → (X → X) → ℕ → List X → List X
first_shut f count xs = map f (take count xs) ++ drop count xs

shut-more : {X : Type 0} (f : X → X) (xs : List X) (i : ℕ) (d : X) → i < length xs
    → slice_set (first_shut f i xs) i (f (get_or (first_shut f i xs) i d))
    ≡ first_shut f (suc i) xs
shut-more f [] i d lt = absurd (omega (arith, lt))
shut-more f (x ∷ xs) zero d lt = refl
shut-more f (x ∷ xs) (suc i) d lt =
    ap (λ rest. f x ∷ rest) (shut-more f xs i d (omega (arith, lt)))

pub shut-next : {X : Type 0} (f : X → X) (xs now : List X) (i : ℕ) (d x : X) → i < length xs
    → now ≡ first_shut f i xs → x ≡ f (get_or now i d)
    → slice_set now i x ≡ first_shut f (i + 1) xs
shut-next f xs now i d x lt is e =
    let next : suc i ≡ i + 1 = omega arith in
    ap (λ y. slice_set now i y) e
    ∙ ap (λ l. slice_set l i (f (get_or l i d))) is
    ∙ shut-more f xs i d lt ∙ ap (λ n. first_shut f n xs) next

pub set-map : {X Y : Type 0} (f : X → Y) (xs : List X) (k : ℕ) (x y : X)
    → slice_get xs k ≡ Some y → f x ≡ f y → map f (slice_set xs k x) ≡ map f xs
set-map f [] k x y e is = refl
set-map f (z ∷ zs) zero x y e is =
    ap (λ a. a ∷ map f zs) (is ∙ sym (ap f (some-is e)))
set-map f (z ∷ zs) (suc k) x y e is = ap (λ rest. f z ∷ rest) (set-map f zs k x y e is)

-- another place there, which has the same room
pub room-set : {P : Type 0} (kind : PlaceKind P) (places : List P) (k : ℕ) (after was : P)
    → slice_get places k ≡ Some was → SameRoom kind was after
    → KeepsRoom kind places (slice_set places k after)
room-set kind places k after was e room = record {
  families = set-map kind.families places k after was e room.families;
  vacant = set-map kind.vacant places k after was e room.vacant;
}

-- ---- channels

-- two channels are one, or they aren't
pub one-or-other : (channel other : Channel)
    → (channel ≡ other) ⊎ ((same_channel channel other ≡ false)
    × (channel_number other ≢ channel_number channel))
one-or-other Zero Zero = inl refl
one-or-other Zero One = inr (refl, λ e. omega (arith, e))
one-or-other Zero Two = inr (refl, λ e. omega (arith, e))
one-or-other One Zero = inr (refl, λ e. omega (arith, e))
one-or-other One One = inl refl
one-or-other One Two = inr (refl, λ e. omega (arith, e))
one-or-other Two Zero = inr (refl, λ e. omega (arith, e))
one-or-other Two One = inr (refl, λ e. omega (arith, e))
one-or-other Two Two = inl refl

-- the channel of a number
pub number-is : (channel other : Channel) → channel_number channel ≡ channel_number other
    → channel ≡ other
number-is Zero Zero e = refl
number-is Zero One e = absurd (omega (arith, e))
number-is Zero Two e = absurd (omega (arith, e))
number-is One Zero e = absurd (omega (arith, e))
number-is One One e = refl
number-is One Two e = absurd (omega (arith, e))
number-is Two Zero e = absurd (omega (arith, e))
number-is Two One e = absurd (omega (arith, e))
number-is Two Two e = refl

-- one that is read by its place
pub read-at : {X : Type 0} (xs : List X) (i : ℕ) (d : X) (channel : Channel) → i < length xs
    → i ≡ channel_number channel → slice_get xs (channel_number channel) ≡ Some (get_or xs i d)
read-at xs i d channel lt is = ap (slice_get xs) (sym is) ∙ slice_get-get_or xs i d lt

-- ---- results

pub on_ok-both : {A B P Q R : Type 0} (result : Result A B) → OnOk result P → OnOk result Q
    → (P → Q → R) → OnOk result R
on_ok-both (Ok x) p q f = f p q
on_ok-both (Err x) p q f = tt
