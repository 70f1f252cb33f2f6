-- Channels that begin with nothing.
use Rattle.std.proofs.Common.{◌≡◌, ◌<◌, ◌≤◌, ◌&&◌, inl, inr, ℕ, zero, suc, ◌+◌, Bool, true, List, [], ◌∷◌, length, map, slice_get, slice_set, Some, arith, refl, sym, ap, ◌∙◌, subst}
use Rattle.std.specs.List.{list_all}
use Rattle.std.proofs.lemmas.Bool.{cases_lt}
use Rattle.nx_fec.specs.air_files.Channels.{channel_number}
use Rattle.nx_copies.specs.Events.{Start, none_refused}
use Rattle.nx_copies.specs.copies.Shares.{all_at_zero, start_on}
use Rattle.nx_handle.specs.Life.{HasHeard}
use Rattle.nx_handle.specs.PlaceKinds.{HasBegun, IsPlaceKind, PlaceKind, start_with}
use Rattle.nx_handle.specs.Places.{HaveRoom, KeepsRoom, all_hear}
use Rattle.nx_handle.specs.private.Opening.{BeginsIn, HaveBegun}
use Rattle.nx_handle.proofs.lemmas.Heard.{begun-in}
use Rattle.nx_handle.proofs.lemmas.Places.{none-is, set-here, set-there, some-is, there, within}

-- what has begun begins in its place
pub has-begun : {P : Type 0} (kind : PlaceKind P) → IsPlaceKind kind → (old new : P)
    (start : Start) → HasBegun kind old new start → BeginsIn kind new start
has-begun kind laws old new start b = record {
  stands = subst (λ n. kind.stands n start new [] [])
      (sym (laws.has_room (kind.families old) start new [] [] b.stands)) b.stands;
  hears = b.now;
}

-- the first so many places begin so
abbrev pub FirstBegin : {P : Type 0} → PlaceKind P → List P → Start → ℕ → Type 0
FirstBegin {P} kind places start count =
    (k : ℕ) (place : P) → k < count → slice_get places k ≡ Some place → BeginsIn kind place start

pub begin-more : {P : Type 0} (kind : PlaceKind P) (places : List P) (at : ℕ) (place : P)
    (start : Start) → at < length places → BeginsIn kind place start
    → FirstBegin kind places start at
    → FirstBegin kind (slice_set places at place) start (at + 1)
begin-more kind places at place start has begins before k one lt e = elim (cases_lt k at) [
  | inl less ↦ before k one less
      (sym (set-there places at k place (λ same. omega (arith, less, same))) ∙ e)
  | inr more ↦
      let same : k ≡ at = omega (arith, lt, more) in
      let is : place ≡ one = some-is (sym (ap (slice_get (slice_set places at place)) same
      ∙ set-here places at place has) ∙ e) in
      subst (λ p. BeginsIn kind p start) is begins
]

pub all-begin : {P : Type 0} (kind : PlaceKind P) (places : List P) (start : Start) (count : ℕ)
    → length places ≤ count → FirstBegin kind places start count → HaveBegun kind places start
all-begin kind places start count le begin k place e =
    let lt = within places k place e in begin k place (omega (arith, lt, le)) e

-- ---- all hear

all-pass : {X : Type 0} (test : X → Bool) (xs : List X)
    → ((k : ℕ) (x : X) → slice_get xs k ≡ Some x → test x ≡ true) → list_all test xs ≡ true
all-pass test [] h = refl
all-pass test (x ∷ xs) h =
    ap (λ b. b && list_all test xs) (h 0 x refl) ∙ all-pass test xs (λ k y e. h (suc k) y e)

pub all-begun-hear : {P : Type 0} (kind : PlaceKind P) (places : List P) (start : Start)
    → HaveBegun kind places start → all_hear kind places ≡ true
all-begun-hear kind places start h =
    all-pass kind.is_hearing places (λ k place e. (h k place e).hears)

-- ---- room

same-at : {X Y : Type 0} (f : X → Y) (xs ys : List X) (k : ℕ) (y : X)
    → map f ys ≡ map f xs → slice_get ys k ≡ Some y
    → (x : X) × (slice_get xs k ≡ Some x) × (f y ≡ f x)
same-at f xs [] k y same e = absurd (none-is e)
same-at f [] (z ∷ ys) k y same e = cc
same-at f (x ∷ xs) (z ∷ ys) zero y same e =
    let heads : f z ≡ f x = cc in (x, refl, ap f (sym (some-is e)) ∙ heads)
same-at f (x ∷ xs) (z ∷ ys) (suc k) y same e =
    let rest : map f ys ≡ map f xs = cc in same-at f xs ys k y rest e

-- where each had room for so many families, and keeps it, each has it
pub room-stays : {P : Type 0} (kind : PlaceKind P) (held : ℕ) (old new : List P)
    → KeepsRoom kind old new → HaveRoom kind held old → HaveRoom kind held new
room-stays kind held old new keeps have channel place e =
    let was = same-at kind.families old new (channel_number channel) place keeps.families e in
    was.2 ∙ have channel was.0 was.1

pub all-new : {P : Type 0} (kind : PlaceKind P) → IsPlaceKind kind → (held : ℕ)
    (places : List P) → 0 < length places → HaveRoom kind held places
    → HaveBegun kind places (start_with [] 0 none_refused)
    → HasHeard kind held all_at_zero places [] []
all-new kind laws held places some room h =
    begun-in kind laws held all_at_zero places some
    (λ channel has.
    let p = there places (channel_number channel) has in
    let b = h (channel_number channel) p.0 p.1 in
    record {
      place = p.0;
      there = λ _. p.1;
      stands = subst (λ n. kind.stands n (start_on all_at_zero channel) p.0 [] [])
          (room channel p.0 p.1) b.stands;
    })
    (λ channel le. refl)
