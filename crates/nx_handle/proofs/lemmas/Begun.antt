-- Channels that begin with what is saved of them.
use Rattle.std.proofs.Common.{◌≡◌, ◌<◌, ◌≤◌, ◌+◌, inl, inr, ℕ, zero, suc, List, [], length, slice_set, Some, arith, refl, sym, ◌∙◌, subst}
use Rattle.std.proofs.lemmas.Bool.{cases_lt}
use Rattle.nx_fec.specs.air_files.Channels.{channel_number}
use Rattle.nx_fec.specs.declared.air_files.channel.Channel.{Channel}
use Rattle.nx_fec.specs.declared.air_files.channel.Channel.TheVariants.{Zero, One, Two}
use Rattle.nx_copies.specs.copies.Shares.{start_on, starts_from}
use Rattle.nx_memory.specs.Saved.{SavedStates}
use Rattle.nx_receiver.specs.air_file_runs.State.{BeginsWith}
use Rattle.nx_handle.specs.Life.{HasHeard}
use Rattle.nx_handle.specs.PlaceKinds.{HasBegun, IsPlaceKind, PlaceKind}
use Rattle.nx_handle.specs.Places.{HaveRoom, place_on}
use Rattle.nx_handle.specs.Saving.{HasNoMore}
use Rattle.nx_handle.specs.private.Opening.{BeginsIn, ShutSame}
use Rattle.nx_handle.proofs.lemmas.Heard.{begun-in}
use Rattle.nx_handle.proofs.lemmas.New.{has-begun, room-stays}
use Rattle.nx_handle.proofs.lemmas.Places.{number-is, room-kept, set-here, set-there}
use Rattle.nx_handle.proofs.lemmas.Saving.{begins-all, begins-as}

-- a place hears with a receiver that starts with what is saved of a channel
abbrev pub BeginsFrom : {P : Type 0} → PlaceKind P → P → Channel → SavedStates → Type 0
BeginsFrom kind place channel states =
    BeginsIn kind place (start_on (starts_from states) channel)

-- a channel has begun, with the state with which the bytes begin
abbrev pub BeginsAt : {P : Type 0} → PlaceKind P → List ℕ → ℕ → List P → Channel → Type 0
BeginsAt {P} kind bytes count places channel =
    (place : P) × (place_on places channel ≡ Some place)
    × BeginsWith bytes (λ states more. HasNoMore count states
    × BeginsFrom kind place channel states)

-- one more has begun
pub begun-more : {P : Type 0} (kind : PlaceKind P) → IsPlaceKind kind → (bytes : List ℕ)
    (count : ℕ) (places : List P) (on : Channel) (was place : P)
    → channel_number on < length places
    → ((channel : Channel) → channel_number channel < channel_number on
    → BeginsAt kind bytes count places channel)
    → BeginsWith bytes (λ states more. HasNoMore count states
    × HasBegun kind was place (start_on (starts_from states) on))
    → (channel : Channel) → channel_number channel < channel_number on + 1
    → BeginsAt kind bytes count (slice_set places (channel_number on) place) channel
begun-more kind laws bytes count places on was place has before now channel lt =
    elim (cases_lt (channel_number channel) (channel_number on)) [
      | inl less ↦
          let b = before channel less in (
            b.0,
            set-there places (channel_number on) (channel_number channel) place
                (λ e. omega (arith, less, e)) ∙ b.1,
            b.2,
          )
      | inr more ↦
          let same : on ≡ channel = number-is on channel (omega (arith, lt, more)) in
          subst (BeginsAt kind bytes count (slice_set places (channel_number on) place)) same (
            place,
            set-here places (channel_number on) place has,
            begins-as bytes
                (λ states more. HasNoMore count states
                × HasBegun kind was place (start_on (starts_from states) on))
                (λ states more. HasNoMore count states × BeginsFrom kind place on states)
                (λ states more h. (
                  h.0,
                  has-begun kind laws was place (start_on (starts_from states) on) h.1,
                )) now,
          )
    ]

channel-of : (k : ℕ) → k < 3 → (channel : Channel) × (channel_number channel ≡ k)
channel-of zero lt = (Zero, refl)
channel-of (suc zero) lt = (One, refl)
channel-of (suc (suc zero)) lt = (Two, refl)
channel-of (suc (suc (suc k))) lt = absurd (omega (arith, lt))

-- what holds of each channel of a number
OfNumber : {P : Type 0} → PlaceKind P → ℕ → List P → ℕ → SavedStates → Type 0
OfNumber {P} kind count places k states =
    HasNoMore count states × ((channel : Channel) → channel_number channel ≡ k
    → (place : P) × (place_on places channel ≡ Some place)
    × BeginsFrom kind place channel states)

-- all have begun
pub all-begun : {P : Type 0} (kind : PlaceKind P) → IsPlaceKind kind → (bytes : List ℕ)
    (count : ℕ) (old places : List P) → 0 < count → count ≤ 3 → length places ≡ count
    → ShutSame kind old places
    → ((channel : Channel) → channel_number channel < count
    → BeginsAt kind bytes count places channel)
    → BeginsWith bytes (λ states more. HasNoMore count states
    × ((held : ℕ) → HaveRoom kind held old
    → HasHeard kind held (starts_from states) places [] []))
unfolding OfNumber
all-begun {P} kind laws bytes count old places some few long same begun =
    begins-as bytes
    (λ states more. (k : ℕ) → k < count → OfNumber kind count places k states)
    (λ states more. HasNoMore count states
    × ((held : ℕ) → HaveRoom kind held old
    → HasHeard kind held (starts_from states) places [] []))
    (λ states more all. (
      (all 0 some).0,
      λ held room.
          let have = room-stays kind held old places (room-kept kind laws old places same) room in
          begun-in kind laws held (starts_from states) places (omega (arith, some, long))
          (λ channel has.
          let r = (all (channel_number channel) (omega (arith, has, long))).1 channel refl in
          record {
            place = r.0;
            there = λ _. r.1;
            stands = subst (λ n. kind.stands n (start_on (starts_from states) channel) r.0 [] [])
                (have channel r.0 r.1) r.2.stands;
          })
          (λ channel le. ((all 0 some).0 channel (omega (arith, le, long))).entries),
    ))
    (begins-all bytes (OfNumber kind count places) count some (λ k lt.
    let c = channel-of k (omega (arith, lt, few)) in
    let b = begun c.0 (omega (arith, lt, c.1)) in
    begins-as bytes (λ states more. HasNoMore count states × BeginsFrom kind b.0 c.0 states)
    (λ states more. OfNumber kind count places k states)
    (λ states more h. (
      h.0,
      λ channel e.
          let same : c.0 ≡ channel = number-is c.0 channel (c.1 ∙ sym e) in
          subst (λ x. (place : P) × (place_on places x ≡ Some place)
          × BeginsFrom kind place x states) same (b.0, b.1, h.1),
    )) b.2))
