-- What contracts say of a place of a channel, of whatever kind, and the laws of a kind (this
-- profile). `held` is how many families are held: none where each copy is judged alone.
use Rattle.std.specs.Prelude.{◌≡◌, ℕ, ◌≤◌, Bool, true, false, List, []}
use Rattle.nx_envelope.specs.Moment.{last_moment}
use Rattle.nx_memory.specs.Saved.{SavedState}
use Rattle.nx_memory.specs.Selection.{Refused}
use Rattle.nx_memory.specs.declared.memories.entry.MemoryEntry.{MemoryEntry}
use Rattle.nx_copies.specs.Events.{Event, Start, at_moment, elements_among}
use Rattle.nx_copies.specs.copies.FoundCopies.{TaggedCopy}
use Rattle.nx_copies.specs.copies.Log.{Printing}
use Rattle.nx_receiver.specs.ChannelReceiver.{IsReceiver, ReceiverKind, TakesEventBy}

-- What there is to say of a place of a kind. It is one of a channel that hears, or of a receiver
-- that is closed, or neither: the channel has ended. `shut` is the place once its receiver is
-- closed. `families` is for how many families it has room, and `vacant` which room that is: the
-- place once it is closed, with nothing in its room.
--
-- `printing held` is what the receiver in it prints, where so many families are held. In `stands
-- held start place events log` that receiver hears, stands after these events, which begin with
-- this start, and handed out this log. `start_of` is with what it starts where it has heard nothing
-- yet, and `text_of` the text of the entry that it handed out last, until it hears more. `leaves
-- held start events saved` says what is saved of it after these events. In `sendings held start
-- events log n` the last copy of this log, which was handed out with these events, is put together
-- from n sendings.
pub record PlaceKind (P : Type 0) : Type 1 where
  pub is_hearing : P → Bool
  pub is_closed : P → Bool
  pub shut : P → P
  pub families : P → ℕ
  pub vacant : P → P
  pub printing : ℕ → Printing
  pub stands : ℕ → Start → P → List Event → List TaggedCopy → Type 0
  pub start_of : P → Start
  pub text_of : P → List ℕ
  pub leaves : ℕ → Start → List Event → SavedState → Type 0
  pub sendings : ℕ → Start → List Event → List TaggedCopy → ℕ → Type 0

-- a place of a kind as a receiver of a channel, where so many families are held
abbrev pub receiver_of : {P : Type 0} → PlaceKind P → ℕ → ReceiverKind P
receiver_of kind held = record {
  printing = kind.printing held;
  stands = kind.stands held;
  start_of = kind.start_of;
  text_of = kind.text_of;
}

-- whatever the receiver in a place was given before, it takes this event, and hands out nothing
abbrev pub TakesEventIn : {P : Type 0} → PlaceKind P → P → P → Event → Type 0
TakesEventIn kind old new event =
    (held : ℕ) → TakesEventBy (receiver_of kind held) old new event

-- it is the same room, for as many families
pub record SameRoom {P : Type 0} (kind : PlaceKind P) (old new : P) : Type 0 where
  pub families : kind.families new ≡ kind.families old
  pub vacant : kind.vacant new ≡ kind.vacant old

-- a start with these entries, this moment, and what is refused
abbrev pub start_with : List MemoryEntry → ℕ → Refused → Start
start_with entries moment refused =
    record { entries = entries; moment = moment; refused = refused }

-- A place has a receiver now that starts so, has heard nothing, and holds as many families as there
-- is room for. It hears, and once it is closed the place is as if it had not begun.
pub record HasBegun {P : Type 0} (kind : PlaceKind P) (old new : P) (start : Start) : Type 0 where
  pub stands : kind.stands (kind.families old) start new [] []
  pub now : kind.is_hearing new ≡ true
  pub room : kind.shut new ≡ kind.shut old

-- The receiver in a place took the moment, which is in range and not before its last one. It goes
-- on to hear, and once it is closed the place is as if it had not taken it.
pub record HasTaken {P : Type 0} (kind : PlaceKind P) (moment : ℕ) (old new : P) : Type 0 where
  pub takes : TakesEventIn kind old new (at_moment moment)
  pub not_back : (kind.start_of old).moment ≤ moment
  pub in_range : moment ≤ last_moment
  pub now : kind.is_hearing new ≡ true
  pub room : kind.shut new ≡ kind.shut old

-- The laws of a kind. Such places are receivers of a channel. Where one stands it hears, and has
-- room for the families that are held. What hears isn't closed. Shutting a place closes it, and its
-- room stays; a closed one stays as it is. Where a receiver stands after nothing, one does with
-- another start too, that has no entry. A receiver can take any moment. Where no element was given
-- the end prints nothing more.
pub record IsPlaceKind {P : Type 0} (kind : PlaceKind P) : Type 0 where
  pub receiver : (held : ℕ) → IsReceiver (receiver_of kind held)
  pub hears : (held : ℕ) (start : Start) (place : P) (events : List Event)
      (log : List TaggedCopy)
      → kind.stands held start place events log → kind.is_hearing place ≡ true
  pub has_room : (held : ℕ) (start : Start) (place : P) (events : List Event)
      (log : List TaggedCopy)
      → kind.stands held start place events log → kind.families place ≡ held
  pub is_open : (place : P) → kind.is_hearing place ≡ true → kind.is_closed place ≡ false
  pub shut_closed : (place : P) → kind.is_closed (kind.shut place) ≡ true
  pub shut_room : (place : P) → SameRoom kind place (kind.shut place)
  pub closed_shut : (place : P) → kind.is_closed place ≡ true → kind.shut place ≡ place
  pub begins_too : (held : ℕ) (first : Start) (place : P) → kind.stands held first place [] []
      → (start : Start) → start.entries ≡ []
      → (other : P) × kind.stands held start other [] []
  pub takes_moment : (held : ℕ) (place : P) (n : ℕ)
      → (other : P) × TakesEventBy (receiver_of kind held) place other (at_moment n)
  pub silent_end : (held : ℕ) (start : Start) (events : List Event) (log : List TaggedCopy)
      → elements_among events ≡ [] → (kind.printing held).so_far start events log
      → (kind.printing held).to_end start events log
