-- A place in which each copy is judged alone; its memory is a plain list (this profile).
use Rattle.std.specs.Prelude.{◌≡◌, ℕ, Bool, true, false, List, []}
use Rattle.nx_memory.specs.declared.memories.entry.MemoryEntry.{MemoryEntry}
use Rattle.nx_copies.specs.Events.{Event, Start, none_refused}
use Rattle.nx_copies.specs.copies.FoundCopies.{TaggedCopy}
use Rattle.nx_copies.specs.copies.Log.{plain}
use Rattle.nx_receiver.specs.Receiver.{Receiving, Stands, plain_kind, text_of}
use Rattle.nx_receiver.specs.air_file_runs.Chain.{Leaves}
use Rattle.nx_handle.specs.PlaceKinds.{PlaceKind}
use Rattle.nx_handle.specs.declared.plain_place.PlainPlace.{PlainPlace}
use Rattle.nx_handle.specs.declared.plain_place.PlainPlace.TheVariants.{Closed, Hears, Ended}

-- contracts see a memory as its entries
abbrev pub content : List MemoryEntry → List MemoryEntry
content entries = entries

-- what contracts see of the receiver of a channel
abbrev pub OneReceiver : Type 0
OneReceiver = Receiving (List MemoryEntry)

-- the place of a channel that hears
abbrev pub is_hearing : PlainPlace → Bool
is_hearing Closed = false
is_hearing (Hears receiver) = true
is_hearing Ended = false

-- a place of a receiver that is closed
abbrev pub is_closed : PlainPlace → Bool
is_closed Closed = true
is_closed (Hears receiver) = false
is_closed Ended = false

-- the receiver in it stands so; it holds no families
abbrev pub StandsPlain : ℕ → Start → PlainPlace → List Event → List TaggedCopy → Type 0
StandsPlain held start Closed events log = ⊥
StandsPlain held start (Hears receiver) events log =
    (0 ≡ held) × Stands content start receiver events log
StandsPlain held start Ended events log = ⊥

-- with what a receiver starts that has nothing
abbrev pub no_start : Start
no_start = record { entries = []; moment = 0; refused = none_refused }

abbrev pub plain_start : PlainPlace → Start
plain_start Closed = no_start
plain_start (Hears receiver) = (plain_kind content).start_of receiver
plain_start Ended = no_start

abbrev pub plain_text : PlainPlace → List ℕ
plain_text Closed = []
plain_text (Hears receiver) = text_of receiver
plain_text Ended = []

-- such places: each entry is put together from one sending
abbrev pub plain_place : PlaceKind PlainPlace
plain_place = record {
  is_hearing = is_hearing;
  is_closed = is_closed;
  shut = λ place. Closed;
  families = λ place. 0;
  vacant = λ place. Closed;
  printing = λ held. plain;
  stands = StandsPlain;
  start_of = plain_start;
  text_of = plain_text;
  leaves = λ held. Leaves;
  sendings = λ held start events log n. n ≡ 1;
}
