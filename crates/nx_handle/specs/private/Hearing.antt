-- What only private contracts and proofs cite, beside Hearing (this profile).
use Rattle.std.specs.Prelude.{◌≡◌, ℕ, ◌≤◌, Bool, true, List, []}
use Rattle.std.specs.Prelude.{◌++◌, length, map, take}
use Rattle.nx_fec.specs.declared.air_files.channel.Channel.{Channel}
use Rattle.nx_copies.specs.Events as events
use Rattle.nx_copies.specs.Events.{Event, Start}
use Rattle.nx_copies.specs.copies.FoundCopies.{TaggedCopy}
use Rattle.nx_copies.specs.copies.Log.{IsEntry, IsLog}
use Rattle.nx_copies.specs.copies.Shares.{MarkedCopy, marked}
use Rattle.nx_receiver.specs.ChannelReceiver.{HandsOutNoneBeforeBy}
use Rattle.nx_handle.specs.CallerRoom.{IsCopiedOut, Room}
use Rattle.nx_handle.specs.Hearing.{elements_of, longest_entry}
use Rattle.nx_handle.specs.PlaceKinds.{PlaceKind, SameRoom, receiver_of}

-- the entry of a copy is copied into the room
pub record CopiesEntryOut (copy : MarkedCopy) (log : Room) : Type 0 where
  pub bytes : List ℕ
  pub spelled : IsEntry copy bytes
  pub short : length bytes ≤ longest_entry
  pub copied : IsCopiedOut bytes log

-- The receiver in the place of a channel hears elements, whatever it was given before, and this is
-- the log of the copies that they print: none, or one, which the last of them ends. No element
-- before the last prints anything. It goes on to hear, and its room stays.
pub record HearsOn {P : Type 0} (kind : PlaceKind P) (channel : Channel) (old new : P)
    (bits : List Bool) (text : List ℕ) : Type 0 where
  pub next : List TaggedCopy
  pub few : length next ≤ 1
  pub behind : length next ≤ length bits
  pub spelled : IsLog (map (marked channel) next) text
  pub stands : (held : ℕ) (start : Start) (history : List Event) (log : List TaggedCopy)
      → kind.stands held start old history log
      → kind.stands held start new (history ++ events.elements bits) (log ++ next)
  pub first : (held : ℕ) → HandsOutNoneBeforeBy (receiver_of kind held) old bits (length bits)
  pub now : kind.is_hearing new ≡ true
  pub room : SameRoom kind old new

-- So many of the elements of these bytes are heard so, and the entry of the copy that they print is
-- copied into the room; all, where nothing is printed.
pub record HearsAndCopiesOut (Hears : List Bool → List ℕ → Type 0) (bytes : List ℕ) (heard : ℕ)
    (log : Room)
    : Type 0 where
  pub text : List ℕ
  pub copied : IsCopiedOut text log
  pub short : length text ≤ longest_entry
  pub within : heard ≤ length bytes
  pub hears : Hears (elements_of (take heard bytes)) text
  pub all : text ≡ [] → heard ≡ length bytes
