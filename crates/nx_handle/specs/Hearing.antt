-- What hearing elements answers (this profile).
use Rattle.std.specs.Prelude.{◌≡◌, ◌≢◌, ℕ, ◌<◌, ◌≤◌, ◌==◌, nat_lt, Bool, true, false, not, List, []}
use Rattle.std.specs.Prelude.{◌++◌, length, map, take, if◌then◌else◌}
use Rattle.std.specs.List.{list_all}
use Rattle.nx_fec.specs.air_files.Channels.{channel_number}
use Rattle.nx_fec.specs.declared.air_files.channel.Channel.{Channel}
use Rattle.nx_copies.specs.copies.FoundCopies.{TaggedCopy}
use Rattle.nx_copies.specs.copies.InTurn.{PrintsInTurnBy}
use Rattle.nx_receiver.specs.Listener.{then_elements}
use Rattle.nx_copies.specs.copies.Log.{IsLog}
use Rattle.nx_copies.specs.copies.Shares.{Given, MarkedCopy, Starts, marked}
use Rattle.nx_handle.specs.Life.{HasHeard}
use Rattle.nx_handle.specs.Places.{KeepsRoom, all_hear}
use Rattle.nx_handle.specs.Status.{number_of}
use Rattle.nx_handle.specs.CallerRoom.{IsCopiedOut, Room}
use Rattle.nx_handle.specs.PlaceKinds.{PlaceKind}
use Rattle.nx_handle.specs.declared.status.Status.{Status}
use Rattle.nx_handle.specs.declared.status.Status.TheVariants as status

-- a byte is one of an element: 1 for B, and 0 for Y
abbrev pub is_element : ℕ → Bool
is_element byte = nat_lt byte 2

abbrev pub element_of : ℕ → Bool
element_of byte = byte == 1

abbrev pub elements_of : List ℕ → List Bool
elements_of bytes = map element_of bytes

-- the most bytes of an entry that is handed out
abbrev pub longest_entry : ℕ
longest_entry = 4163

-- the status of a request to hear elements of a channel, of so many, with room for so many bytes,
-- as many as an entry can need
abbrev pub request_status : ℕ → ℕ → List ℕ → ℕ → Status
request_status channel count bytes capacity =
    if not (nat_lt channel count) then status.NoChannel
    else if not (list_all is_element bytes) then status.NoElement
    else if nat_lt capacity longest_entry then status.NoRoom
    else status.Done

-- the same, of a receiver that hears, or doesn't
abbrev pub hearing_status : Bool → ℕ → ℕ → List ℕ → ℕ → Status
hearing_status false channel count bytes capacity = status.Closed
hearing_status true channel count bytes capacity = request_status channel count bytes capacity

-- Elements of a channel are heard, and this is the log of the copies that they print: none, or one,
-- which the last of them ends. Whatever was given before, and however much of these elements at
-- once: the receiver then stands after them too, and no element before the last printed anything.
pub record HearsElements {P : Type 0} (kind : PlaceKind P) (channel : Channel) (old new : List P)
    (bits : List Bool) (text : List ℕ)
    : Type 0 where
  pub next : List TaggedCopy
  pub few : length next ≤ 1
  pub spelled : IsLog (map (marked channel) next) text
  pub heard : (held : ℕ) (starts : Starts) (given : List Given) (part : List Bool)
      (copies : List MarkedCopy)
      → HasHeard kind held starts old (then_elements given channel part) copies
      → HasHeard kind held starts new (then_elements given channel (part ++ bits))
      (copies ++ map (marked channel) next)
  pub first : (held : ℕ) (starts : Starts) (given : List Given) (part : List Bool)
      (copies : List MarkedCopy)
      → HasHeard kind held starts old (then_elements given channel part) copies
      → (k : ℕ) → k < length bits
      → PrintsInTurnBy (kind.printing held) starts
      (then_elements given channel (part ++ take k bits)) copies

-- So many of the elements of these bytes are heard on the channel of this number, which the
-- receiver has; all, where nothing is printed. It hears, and goes on to hear.
pub record HearsBytes {P : Type 0} (kind : PlaceKind P) (channel : ℕ) (old new : List P)
    (bytes : List ℕ) (heard : ℕ) (text : List ℕ)
    : Type 0 where
  pub on : Channel
  pub is : channel_number on ≡ channel
  pub has_channel : channel < length old
  pub was : all_hear kind old ≡ true
  pub now : all_hear kind new ≡ true
  pub within : heard ≤ length bytes
  pub hears : HearsElements kind on old new (elements_of (take heard bytes)) text
  pub all : text ≡ [] → heard ≡ length bytes

-- Hearing elements: the status has its cause. Where all is done, they are heard, and the bytes of
-- the entry are copied into the room, which has room for them. Else nothing is heard, the receiver
-- stays as it was, and nothing is copied. Its channels stay, and so does the room for their
-- families.
pub record AnswersHearing {P : Type 0} (kind : PlaceKind P) (channel : ℕ) (bytes : List ℕ)
    (old new : List P) (heard : ℕ) (log : Room) (answer : ℕ)
    : Type 0 where
  pub cause : answer
      ≡ number_of (hearing_status (all_hear kind old) channel (length old) bytes (length log.old))
  pub text : List ℕ
  pub copied : IsCopiedOut text log
  pub fits : length text ≤ length log.old
  pub done : answer ≡ 0 → HearsBytes kind channel old new bytes heard text
  pub refused : answer ≢ 0 → (new ≡ old) × (heard ≡ 0) × (text ≡ [])
  pub channels : length new ≡ length old
  pub rooms : KeepsRoom kind old new
