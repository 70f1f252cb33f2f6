-- The lists of messages that a station may send, and why another list is refused (this profile).
use Rattle.std.specs.Prelude.{◌≡◌, ◌≢◌, ℕ, ◌<◌, ◌≤◌, ◌==◌, not, List, [], ◌∷◌, length, position, Option, Some, None}
use Rattle.std.specs.List.{AllByRecursion}
use Rattle.nx_fec.specs.emissions.Emission.{SentPosition}
use Rattle.nx_envelope.specs.Message.{AreLines, MessageView}
use Rattle.nx_station.specs.Broadcast.{IsBroadcast}
use Rattle.nx_station.specs.declared.fault.SendFault.{SendFault}
use Rattle.nx_station.specs.declared.fault.SendFault.TheVariants.{NoMessages, MixedStations, NoSlot, SlotFull, Memory}

-- the last station that has slots, X
abbrev pub station_x : ℕ
station_x = 88

-- the stations A to X have slots, Y and Z have none
abbrev pub HasSlots : ℕ → Type 0
HasSlots station = station ≤ station_x

-- the most positions of an emission: they are 8,571 words, which take 599.97 seconds
abbrev pub max_positions : ℕ
max_positions = 4286

-- there are messages, and all are of that station
pub record AreOf (station : ℕ) (messages : List MessageView) : Type 0 where
  pub some : messages ≢ []
  pub each : AllByRecursion (λ (message : MessageView). message.identity.b1.byte ≡ station) messages

-- a station may send the messages: they are some, each with good lines, all of one station that has
-- slots, and fit into a slot
pub record IsSendable (messages : List MessageView) : Type 0 where
  pub station : ℕ
  pub of_one : AreOf station messages
  pub has_slots : HasSlots station
  pub sound : AllByRecursion (λ (message : MessageView). AreLines message.lines) messages
  pub positions : List SentPosition
  pub broadcast : IsBroadcast messages positions
  pub fits : length positions ≤ max_positions

-- the messages have so many positions
abbrev pub HavePositions : List MessageView → ℕ → Type 0
HavePositions messages count =
    (positions : List SentPosition) × IsBroadcast messages positions × (count ≡ length positions)

-- the least index of a message whose station isn't that of the first
abbrev pub first_of_another : List MessageView → Option ℕ
first_of_another [] = None
first_of_another (first ∷ messages) =
    position
    (λ (message : MessageView). not (message.identity.b1.byte == first.identity.b1.byte))
    (first ∷ messages)

-- the messages are of one station, which has slots, and have so many positions, too many for a slot
pub record FillSlot (messages : List MessageView) (count : ℕ) : Type 0 where
  pub station : ℕ
  pub of_one : AreOf station messages
  pub has_slots : HasSlots station
  pub positions : HavePositions messages count
  pub too_many : max_positions < count

-- what a refusal says of the messages, `NoSlot` that they are of one station, which has no slots;
-- want of memory says that they may be sent
abbrev pub IsRefusal : List MessageView → SendFault → Type 0
IsRefusal messages NoMessages = messages ≡ []
IsRefusal messages (MixedStations at) = first_of_another messages ≡ Some at
IsRefusal messages NoSlot = (station : ℕ) × AreOf station messages × (¬ HasSlots station)
IsRefusal messages (SlotFull positions) = FillSlot messages positions
IsRefusal messages (Memory error) = IsSendable messages
