-- Three receivers that hear elements as they come, one for each channel: what they were given, and
-- what they printed (this profile).
use Rattle.std.specs.Prelude.{◌≡◌, ℕ, ◌≤◌, Bool, true, false, List, [], ◌∷◌, ◌++◌, length}
use Rattle.std.specs.Prelude.{map, IfSome}
use Rattle.std.specs.List.{flat_map}
use Rattle.nx_fec.specs.Transfers.{count_of}
use Rattle.nx_envelope.specs.Moment.{last_moment}
use Rattle.nx_fec.specs.declared.air_files.channel.Channel.{Channel}
use Rattle.nx_fec.specs.declared.air_files.channel.Channel.TheVariants.{Zero, One, Two}
use Rattle.nx_memory.specs.declared.memories.entry.MemoryEntry.{MemoryEntry}
use Rattle.nx_copies.specs.Events as events
use Rattle.nx_copies.specs.Events.{elements_among}
use Rattle.nx_copies.specs.copies.FoundCopies.{TaggedCopy}
use Rattle.nx_copies.specs.copies.InTurn.{PrintsInTurnBy}
use Rattle.nx_copies.specs.copies.Log.{IsEntry}
use Rattle.nx_receiver.specs.ChannelReceiver.{ReceiverKind}
use Rattle.nx_receiver.specs.Receiver.{Receiving, entry_list, plain_kind}
use Rattle.nx_copies.specs.copies.Shares.{Given, MarkedCopy, Starts, copies_on, marked, share}
use Rattle.nx_copies.specs.copies.Shares.{start_on}
use Rattle.nx_copies.specs.copies.Shares.{to_all, to_one}
use Rattle.nx_receiver.specs.declared.listener.LastEntries.{LastEntries}

-- what contracts see of a listener over receivers of this kind: the receiver of each channel,
-- whether there was a moment, and how many elements and entries it counted
pub record ListeningOver (R : Type 0) : Type 0 where
  pub on_0 : R
  pub on_1 : R
  pub on_2 : R
  pub has_moment : Bool
  pub elements : ℕ
  pub entries : ℕ

-- the receiver of a channel
abbrev pub receiver_on : {R : Type 0} → ListeningOver R → Channel → R
receiver_on listener Zero = listener.on_0
receiver_on listener One = listener.on_1
receiver_on listener Two = listener.on_2

-- the text that the receiver of a channel has: that of the entry which it handed out last
abbrev pub text_by : {R : Type 0} → ReceiverKind R → ListeningOver R → Channel → List ℕ
text_by kind listener channel = kind.text_of (receiver_on listener channel)

-- the same listener with this as the receiver of a channel
abbrev pub with_receiver : {R : Type 0} → ListeningOver R → Channel → R → ListeningOver R
with_receiver listener Zero receiver = record listener { on_0 = receiver }
with_receiver listener One receiver = record listener { on_1 = receiver }
with_receiver listener Two receiver = record listener { on_2 = receiver }

-- with what a listener starts that has heard nothing yet: what its receivers have, of which all
-- have one moment
abbrev pub starts_by : {R : Type 0} → ReceiverKind R → ListeningOver R → Starts
starts_by kind listener = record {
  moment = (kind.start_of listener.on_0).moment;
  entries = λ channel. (kind.start_of (receiver_on listener channel)).entries;
  refused = λ channel. (kind.start_of (receiver_on listener channel)).refused;
}

-- the elements among what is given, of all channels
abbrev pub elements_in : Given → List Bool
elements_in (to_all n) = []
elements_in (to_one channel events) = elements_among events

abbrev pub elements_given : List Given → List Bool
elements_given given = flat_map elements_in given

-- the same, and then a moment, which belongs to all channels
abbrev pub then_moment : List Given → ℕ → List Given
then_moment given moment = given ++ to_all moment ∷ []

-- the same, and then these elements of a channel, given at once
abbrev pub then_elements : List Given → Channel → List Bool → List Given
then_elements given channel bits = given ++ to_one channel (events.elements bits) ∷ []

-- the same, and then a command of selection for a channel
abbrev pub then_command : List Given → Channel → events.Command → List Given
then_command given channel command = given ++ to_one channel (events.command command ∷ []) ∷ []

-- the moment in force after this was given, which is one for all channels: the last moment that was
-- given to all, or else the first moment
abbrev pub moment_in_force : ℕ → List Given → ℕ
moment_in_force first [] = first
moment_in_force first (to_all n ∷ given) = moment_in_force n given
moment_in_force first (to_one channel events ∷ given) = moment_in_force first given

-- After it was given this, with what it started, a listener printed these copies. The receiver of
-- each channel stands after the channel's share, with the copies of that channel, and has the
-- moment in force. The copies are in the order in which they ended. The listener counted the
-- elements and the entries, each at most to the greatest number of 64 bits, and there are no more
-- copies than elements.
pub record HearsBy {R : Type 0} (kind : ReceiverKind R) (starts : Starts)
    (listener : ListeningOver R) (given : List Given) (copies : List MarkedCopy)
    : Type 0 where
  pub receivers : (channel : Channel)
      → kind.stands (start_on starts channel) (receiver_on listener channel)
      (share channel given) (copies_on channel copies)
  pub moments : (channel : Channel)
      → (kind.start_of (receiver_on listener channel)).moment
      ≡ moment_in_force starts.moment given
  pub in_turn : PrintsInTurnBy kind.printing starts given copies
  pub elements : listener.elements ≡ count_of (length (elements_given given))
  pub entries : listener.entries ≡ count_of (length copies)
  pub few : length copies ≤ length (elements_given given)

-- the same of a listener that judges each copy alone, where this tells the entries of a memory; and
-- of the listener of the program
abbrev pub HearsOver : {M : Type 0} → (M → List MemoryEntry) → Starts
    → ListeningOver (Receiving M) → List Given → List MarkedCopy → Type 0
HearsOver entries_of starts listener given copies =
    HearsBy (plain_kind entries_of) starts listener given copies

-- no copy, or one, of which these bytes are the entry
abbrev pub IsSpelled : Channel → Bool → List TaggedCopy → List ℕ → Type 0
IsSpelled channel false copies bytes = copies ≡ []
IsSpelled channel true copies bytes =
    (copy : TaggedCopy) × (copies ≡ copy ∷ []) × IsEntry (marked channel copy) bytes

-- the copies of the entries that the end prints, by channel
abbrev pub last_copies : LastEntries → List MarkedCopy
last_copies last =
    map (marked Zero) (entry_list last.on_0) ++ map (marked One) (entry_list last.on_1)
    ++ map (marked Two) (entry_list last.on_2)

-- the moments of these entries are in range, so that each has its bytes
abbrev pub AreInRange : LastEntries → Type 0
AreInRange last =
    IfSome last.on_0 (λ entry. entry.moment ≤ last_moment)
    × IfSome last.on_1 (λ entry. entry.moment ≤ last_moment)
    × IfSome last.on_2 (λ entry. entry.moment ≤ last_moment)
