-- Sendings that are taken together: a path that may lose both words of a position, and what is
-- received of an emission over it (this profile).
use Rattle.std.specs.Prelude.{◌≡◌, ℕ, ◌+◌, ◌-◌, ◌<◌, ◌≤◌, ◌⊎◌, Bool, true, false, List, [], ◌∷◌}
use Rattle.std.specs.Prelude.{◌++◌, length, Contains, drop, slice_get, take, Some}
use Rattle.std.specs.List.{AllByRecursion, AllZip, flat_map}
use Rattle.nx_code.specs.Reading.{Reception, combination, lost}
use Rattle.nx_code.specs.Word.{HasWrongWeight, wrong_in}
use Rattle.nx_envelope.specs.Message.{AreLines, MessageView, text_of}
use Rattle.nx_envelope.specs.declared.identity.Identity.{Identity}
use Rattle.nx_fec.specs.emissions.Emission.{AreWords, SentPosition, dx_slot, position_at, reception}
use Rattle.nx_fec.specs.emissions.Emission.{rx_slot, slots_of, traffic_position}
use Rattle.nx_memory.specs.Selection.{admits}
use Rattle.nx_station.specs.Broadcast.{layout}
use Rattle.nx_station.specs.reception.Path.{IsAsSent, first_slot, heard_in, message_slot, word_span}
use Rattle.nx_station.specs.reception.Sendings.{IsSentAt, Part, ReceivedEmission, TellsMessage}
use Rattle.nx_station.specs.reception.Sendings.{part_bits, positions_before, received, second_digit}
use Rattle.nx_sync.specs.Locks.{IsNow, Lock, Now}
use Rattle.nx_sync.specs.Words.{losing_count, word_begin}
use Rattle.nx_sync.specs.declared.step.Change.TheVariants.{LostLock}
use Rattle.nx_copies.specs.Events.{Event, Setting, Start, elements_among, first_setting, setting_at}
use Rattle.nx_copies.specs.copies.FoundCopies.{TaggedCopy, tag}
use Rattle.nx_copies.specs.copies.Shares.{Starts, start_on}
use Rattle.nx_fec.specs.air_files.AirFile.{Line}
use Rattle.nx_fec.specs.declared.air_files.channel.Channel.{Channel}
use Rattle.nx_receiver.specs.air_file_runs.Listen.{events_on}
use Rattle.nx_copies.specs.copies.Printing.{is_remembered}
use Rattle.nx_combine.specs.CopyPositions.{HeardCopy, PlacedCopy, heard_copies, placed_to_end}
use Rattle.nx_combine.specs.Families.{families_after, most_positions, seconds_joined}
use Rattle.nx_combine.specs.Judging.{Judged, all_copies, all_printed, judged_after, judged_behind}
use Rattle.nx_combine.specs.PositionEnds.{has_ended}
use Rattle.nx_combine.specs.Laws.{CameThrough, FewBegun, FewMade, IsWholeOnce, RunsOnAs, bears}
use Rattle.nx_combine.specs.Laws.{positions_heard}

-- The emission of these positions is visible, and what is heard of it are these words, each by its
-- number. They are the words of all slots from the first slot on to the last. In the slots before
-- the first message each word is heard as it was sent. In each later slot it is heard as it was
-- sent, or a word of the wrong weight is heard in its place. Of any 64 successive words, fewer are
-- wrong than lose a lock. There those before the first message count as right, so this is said of
-- up to 64 words from there on. Nothing is said of single positions: both words of one may be lost.
pub record IsVisible (positions : List SentPosition) (heard : List ℕ) : Type 0 where
  pub words : AreWords heard
  pub whole : first_slot + length heard ≡ slots_of positions
  pub phasing : (slot : ℕ) → first_slot ≤ slot → slot < message_slot
      → IsAsSent positions heard slot
  pub later : (slot : ℕ) → message_slot ≤ slot → slot < slots_of positions
      → IsAsSent positions heard slot ⊎ HasWrongWeight (heard_in heard slot)
  pub few : (slot n : ℕ) → message_slot ≤ slot → n ≤ word_span → slot + n ≤ slots_of positions
      → wrong_in (heard_in heard) slot n < losing_count

-- the messages have good lines, these combinations tell them, and their emission is visible as
-- these words
pub record IsSeen (emission : ReceivedEmission) : Type 0 where
  pub sound : AllByRecursion (λ (message : MessageView). AreLines message.lines) emission.messages
  pub told : AllZip TellsMessage emission.messages emission.spellings
  pub visible : IsVisible (layout emission.spellings) emission.heard

-- the bits are cut into gaps of any bits and visible emissions
pub record IsSeenCut (bits : List Bool) (parts : List Part) : Type 0 where
  pub whole : bits ≡ flat_map part_bits parts
  pub each : (before : List Part) (emission : ReceivedEmission) (after : List Part)
      → parts ≡ before ++ received emission ∷ after → IsSeen emission

-- the message is sent in one of these parts in these combinations, and its header is at this place
pub record IsSentIn (parts : List Part) (message : MessageView) (numbers : List ℕ) (at : ℕ)
    : Type 0 where
  pub sent : IsSentAt parts message at
  pub spelled : slice_get sent.emission.spellings sent.index ≡ Some numbers

-- how many combinations of a message stand up to the second digit of its header, it among them
abbrev pub header_combinations : ℕ
header_combinations = second_digit + 1

-- how many follow the last N of its end: carriage return and two line feeds
abbrev pub closing_combinations : ℕ
closing_combinations = 3

-- the combinations of a message behind the second digit of its header, up to the last N of its end
abbrev pub behind_digit : List ℕ → List ℕ
behind_digit numbers =
    take (length numbers - (header_combinations + closing_combinations))
    (drop header_combinations numbers)

-- What is taken of the position of this index in an emission: what was sent in it, where one of its
-- two words is heard as sent; and where both have the wrong weight, it is lost.
pub data IsTakenOf (positions : List SentPosition) (heard : List ℕ) (i : ℕ) : Reception → Type 0
  where
    as_sent : IsAsSent positions heard (dx_slot i) ⊎ IsAsSent positions heard (rx_slot i)
        → IsTakenOf positions heard i (reception (position_at positions i))
    both_wrong : HasWrongWeight (heard_in heard (dx_slot i))
        → HasWrongWeight (heard_in heard (rx_slot i)) → IsTakenOf positions heard i lost

-- the index, among the positions of an emission, of the position with this index behind the second
-- digit of one of its messages
abbrev pub place_behind : List (List ℕ) → ℕ → ℕ → ℕ
place_behind spellings index i =
    positions_before (take index spellings) + header_combinations + i

-- Of the positions behind the second digit of a message each one is taken of the position in which
-- its combination was sent, as far as these go. So where one of the two words is heard as sent, it
-- is that combination.
pub record AreTakenOf (emission : ReceivedEmission) (index : ℕ) (numbers : List ℕ)
    (positions : List Reception) : Type 0 where
  pub sent : (i number : ℕ) → slice_get (behind_digit numbers) i ≡ Some number
      → position_at (layout emission.spellings) (place_behind emission.spellings index i)
      ≡ traffic_position number
  pub taken : (i number : ℕ) (x : Reception) → slice_get (behind_digit numbers) i ≡ Some number
      → slice_get positions i ≡ Some x
      → IsTakenOf (layout emission.spellings) emission.heard
      (place_behind emission.spellings index i) x
  pub heard : (i number : ℕ) (x : Reception) → slice_get (behind_digit numbers) i ≡ Some number
      → slice_get positions i ≡ Some x
      → IsAsSent (layout emission.spellings) emission.heard
      (dx_slot (place_behind emission.spellings index i))
      ⊎ IsAsSent (layout emission.spellings) emission.heard
      (rx_slot (place_behind emission.spellings index i)) → x ≡ combination number

-- the copy begins in one of these locks that was lost
pub record IsOfLostLock (locks : List Lock) (copy : PlacedCopy) : Type 0 where
  pub lock : Lock
  pub among : Contains locks lock
  pub lost : lock.how ≡ LostLock
  pub from : lock.at ≤ copy.found.place
  pub to : copy.found.place < word_begin lock.at (lock.last + 1)

-- The positions of the copy reach to the last N of what was sent, unless its text ended before
-- that, by a marker that damage made or with the 4,100th byte, or its lock was lost.
abbrev pub Reaches : List ℕ → List Lock → PlacedCopy → Type 0
Reaches numbers locks copy =
    (length (behind_digit numbers) ≤ length copy.positions)
    ⊎ ((has_ended copy.positions ≡ true) ⊎ IsOfLostLock locks copy)

-- The copy is found in these bits, and stands at the place of a sending of the message in these
-- combinations.
pub record IsCopyOf (bits : List Bool) (parts : List Part) (message : MessageView)
    (numbers : List ℕ) (copy : PlacedCopy) : Type 0 where
  pub cut : IsSeenCut bits parts
  pub sending : IsSentIn parts message numbers copy.found.place
  pub locks : List Lock
  pub now : Now
  pub stands : IsNow bits locks now
  pub found : Contains (placed_to_end bits locks now) copy

-- each position of the header of a message, from the letter shift before the first Z to the second
-- digit, has one word that is heard as sent
abbrev pub IsHeaderHeard : ReceivedEmission → ℕ → Type 0
IsHeaderHeard emission index =
    (i : ℕ) → i < header_combinations
    → IsAsSent (layout emission.spellings) emission.heard
    (dx_slot (positions_before (take index emission.spellings) + i))
    ⊎ IsAsSent (layout emission.spellings) emission.heard
    (rx_slot (positions_before (take index emission.spellings) + i))

-- among these copies is one of this identity whose second digit stands at this place
pub record IsFoundAt (identity : Identity) (place : ℕ) (copies : List PlacedCopy) : Type 0 where
  pub copy : PlacedCopy
  pub there : Contains copies copy
  pub named : copy.found.identity ≡ identity
  pub at : copy.found.place ≡ place

-- a copy with what is in force at its second digit
abbrev pub heard_with : Setting → PlacedCopy → HeardCopy
heard_with setting copy = record {
  copy = tag setting copy.found;
  positions = copy.positions;
}

-- which copies are looked at, by the bits and the locks in them: those that have ended so far, or
-- all that are found to the end
abbrev pub Finding : Type 0
Finding = List Bool → List Lock → Now → List PlacedCopy

-- these are the copies that are looked at in these events, with their positions
pub record ArePlacedIn (finding : Finding) (events : List Event) (copies : List PlacedCopy)
    : Type 0 where
  pub locks : List Lock
  pub now : Now
  pub stands : IsNow (elements_among events) locks now
  pub whole : copies ≡ finding (elements_among events) locks now

-- none of these copies bears the identity
abbrev pub NoneBears : Identity → List HeardCopy → Type 0
NoneBears identity copies = AllByRecursion (λ heard. bears identity heard ≡ false) copies

-- no copy is judged yet
abbrev pub none_judged : Start → Judged
none_judged start = record { entries = start.entries; families = []; printed = [] }

-- A copy of a message that can be taken together with others: it is one of the sendings in these
-- combinations, and is selected. It has not too many positions, and behind what was sent it took at
-- each index nothing, or the one combination that `behind` has.
pub record IsTakenTogether (start : Start) (events : List Event) (parts : List Part)
    (message : MessageView) (numbers : List ℕ) (behind : ℕ → ℕ) (copy : PlacedCopy)
    : Type 0 where
  pub sending : IsSentIn parts message numbers copy.found.place
  pub selected : admits (setting_at (first_setting start) events copy.found.place).refused
      message.identity ≡ true
  pub few_positions : length copy.positions ≤ most_positions
  pub runs_on : RunsOnAs (behind_digit numbers) behind copy.positions

-- What has to be met, so that a message is printed whole once of several sendings, whichever
-- positions each of them lost.
pub record IsHeardTogether (finding : Finding) (start : Start) (events : List Event)
    (parts : List Part) (message : MessageView) (numbers : List ℕ) : Type 0 where
  -- The bits are cut into gaps of any bits and visible emissions.
  pub cut : IsSeenCut (elements_among events) parts
  -- The message has good lines, is told by these combinations, and is not numbered 00.
  pub sound : AreLines message.lines
  pub told : TellsMessage message numbers
  pub numbered : 0 < message.identity.number
  -- These copies are found. Each one with the identity of the message is a sending of it that can
  -- be taken together with the others. All have the same combinations, since positions are joined
  -- by index: a sending with one shift more than another has all behind that one index further.
  pub copies : List PlacedCopy
  pub found : ArePlacedIn finding events copies
  pub behind : ℕ → ℕ
  pub together : (copy : PlacedCopy) → Contains copies copy
      → copy.found.identity ≡ message.identity
      → IsTakenTogether start events parts message numbers behind copy
  -- Here is the first of them in the order of their headers, and no entry of its identity is live.
  pub before : List HeardCopy
  pub first : HeardCopy
  pub later : List HeardCopy
  pub in_order : heard_copies (first_setting start) events copies ≡ before ++ first ∷ later
  pub none_before : NoneBears message.identity before
  pub first_bears : bears message.identity first ≡ true
  pub unknown : is_remembered (judged_behind (none_judged start) before).entries first.copy
      ≡ false
  -- The others come less than 66 hours behind it, and at no earlier moment. Events may set moments
  -- back: if a first copy is bad, and the second one is entered an hour before it, the third is
  -- printed again 65 hours and a half behind the first.
  pub near : AllByRecursion
      (λ heard. bears message.identity heard ≡ true
      → heard.copy.moment < first.copy.moment + seconds_joined) later
  pub in_turn : AllByRecursion
      (λ heard. bears message.identity heard ≡ true → first.copy.moment ≤ heard.copy.moment) later
  -- 200 families and 200 entries suffice between it and any later one.
  pub few_begun : FewBegun message.identity
      (length (judged_behind (none_judged start) before).families + 1)
      (families_after (judged_behind (none_judged start) before).families first) later
  pub few_made : FewMade message.identity
      (length (judged_after (judged_behind (none_judged start) before) first).entries)
      (judged_after (judged_behind (none_judged start) before) first) later

-- With one of these copies, of those that bear the identity, the last of what was sent came
-- through. They are heard up to it, then it, and then the rest; and at each index at which a
-- combination was sent, it or one before it took that.
pub record IsThroughWith (sent : List ℕ) (identity : Identity) (copies : List HeardCopy) : Type 0
  where
    pub up_to : List HeardCopy
    pub one : HeardCopy
    pub rest : List HeardCopy
    pub parts : copies ≡ up_to ++ one ∷ rest
    pub named : bears identity one ≡ true
    pub through : CameThrough sent (positions_heard identity (up_to ++ one ∷ []))

-- The message is printed whole once, with one of these copies at the latest: one that is printed of
-- them is full, has no error, and has the text of the message. None before it was whole, and behind
-- it nothing of the message is printed, neither of these copies nor of the later ones.
pub record IsPrintedWholeOnce (message : MessageView) (start : Start)
    (copies later : List HeardCopy) (log : List TaggedCopy) : Type 0 where
  pub printed : log ≡ all_copies (all_printed (none_judged start) copies
      ++ all_printed (judged_behind (none_judged start) copies) later)
  pub once : IsWholeOnce message.identity (text_of message.lines)
      (all_printed (none_judged start) copies)
      (all_printed (judged_behind (none_judged start) copies) later)

-- What has to be met on a channel of an air file with these lines, so that a message is printed
-- whole once: in what they give to the receiver of the channel, which begins with this start, it is
-- heard together, and comes through.
pub record IsHeardTogetherOn (channel : Channel) (starts : Starts) (lines : List Line)
    (message : MessageView) (numbers : List ℕ) : Type 0 where
  pub parts : List Part
  pub heard : IsHeardTogether placed_to_end (start_on starts channel) (events_on channel lines)
      parts
      message numbers
  pub came : IsThroughWith (behind_digit numbers) message.identity (heard.first ∷ heard.later)
