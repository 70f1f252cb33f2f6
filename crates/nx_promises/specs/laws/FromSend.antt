-- What a station sends, heard as it is sent (this profile).
use Rattle.std.specs.Prelude.{◌≡◌, ℕ, false, true, List, [], ◌∷◌, drop, filter, take, ⊤}
use Rattle.std.specs.List.{AllByRecursion}
use Rattle.nx_envelope.specs.Identity.{same_identity}
use Rattle.nx_envelope.specs.Message.{text_of, MessageView}
use Rattle.nx_envelope.specs.declared.found.How.TheVariants.{Full}
use Rattle.nx_fec.specs.emissions.Emission.{bits_of, emission}
use Rattle.nx_station.specs.Broadcast.{layout}
use Rattle.nx_station.specs.reception.Path.{first_slot}
use Rattle.nx_station.specs.reception.Sendings.{Part, gap, received}
use Rattle.nx_copies.specs.Events.{Event, at_moment, elements}
use Rattle.nx_copies.specs.copies.FoundCopies.{TaggedCopy}

-- of these messages, this one alone bears its identity
abbrev pub BearsAlone : List MessageView → MessageView → Type 0
BearsAlone messages message =
    filter (λ (one : MessageView). same_identity one.identity message.identity) messages
    ≡ message ∷ []

-- no two of these messages bear one identity
abbrev pub AreDifferent : List MessageView → Type 0
AreDifferent [] = ⊤
AreDifferent (message ∷ messages) =
    AllByRecursion
    (λ (other : MessageView). same_identity message.identity other.identity ≡ false) messages
    × AreDifferent messages

-- the words of the emission of messages with these combinations
abbrev pub words_sent : List (List ℕ) → List ℕ
words_sent spellings = emission (layout spellings)

-- what is heard of it as it is sent: the moment at which its slot begins, and then its elements
abbrev pub events_as_sent : ℕ → List (List ℕ) → List Event
events_as_sent slot spellings = at_moment slot ∷ elements (bits_of (words_sent spellings))

-- the parts of these elements: what comes before slot 96 is a gap, and from there on the emission
-- is received
abbrev pub parts_as_sent : List MessageView → List (List ℕ) → List Part
parts_as_sent messages spellings =
    gap (bits_of (take first_slot (words_sent spellings)))
    ∷ received (record {
      messages = messages;
      spellings = spellings;
      heard = drop first_slot (words_sent spellings);
    })
    ∷ []

-- the copy that is heard of a message: full, with its text, at the moment of the slot, and selected
abbrev pub copy_as_sent : ℕ → MessageView → TaggedCopy
copy_as_sent slot message = record {
  identity = message.identity;
  how = Full;
  text = text_of message.lines;
  moment = slot;
  selected = true;
}
