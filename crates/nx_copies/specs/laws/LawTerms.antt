-- What the laws of printing speak of.
use Rattle.std.specs.Prelude.{◌≡◌, ℕ, ◌+◌, ◌-◌, ◌*◌, ◌<◌, Bool, List, [], ◌∷◌, map}
use Rattle.std.specs.Prelude.{take, drop, IsTrue, All, Contains, Option, None}
use Rattle.nx_code.specs.Word.{word_elements}
use Rattle.nx_envelope.specs.declared.identity.Identity.{Identity}
use Rattle.nx_fec.specs.air_files.AirFile.{Line, moment, elements, refuse_station, accept_station}
use Rattle.nx_fec.specs.air_files.AirFile.{refuse_subject, accept_subject}
use Rattle.nx_fec.specs.declared.air_files.channel.Channel.{Channel}
use Rattle.nx_memory.specs.Memory.{seconds_known}
use Rattle.nx_memory.specs.declared.memories.entry.MemoryEntry.{MemoryEntry}
use Rattle.nx_copies.specs.Events as events
use Rattle.nx_copies.specs.Events.{Event, at_moment, command, element}
use Rattle.nx_copies.specs.copies.FoundCopies.{TaggedCopy}
use Rattle.nx_copies.specs.copies.Printing.{copies_of, is_good}
use Rattle.nx_copies.specs.laws.Once.{FewBetween, IsUnknownAtFirst}

-- The bits of the lock at t with n words: those of the words, and of the word before them, which
-- says the role of the first.
abbrev pub own_bits : List Bool → ℕ → ℕ → List Bool
own_bits bits t n = take (word_elements * n + word_elements) (drop (t - word_elements) bits)

-- Of these copies, `first` and then `repeats` bear the identity, which is not numbered 00. All of
-- them are good and selected. They lie within 66 hours of each other. After these first entries, no
-- entry of the identity is live at the first of them, and fewer than 200 entries are made between
-- it and any later one.
pub record AreRepeats (entries : List MemoryEntry) (identity : Identity) (copies : List TaggedCopy)
    (first : TaggedCopy) (repeats : List TaggedCopy)
    : Type 0 where
  pub heard : copies_of identity copies ≡ first ∷ repeats
  pub numbered : 0 < identity.number
  pub unknown : IsUnknownAtFirst entries identity copies
  pub good : All (λ copy. IsTrue (is_good copy)) (first ∷ repeats)
  pub selected : All (λ copy. IsTrue copy.selected) (first ∷ repeats)
  pub close : (one other : TaggedCopy) → Contains (first ∷ repeats) one
      → Contains (first ∷ repeats) other
      → one.moment < other.moment + seconds_known
  pub few : FewBetween entries identity copies

-- the channel that a line names, if it names one
abbrev pub named_by : Line → Option Channel
named_by (moment n) = None
named_by (elements mark bits) = mark
named_by (refuse_station mark letter) = mark
named_by (accept_station mark letter) = mark
named_by (refuse_subject mark letter) = mark
named_by (accept_subject mark letter) = mark

-- what a line says, to whichever channel
abbrev pub events_said : Line → List Event
events_said (moment n) = at_moment n ∷ []
events_said (elements mark bits) = map element bits
events_said (refuse_station mark letter) = command (events.refuse_station letter) ∷ []
events_said (accept_station mark letter) = command (events.accept_station letter) ∷ []
events_said (refuse_subject mark letter) = command (events.refuse_subject letter) ∷ []
events_said (accept_subject mark letter) = command (events.accept_subject letter) ∷ []
