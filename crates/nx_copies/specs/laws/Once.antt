-- A message that is sent one or more times and is printed once: what has to be met, and what is
-- printed (this profile).
use Rattle.std.specs.Prelude.{◌≡◌, ℕ, ◌+◌, ◌<◌, List, [], ◌∷◌, ◌++◌, length, Contains, IsTrue}
use Rattle.std.specs.Prelude.{false}
use Rattle.nx_envelope.specs.Copies.{errors_of}
use Rattle.nx_envelope.specs.Identity.{same_identity}
use Rattle.nx_envelope.specs.Message.{text_of, MessageView}
use Rattle.nx_envelope.specs.declared.found.How.TheVariants.{Full}
use Rattle.nx_envelope.specs.declared.identity.Identity.{Identity}
use Rattle.nx_memory.specs.Memory.{seconds_known, most_entries}
use Rattle.nx_memory.specs.Selection.{admits}
use Rattle.nx_memory.specs.declared.memories.entry.MemoryEntry.{MemoryEntry}
use Rattle.nx_station.specs.reception.Sendings.{Part, IsCut, IsSentAt}
use Rattle.nx_copies.specs.Events.{Event, Start, elements_among, first_setting, setting_at}
use Rattle.nx_copies.specs.copies.FoundCopies.{AreFoundIn, FoundCopy, TaggedCopy, tagged_copies}
use Rattle.nx_copies.specs.copies.Printing.{copies_of, entries_made, entries_after, is_remembered}

-- after these first entries, no entry of the identity is live at the first of the copies that bear
-- it
abbrev pub IsUnknownAtFirst : List MemoryEntry → Identity → List TaggedCopy → Type 0
IsUnknownAtFirst entries identity copies =
    (before after : List TaggedCopy) (first : TaggedCopy)
    → copies ≡ before ++ first ∷ after
    → copies_of identity before ≡ []
    → IsTrue (same_identity first.identity identity)
    → is_remembered (entries_after entries before) first ≡ false

-- after these first entries, fewer than 200 entries are made between the first of the copies that
-- bear the identity and any later one of them
abbrev pub FewBetween : List MemoryEntry → Identity → List TaggedCopy → Type 0
FewBetween entries identity copies =
    (before between after : List TaggedCopy) (first later : TaggedCopy)
    → copies ≡ before ++ first ∷ (between ++ later ∷ after)
    → copies_of identity before ≡ []
    → IsTrue (same_identity first.identity identity)
    → IsTrue (same_identity later.identity identity)
    → length (entries_made (entries_after entries (before ++ first ∷ [])) between) < most_entries

-- What has to be met, so that a message is printed once of all that a receiver is given.
pub record IsHeardInTime (start : Start) (events : List Event) (parts : List Part)
    (message : MessageView) : Type 0 where
  -- The bits are cut into gaps of any bits and emissions that are received.
  pub cut : IsCut (elements_among events) parts
  -- The message is sent in these emissions, once or more often: here is one place of its header.
  pub place : ℕ
  pub sent : IsSentAt parts message place
  -- It is not numbered 00.
  pub numbered : 0 < message.identity.number
  -- Each copy that is found with its identity is one of its sendings, so all carry the same text.
  -- A copy of a badly received sending breaks this, and so does another message of its identity.
  pub copies : List FoundCopy
  pub found : AreFoundIn events copies
  pub alone : (copy : FoundCopy) → Contains copies copy → copy.identity ≡ message.identity
      → IsSentAt parts message copy.place
  -- It is selected at each sending.
  pub selected : (at : ℕ) → IsSentAt parts message at
      → IsTrue (admits (setting_at (first_setting start) events at).refused message.identity)
  -- Any two sendings lie less than 66 hours apart.
  pub close : (one other : ℕ) → IsSentAt parts message one → IsSentAt parts message other
      → (setting_at (first_setting start) events one).moment
      < (setting_at (first_setting start) events other).moment + seconds_known
  -- At its first copy no entry of its identity is live: one that the receiver began with is 66
  -- hours old by then, or 200 came after it. With an empty memory this always holds.
  pub unknown : IsUnknownAtFirst start.entries message.identity
      (tagged_copies (first_setting start) events copies)
  -- 200 identities suffice: fewer than 200 entries are made between its first copy and any later
  -- one.
  pub few : FewBetween start.entries message.identity
      (tagged_copies (first_setting start) events copies)

-- Exactly one of the printed copies bears the identity of the message: it is full, has 0 errors,
-- and its text is the message's, letter for letter.
pub record IsPrintedOnce (message : MessageView) (log : List TaggedCopy) : Type 0 where
  pub copy : TaggedCopy
  pub one : copies_of message.identity log ≡ copy ∷ []
  pub full : copy.how ≡ Full
  pub whole : errors_of copy.text ≡ 0
  pub letters : copy.text ≡ text_of message.lines
