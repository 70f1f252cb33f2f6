-- What one more byte does to the copies of a text, what the end of a text does, and what a finder
-- holds after a text.
use Rattle.std.specs.Prelude.{◌≡◌, ℕ, ◌+◌, ◌<◌, Bool, true, false, Option, Some, None, List, [], ◌∷◌, ◌++◌, length, take, drop, slice_index, reverse}
use Rattle.nx_envelope.specs.private.Backward.{last_four}
use Rattle.nx_envelope.specs.Copies.{Copy, headers, ended_copies, open_headers, raw_text, closed_copy, copies}
use Rattle.nx_envelope.specs.Found.{IsFound}
use Rattle.nx_envelope.specs.Header.{Header}
use Rattle.nx_envelope.specs.private.HeaderStage.{IsStageOf}
use Rattle.nx_envelope.specs.declared.finder.Finder.{Finder}
use Rattle.nx_envelope.specs.declared.found.FinderStep.{FinderStep}
use Rattle.nx_envelope.specs.declared.found.FinderStep.TheVariants as steps
use Rattle.nx_envelope.specs.declared.found.Found.{Found}
use Rattle.nx_envelope.specs.declared.found.HeldCopy.{HeldCopy}
use Rattle.nx_envelope.specs.declared.found.HeldCopy.TheVariants as held
use Rattle.nx_envelope.specs.declared.found.TextEvent.{TextEvent}
use Rattle.nx_envelope.specs.declared.found.TextEvent.TheVariants as events
use Rattle.nx_envelope.specs.declared.identity.Identity.{Identity}

-- the byte completes no header and ends no copy
pub record Keeps (text : List ℕ) (byte : ℕ) : Type 0 where
  pub headers : headers (text ++ byte ∷ []) ≡ headers text
  pub ended : ended_copies (text ++ byte ∷ []) ≡ ended_copies text
  pub still_open : open_headers (text ++ byte ∷ []) ≡ open_headers text

-- The byte completes the header, and a copy begins with it, the only open one: none was open
-- before, and the byte ends none.
pub record BeginsCopy (text : List ℕ) (byte : ℕ) (header : Header) : Type 0 where
  pub behind : header.behind ≡ length text + 1
  pub headers : headers (text ++ byte ∷ []) ≡ headers text ++ header ∷ []
  pub ended : ended_copies (text ++ byte ∷ []) ≡ ended_copies text
  pub was_none : open_headers text ≡ []
  pub now_open : open_headers (text ++ byte ∷ []) ≡ header ∷ []

-- the byte ends the one open copy as this copy
pub record Ends (text : List ℕ) (byte : ℕ) (copy : Copy) : Type 0 where
  pub headers : headers (text ++ byte ∷ []) ≡ headers text
  pub ended : ended_copies (text ++ byte ∷ []) ≡ ended_copies text ++ copy ∷ []
  pub was_open : open_headers text ≡ copy.header ∷ []
  pub none : open_headers (text ++ byte ∷ []) ≡ []

-- a header of that identity is completed
pub record BringsHeader (text : List ℕ) (byte : ℕ) (identity : Identity) : Type 0 where
  pub header : Header
  pub named : header.identity ≡ identity
  pub begins : BeginsCopy text byte header

-- a copy ends, and this is it
pub record BringsCopy (text : List ℕ) (byte : ℕ) (found : Found) : Type 0 where
  pub copy : Copy
  pub is_found : IsFound copy found
  pub ends : Ends text byte copy

-- the step is what happens at that byte behind that text
abbrev pub Brings : List ℕ → ℕ → FinderStep → Type 0
Brings text byte steps.Nothing = Keeps text byte
Brings text byte (steps.Header identity) = BringsHeader text byte identity
Brings text byte (steps.Over found) = BringsCopy text byte found

-- none of these bytes, one after the other behind that text, completes a header or ends a copy
abbrev pub BringNothing : List ℕ → List ℕ → Type 0
BringNothing text bytes =
    (k : ℕ) → k < length bytes → Keeps (text ++ take k bytes) (slice_index bytes k)

-- the copy that the end of the text closes, which is the last one
pub record ClosesCopy (text : List ℕ) (found : Found) : Type 0 where
  pub header : Header
  pub was_open : open_headers text ≡ header ∷ []
  pub is_found : IsFound (closed_copy text header) found
  pub whole : copies text ≡ ended_copies text ++ closed_copy text header ∷ []

-- no copy is open at the end of the text
pub record ClosesNone (text : List ℕ) : Type 0 where
  pub none : open_headers text ≡ []
  pub whole : copies text ≡ ended_copies text

-- what the end of the text brings
abbrev pub Closes : List ℕ → Option Found → Type 0
Closes text None = ClosesNone text
Closes text (Some found) = ClosesCopy text found

abbrev pub is_empty : List ℕ → Bool
is_empty [] = true
is_empty (b ∷ text) = false

-- these are the identity and the raw text of the one open copy; `fresh` where nothing stands behind
-- its header yet
pub record HoldsOpen (is_fresh : Bool) (kept text : List ℕ) (identity : Identity) : Type 0 where
  pub header : Header
  pub stands_open : open_headers text ≡ header ∷ []
  pub named : header.identity ≡ identity
  pub raw : kept ≡ raw_text text header
  pub fresh : is_fresh ≡ is_empty (drop header.behind text)

-- what a finder holds of the copies of the text: the open one, where one is open
abbrev pub HoldsCopy : HeldCopy → List ℕ → List ℕ → Type 0
HoldsCopy held.Nothing kept text = open_headers text ≡ []
HoldsCopy (held.Open identity fresh) kept text = HoldsOpen fresh kept text identity
HoldsCopy (held.Ready identity how) kept text = open_headers text ≡ []

-- The finder stands after the text: it has the last four bytes, the stage of a header that is not
-- complete, and the open copy.
pub record StandsAfter (finder : Finder) (text : List ℕ) : Type 0 where
  pub recent : finder.recent ≡ last_four (reverse text)
  pub stage : IsStageOf finder.stage (reverse text)
  pub copy : HoldsCopy finder.copy finder.text text

-- the finder has a copy that can be taken, and this is it
pub record HasReady (finder : Finder) (copy : Copy) : Type 0 where
  pub held : finder.copy ≡ held.Ready copy.header.identity copy.how
  pub text : finder.text ≡ copy.text

-- the identity of the copy that is held
abbrev pub held_identity : HeldCopy → Option Identity
held_identity held.Nothing = None
held_identity (held.Open identity fresh) = Some identity
held_identity (held.Ready identity how) = Some identity

abbrev pub is_ready_copy : HeldCopy → Bool
is_ready_copy held.Nothing = false
is_ready_copy (held.Open identity fresh) = false
is_ready_copy (held.Ready identity how) = true

-- the finder has a copy that can be taken
abbrev pub is_ready : Finder → Bool
is_ready finder = is_ready_copy finder.copy

-- the event is the end of a copy
abbrev pub is_over : TextEvent → Bool
is_over events.Nothing = false
is_over (events.Header identity) = false
is_over events.CopyOver = true

-- a copy ends, and the finder has it
pub record EndsReady (text : List ℕ) (byte : ℕ) (finder : Finder) : Type 0 where
  pub copy : Copy
  pub ends : Ends text byte copy
  pub ready : HasReady finder copy

-- the event is what happens at that byte behind that text, and the finder has the copy that it ends
abbrev pub HappensAt : List ℕ → ℕ → Finder → TextEvent → Type 0
HappensAt text byte finder events.Nothing = Keeps text byte
HappensAt text byte finder (events.Header identity) = BringsHeader text byte identity
HappensAt text byte finder events.CopyOver = EndsReady text byte finder

-- the end of the text closes the copy that is open, and the finder has it
pub record ClosesReady (text : List ℕ) (finder : Finder) : Type 0 where
  pub header : Header
  pub was_open : open_headers text ≡ header ∷ []
  pub ready : HasReady finder (closed_copy text header)
  pub whole : copies text ≡ ended_copies text ++ closed_copy text header ∷ []

-- what the end of the text brings, where the finder has the copy that it closes
pub record ClosesHeld (text : List ℕ) (finder : Finder) : Type 0 where
  pub some : is_ready finder ≡ true → ClosesReady text finder
  pub none : is_ready finder ≡ false → ClosesNone text
