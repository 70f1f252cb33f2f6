-- What the words of a lock bring to its reader, one by one or some at once. `first` is the role of
-- word 0 of the lock, and `words` gives each word's number.
use Rattle.std.specs.Prelude.{◌≡◌, ◌⊎◌, ℕ, Bool, true, false, ◌+◌, ◌*◌, List, [], ◌∷◌, ◌++◌, length}
use Rattle.nx_sync.specs.Words.{role_of}
use Rattle.nx_sync.specs.declared.step.Role.{Role}
use Rattle.nx_sync.specs.declared.step.Role.TheVariants.{Rx}
use Rattle.nx_envelope.specs.Finder.{BringNothing, HappensAt}
use Rattle.nx_envelope.specs.declared.finder.Finder.{Finder}
use Rattle.nx_envelope.specs.declared.found.HeldCopy.{HeldCopy}
use Rattle.nx_envelope.specs.declared.found.HeldCopy.TheVariants as held
use Rattle.nx_envelope.specs.declared.found.TextEvent.{TextEvent}
use Rattle.nx_envelope.specs.declared.found.TextEvent.TheVariants.{Nothing}
use Rattle.nx_copies.specs.LockReader.{LockReading}
use Rattle.nx_copies.specs.LockReader.{ReadsLock}
use Rattle.nx_copies.specs.copies.LockText.{AreNext, text_after}

-- the copy that is held stands open
abbrev pub is_open : HeldCopy → Bool
is_open held.Nothing = false
is_open (held.Open identity fresh) = true
is_open (held.Ready identity how) = false

-- a word adds nothing to the text, and brings nothing
pub record PrintsNothing (before after : List ℕ) (event : TextEvent) : Type 0 where
  pub same : after ≡ before
  pub nothing : event ≡ Nothing

-- a word adds one byte to the text, and the event is what happens at that byte
pub record PrintsByte (before after : List ℕ) (finder : Finder) (event : TextEvent) : Type 0 where
  pub byte : ℕ
  pub grows : after ≡ before ++ byte ∷ []
  pub hears : HappensAt before byte finder event

-- the event is what a word brings that makes the one text of the other, and the finder has the copy
-- that it ends
abbrev pub IsBrought : List ℕ → List ℕ → Finder → TextEvent → Type 0
IsBrought before after finder event =
    PrintsNothing before after event ⊎ PrintsByte before after finder event

-- words add bytes to the text, none of which begins or ends a copy
pub record PrintsPlain (before after : List ℕ) : Type 0 where
  pub bytes : List ℕ
  pub grows : after ≡ before ++ bytes
  pub nothing : BringNothing before bytes

-- The reader heard these words, the first of which is a DX word, after whichever words of a lock it
-- stood; and none of them begins or ends a copy.
pub record ReadsPlain (old new : LockReading) (next : List ℕ) : Type 0 where
  pub stands : (first : Role) (words : ℕ → ℕ) (n : ℕ) → ReadsLock old first words n
      → AreNext first words n next → ReadsLock new first words (n + length next)
  pub brings : (first : Role) (words : ℕ → ℕ) (n : ℕ) → ReadsLock old first words n
      → AreNext first words n next
      → PrintsPlain (text_after first words n) (text_after first words (n + length next))

-- The reader heard a word of this role, after whichever it stood, and the event is what it brings.
pub record HearsNext (old new : LockReading) (word : ℕ) (role : Role) (event : TextEvent) : Type 0
  where
    pub stands : (first : Role) (words : ℕ → ℕ) (n : ℕ) → ReadsLock old first words n
        → words n ≡ word → role ≡ role_of first n → ReadsLock new first words (n + 1)
    pub hears : (first : Role) (words : ℕ → ℕ) (n : ℕ) → ReadsLock old first words n
        → words n ≡ word → role ≡ role_of first n
        → IsBrought (text_after first words n) (text_after first words (n + 1)) new.finder event

-- The reader heard these words, DX and RX by turns, from a DX word to an RX word. None before the
-- last one begins or ends a copy, and the event is what the last one brings.
pub record HearsPairsUpTo (old new : LockReading) (words : List ℕ) (event : TextEvent) : Type 0
  where
    pub mid : LockReading
    pub before : List ℕ
    pub last : ℕ
    pub pairs : ℕ
    pub whole : words ≡ before ++ last ∷ []
    pub odd : length before ≡ 2 * pairs + 1
    pub plain : ReadsPlain old mid before
    pub next : HearsNext mid new last Rx event

-- The reader heard these words, the first of which is a DX word. None of them begins or ends a
-- copy, and the event is `Nothing`. Or none before the last one does; that one is an RX word, and
-- the event is what it brings.
abbrev pub HearsPairs : LockReading → LockReading → List ℕ → TextEvent → Type 0
HearsPairs old new words event =
    ((event ≡ Nothing) × ReadsPlain old new words) ⊎ HearsPairsUpTo old new words event
