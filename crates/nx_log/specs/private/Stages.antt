-- An entry piece by piece, from left to right, for bytes that end anywhere in one.
use Rattle.std.specs.Prelude.{◌≡◌, ◌≢◌, ℕ, ◌≤◌, ◌==◌, if◌then◌else◌, List, [], ◌∷◌, ◌++◌, length, All, IsTrue, Option, None, Some, decimal}
use Rattle.nx_envelope.specs.Copies.{errors_of, most_found}
use Rattle.nx_code.specs.Reading.{newline, space}
use Rattle.nx_envelope.specs.Identity.{identity_bytes, two_digits}
use Rattle.nx_envelope.specs.Moment.{IsShownAs, last_moment}
use Rattle.nx_envelope.specs.declared.found.How.{How}
use Rattle.nx_envelope.specs.declared.identity.Identity.{Identity}
use Rattle.nx_fec.specs.declared.air_files.channel.Channel.{Channel}
use Rattle.nx_copies.specs.copies.Log.{channel_mark, how_name, missing_newline}
use Rattle.nx_log.specs.Logged.{is_text_byte}
use Rattle.nx_log.specs.Reading.{bracket}
use Rattle.nx_log.specs.declared.entries.lack.Lack.{Lack}
use Rattle.nx_log.specs.declared.entries.lack.Lack.TheVariants.{Unfinished, Broken}

-- a piece of these spellings, and behind it what may stand behind that piece
pub record Joined {A : Type 0} (piece_is : A → List ℕ → Type 0) (rest_is : A → List ℕ → Type 0)
    (bytes : List ℕ) : Type 0 where
  pub piece : A
  pub spelled : List ℕ
  pub rest : List ℕ
  pub is_piece : piece_is piece spelled
  pub is_rest : rest_is piece rest
  pub split : bytes ≡ spelled ++ rest

-- the spelling of some piece
abbrev pub Spells : {A : Type 0} → (A → List ℕ → Type 0) → List ℕ → Type 0
Spells {A} piece_is spelled = (piece : A) × piece_is piece spelled

-- Bytes to come make such a spelling of these, of which they are the beginning.
abbrev pub CanEnd : (List ℕ → Type 0) → List ℕ → Type 0
CanEnd is bytes = (more : List ℕ) × is (bytes ++ more) × (more ≢ [])

-- Whatever comes behind these bytes, they begin with no such spelling.
abbrev pub NeverBegin : (List ℕ → Type 0) → List ℕ → Type 0
NeverBegin is bytes = (more spelled rest : List ℕ) → is spelled → bytes ++ more ≢ spelled ++ rest

-- the bytes break off at the first of those that are left
pub record BreakOff (is : List ℕ → Type 0) (bytes left : List ℕ) : Type 0 where
  pub front : List ℕ
  pub byte : ℕ
  pub behind : List ℕ
  pub split : bytes ≡ front ++ left
  pub first : left ≡ byte ∷ behind
  pub can : CanEnd is front
  pub never : NeverBegin is (front ++ byte ∷ [])

-- what bytes lack that don't begin with such a spelling
abbrev pub Lacks : (List ℕ → Type 0) → List ℕ → Lack → Type 0
Lacks is bytes Unfinished = CanEnd is bytes
Lacks is bytes (Broken left) = BreakOff is bytes left.now

-- the second list is the first and then more
pub record Extends (front all : List ℕ) : Type 0 where
  pub more : List ℕ
  pub is : all ≡ front ++ more

-- a byte in a range
pub record IsByte (least most byte : ℕ) (spelled : List ℕ) : Type 0 where
  pub enough : least ≤ byte
  pub few : byte ≤ most
  pub is_spelled : spelled ≡ byte ∷ []

-- a fixed text, and the two digits of a number in a range
pub record IsNumber (before : List ℕ) (least most number : ℕ) (spelled : List ℕ) : Type 0 where
  pub enough : least ≤ number
  pub few : number ≤ most
  pub is_spelled : spelled ≡ before ++ two_digits number

-- the bracket behind a head, and the slash in it
abbrev pub closing_bracket : ℕ
closing_bracket = 93

abbrev pub slash : ℕ
slash = 47

-- the bracket and the identity
abbrev pub IsName : Identity → List ℕ → Type 0
IsName identity spelled = spelled ≡ bracket ∷ identity_bytes identity

-- the mark of the channel and a space
abbrev pub IsMark : Channel → List ℕ → Type 0
IsMark channel spelled = spelled ≡ channel_mark channel ++ space ∷ []

-- the civil time of a moment in range
pub record IsCivilTime (moment : ℕ) (text : List ℕ) : Type 0 where
  pub in_range : moment ≤ last_moment
  pub shown : IsShownAs moment text

-- the first year of a century that has such moments, by its last two digits
abbrev pub year_from : ℕ → ℕ
year_from century = if century == 19 then 70 else 0

-- the civil time of a moment in range, and a space
pub record IsTime (moment : ℕ) (spelled : List ℕ) : Type 0 where
  pub civil : List ℕ
  pub in_range : moment ≤ last_moment
  pub shown : IsShownAs moment civil
  pub is_spelled : spelled ≡ civil ++ space ∷ []

-- the name of the end, and a space
abbrev pub IsEnd : How → List ℕ → Type 0
IsEnd how spelled = spelled ≡ how_name how ++ space ∷ []

-- a number from `least` to 4,100, and the byte behind it
pub record IsCount (least end number : ℕ) (spelled : List ℕ) : Type 0 where
  pub enough : least ≤ number
  pub few : number ≤ most_found
  pub is_spelled : spelled ≡ decimal number ++ end ∷ []

-- the digits of which so many were read
abbrev pub written : Option ℕ → List ℕ
written None = []
written (Some number) = decimal number

-- some number from `least` to 4,100 begins with these digits
pub record BeginsSome (least : ℕ) (digits : List ℕ) : Type 0 where
  pub number : ℕ
  pub enough : least ≤ number
  pub few : number ≤ most_found
  pub begins : Extends digits (decimal number)

-- a text with so many errors and characters
pub record IsTextOf (errors characters : ℕ) (text spelled : List ℕ) : Type 0 where
  pub letters : All (λ byte. IsTrue (is_text_byte byte)) text
  pub has_errors : errors_of text ≡ errors
  pub has_characters : length text ≡ characters
  pub is_spelled : spelled ≡ text

-- what stands behind a text
abbrev pub IsBehindText : List ℕ → List ℕ → Type 0
IsBehindText text bytes = bytes ≡ missing_newline text ++ newline ∷ []

-- the newline behind a head
abbrev pub IsNewline : Unit {0} → List ℕ → Type 0
IsNewline none spelled = spelled ≡ newline ∷ []

-- an entry from its text on
abbrev pub FromText : ℕ → ℕ → List ℕ → Type 0
FromText errors characters = Joined (IsTextOf errors characters) IsBehindText

-- from the newline behind its head on
abbrev pub FromNewline : ℕ → ℕ → List ℕ → Type 0
FromNewline errors characters = Joined IsNewline (λ none. FromText errors characters)

-- from its characters on, which aren't fewer than its errors and stand before a bracket
abbrev pub FromCharacters : ℕ → List ℕ → Type 0
FromCharacters errors = Joined (IsCount errors closing_bracket) (FromNewline errors)

-- from its errors on, which stand before a slash
abbrev pub FromErrors : List ℕ → Type 0
FromErrors = Joined (IsCount 0 slash) FromCharacters

-- from how it ended on
abbrev pub FromEnd : List ℕ → Type 0
FromEnd = Joined IsEnd (λ how. FromErrors)

-- from its time on
abbrev pub FromTime : List ℕ → Type 0
FromTime = Joined IsTime (λ moment. FromEnd)

-- from the mark of its channel on
abbrev pub FromMark : List ℕ → Type 0
FromMark = Joined IsMark (λ channel. FromTime)

-- from its name on, which is all of it
abbrev pub FromName : List ℕ → Type 0
FromName = Joined IsName (λ identity. FromMark)
