-- ITU-R M.540: a message begins with the letters ZCZC, a space, the station, the subject and a
-- number of two digits, and ends with the letters NNNN. That more than one space may stand in a
-- header is this profile's.
use Rattle.std.specs.Prelude.{◌≡◌, ℕ, ◌+◌, ◌≤◌, List, ◌∷◌, ◌++◌, length, take, replicate, codes}
use Rattle.nx_code.specs.Reading.{space}
use Rattle.nx_envelope.specs.Identity.{identity_bytes}
use Rattle.nx_envelope.specs.declared.identity.Identity.{Identity}
use Rattle.nx_envelope.specs.declared.found.How.{How}
use Rattle.nx_envelope.specs.declared.found.How.TheVariants.{Full, Cut, Long}

-- the letters that begin a message
abbrev pub start_marker : List ℕ
start_marker = codes "ZCZC"

-- the letters that end it
abbrev pub end_marker : List ℕ
end_marker = codes "NNNN"

-- the text ends with the word
pub record EndsWith (text word : List ℕ) : Type 0 where
  pub front : List ℕ
  pub spelled : text ≡ front ++ word

-- the word stands somewhere in the text
pub record HoldsWord (word text : List ℕ) : Type 0 where
  pub front : List ℕ
  pub back : List ℕ
  pub spelled : text ≡ front ++ word ++ back

-- the text ends with the header of the identity: ZCZC, one or more spaces, two letters, two digits
pub record EndsWithHeader (text : List ℕ) (identity : Identity) : Type 0 where
  pub front : List ℕ
  pub more_spaces : ℕ
  pub spelled :
      text ≡ front ++ start_marker ++ replicate (more_spaces + 1) space ++ identity_bytes identity

-- the text ends with the marker that ends a copy in this way: NNNN as full, ZCZC as cut; no marker
-- ends a long one
abbrev pub EndsWithMarker : List ℕ → How → Type 0
EndsWithMarker text Full = EndsWith text end_marker
EndsWithMarker text Cut = EndsWith text start_marker
EndsWithMarker text Long = ⊥

-- a header in a text: its identity, and the index behind its second digit
pub record Header : Type 0 where
  pub identity : Identity
  pub behind : ℕ

-- the header stands in the text: the text up to the index behind it ends with it
pub record StandsIn (text : List ℕ) (header : Header) : Type 0 where
  pub within : header.behind ≤ length text
  pub spelled : EndsWithHeader (take header.behind text) header.identity

-- the one header comes before the other in the list
pub record ComesBefore (headers : List Header) (earlier later : Header) : Type 0 where
  pub front : List Header
  pub between : List Header
  pub back : List Header
  pub listed : headers ≡ front ++ earlier ∷ between ++ later ∷ back
