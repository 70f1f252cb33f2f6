-- The copies of messages in a received text: the form of a message is that of ITU-R M.540; that a
-- text without an end is found up to 4,100 characters is this profile's.
use Rattle.std.specs.Prelude.{ℕ, ◌-◌, ◌==◌, nat_le, Bool, if◌then◌else◌, Option, Some, None, List, [], ◌∷◌, length, take, drop, map, slice_get, unwrap_or, count_by}
use Rattle.std.specs.List.{filter, filter_map}
use Rattle.std.specs.Option.{option_map, option_or, is_none}
use Rattle.nx_code.specs.Reading.{asterisk}
use Rattle.nx_envelope.specs.Header.{Header}
use Rattle.nx_envelope.specs.AtTheEnd.{identity_at_end, marker_at_end}
use Rattle.nx_code.specs.Reading.{newline}
use Rattle.nx_envelope.specs.declared.found.How.{How}
use Rattle.nx_envelope.specs.declared.found.How.TheVariants.{Cut, Long}

-- the beginnings of a text, from the empty one to the whole
unfoldable pub beginnings : List ℕ → List (List ℕ)
beginnings [] = [] ∷ []
beginnings (b ∷ text) = [] ∷ map (λ p. b ∷ p) (beginnings text)

-- the header with which a text ends, if it ends with one
unfoldable pub header_at_end : List ℕ → Option Header
header_at_end text =
    option_map (λ identity. record { identity = identity; behind = length text })
    (identity_at_end text)

-- the headers of a text, wherever they stand, in their order
unfoldable pub headers : List ℕ → List Header
headers text = filter_map header_at_end (beginnings text)

-- a text less a newline that stands directly at its beginning
abbrev pub less_newline : List ℕ → List ℕ
less_newline [] = []
less_newline (b ∷ text) = if b == newline then text else b ∷ text

-- what stands behind a header, less one newline directly there
unfoldable pub raw_text : List ℕ → Header → List ℕ
raw_text text header = less_newline (drop header.behind text)

-- the end of a copy: how it ended, and its found text
pub record Ending : Type 0 where
  pub how : How
  pub text : List ℕ

-- how many characters a marker has: `ZCZC`, `NNNN` (M.540)
abbrev pub marker_length : ℕ
marker_length = 4

-- a text that ends with a marker, less the marker
unfoldable pub ending_by_marker : List ℕ → Option Ending
ending_by_marker text =
    option_map (λ how. record { how = how; text = take (length text - marker_length) text })
    (marker_at_end text)

-- the most characters of a found text
abbrev pub most_found : ℕ
most_found = 4100

-- The end of a raw text: at the first of its beginnings, within 4,100 characters, that ends with a
-- marker. Where there is none, but 4,100 characters stand there, it is long; else it has no end.
unfoldable pub ending_of : List ℕ → Option Ending
ending_of raw =
    option_or (slice_get (filter_map ending_by_marker (beginnings (take most_found raw))) 0)
    (if nat_le most_found (length raw)
    then Some (record { how = Long; text = take most_found raw })
    else None)

-- a copy of a message: its header, how it ended and its found text
pub record Copy : Type 0 where
  pub header : Header
  pub how : How
  pub text : List ℕ

abbrev pub copy_with : Header → Ending → Copy
copy_with header ending = record { header = header; how = ending.how; text = ending.text }

-- the copy that begins with the header, if it has ended in the text
unfoldable pub ended_copy : List ℕ → Header → Option Copy
ended_copy text header = option_map (copy_with header) (ending_of (raw_text text header))

-- the copies that have ended in the text, in the order of their headers
unfoldable pub ended_copies : List ℕ → List Copy
ended_copies text = filter_map (ended_copy text) (headers text)

-- the copy that begins with the header has not ended in the text
unfoldable pub is_open : List ℕ → Header → Bool
is_open text header = is_none (ending_of (raw_text text header))

-- the headers of the copies that stand open after the text
unfoldable pub open_headers : List ℕ → List Header
open_headers text = filter (is_open text) (headers text)

-- an open copy when the text ends: it is cut there
unfoldable pub closed_copy : List ℕ → Header → Copy
closed_copy text header = record { header = header; how = Cut; text = raw_text text header }

-- the copies of a text that is at its end, in the order of their headers
unfoldable pub copies : List ℕ → List Copy
copies text =
    map (λ header. unwrap_or (ended_copy text header) (closed_copy text header)) (headers text)

-- how many asterisks a text has
abbrev pub errors_of : List ℕ → ℕ
errors_of text = count_by (λ b. b == asterisk) text
