-- A header and a marker at the end of a text, computed from the back of the text, which is the text
-- read from its end: its newest byte first. That this gives what is spelled there is a lemma.
use Rattle.std.specs.Prelude.{ℕ, ◌==◌, ◌&&◌, ◌||◌, Bool, false, if◌then◌else◌, Option, Some, None, List, [], ◌∷◌, slice_index}
use Rattle.std.specs.Str.{bytes_eq}
use Rattle.nx_envelope.specs.Header.{start_marker, end_marker}
use Rattle.nx_code.specs.Reading.{space}
use Rattle.nx_envelope.specs.private.Letters.{letter_of, digit_of, both, identity_with}
use Rattle.nx_envelope.specs.declared.digit.Digit.{Digit}
use Rattle.nx_envelope.specs.declared.found.How.{How}
use Rattle.nx_envelope.specs.declared.found.How.TheVariants.{Full, Cut}
use Rattle.nx_envelope.specs.declared.identity.Identity.{Identity}
use Rattle.nx_envelope.specs.declared.letter.Letter.{Letter}

-- the last four bytes, oldest first, with 0 where there are fewer
abbrev pub last_four : List ℕ → List ℕ
last_four back =
    slice_index back 3 ∷ slice_index back 2 ∷ slice_index back 1 ∷ slice_index back 0 ∷ []

-- it ends with a word of four letters
abbrev pub ends_in : List ℕ → List ℕ → Bool
ends_in word back = bytes_eq (last_four back) word

-- it ends with ZCZC and one or more spaces
unfoldable pub spaces_back : List ℕ → Bool
spaces_back [] = false
spaces_back (b ∷ back) = (b == space) && (ends_in start_marker back || spaces_back back)

-- it ends with these and a letter, the station
unfoldable pub station_back : List ℕ → Option Letter
station_back [] = None
station_back (b ∷ back) = if spaces_back back then letter_of b else None

-- and with a second letter, the subject
unfoldable pub subject_back : List ℕ → Option (Letter × Letter)
subject_back [] = None
subject_back (b ∷ back) = both (station_back back) (letter_of b)

-- and with a digit
unfoldable pub tens_back : List ℕ → Option ((Letter × Letter) × Digit)
tens_back [] = None
tens_back (b ∷ back) = both (subject_back back) (digit_of b)

-- and with a second digit: the identity whose header the text ends with
unfoldable pub header_back : List ℕ → Option Identity
header_back [] = None
header_back (b ∷ back) = identity_with (both (tens_back back) (digit_of b))

-- how the marker with which it ends ends a copy: NNNN as full, ZCZC as cut
abbrev pub marker_back : List ℕ → Option How
marker_back back =
    if ends_in end_marker back then Some Full
    else (if ends_in start_marker back then Some Cut else None)
