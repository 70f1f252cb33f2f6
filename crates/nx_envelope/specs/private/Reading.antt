-- What looks for the header and the marker at the end of a text. That it finds what the relations
-- of specs/Header.antt say is a lemma.
use Rattle.std.specs.Prelude.{ℕ, ◌-◌, ◌*◌, ◌+◌, ◌&&◌, nat_le, min, max, List, [], ◌∷◌, ◌++◌, length, replicate, slice_index, Bool, if◌then◌else◌, Option, Some, None}
use Rattle.std.specs.Option.{option_or}
use Rattle.std.specs.Str.{bytes_eq}
use Rattle.std.proofs.Common.{lit≤}
use Rattle.std.proofs.Math.Nat.{le-min, le-max_left, min-le_left}
use Rattle.nx_code.specs.Lists.{last_of}
use Rattle.nx_code.specs.Reading.{capital_a, capital_z, digit_zero, space}
use Rattle.nx_envelope.specs.Header.{start_marker, end_marker}
use Rattle.nx_envelope.specs.Identity.{identity_bytes}
use Rattle.nx_envelope.specs.declared.identity.Identity.{Identity}
use Rattle.nx_envelope.specs.declared.found.How.{How}
use Rattle.nx_envelope.specs.declared.found.How.TheVariants.{Cut, Full}
use Rattle.nx_envelope.specs.declared.letter.Letter.{Letter}

-- the letter nearest to a byte
abbrev pub nearest_letter : ℕ → Letter
nearest_letter b = record {
  byte = min capital_z (max capital_a b);
  in_range = (le-min (lit≤ tt) (le-max_left capital_a b), min-le_left capital_z (max capital_a b));
}

-- the only identity that four bytes can spell
abbrev pub nearest_identity : List ℕ → Identity
nearest_identity bytes = record {
  b1 = nearest_letter (slice_index bytes 0);
  b2 = nearest_letter (slice_index bytes 1);
  number = min 99 ((slice_index bytes 2 - digit_zero) * 10 + (slice_index bytes 3 - digit_zero));
  two_digits =
      min-le_left 99 ((slice_index bytes 2 - digit_zero) * 10 + (slice_index bytes 3 - digit_zero));
}

-- the identity where a text is a header: ZCZC, one or more spaces and the identity
unfoldable pub read_header : List ℕ → Option Identity
read_header text =
    let identity = nearest_identity (last_of 4 text) in
    let spaces = replicate (length text - 8) space in
    if bytes_eq text (start_marker ++ spaces ++ identity_bytes identity) && nat_le 9 (length text)
    then Some identity
    else None

-- the identity of the header with which a text ends, wherever that begins
unfoldable pub identity_read : List ℕ → Option Identity
identity_read [] = None
identity_read (b ∷ text) = option_or (read_header (b ∷ text)) (identity_read text)

-- it ends with the word of four letters
abbrev pub ends_with : List ℕ → List ℕ → Bool
ends_with word text = bytes_eq (last_of 4 text) word

-- how the marker with which a text ends ends a copy: NNNN as full, ZCZC as cut
unfoldable pub marker_read : List ℕ → Option How
marker_read text =
    if ends_with end_marker text then Some Full
    else (if ends_with start_marker text then Some Cut else None)
