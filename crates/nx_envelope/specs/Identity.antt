-- ITU-R M.540: a message is named by its station, its subject and its number.
use Rattle.std.specs.Prelude.{ℕ, Bool, ◌==◌, ◌&&◌, List, ◌∷◌, [], ◌%◌, ◌+◌, ◌/◌}
use Rattle.nx_code.specs.Reading.{digit_zero}
use Rattle.nx_envelope.specs.declared.identity.Identity.{Identity}

-- the two decimal digits of a number below 100
abbrev pub two_digits : ℕ → List ℕ
two_digits n = (digit_zero + n / 10) ∷ (digit_zero + n % 10) ∷ []

-- the two name one message: the same station, the same subject and the same number
abbrev pub same_identity : Identity → Identity → Bool
same_identity a b = (a.b1.byte == b.b1.byte) && (a.b2.byte == b.b2.byte) && (a.number == b.number)

-- the identity as it is written, the two letters and then the two digits, as EA01
abbrev pub identity_bytes : Identity → List ℕ
identity_bytes i = i.b1.byte ∷ i.b2.byte ∷ two_digits i.number
