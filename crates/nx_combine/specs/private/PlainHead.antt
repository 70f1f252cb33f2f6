-- How an identity, and the head of an entry, lie in plain numbers, of which zeros are some.
use Rattle.std.specs.Prelude.{◌≡◌, ℕ, ◌+◌, ◌-◌, ◌==◌, min, if◌then◌else◌, Option, None, Some}
use Rattle.std.specs.Option.{option_map_or}
use Rattle.std.proofs.Math.Nat.{min-le_left}
use Rattle.nx_code.specs.Reading.{capital_a}
use Rattle.nx_envelope.specs.declared.found.How.{How}
use Rattle.nx_envelope.specs.declared.found.How.TheVariants.{Cut, Full, Long}
use Rattle.nx_envelope.specs.declared.identity.Identity.{Identity}
use Rattle.nx_envelope.specs.declared.letter.Letter.{Letter}
use Rattle.nx_envelope.specs.private.Reading.{nearest_letter}
use Rattle.nx_copies.specs.declared.entry.EntryHead.{EntryHead}

-- the letter at a place of the alphabet, 0 for A
abbrev pub letter_at : ℕ → Letter
letter_at place = nearest_letter (capital_a + place)

-- the place of a letter
abbrev pub place_of : Letter → ℕ
place_of letter = letter.byte - capital_a

-- the identity of two places in the alphabet and a number
abbrev pub identity_by : ℕ → ℕ → ℕ → Identity
identity_by b1 b2 number = record {
  b1 = letter_at b1;
  b2 = letter_at b2;
  number = min 99 number;
  two_digits = min-le_left 99 number;
}

-- the three numbers are those of an identity, and tell which
pub record AreOfIdentity (station subject digits : ℕ) : Type 0 where
  pub b1 : place_of (letter_at station) ≡ station
  pub b2 : place_of (letter_at subject) ≡ subject
  pub number : min 99 digits ≡ digits

-- how a copy ended, by a number
abbrev pub how_by : ℕ → How
how_by number = if number == 1 then Full else (if number == 2 then Cut else Long)

-- that number
abbrev pub how_number : How → ℕ
how_number Full = 1
how_number Cut = 2
how_number Long = 3

-- the head, if the number says how its copy ended
abbrev pub head_by : Identity → ℕ → ℕ → ℕ → Option EntryHead
head_by identity moment number errors =
    if number == 0 then None
    else Some (record {
      identity = identity;
      moment = moment;
      how = how_by number;
      errors = errors;
    })

-- what stands for each of its parts: zeros where there is no head, and then AA00
abbrev pub identity_kept : Option EntryHead → Identity
identity_kept head = option_map_or (λ known. known.identity) head (identity_by 0 0 0)

abbrev pub moment_kept : Option EntryHead → ℕ
moment_kept head = option_map_or (λ known. known.moment) head 0

abbrev pub how_kept : Option EntryHead → ℕ
how_kept head = option_map_or (λ known. how_number known.how) head 0

abbrev pub errors_kept : Option EntryHead → ℕ
errors_kept head = option_map_or (λ known. known.errors) head 0

-- these parts are those that stand for the head that they give, and nothing else is kept
pub record AreOfHead (name : Identity) (heard ending asterisks : ℕ) : Type 0 where
  pub identity : identity_kept (head_by name heard ending asterisks) ≡ name
  pub moment : moment_kept (head_by name heard ending asterisks) ≡ heard
  pub how : how_kept (head_by name heard ending asterisks) ≡ ending
  pub errors : errors_kept (head_by name heard ending asterisks) ≡ asterisks
