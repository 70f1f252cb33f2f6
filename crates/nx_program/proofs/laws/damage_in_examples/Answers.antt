use Rattle.std.proofs.Common.{◌≡◌, List, [], ◌∷◌, Some, codes, refl, inl}
use Rattle.clap.proofs.OnLiterals.{clap_on_literals}
use Rattle.clap.specs.Words.{Row, Text}
use Rattle.clap.specs.declared.error.kind.ErrorKind.TheVariants as kind
use Rattle.nx_station.specs.declared.damaging.DamageKind.{DamageKind}
use Rattle.nx_program.specs.Arguments.{kind_name}
use Rattle.nx_program.proofs.lemmas.arguments.GivenValues.{given}
use Rattle.nx_program.proofs.lemmas.arguments.CallValues.{differ, no_kind, number-of}
use Rattle.nx_program.proofs.lemmas.arguments.Arguments.{invalid_is_refusal, missing_argument_is_refusal}
use Rattle.nx_program.proofs.laws.damage_in_examples.Goals as goal

abbrev values : Text → Text → Text → List Row
values kind from count =
    given (codes "KIND") kind ∷ given (codes "FROM") from ∷ given (codes "COUNT") count ∷ []

-- no kind is written in capitals
no_capitals : (kind : DamageKind) → Some (codes "DX") ≡ Some (kind_name kind) → ⊥
no_capitals = no_kind (codes "DX") (differ _ _ refl) (differ _ _ refl) (differ _ _ refl)

abbrev some_words : List Row
some_words = values (codes "dx") (codes "144") (codes "59")

abbrev all_words : List Row
all_words = values (codes "all") (codes "0") (codes "4294967295")

pub returns : goal.returns
unfolding clap_on_literals
returns c = record {
  some = λ program. record {
    taken = refl;
    values = some_words;
    command = refl;
    given = (
      refl,
      number-of (codes "FROM") some_words (codes "144") refl refl,
      number-of (codes "COUNT") some_words
          (codes "59") refl refl,
    );
  };
  widest = λ program. record {
    taken = refl;
    values = all_words;
    command = refl;
    given = (
      refl,
      number-of (codes "FROM") all_words (codes "0") refl refl,
      number-of (codes "COUNT") all_words
          (codes "4294967295") refl refl,
    );
  };
  capitals = λ program. record {
    taken = refl;
    values = values (codes "DX") (codes "0") (codes "1");
    entered = refl;
    no_kind = no_capitals;
  };
  too_many = λ program. (kind.ValueValidation, invalid_is_refusal, inl refl);
  no_count = λ program. inl (kind.MissingRequiredArgument, missing_argument_is_refusal, inl refl);
}
