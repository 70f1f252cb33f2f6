use Rattle.std.proofs.Common.{◌≡◌, ℕ, List, [], ◌∷◌, Some, codes, refl, inl, inr, ap, sym, arith}
use Rattle.clap.proofs.OnLiterals.{clap_on_literals}
use Rattle.clap.specs.Words.{Row, Text}
use Rattle.clap.specs.declared.error.kind.ErrorKind.TheVariants as kind
use Rattle.nx_program.proofs.lemmas.arguments.Arguments.{missing_argument_is_refusal}
use Rattle.nx_program.proofs.lemmas.arguments.CallValues.{moment-given, moment-none, moment-of}
use Rattle.nx_program.proofs.lemmas.arguments.GivenValues.{given}
use Rattle.nx_envelope.specs.declared.letter.Letter.{Letter}
use Rattle.nx_program.proofs.laws.slots_in_examples.Goals as goal

abbrev values : Text → Text → List Row
values station moment = given (codes "STATION") station ∷ given (codes "MOMENT") moment ∷ []

-- no letter is the small letter e
no_small_e : (station : Letter) → Some (codes "e") ≡ Some (station.byte ∷ []) → ⊥
no_small_e station e =
    let is : 101 ≡ station.byte = cc in
    let most = station.in_range.1 in
    absurd (omega arith)

-- no letter is two letters
no_two_letters : (station : Letter) → Some (codes "EA") ≡ Some (station.byte ∷ []) → ⊥
no_two_letters station e =
    let is : codes "EA" ≡ station.byte ∷ [] = cc in
    absurd (cc)

pub returns : goal.returns
unfolding clap_on_literals
returns c = record {
  send = λ program station is. record {
    taken = refl;
    values = values (codes "E") (codes "1735689600");
    command = refl;
    given = (
      ap (λ (b : ℕ). Some (b ∷ [])) (sym is),
      moment-given _ (codes "1735689600") 1735689600 refl (moment-of (codes "1735689600") refl),
    );
  };
  slots = λ program station is. record {
    taken = refl;
    values = values (codes "E") (codes "0");
    command = refl;
    given = (
      ap (λ (b : ℕ). Some (b ∷ [])) (sym is),
      moment-given _ (codes "0") 0 refl (moment-of (codes "0") refl),
    );
  };
  small_letter = λ program. record {
    taken = refl;
    values = values (codes "e") (codes "0");
    entered = inl refl;
    no_letter = no_small_e;
  };
  two_letters = λ program. record {
    taken = refl;
    values = values (codes "EA") (codes "0");
    entered = inr refl;
    no_letter = no_two_letters;
  };
  too_late = λ program. record {
    taken = refl;
    name = codes "send";
    values = values (codes "E") (codes "32503680000");
    entered = refl;
    takes = inl refl;
    reported = record {
      text = codes "32503680000";
      given = refl;
      no_moment = moment-none (codes "32503680000") refl;
      told = refl;
    };
  };
  no_moment = λ program. inl (kind.MissingRequiredArgument, missing_argument_is_refusal, inl refl);
  no_number = λ program. record {
    taken = refl;
    name = codes "slots";
    values = values (codes "E") (codes "now");
    entered = refl;
    takes = inr (inl refl);
    reported = record {
      text = codes "now";
      given = refl;
      no_moment = moment-none (codes "now") refl;
      told = refl;
    };
  };
}
