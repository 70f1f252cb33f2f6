use Rattle.std.proofs.Common.{List, [], ◌∷◌, codes, refl, inl, inr}
use Rattle.clap.proofs.OnLiterals.{clap_on_literals}
use Rattle.clap.specs.Words.{Row, Text}
use Rattle.clap.specs.declared.error.kind.ErrorKind.TheVariants as kind
use Rattle.nx_program.proofs.lemmas.arguments.GivenValues.{given, off}
use Rattle.nx_program.proofs.lemmas.arguments.CallValues.{moment-given, moment-none, moment-of}
use Rattle.nx_program.proofs.lemmas.arguments.Arguments.{missing_argument_is_refusal}
use Rattle.nx_program.proofs.lemmas.arguments.Arguments.{unknown_is_refusal}
use Rattle.nx_program.proofs.laws.watch_in_examples.Goals as goal

abbrev values : Text → List Row
values moment =
    given (codes "FILE") (codes "x.log") ∷ given (codes "MOMENT") moment
    ∷ off (codes "combine") ∷ []

pub returns : goal.returns
unfolding clap_on_literals
returns c = record {
  some = λ program. record {
    taken = refl;
    values = values (codes "1735692000");
    command = refl;
    given = (
      refl,
      refl,
      moment-given _ (codes "1735692000") 1735692000 refl (moment-of (codes "1735692000") refl),
    );
  };
  combine = λ program. record {
    taken = refl;
    values = given (codes "combine") (codes "true") ∷ given (codes "FILE") (codes "x.log")
        ∷ given (codes "MOMENT") (codes "1735692000") ∷ [];
    command = refl;
    given = (
      refl,
      refl,
      moment-given _ (codes "1735692000") 1735692000 refl (moment-of (codes "1735692000") refl),
    );
  };
  too_late = λ program. record {
    taken = refl;
    name = codes "watch";
    values = values (codes "32503680000");
    entered = refl;
    takes = inr (inr refl);
    reported = record {
      text = codes "32503680000";
      given = refl;
      no_moment = moment-none (codes "32503680000") refl;
      told = refl;
    };
  };
  no_moment = λ program. inl (kind.MissingRequiredArgument, missing_argument_is_refusal, inl refl);
  option_alone = λ program. inl (kind.UnknownArgument, unknown_is_refusal, inl refl);
}
