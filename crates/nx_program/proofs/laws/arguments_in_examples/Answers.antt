use Rattle.std.proofs.Common.{[], ◌∷◌, codes, refl, inl}
use Rattle.clap.proofs.OnLiterals.{clap_on_literals}
use Rattle.clap.specs.declared.error.kind.ErrorKind.TheVariants as kind
use Rattle.nx_program.proofs.lemmas.arguments.GivenValues.{given, off}
use Rattle.nx_program.proofs.lemmas.arguments.Arguments.{missing_is_refusal, unknown_is_refusal}
use Rattle.nx_program.proofs.laws.arguments_in_examples.Goals as goal

pub returns : goal.returns
unfolding clap_on_literals
returns c = record {
  decode = λ program. record { taken = refl; values = []; command = refl; given = tt };
  encode = λ program. record { taken = refl; values = []; command = refl; given = tt };
  code = λ program. record { taken = refl; values = []; command = refl; given = tt };
  show = λ program. record { taken = refl; values = []; command = refl; given = tt };
  check = λ program. record { taken = refl; values = []; command = refl; given = tt };
  listen = λ program. record {
    taken = refl;
    values = off (codes "combine") ∷ [];
    command = refl;
    given = refl;
  };
  combine = λ program. record {
    taken = refl;
    values = given (codes "combine") (codes "true") ∷ [];
    command = refl;
    given = refl;
  };
  resume = λ program. record { taken = refl; values = []; command = refl; given = tt };
  save = λ program. record { taken = refl; values = []; command = refl; given = tt };
  locks = λ program. record { taken = refl; values = []; command = refl; given = tt };
  help = λ program. inl refl;
  short_help = λ program. inl refl;
  help_of_call = λ program. inl refl;
  version = λ program. inl refl;
  short_version = λ program. inl refl;
  version_first = λ program. inl refl;
  version_of_call = λ program. inl (kind.UnknownArgument, unknown_is_refusal, inl refl);
  unknown = λ program. inl (kind.UnknownArgument, unknown_is_refusal, inl refl);
  none = λ program. inl (kind.MissingSubcommand, missing_is_refusal, inl refl);
  surplus = λ program. inl (kind.UnknownArgument, unknown_is_refusal, inl refl);
  twice = λ program. inl (kind.UnknownArgument, unknown_is_refusal, inl refl);
  option = λ program. inl (kind.UnknownArgument, unknown_is_refusal, inl refl);
  help_command = λ program. inl refl;
  help_twice = λ program. inl refl;
  help_of_command = λ program rest. refl;
  read_as_they_stand = λ program rest. refl;
}
