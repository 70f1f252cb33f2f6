use Rattle.nx_program.proofs.lemmas.arguments.Arguments.{help_not_refused, help_not_version, named_not_help}
use Rattle.nx_program.proofs.lemmas.arguments.Arguments.{named_not_refused, named_not_version, named_once}
use Rattle.nx_program.proofs.lemmas.arguments.Arguments.{read_as_one, version_not_refused}
use Rattle.nx_program.proofs.laws.arguments_read_as_one.Goals as goal

pub returns : goal.returns
returns c = record {
  some = read_as_one;
  one_call = named_once;
  named_not_help = named_not_help;
  named_not_version = named_not_version;
  named_not_refused = named_not_refused;
  help_not_version = help_not_version;
  help_not_refused = help_not_refused;
  version_not_refused = version_not_refused;
}
