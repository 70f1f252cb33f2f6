use Rattle.std.proofs.Common.{◌∙◌, ap}
use Rattle.clap.specs.Words.{Text, found_of, first_of, rows_of}
use Rattle.clap.proofs.WalkLemmas.{first_value-rows}
use Rattle.nx_program.proofs.log_arguments.LogOption.given_in.Goals as goal

pub returns : goal.returns
returns c =
    c.get_str.ensures ∙ first_value-rows (found_of c.args.values.now) c.name.result.now
    ∙ ap (λ (t : Text). first_of t (rows_of (found_of c.args.values.now))) c.name.ensures
