use Rattle.std.proofs.lemmas.Result.{IfOk-weaker}
use Rattle.clap.specs.Words.{new_app}
use Rattle.nx_program.proofs.commands.sendings_command.Goals as goal

pub returns : goal.returns
returns c =
    IfOk-weaker c.with_flag.result _ _
    (λ r adds. adds (new_app c.args.name.now)
    (record { tree = c.new.ensures.app; local = c.new.ensures.local })) c.with_flag.ensures
