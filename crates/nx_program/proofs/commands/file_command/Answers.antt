use Rattle.std.proofs.lemmas.Result.{IfOk-weaker}
use Rattle.nx_program.proofs.commands.file_command.Goals as goal

pub returns : goal.returns
returns c =
    IfOk-weaker c.with_text-2.result _ _
    (λ r adds. adds _ (c.in_ok-with_file.ensures _ c.in_ok-with_combine.ensures))
    c.with_text-2.ensures
