use Rattle.nx_program.proofs.lemmas.arguments.ValuesRead.{if_none}
use Rattle.nx_program.proofs.arguments.watch_in.Goals as goal

pub returns-in_err-moment_in-clause-none : goal.returns-in_err-moment_in-clause-none
returns-in_err-moment_in-clause-none c =
    if_none c.from_residual-in_err-moment_in.result _
    (λ name moment is_name is_moment. c.in_err-moment_in.ensures.none moment is_moment)
