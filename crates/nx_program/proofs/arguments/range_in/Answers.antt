use Rattle.nx_program.proofs.lemmas.arguments.ValuesRead.{if_none}
use Rattle.nx_program.proofs.arguments.range_in.Goals as goal

pub returns-in_err-number_in-clause-none : goal.returns-in_err-number_in-clause-none
returns-in_err-number_in-clause-none c =
    if_none c.from_residual-in_err-number_in.result _
    (λ kind from count is_kind is_from is_count. c.in_err-number_in.ensures.none from is_from)

pub returns-in_err-number_in-2-clause-none : goal.returns-in_err-number_in-2-clause-none
returns-in_err-number_in-2-clause-none c =
    if_none c.from_residual-in_err-number_in-2.result _
    (λ kind from count is_kind is_from is_count. c.in_err-number_in-2.ensures.none count is_count)
