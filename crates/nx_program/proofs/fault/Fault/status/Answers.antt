use Rattle.std.proofs.Common.{rules}
use Rattle.nx_program.proofs.fault.Fault.status.Goals as goal

pub returns-in-Arguments : goal.returns-in-Arguments
returns-in-Arguments c = search rules

pub returns-in-Arguments-2 : goal.returns-in-Arguments-2
returns-in-Arguments-2 c = search rules

pub returns-in-Arguments-3 : goal.returns-in-Arguments-3
returns-in-Arguments-3 c = search rules

pub returns-in-Arguments-4 : goal.returns-in-Arguments-4
returns-in-Arguments-4 c = search rules
