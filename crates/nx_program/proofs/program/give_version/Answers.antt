use Rattle.std.proofs.Common.{rules}
use Rattle.nx_program.proofs.program.give_version.Goals as goal

pub returns-in_err-write_out : goal.returns-in_err-write_out
returns-in_err-write_out c = search rules
