use Rattle.std.proofs.Common.{take}
use Rattle.nx_program.specs.Arguments.{bare_tree}
use Rattle.nx_program.specs.private.Reading.{IsBuiltAs, with_rows}
use Rattle.nx_program.proofs.commands.program_of.Given as goal

-- the program has the commands of the rows so far
abbrev pub invariant-loop-row : goal.invariant-loop-row
invariant-loop-row l = IsBuiltAs (with_rows bare_tree (take l.row-index l.rows)) l.program
