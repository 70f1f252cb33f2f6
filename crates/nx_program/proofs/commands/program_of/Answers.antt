use Rattle.nx_program.specs.Arguments.{bare_tree}
use Rattle.nx_program.proofs.lemmas.arguments.BuiltTree.{built_again, with_next}
use Rattle.nx_program.proofs.commands.program_of.Goals as goal

pub loop-row-preserved : goal.loop-row-preserved
loop-row-preserved c =
    with_next bare_tree c.args.rows.now c.loop-row.row-index _ c.loop-row.program
    c.described.result c.in_ok-program-2.program c.loop-row-test.true c.loop-row.invariant
    (built_again _ _ _ c.in_ok-command.ensures c.described.ensures) c.in_ok-program-2.ensures
