use Rattle.nx_program.proofs.commands.navtex_command.Goals as goal

-- the rows of the program's own table make the tree of the specs, as both compute
pub returns : goal.returns
returns c = c.program_of.ensures
