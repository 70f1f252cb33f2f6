use Rattle.nx_program.proofs.watch_laws.the_files_of_the_system_open_fresh.Goals as goal

pub returns : goal.returns
returns g c files name disk given = (_, given)
