use Rattle.nx_disk.proofs.lemmas.Left.{seen_is_left}
use Rattle.nx_program.proofs.watch_laws.the_files_of_the_system_may_be_left_as_found.Goals as goal

pub returns : goal.returns
returns g c start disk = seen_is_left start disk.left.files disk.history.events
