use Rattle.std.proofs.Common.{refl}
use Rattle.nx_program.proofs.known_streams.bytes_in_memory_are_told.Goals as goal

pub returns : goal.returns
returns c reader writer = record { left = refl; holds = refl }
