use Rattle.nx_sync.proofs.lemmas.hunting.Blocks.{in_table}
use Rattle.nx_sync.proofs.phasing.is_block.Goals as goal

pub returns : goal.returns
returns c = in_table c.args.elements c.requires
