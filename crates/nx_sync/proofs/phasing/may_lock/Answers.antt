use Rattle.std.proofs.Common.{◌/◌, ◌^◌, arith}
use Rattle.nx_sync.proofs.lemmas.hunting.Strides.{in_table}
use Rattle.nx_sync.proofs.phasing.may_lock.Goals as goal

pub returns : goal.returns
returns c = in_table (c.args.window / 2 ^ 21) (omega (arith, c.requires))
