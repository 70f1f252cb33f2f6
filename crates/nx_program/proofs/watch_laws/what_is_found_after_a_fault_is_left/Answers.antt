use Rattle.std.proofs.Common.{arith}
use Rattle.nx_program.proofs.watch_laws.what_is_found_after_a_fault_is_left.Goals as goal

pub returns : goal.returns
returns g c run disk found =
    g.met.F.Disk.DiskFile.counts_now run.found disk 0 (g.F.Disk.DiskFile.seen run.found disk)
    (omega arith) (found run.found disk)
