use Rattle.std.proofs.Common.{length, ◌-◌, ◌≤◌}
use Rattle.nx_disk.proofs.log_file.LogFileRawFile.read_at.Given as goal

abbrev pub invariant-fill : goal.invariant-fill
invariant-fill g l = l.got ≤ length l.room

abbrev pub decreases-fill : goal.decreases-fill
decreases-fill g l = length l.room - l.got
