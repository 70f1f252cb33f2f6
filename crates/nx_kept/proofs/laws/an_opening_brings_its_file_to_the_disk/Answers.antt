use Rattle.std.proofs.Common.{sym, ◌∙◌}
use Rattle.nx_kept.proofs.laws.an_opening_brings_its_file_to_the_disk.Goals as goal

pub returns : goal.returns
returns g c start records old new syncs = (
  syncs.synced,
  syncs.only_read.same,
  λ file left. syncs.durable file left ∙ sym syncs.only_read.same,
  syncs.since.each,
)
