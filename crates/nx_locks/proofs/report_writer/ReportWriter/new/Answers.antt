use Rattle.std.proofs.Common.{refl}
use Rattle.nx_locks.proofs.lemmas.Taking.{nothing_taken}
use Rattle.nx_locks.proofs.report_writer.ReportWriter.new.Goals as goal

pub returns : goal.returns
returns c = nothing_taken _ (record {
  synchroniser = c.hunting.ensures.stands;
  taker = c.new.ensures.shows;
}) c.new.ensures.moment refl
