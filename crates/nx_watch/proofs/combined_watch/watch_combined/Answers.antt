use Rattle.nx_watch.proofs.lemmas.log.CombinedLoggable.{combined-loggable}
use Rattle.nx_watch.proofs.combined_watch.watch_combined.Goals as goal

pub watch_with-requires-clause-loggable : goal.watch_with-requires-clause-loggable
watch_with-requires-clause-loggable g c = combined-loggable
