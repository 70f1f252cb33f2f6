use Rattle.nx_watch.proofs.lemmas.log.Loggable.{plain-loggable}
use Rattle.nx_watch.proofs.left_on.watch.Goals as goal

pub watch_with-requires-clause-loggable : goal.watch_with-requires-clause-loggable
watch_with-requires-clause-loggable g c = plain-loggable
