use Rattle.nx_memory.proofs.lemmas.Loading.{newest-held, unknown-held}
use Rattle.nx_watch.proofs.kept_log.start.saved_of.Goals as goal

pub enter-requires-clause-not_before : goal.enter-requires-clause-not_before
enter-requires-clause-not_before c = newest-held _ _ _ _ (record {
  content = c.requires.content;
  before = c.loop-entry.invariant;
  within = c.loop-entry-test.true;
  here = c.entry-item.is;
})

pub enter-requires-clause-unknown : goal.enter-requires-clause-unknown
enter-requires-clause-unknown c = unknown-held _ _ _ _ (record {
  content = c.requires.content;
  before = c.loop-entry.invariant;
  within = c.loop-entry-test.true;
  here = c.entry-item.is;
})
