use Rattle.std.proofs.Common.{sym, ◌∙◌, subst, arith, take_all}
use Rattle.nx_memory.specs.Content.{IsContent}
use Rattle.nx_memory.proofs.lemmas.Loading.{newest-held, unknown-held}
use Rattle.nx_memory.proofs.state.saved.Saved.load.Goals as goal

pub enter-requires-clause-not_before : goal.enter-requires-clause-not_before
enter-requires-clause-not_before g c =
    let content = subst IsContent (sym c.as_slice-entry-items.ensures.value)
    c.self.invariant.content in
    newest-held _ _ _ _ (record {
      content = content;
      before = c.loop-entry.invariant;
      within =
          c.loop-entry-test.true;
      here = c.entry-item.is;
    })

pub enter-requires-clause-unknown : goal.enter-requires-clause-unknown
enter-requires-clause-unknown g c =
    let content = subst IsContent (sym c.as_slice-entry-items.ensures.value)
    c.self.invariant.content in
    unknown-held _ _ _ _ (record {
      content = content;
      before = c.loop-entry.invariant;
      within =
          c.loop-entry-test.true;
      here = c.entry-item.is;
    })
