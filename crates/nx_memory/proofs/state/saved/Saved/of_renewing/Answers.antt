use Rattle.std.proofs.Common.{◌≡◌, ◌≤◌, ◌++◌, arith, sym, ap, ◌∙◌, subst, append-nil, length}
use Rattle.std.proofs.lemmas.List.{drop_all}
use Rattle.nx_envelope.specs.Moment.{last_moment}
use Rattle.nx_memory.specs.Content.{last_known}
use Rattle.nx_memory.specs.Saved.{AreSavedEntries}
use Rattle.nx_memory.proofs.lemmas.Renewed.{last_known-content, newest-last_known}
use Rattle.nx_memory.proofs.state.saved.Saved.of_renewing.Goals as goal

pub invariant_of-result : goal.invariant_of-result
invariant_of-result c =
    let all = c.entries-all.result.now in
    let are : c.loop-place.entries.items ≡ last_known c.args.memory.now =
    sym (append-nil c.loop-place.entries.items)
    ∙ ap (λ l. c.loop-place.entries.items ++ last_known l)
    (sym (drop_all c.loop-place.place all c.loop-place-test.false))
    ∙ c.loop-place.invariant.kept
    ∙ ap last_known c.entries-all.ensures.entries in
    subst AreSavedEntries (sym are) (record {
      content = last_known-content c.args.memory.now c.entries-all.ensures.content;
      in_range = subst (λ n. n ≤ last_moment) (sym (newest-last_known c.args.memory.now))
          c.requires;
    })
