use Rattle.std.proofs.Common.{ap, sym, subst, ◌∙◌}
use Rattle.nx_memory.specs.Saved.{AreSavedEntries}
use Rattle.nx_memory.specs.Content.{is_last_known, passing}
use Rattle.nx_watch.specs.Start.{is_in_order}
use Rattle.nx_watch.proofs.lemmas.log.Start.{remembered-sound}
use Rattle.nx_watch.proofs.kept_log.start.remembered.Goals as goal

pub saved_of-requires : goal.saved_of-requires
saved_of-requires c =
    let are = c.as_slice-3.ensures.value
    ∙ c.entries_passing-last_known.ensures.passing is_last_known (λ entry behind answer p. p)
    ∙ ap (passing is_last_known) (c.as_slice-2.ensures.value
    ∙ c.entries_passing-in_order.ensures.passing is_in_order (λ entry behind answer p. p)
    ∙ ap (passing is_in_order) (c.as_slice.ensures.value ∙ c.near_entries-near.ensures.near)) in
    subst AreSavedEntries (sym are)
    (remembered-sound c.args.moment c.args.entries.now c.requires.few c.requires.numbered
    c.requires.range)
