use Rattle.std.proofs.Common.{◌≡◌, ◌≤◌, ◌∙◌, ap, sym, subst, unwrap_or}
use Rattle.nx_envelope.specs.Moment.{last_moment}
use Rattle.nx_memory.specs.Memory.{newest_moment}
use Rattle.nx_memory.specs.Saved.{SavedState, newest_of_all}
use Rattle.nx_copies.specs.copies.Shares.{saved_of, start_on, starts_from}
use Rattle.nx_handle.specs.Saving.{HasNoMore}
use Rattle.nx_handle.specs.PlaceKinds.{start_with}
use Rattle.nx_handle.proofs.lemmas.Loading.{newest-in_range, newest-within, start-is}
use Rattle.nx_handle.proofs.lemmas.Saving.{begins-as, end-is-bad, next-is-last}
use Rattle.nx_handle.proofs.saving.load_saved.Goals as goal

pub returns-in-Err-ended_within-clause-err : goal.returns-in-Err-ended_within-clause-err
returns-in-Err-ended_within-clause-err c =
    end-is-bad c.args.count c.args.state.now c.in-Ok.last.now c.read_lines.new.text
    c.in-Err-ended_within.status c.in-Ok.ensures.ok c.in-Err-ended_within.ensures.err

pub returns-clause-ok : goal.returns-clause-ok
returns-clause-ok c =
    let states = c.in-Ok-ended_within.states.now in
    let start = start_with c.load.new.memory c.unwrap_or.result c.selection.result in
    begins-as c.args.state.now (λ others more. states ≡ others)
    (λ others more. HasNoMore c.args.count others
    × (start_on (starts_from others) c.args.channel ≡ start))
    (λ others more same. subst (λ s. HasNoMore c.args.count s
    × (start_on (starts_from s) c.args.channel ≡ start)) same (
      c.in-Ok-ended_within.ensures.ok.1,
      start-is states c.args.channel c.saved_on-saved.result.now c.load.new.memory
          c.unwrap_or.result c.selection.result c.saved_on-saved.ensures c.load.ensures
          c.selection.ensures.selection
          (c.unwrap_or.ensures ∙ ap (λ o. unwrap_or o 0) c.newest.ensures),
    ))
    (next-is-last c.args.state.now c.in-Ok.last.now c.read_lines.new.text states
    c.in-Ok.ensures.ok c.in-Ok-ended_within.ensures.ok.0)

pub returns-clause-newest : goal.returns-clause-newest
returns-clause-newest c =
    let states = c.in-Ok-ended_within.states.now in
    let moment : c.unwrap_or.result ≡ unwrap_or (newest_of_all states) 0 =
    c.unwrap_or.ensures ∙ ap (λ o. unwrap_or o 0) c.newest.ensures in
    subst (λ es. newest_moment es ≤ c.unwrap_or.result)
    (sym (c.load.ensures ∙ ap (λ (s : SavedState). s.entries) c.saved_on-saved.ensures))
    (subst (λ n. newest_moment (saved_of states c.args.channel).entries ≤ n) (sym moment)
    (newest-within states c.args.channel))

pub returns-clause-range : goal.returns-clause-range
returns-clause-range c =
    let states = c.in-Ok-ended_within.states.now in
    subst (λ n. n ≤ last_moment)
    (sym (c.unwrap_or.ensures ∙ ap (λ o. unwrap_or o 0) c.newest.ensures))
    (newest-in_range _ states c.in-Ok-ended_within.ensures.ok.0)
