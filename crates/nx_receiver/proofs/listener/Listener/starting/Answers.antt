use Rattle.std.proofs.lemmas.Grind.{common_steps}
use Rattle.std.proofs.Common.{◌≡◌, ◌≤◌, ℕ, Option, Some, None, unwrap_or, sym, ap}
use Rattle.std.proofs.Common.{◌∙◌, arith}
use Rattle.nx_envelope.specs.Moment.{last_moment}
use Rattle.nx_fec.specs.declared.air_files.channel.Channel.TheVariants.{Zero, One, Two}
use Rattle.nx_memory.specs.Memory.{newest_of}
use Rattle.nx_memory.specs.Saved.{SavedState, later_of}
use Rattle.nx_copies.specs.copies.Shares.{start_on, starts_from}
use Rattle.nx_receiver.proofs.lemmas.listening.Listener.{heard-first, starts-first}
use Rattle.nx_receiver.proofs.listener.Listener.starting.Goals as goal

pub returns-clause-heard : goal.returns-clause-heard
returns-clause-heard g c =
    let starts = starts_from c.args.saved.now in
    let same : starts.moment ≡ c.unwrap_or-moment.result =
    sym (c.unwrap_or-moment.ensures ∙ ap (λ o. unwrap_or o 0) c.newest.ensures) in
    heard-first g.met.R.ChannelReceiver.laws starts _ _ _
    (c.in_ok-on_0.ensures.stands (start_on starts Zero)
    (sym (ap (λ (s : SavedState). s.entries) c.kept_on-selected_0.ensures.kept)) same
    (sym c.kept_on-selected_0.ensures.selected))
    (c.in_ok-on_1.ensures.stands (start_on starts One)
    (sym (ap (λ (s : SavedState). s.entries) c.kept_on-selected_1.ensures.kept)) same
    (sym c.kept_on-selected_1.ensures.selected))
    (c.in_ok-on_2.ensures.stands (start_on starts Two)
    (sym (ap (λ (s : SavedState). s.entries) c.kept_on-selected_2.ensures.kept)) same
    (sym c.kept_on-selected_2.ensures.selected))

pub returns-clause-start : goal.returns-clause-start
returns-clause-start g c =
    let starts = starts_from c.args.saved.now in
    let same : starts.moment ≡ c.unwrap_or-moment.result =
    sym (c.unwrap_or-moment.ensures ∙ ap (λ o. unwrap_or o 0) c.newest.ensures) in
    starts-first g.met.R.ChannelReceiver.laws starts _ _ _
    (c.in_ok-on_0.ensures.stands (start_on starts Zero)
    (sym (ap (λ (s : SavedState). s.entries) c.kept_on-selected_0.ensures.kept)) same
    (sym c.kept_on-selected_0.ensures.selected))
    (c.in_ok-on_1.ensures.stands (start_on starts One)
    (sym (ap (λ (s : SavedState). s.entries) c.kept_on-selected_1.ensures.kept)) same
    (sym c.kept_on-selected_1.ensures.selected))
    (c.in_ok-on_2.ensures.stands (start_on starts Two)
    (sym (ap (λ (s : SavedState). s.entries) c.kept_on-selected_2.ensures.kept)) same
    (sym c.kept_on-selected_2.ensures.selected))
    (c.in_ok-on_0.ensures.kept
    ∙ ap (λ (s : SavedState). s.entries) c.kept_on-selected_0.ensures.kept)
    (c.in_ok-on_1.ensures.kept
    ∙ ap (λ (s : SavedState). s.entries) c.kept_on-selected_1.ensures.kept)
    (c.in_ok-on_2.ensures.kept
    ∙ ap (λ (s : SavedState). s.entries) c.kept_on-selected_2.ensures.kept)
