use Rattle.std.proofs.Common.{◌+◌, ◌∙◌, None, ap}
use Rattle.nx_fec.specs.Transfers.{count_of}
use Rattle.nx_fec.specs.declared.air_files.channel.Channel.TheVariants.{Zero, One, Two}
use Rattle.nx_receiver.proofs.lemmas.listening.Ends.{bool-counted, closed-all, log-of}
use Rattle.nx_receiver.proofs.air_file_runs.listening.unlogged.close_unlogged.Goals as goal

pub returns-clause-closed : goal.returns-clause-closed
returns-clause-closed c = λ starts given h.
    let last = c.close-last in
    let one = log-of last.result.on_0 Zero last.ensures.moment_0 in
    let two = log-of last.result.on_1 One last.ensures.moment_1 in
    let three = log-of last.result.on_2 Two last.ensures.moment_2 in
    closed-all starts c.args.listener last.result None None given h.0 one.0 two.0 three.0
    c.entries-entries.result c.saturating_add.result c.saturating_add-2.result _ h.1
    (last.ensures.printed starts given h.1.log h.1.hears) one.1 two.1 three.1 tt
    c.elements-bits.ensures c.entries-entries.ensures
    (λ fits. c.saturating_add.ensures ∙ ap (λ k. count_of (c.entries-entries.result + k))
    (bool-counted _ _ _ c.is_some.ensures c.from.ensures))
    (λ fits. c.saturating_add-2.ensures ∙ ap (λ k. count_of (c.saturating_add.result + k))
    (bool-counted _ _ _ c.is_some-2.ensures c.from-2.ensures))
    (λ fits. c.saturating_add-printed.ensures ∙ ap (λ k. count_of (c.saturating_add-2.result + k))
    (bool-counted _ _ _ c.is_some-3.ensures c.from-3.ensures))
