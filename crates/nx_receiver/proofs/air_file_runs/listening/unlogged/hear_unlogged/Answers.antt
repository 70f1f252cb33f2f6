use Rattle.std.proofs.Common.{◌≡◌, ◌∙◌, ◌++◌, drop, map, take, subst, arith, rules}
use Rattle.std.proofs.lemmas.List.{take_all}
use Rattle.nx_receiver.specs.Listener.{then_elements}
use Rattle.nx_receiver.specs.private.Listener.{text_on}
use Rattle.nx_receiver.specs.Receiver.{headed_list}
use Rattle.nx_copies.specs.copies.Shares.{marked}
use Rattle.nx_receiver.specs.private.Unlogged.{HasHeardGiven}
use Rattle.nx_receiver.proofs.lemmas.listening.Listener.{elements-next, head-log, logs-more}
use Rattle.nx_receiver.proofs.air_file_runs.listening.unlogged.hear_unlogged.Goals as goal

pub loop-at-preserved : goal.loop-at-preserved
loop-at-preserved c =
    let bits = c.args.packed.now in
    let channel = c.args.channel in
    let at = c.loop-at.at in
    let next = c.next_printed-count in
    let n = next.result.0 in
    let head = next.result.1 in
    let text = text_on next.new.self channel in
    let out = head-log channel head text next.ensures.head in
    record {
      within = omega (arith, next.ensures.within);
      moment = next.ensures.moment ∙ c.loop-at.invariant.moment;
      heard = λ starts given h.
          let before = c.loop-at.invariant.heard starts given h in
          let part = take at bits in
          let more = then_elements given channel (part ++ take n (drop at bits)) in
          subst (λ bs. HasHeardGiven starts next.new.self (then_elements given channel bs))
          (elements-next bits at n) (
            before.0 ++ out.0,
            logs-more starts c.loop-at.listener next.new.self (then_elements given channel part)
                more before.0 out.0 (map (marked channel) (headed_list head text)) out.1 before.1
                (next.ensures.heard starts given part before.1.log before.1.hears),
          );
    }

pub returns-clause-heard : goal.returns-clause-heard
returns-clause-heard c = λ starts given h.
    let bits = c.args.packed.now in
    let all : take c.loop-at.at bits ≡ bits = take_all c.loop-at.at bits (search rules) in
    subst (λ bs. HasHeardGiven starts c.loop-at.listener (then_elements given c.args.channel bs))
    all
    (c.loop-at.invariant.heard starts given h)
