use Rattle.std.proofs.Common.{◌≡◌, ℕ, ◌+◌, ◌-◌, ◌++◌, ◌∙◌, Bool, List, [], length, take, drop}
use Rattle.std.proofs.Common.{subst, sym, ap, arith, append-nil, append_assoc, take_all}
use Rattle.std.proofs.Common.{length-drop}
use Rattle.std.proofs.lemmas.List.{map-append, take_rest}
use Rattle.nx_copies.specs.Events.{Event, element, elements}
use Rattle.nx_receiver.specs.Receiver.{Stands, entry_list}
use Rattle.nx_receiver.proofs.lemmas.listening.Listener.{elements-next}
use Rattle.nx_example.proofs.hearing.hear.Goals as goal

rest-length : (bits : List Bool) (at : ℕ)
    → length (take (length bits - at) (drop at bits)) ≡ length bits - at
rest-length bits at = ap length (take_rest bits at) ∙ length-drop at bits

-- the next of these elements, behind events and the elements before them
events-next : (events : List Event) (bits : List Bool) (at count : ℕ)
    → (events ++ elements (take at bits))
    ++ elements (take count (take (length bits - at) (drop at bits)))
    ≡ events ++ elements (take (at + count) bits)
events-next events bits at count =
    append_assoc events (elements (take at bits))
    (elements (take count (take (length bits - at) (drop at bits))))
    ∙ ap (λ es. events ++ es)
    (sym (map-append element (take at bits)
    (take count (take (length bits - at) (drop at bits)))))
    ∙ ap (λ bs. events ++ elements (take at bits ++ take count bs)) (take_rest bits at)
    ∙ ap (λ bs. events ++ elements bs) (elements-next bits at count)

pub loop-at-init : goal.loop-at-init
loop-at-init g c = record {
  within = omega arith;
  unfailed = c.requires;
  heard = λ start history told h. (
    [],
    subst (λ events. Stands g.M.Recall.content start c.args.receiver.now events (told ++ []))
        (sym (append-nil history))
        (subst (λ log. Stands g.M.Recall.content start c.args.receiver.now history log)
        (sym (append-nil told)) h),
  );
}

pub loop-at-preserved-in-Continue-1 : goal.loop-at-preserved-in-Continue-1
loop-at-preserved-in-Continue-1 g c =
    let bits = c.args.bits.now in
    let at = c.loop-at.at in
    let new = c.feed-count.new.self in
    let entries = entry_list c.feed-count.result.1 in
    record {
      within = omega (arith, c.feed-count.ensures.within, rest-length bits at, c.loop-at-test.true);
      unfailed = c.in_ok-entry_text.ensures.counts.none;
      heard = λ start history told h.
          let before = c.loop-at.invariant.heard start history told h in (
            before.0 ++ entries,
            subst (λ events. Stands g.M.Recall.content start new events
                (told ++ (before.0 ++ entries)))
                (events-next history bits at c.feed-count.result.0)
                (subst (λ log. Stands g.M.Recall.content start new
                ((history ++ elements (take at bits))
                ++ elements (take c.feed-count.result.0
                (take (length bits - at) (drop at bits)))) log)
                (append_assoc told before.0 entries)
                (c.feed-count.ensures.stands start (history ++ elements (take at bits))
                (told ++ before.0) before.1)),
          );
    }

pub loop-at-preserved : goal.loop-at-preserved
loop-at-preserved g c =
    let bits = c.args.bits.now in
    let at = c.loop-at.at in
    let new = c.feed-count.new.self in
    let entries = entry_list c.feed-count.result.1 in
    record {
      within = omega (arith, c.feed-count.ensures.within, rest-length bits at, c.loop-at-test.true);
      unfailed = c.loop-at.invariant.unfailed;
      heard = λ start history told h.
          let before = c.loop-at.invariant.heard start history told h in (
            before.0 ++ entries,
            subst (λ events. Stands g.M.Recall.content start new events
                (told ++ (before.0 ++ entries)))
                (events-next history bits at c.feed-count.result.0)
                (subst (λ log. Stands g.M.Recall.content start new
                ((history ++ elements (take at bits))
                ++ elements (take c.feed-count.result.0
                (take (length bits - at) (drop at bits)))) log)
                (append_assoc told before.0 entries)
                (c.feed-count.ensures.stands start (history ++ elements (take at bits))
                (told ++ before.0) before.1)),
          );
    }

pub returns-clause-heard : goal.returns-clause-heard
returns-clause-heard g c = λ start history told h.
    let heard = c.loop-at.invariant.heard start history told h in (
      heard.0,
      subst (λ bits. Stands g.M.Recall.content start c.loop-at.receiver (history ++ elements bits)
          (told ++ heard.0)) (take_all c.loop-at.at c.args.bits.now
          (omega (arith, c.loop-at-test.false)))
          heard.1,
    )
