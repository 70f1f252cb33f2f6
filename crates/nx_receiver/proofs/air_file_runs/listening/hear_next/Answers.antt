use Rattle.std.proofs.Common.{◌++◌, ◌∷◌, ◌∙◌, [], ap, append-nil, drop, map, subst, take, true}
use Rattle.std.proofs.lemmas.Result.{err_from_is_err_and}
use Rattle.nx_receiver.specs.Listener.{HearsBy, text_by, then_elements}
use Rattle.nx_receiver.specs.Receiver.{headed_list}
use Rattle.nx_copies.specs.copies.FoundCopies.{headed_copy}
use Rattle.nx_copies.specs.copies.Log.{IsEntry}
use Rattle.nx_copies.specs.copies.Shares.{marked}
use Rattle.nx_receiver.specs.private.Listener.{BeginsLogBy}
use Rattle.nx_receiver.proofs.lemmas.listening.Listener.{begins-more, logs-more, whole-part}
use Rattle.nx_copies.proofs.lemmas.printing.Log.{one-log}
use Rattle.nx_receiver.proofs.air_file_runs.listening.hear_next.Goals as goal

-- nothing is printed
pub returns-in_default-clause-heard : goal.returns-in_default-clause-heard
returns-in_default-clause-heard g c = λ starts old given part h.
    let call = c.next_printed-count in
    let channel = c.args.channel in
    let bits = drop c.args.from c.args.packed.now in
    let text = text_by g.C.ChannelReceiver.kind call.new.self channel in
    let more = then_elements given channel (part ++ take call.result.0 bits) in
    record {
      bytes = h.bytes;
      hears = record {
        log = h.hears.log;
        hears = subst (λ l. HearsBy g.C.ChannelReceiver.kind starts call.new.self more l)
            (ap (λ o. h.hears.log ++ map (marked channel) (headed_list o text)) c.in_default.is
            ∙ append-nil h.hears.log)
            (call.ensures.heard starts given part h.hears.log h.hears.hears);
        spelled = h.hears.spelled;
      };
      here = h.here;
    }

pub returns-clause-heard : goal.returns-clause-heard
returns-clause-heard g c = λ starts old given part h.
    let call = c.next_printed-count in
    let channel = c.args.channel in
    let bits = drop c.args.from c.args.packed.now in
    let text = text_by g.C.ChannelReceiver.kind call.new.self channel in
    let more = then_elements given channel (part ++ take call.result.0 bits) in
    let copy = headed_copy c.in-Some.head text true in
    let out = c.in_ok-give_entry.ensures.given in
    let entry = subst (λ t. IsEntry (marked channel (headed_copy c.in-Some.head t true)) out.0)
    c.text.ensures.text out.1 in
    record {
      bytes = h.bytes ++ out.0;
      hears = logs-more starts c.args.listener.now call.new.self (then_elements given channel part)
          more h.bytes out.0 (marked channel copy ∷ []) (one-log (marked channel copy) out.0 entry)
          h.hears
          (subst (λ o. HearsBy g.C.ChannelReceiver.kind starts call.new.self more
          (h.hears.log ++ map (marked channel) (headed_list o text))) c.in-Some.is
          (call.ensures.heard starts given part h.hears.log h.hears.hears));
      here = out.2 old h.bytes h.here;
    }

pub returns-in_err-give_entry-clause-heard : goal.returns-in_err-give_entry-clause-heard
returns-in_err-give_entry-clause-heard g c = λ starts old given part h.
    let kind = g.C.ChannelReceiver.kind in
    let call = c.next_printed-count in
    let channel = c.args.channel in
    let count = call.result.0 in
    let bits = drop c.args.from c.args.packed.now in
    let text = text_by kind call.new.self channel in
    let more = then_elements given channel (part ++ take count bits) in
    let copy = headed_copy c.in-Some.head text true in
    let out = c.in_err-give_entry.ensures.given in
    let entry = subst (λ t. IsEntry (marked channel (headed_copy c.in-Some.head t true)) out.0)
    c.text.ensures.text out.1 in
    let hears = logs-more starts c.args.listener.now call.new.self
    (then_elements given channel part) more h.bytes out.0 (marked channel copy ∷ [])
    (one-log (marked channel copy) out.0 entry) h.hears
    (subst (λ o. HearsBy kind starts call.new.self more
    (h.hears.log ++ map (marked channel) (headed_list o text))) c.in-Some.is
    (call.ensures.heard starts given part h.hears.log h.hears.hears)) in
    let p = err_from_is_err_and c.from_residual.result c.from_residual.ensures.1 in
    rw p.1 (rw p.2 (record {
      bytes = h.bytes ++ out.0;
      begun = subst (λ bs. BeginsLogBy kind.printing starts (then_elements given channel bs)
          (h.bytes ++ out.0)) (whole-part part bits count)
          (begins-more g.met.C.ChannelReceiver.laws starts call.new.self given channel
          (part ++ take count bits) (drop count bits) (h.bytes ++ out.0) hears);
      some = out.2 old h.bytes h.here;
    }))
