use Rattle.std.proofs.Common.{◌+◌, ◌<◌, ◌++◌, ◌∙◌, [], ap, append-nil, arith, drop}
use Rattle.std.proofs.Common.{length-drop, map, subst, subst₂, sym, take}
use Rattle.std.specs.Prelude.{IfSome}
use Rattle.nx_fec.specs.Transfers.{count_of}
use Rattle.nx_receiver.specs.Listener.{HearsBy, ListeningOver, text_by, then_elements}
use Rattle.nx_receiver.specs.Receiver.{HeadsText, headed_list}
use Rattle.nx_copies.specs.copies.Shares.{marked}
use Rattle.nx_receiver.proofs.lemmas.listening.Listener.{differs-on, heard-to, hears-quiet, hears-then}
use Rattle.nx_receiver.proofs.lemmas.listening.Listener.{none-before, only-then, text-counted}
use Rattle.nx_receiver.proofs.lemmas.receiver.Given.{heads_counted, heads_few}
use Rattle.nx_receiver.proofs.listener.Listener.next_printed.Goals as goal

-- there is nothing to hear
pub returns-then-from-len-clause-heard : goal.returns-then-from-len-clause-heard
returns-then-from-len-clause-heard g c = λ starts given part copies h.
    subst₂ (λ bs l. HearsBy g.R.ChannelReceiver.kind starts c.args.self.now
    (then_elements given c.args.channel bs) l) (sym (append-nil part)) (sym (append-nil copies)) h

-- nothing is over
pub returns-in_default-clause-heard : goal.returns-in_default-clause-heard
returns-in_default-clause-heard g c = λ starts given part copies h.
    let call = c.hear_on-count in
    let n = call.result.0 in
    let bits = drop c.args.from c.args.packed.now in
    let now : ListeningOver g.row.R.Denot = record {
      on_0 = c.self.inside.on_0;
      on_1 = c.self.inside.on_1;
      on_2 = c.self.inside.on_2;
      has_moment = c.self.inside.has_moment;
      elements = c.self.inside.elements;
      entries = c.self.inside.entries;
    } in
    let entries = ap (λ (l : ListeningOver g.row.R.Denot). l.entries) c.self.view_is
    ∙ (differs-on c.args.channel c.args.self.now call.new.self call.ensures.only).entries in
    heard-to g.met.R.ChannelReceiver.laws starts c.args.self.now call.new.self now given
    c.args.channel part bits n
    c.saturating_add-self-inside.result now.entries copies [] h
    (hears-quiet g.R.ChannelReceiver.awaits c.args.channel c.args.self.now call.new.self bits n
    call.result.1 g.met.R.ChannelReceiver.none_awaited c.in_default.is
    (λ start history log s. call.ensures.stands start history log s)
    (λ start history log s k lt. call.ensures.first start history log s k lt))
    call.ensures.only c.self.view_is
    (omega (arith, call.ensures.within, length-drop c.args.from c.args.packed.now)) (omega arith)
    c.saturating_add-self-inside.ensures (omega (arith, entries, h.entries))

pub returns-in_default-clause-first : goal.returns-in_default-clause-first
returns-in_default-clause-first g c = λ starts given part copies h k lt.
    let call = c.hear_on-count in
    let bits = drop c.args.from c.args.packed.now in
    none-before starts c.args.self.now call.new.self given c.args.channel part bits call.result.0
    copies [] h
    (hears-quiet g.R.ChannelReceiver.awaits c.args.channel c.args.self.now call.new.self bits
    call.result.0 call.result.1 g.met.R.ChannelReceiver.none_awaited c.in_default.is (λ start
    history log s. call.ensures.stands start history log s)
    (λ start history log s k lt. call.ensures.first start history log s k lt)) k lt

pub returns-in_default-clause-moment : goal.returns-in_default-clause-moment
returns-in_default-clause-moment g c =
    ap (λ (l : ListeningOver g.row.R.Denot). l.has_moment) c.self.view_is
    ∙ (differs-on c.args.channel c.args.self.now c.hear_on-count.new.self
    c.hear_on-count.ensures.only).moment

-- something is over
pub returns-clause-heard : goal.returns-clause-heard
returns-clause-heard g c = λ starts given part copies h.
    let call = c.hear_on-count in
    let next = c.finish_next_on-more in
    let n = call.result.0 in
    let m = next.result.0 in
    let head = next.result.1 in
    let channel = c.args.channel in
    let from = c.args.from in
    let packed = c.args.packed.now in
    let last = next.new.self in
    let text = text_by g.R.ChannelReceiver.kind last channel in
    let hears = hears-then g.R.ChannelReceiver.awaits channel c.args.self.now call.new.self last
    packed from n m call.result.1 c.in-Some.over (headed_list head text) c.in-Some.is
    (λ start history log s. call.ensures.stands start history log s)
    (λ start history log s k lt. call.ensures.first start history log s k lt)
    next.ensures.finishes in
    let now : ListeningOver g.row.R.Denot = record {
      on_0 = c.self-2.inside.on_0;
      on_1 = c.self-2.inside.on_1;
      on_2 = c.self-2.inside.on_2;
      has_moment = c.self-2.inside.has_moment;
      elements = c.self-2.inside.elements;
      entries = c.self-2.inside.entries;
    } in
    let bits = drop from packed in
    let least : 0 < n + m =
    omega (arith, call.ensures.some (omega (arith, c.if-from-len.false, c.len.ensures.count))) in
    let heard = heard-to g.met.R.ChannelReceiver.laws starts c.args.self.now last now given channel
    part bits (n + m)
    c.saturating_add-self-inside-2.result c.saturating_add-self-inside-3.result
    copies (headed_list head text) h hears
    (only-then channel c.args.self.now call.new.self last call.ensures.only next.ensures.only)
    c.self-2.view_is
    (omega (arith, next.ensures.within, length-drop from packed))
    (heads_few head text (n + m) (λ some. least))
    c.saturating_add-self-inside-2.ensures
    (c.saturating_add-self-inside-3.ensures ∙ ap (λ k. count_of (now.entries + k))
    (heads_counted head text c.is_some.result c.from.result c.is_some.ensures c.from.ensures)) in
    subst (λ t. HearsBy g.R.ChannelReceiver.kind starts
    (record now {
      elements = c.saturating_add-self-inside-2.result;
      entries = c.saturating_add-self-inside-3.result;
    })
    (then_elements given channel (part ++ take (n + m) bits))
    (copies ++ map (marked channel) (headed_list head t)))
    (sym (text-counted g.R.ChannelReceiver.kind last now channel
    c.saturating_add-self-inside-2.result
    c.saturating_add-self-inside-3.result c.self-2.view_is)) heard

pub returns-clause-first : goal.returns-clause-first
returns-clause-first g c = λ starts given part copies h k lt.
    let call = c.hear_on-count in
    let next = c.finish_next_on-more in
    let n = call.result.0 in
    let m = next.result.0 in
    let head = next.result.1 in
    let channel = c.args.channel in
    let from = c.args.from in
    let packed = c.args.packed.now in
    let last = next.new.self in
    let text = text_by g.R.ChannelReceiver.kind last channel in
    let hears = hears-then g.R.ChannelReceiver.awaits channel c.args.self.now call.new.self last
    packed from n m call.result.1 c.in-Some.over (headed_list head text) c.in-Some.is
    (λ start history log s. call.ensures.stands start history log s)
    (λ start history log s k lt. call.ensures.first start history log s k lt)
    next.ensures.finishes in
    none-before starts c.args.self.now last given channel part (drop from packed) (n + m) copies
    (headed_list head text) h hears k lt

pub returns-clause-head : goal.returns-clause-head
returns-clause-head g c =
    let next = c.finish_next_on-more in
    let now : ListeningOver g.row.R.Denot = record {
      on_0 = c.self-2.inside.on_0;
      on_1 = c.self-2.inside.on_1;
      on_2 = c.self-2.inside.on_2;
      has_moment = c.self-2.inside.has_moment;
      elements = c.self-2.inside.elements;
      entries = c.self-2.inside.entries;
    } in
    subst (λ t. IfSome next.result.1 (λ head. HeadsText head t))
    (sym (text-counted g.R.ChannelReceiver.kind next.new.self now c.args.channel
    c.saturating_add-self-inside-2.result c.saturating_add-self-inside-3.result
    c.self-2.view_is)) next.ensures.head

pub returns-clause-moment : goal.returns-clause-moment
returns-clause-moment g c =
    let call = c.hear_on-count in
    let next = c.finish_next_on-more in
    ap (λ (l : ListeningOver g.row.R.Denot). l.has_moment) c.self-2.view_is
    ∙ (differs-on c.args.channel c.args.self.now next.new.self
    (only-then c.args.channel c.args.self.now call.new.self next.new.self call.ensures.only
    next.ensures.only)).moment
