use Rattle.std.proofs.Common.{◌++◌, List, Option, ℕ, sym, subst}
use Rattle.std.specs.Option.{option_to_list}
use Rattle.nx_sync.specs.declared.step.Change.{Change}
use Rattle.nx_receiver.proofs.lemmas.listening.Listener.{none-left}
use Rattle.nx_locks.specs.private.Taker.{Closes, ReadsTo, Taking}
use Rattle.nx_locks.proofs.taker.LockTaker.read.Goals as goal
use Rattle.std.proofs.Common.{ap}

pub returns-in-Some-clause-reads : goal.returns-in-Some-clause-reads
returns-in-Some-clause-reads c = rw (← c.self.view_is) (
    let i = c.self.inside in
    let h = c.hear_word.ensures.shows in
    let made : List ℕ → Taking =
    λ shown. record {
      reader = c.hear_word.new.self;
      moment = i.moment;
      elements = i.elements;
      locks = i.locks;
      copies = i.copies;
      shown = shown;
    } in
    record {
      reader = c.hear_word.new.self;
      printed = h.printed;
      hears = h.hears;
      to = subst (λ (change : Option Change).
          ReadsTo (made (i.shown.items ++ option_to_list h.printed)) c.close.new.self change)
          (sym c.in-Some.is)
          (subst (λ l. Closes (made l) c.close.new.self c.in-Some.how) h.spelled
          c.close.ensures.closes);
    })

pub returns-in_default-clause-reads : goal.returns-in_default-clause-reads
returns-in_default-clause-reads c = rw (← c.self.view_is) (
    let i = c.self.inside in
    let h = c.hear_word.ensures.shows in
    let made : List ℕ → Taking =
    λ shown. record {
      reader = c.hear_word.new.self;
      moment = i.moment;
      elements = i.elements;
      locks = i.locks;
      copies = i.copies;
      shown = shown;
    } in
    record {
      reader = c.hear_word.new.self;
      printed = h.printed;
      hears = h.hears;
      to = subst (λ (change : Option Change).
          ReadsTo (made (i.shown.items ++ option_to_list h.printed))
          (made c.hear_word.new.shown.items) change)
          (sym (none-left _ c.in_default.not-Some)) (ap made h.spelled);
    })
