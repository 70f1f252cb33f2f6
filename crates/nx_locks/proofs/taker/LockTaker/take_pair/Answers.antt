use Rattle.std.proofs.Common.{◌∷◌, [], arith}
use Rattle.nx_locks.proofs.lemmas.Pairs.{pair_shown}
use Rattle.nx_locks.proofs.lemmas.WordsTaken.{words_taken}
use Rattle.nx_locks.specs.private.Taker.{Taking}
use Rattle.nx_locks.proofs.taker.LockTaker.take_pair.Goals as goal

pub returns : goal.returns
returns c = rw (← c.self.view_is) (λ before after brings.
    let i = c.self.inside in
    let one = c.hear_word in
    let rest = c.hear_word-2 in
    let old : Taking = record {
      reader = i.reader;
      moment = i.moment;
      elements = i.elements;
      locks = i.locks;
      copies = i.copies;
      shown = i.shown.items;
    } in
    words_taken old before after c.saturating_add-self-inside.result rest.new.self
    (c.args.dx ∷ c.args.rx ∷ []) rest.new.shown.items (omega arith) brings
    c.saturating_add-self-inside.ensures
    (pair_shown i.reader one.new.self rest.new.self c.args.dx c.args.rx i.shown.items
    one.new.shown.items rest.new.shown.items one.ensures.shows rest.ensures.shows)
    (omega (arith, one.ensures.few, rest.ensures.few)))
