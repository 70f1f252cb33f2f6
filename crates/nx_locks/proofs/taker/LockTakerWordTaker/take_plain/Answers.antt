use Rattle.std.proofs.Common.{arith, rules}
use Rattle.std.specs.Prelude.{IsTrue}
use Rattle.nx_locks.proofs.lemmas.WordsTaken.{words_taken}
use Rattle.nx_locks.specs.private.Taker.{Taking}
use Rattle.nx_locks.proofs.taker.LockTakerWordTaker.take_plain.Goals as goal

pub returns-clause-hears : goal.returns-clause-hears
returns-clause-hears c = rw (← c.self.view_is) (λ is before after brings.
    let i = c.self.inside in
    let count = c.saturating_add-self-inside.result in
    let words = c.args.words.now in
    let heard : IsTrue c.hear_words.result = search rules in
    let old : Taking = record {
      reader = i.reader;
      moment = i.moment;
      elements = i.elements;
      locks = i.locks;
      copies = i.copies;
      shown = i.shown.items;
    } in
    words_taken old before after count c.hear_words.new.self words c.hear_words.new.shown.items
    c.requires.pairs.some brings c.saturating_add-self-inside.ensures
    (c.hear_words.ensures.shows heard) (omega (arith, c.hear_words.ensures.few)))
