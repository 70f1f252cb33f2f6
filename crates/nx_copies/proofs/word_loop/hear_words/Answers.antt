use Rattle.std.proofs.Common.{◌*◌, ℕ, List, None, arith, length, rules, subst, subst₂, sym, take_all}
use Rattle.std.specs.Prelude.{IsTrue}
use Rattle.std.specs.List.{flat_map}
use Rattle.nx_code.specs.Word.{elements}
use Rattle.nx_sync.specs.Synchroniser.{keeps_lock}
use Rattle.nx_sync.proofs.lemmas.words.LastSteps.{first_words, length-of_words}
use Rattle.nx_copies.proofs.word_loop.hear_words.Goals as goal

pub accept-requires-clause-keeps : goal.accept-requires-clause-keeps
accept-requires-clause-keeps g c =
    let words : List ℕ = c.args.words.now in
    subst (λ l. IsTrue (keeps_lock c.args.synchroniser.now l))
    (take_all (length words) words (omega arith))
    (c.requires.keeps (length words) c.requires.pairs.some (omega arith))

pub take_pairs-taken-requires-clause-room : goal.take_pairs-taken-requires-clause-room
take_pairs-taken-requires-clause-room g c =
    subst (λ taker. g.T.WordTaker.has_room taker (7 * length c.args.words.now))
    (sym (c.take_plain.ensures.same (search rules))) c.requires.room

pub returns-then-take_plain-clause-hears : goal.returns-then-take_plain-clause-hears
returns-then-take_plain-clause-hears g c =
    let words : List ℕ = c.args.words.now in
    let bits = flat_map elements words in
    let plain : IsTrue c.take_plain.result = search rules in
    let size = length-of_words words in
    subst (λ l. g.T.WordTaker.hears c.args.synchroniser.now c.args.taker.now l c.accept.new.self
    c.take_plain.new.self None) (sym (take_all (7 * length words) bits (omega (arith, size))))
    (c.take_plain.ensures.hears plain c.args.synchroniser.now c.accept.new.self c.accept.ensures)

pub returns-clause-hears : goal.returns-clause-hears
returns-clause-hears g c =
    let words : List ℕ = c.args.words.now in
    let pairs = c.take_pairs-taken in
    let same = c.take_plain.ensures.same (search rules) in
    subst₂ (λ taker bits. g.T.WordTaker.hears c.args.synchroniser.now taker bits
    c.accept-2.new.self pairs.new.self pairs.result.1) same
    (first_words pairs.result.0 words pairs.ensures.within)
    (pairs.ensures.hears c.args.synchroniser.now c.accept-2.new.self c.accept-2.ensures)
