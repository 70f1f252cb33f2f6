use Rattle.std.proofs.Common.{◌*◌, ◌≤◌, ℕ, List, arith, length, take}
use Rattle.nx_copies.proofs.lemmas.WordLoop.{room_for_fewer}
use Rattle.nx_copies.proofs.word_loop.hear_some.Goals as goal

pub hear_words-requires-clause-room : goal.hear_words-requires-clause-room
hear_words-requires-clause-room g c =
    let laws = g.met.T.WordTaker in
    let words : List ℕ = c.words_ahead-many.result.1 in
    let fits : 7 * length words ≤ c.args.count =
    omega (arith, c.words_ahead-many.ensures.within, c.in-8.is) in
    room_for_fewer g.T.WordTaker.hears g.T.WordTaker.has_room laws.room laws.none
    c.args.synchroniser.now c.args.taker.now c.args.count (7 * length words) fits c.requires.room

pub hear_words-requires-in-6-clause-room : goal.hear_words-requires-in-6-clause-room
hear_words-requires-in-6-clause-room g c =
    let laws = g.met.T.WordTaker in
    let words : List ℕ = take 6 c.words_ahead-many.result.1 in
    let fits : 7 * length words ≤ c.args.count =
    omega (arith, c.words_ahead-many.ensures.within, c.in-6.is) in
    room_for_fewer g.T.WordTaker.hears g.T.WordTaker.has_room laws.room laws.none
    c.args.synchroniser.now c.args.taker.now c.args.count (7 * length words) fits c.requires.room

pub hear_words-requires-in-2-clause-room : goal.hear_words-requires-in-2-clause-room
hear_words-requires-in-2-clause-room g c =
    let laws = g.met.T.WordTaker in
    let words : List ℕ = take 2 c.words_ahead-many.result.1 in
    let fits : 7 * length words ≤ c.args.count =
    omega (arith, c.words_ahead-many.ensures.within, c.in-2.is) in
    room_for_fewer g.T.WordTaker.hears g.T.WordTaker.has_room laws.room laws.none
    c.args.synchroniser.now c.args.taker.now c.args.count (7 * length words) fits c.requires.room
