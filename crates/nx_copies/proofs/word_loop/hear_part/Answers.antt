use Rattle.nx_copies.proofs.lemmas.WordLoop.{part_taken, room_for_fewer}
use Rattle.nx_copies.proofs.word_loop.hear_part.Goals as goal

pub take_step-requires-clause-room : goal.take_step-requires-clause-room
take_step-requires-clause-room g c =
    let laws = g.met.T.WordTaker in
    let heard = c.push_some-heard in
    room_for_fewer g.T.WordTaker.hears g.T.WordTaker.has_room laws.room laws.none
    c.args.synchroniser.now c.args.taker.now c.args.count heard.result.0 heard.ensures.within
    c.requires.room

pub returns : goal.returns
returns g c =
    let heard = c.push_some-heard in
    part_taken g.T.WordTaker.hears c.args.synchroniser.now heard.new.self c.args.taker.now
    c.take_step.new.self c.args.numbers.now c.args.from c.args.count heard.result
    c.take_step.result c.requires.part.room heard.ensures.within heard.ensures.some
    c.take_step.ensures.hears heard.ensures.brings
