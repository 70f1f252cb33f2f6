use Rattle.nx_code.specs.Packed.{packed_part}
use Rattle.nx_sync.proofs.lemmas.hunting.PackedParts.{length-part}
use Rattle.nx_copies.proofs.word_loop.hear_one.Goals as goal

pub returns : goal.returns
returns g c =
    let numbers = c.args.numbers.now in
    c.take_step.ensures.hears c.args.synchroniser.now c.push_at-step.new.self
    (packed_part numbers c.args.from 1) (length-part numbers c.args.from 1 c.requires.part)
    c.push_at-step.ensures
