use Rattle.std.proofs.Common.{arith}
use Rattle.nx_fec.proofs.lemmas.emissions.Aligned.{length-words_of}
use Rattle.nx_station.proofs.reading.first_wrong_word.Goals as goal

pub returns-clause-none : goal.returns-clause-none
returns-clause-none c none slot h =
    c.loop-slot.invariant slot
    (omega (arith, h.within, length-words_of c.args.bits.now, c.loop-slot-test.false)) h
