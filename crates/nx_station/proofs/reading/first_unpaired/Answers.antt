use Rattle.std.proofs.Common.{arith}
use Rattle.nx_fec.proofs.lemmas.emissions.Aligned.{length-words_of}
use Rattle.nx_station.proofs.reading.first_unpaired.Goals as goal

pub returns-clause-none : goal.returns-clause-none
returns-clause-none c none position h =
    c.loop-position.invariant position
    (omega (arith, h.within, length-words_of c.args.bits.now, c.loop-position-test.false)) h
