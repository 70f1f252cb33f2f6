use Rattle.std.proofs.Common.{arith}
use Rattle.nx_fec.proofs.lemmas.emissions.RoundTrip.{length-bits_of, words_of-bits_of, bits_of-words_of}
use Rattle.nx_fec.proofs.lemmas.emissions.RoundTrip.{AreWords-words_of}
use Rattle.nx_fec.proofs.laws.words_and_bits.Goals as goal

pub returns-clause-words : goal.returns-clause-words
returns-clause-words c = words_of-bits_of

pub returns-clause-whole : goal.returns-clause-whole
returns-clause-whole c sent = let n = length-bits_of sent in omega arith

pub returns-clause-bits : goal.returns-clause-bits
returns-clause-bits c = bits_of-words_of

pub returns-clause-sound : goal.returns-clause-sound
returns-clause-sound c = AreWords-words_of
