use Rattle.std.proofs.Common.{◌-◌, arith}
use Rattle.nx_station.proofs.lemmas.reception.PathWords.{word-in_bits}
use Rattle.nx_station.specs.reception.Path.{first_slot}
use Rattle.nx_station.proofs.lemmas.reception.PathPhasing.{heard-phasing}
use Rattle.nx_station.proofs.laws.path.words_stand_in_the_bits.Goals as goal

pub returns-clause-phasing : goal.returns-clause-phasing
returns-clause-phasing c = heard-phasing

pub returns-clause-word : goal.returns-clause-word
returns-clause-word c messages positions heard h passes before after slot from to =
    word-in_bits before after heard (slot - first_slot) passes.words (omega (arith, passes.whole))
