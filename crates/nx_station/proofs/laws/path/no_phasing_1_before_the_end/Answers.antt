use Rattle.nx_station.proofs.lemmas.reception.PathWords.{received-inner}
use Rattle.nx_station.proofs.lemmas.reception.PathLaws.{no-phasing_1}
use Rattle.nx_station.proofs.laws.path.no_phasing_1_before_the_end.Goals as goal

pub returns : goal.returns
returns c messages positions heard h passes =
    no-phasing_1 positions heard (received-inner messages positions heard h passes) passes
