use Rattle.nx_station.proofs.lemmas.reception.PathWords.{received-inner}
use Rattle.nx_station.proofs.lemmas.reception.PathLaws.{taken-as_sent}
use Rattle.nx_station.proofs.laws.path.positions_are_taken_as_sent.Goals as goal

pub returns : goal.returns
returns c messages positions heard h passes =
    taken-as_sent positions heard (received-inner messages positions heard h passes) passes
