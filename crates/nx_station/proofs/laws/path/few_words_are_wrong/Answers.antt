use Rattle.nx_station.proofs.lemmas.reception.PathWords.{few-listed, few-in_lock, received-inner}
use Rattle.nx_station.proofs.lemmas.reception.PathLaws.{few-wrong}
use Rattle.nx_station.proofs.laws.path.few_words_are_wrong.Goals as goal

pub returns-clause-few : goal.returns-clause-few
returns-clause-few c messages positions heard h passes =
    few-listed positions heard (received-inner messages positions heard h passes) passes

pub returns-clause-by_slots : goal.returns-clause-by_slots
returns-clause-by_slots c messages positions heard h passes =
    few-wrong positions heard (received-inner messages positions heard h passes) passes

pub returns-clause-in_a_lock : goal.returns-clause-in_a_lock
returns-clause-in_a_lock c messages positions heard h passes =
    few-in_lock positions heard (received-inner messages positions heard h passes) passes
