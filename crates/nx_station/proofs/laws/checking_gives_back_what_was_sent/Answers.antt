use Rattle.nx_station.proofs.lemmas.strict_reading.CheckingLaws.{checked-one, sent-checked}
use Rattle.nx_station.proofs.lemmas.broadcasts.TransmissionLength.{length-transmission}
use Rattle.nx_station.proofs.laws.checking_gives_back_what_was_sent.Goals as goal

pub returns-clause-within : goal.returns-clause-within
returns-clause-within c = length-transmission

pub returns-clause-checked : goal.returns-clause-checked
returns-clause-checked c = sent-checked

pub returns-clause-only : goal.returns-clause-only
returns-clause-only c = checked-one

pub returns-clause-back : goal.returns-clause-back
returns-clause-back c limit station from file air text sent count h k =
    checked-one limit air text _ count sent.messages k
    (sent-checked limit station from file air sent h k.file.file.within)
