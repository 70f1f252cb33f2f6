use Rattle.nx_station.proofs.lemmas.strict_reading.CheckingLaws.{checked-alone, checked-one, sent-alone}
use Rattle.nx_station.proofs.laws.checking_takes_channel_0_alone.Goals as goal

pub returns-clause-same : goal.returns-clause-same
returns-clause-same c = checked-alone

pub returns-clause-sent : goal.returns-clause-sent
returns-clause-sent c = sent-alone

pub returns-clause-back : goal.returns-clause-back
returns-clause-back c limit most station from file air other text sent lines more count h is that
    same k =
    checked-one most other text _ count sent.messages k
    (sent-alone limit most station from file air other sent lines more h is that same)
