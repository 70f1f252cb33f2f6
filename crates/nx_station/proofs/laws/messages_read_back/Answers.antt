use Rattle.nx_station.proofs.lemmas.strict_reading.ReadingBack.{message-prints, broadcast-prints}
use Rattle.nx_station.proofs.laws.messages_read_back.Goals as goal

pub returns-clause-message : goal.returns-clause-message
returns-clause-message c message numbers first h = (message-prints message numbers first h).reads

pub returns-clause-shift : goal.returns-clause-shift
returns-clause-shift c message numbers first h = (message-prints message numbers first h).after

pub returns-clause-all : goal.returns-clause-all
returns-clause-all c = broadcast-prints
