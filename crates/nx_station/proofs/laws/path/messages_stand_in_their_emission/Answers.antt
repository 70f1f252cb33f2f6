use Rattle.nx_station.proofs.lemmas.reception.Sendings.{digit-sent, digit-within, message-stands}
use Rattle.nx_station.proofs.laws.path.messages_stand_in_their_emission.Goals as goal

pub returns-clause-stands : goal.returns-clause-stands
returns-clause-stands c = message-stands

pub returns-clause-digit : goal.returns-clause-digit
returns-clause-digit c = digit-sent

pub returns-clause-within : goal.returns-clause-within
returns-clause-within c = digit-within
