use Rattle.nx_fec.proofs.lemmas.devices.WritingLaws.{WroteSome-after, WroteSome-front}
use Rattle.nx_fec.proofs.laws.writes_in_turn.Goals as goal

pub returns-clause-after : goal.returns-clause-after
returns-clause-after c = WroteSome-after

pub returns-clause-before : goal.returns-clause-before
returns-clause-before c = WroteSome-front
