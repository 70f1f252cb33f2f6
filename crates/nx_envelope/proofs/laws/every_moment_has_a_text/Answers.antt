use Rattle.nx_envelope.proofs.lemmas.moments.EveryMoment.{every_moment}
use Rattle.nx_envelope.proofs.laws.every_moment_has_a_text.Goals as goal

pub returns : goal.returns
returns c = every_moment
