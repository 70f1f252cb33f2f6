use Rattle.nx_envelope.proofs.lemmas.moments.OneText.{one_text}
use Rattle.nx_envelope.proofs.laws.a_moment_has_one_text.Goals as goal

pub returns : goal.returns
returns c = one_text
