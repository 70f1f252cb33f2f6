use Rattle.nx_envelope.proofs.lemmas.headers.Identities.{same_identity_both}
use Rattle.nx_envelope.proofs.laws.same_identity_is_equality.Goals as goal

pub returns : goal.returns
returns c = same_identity_both
