use Rattle.nx_envelope.proofs.lemmas.copies.HandedOut.{all_handed_out}
use Rattle.nx_envelope.proofs.laws.copies_are_handed_out.Goals as goal

pub returns : goal.returns
returns c = all_handed_out
