use Rattle.std.proofs.Common.{refl}
use Rattle.nx_envelope.proofs.lemmas.finder.Hearing.{stage-nil}
use Rattle.nx_envelope.proofs.finder.Finder.restart.Goals as goal
use Rattle.nx_envelope.proofs.lemmas.copies.OneOpenCopy.{open_headers-nil}

pub returns-clause-as_new : goal.returns-clause-as_new
returns-clause-as_new c = record { recent = refl; stage = stage-nil; copy = open_headers-nil }
