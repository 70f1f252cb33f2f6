use Rattle.std.proofs.Common.{refl}
use Rattle.nx_envelope.proofs.lemmas.finder.Hearing.{stage-nil}
use Rattle.nx_envelope.proofs.finder.Finder.new.Goals as goal
use Rattle.nx_envelope.proofs.lemmas.copies.OneOpenCopy.{open_headers-nil}

pub returns : goal.returns
returns c = record { recent = refl; stage = stage-nil; copy = open_headers-nil }
