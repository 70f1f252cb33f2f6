use Rattle.std.proofs.Common.{refl}
use Rattle.nx_envelope.proofs.lemmas.finder.Hearing.{none_begins, one_begins}
use Rattle.nx_envelope.proofs.finder.Finder.begin.Goals as goal

pub returns-in_default-clause-hearing : goal.returns-in_default-clause-hearing
returns-in_default-clause-hearing c =
    λ text byte shut is. none_begins text byte _ shut (rw c.in_default.is at is) refl

pub returns-clause-hearing : goal.returns-clause-hearing
returns-clause-hearing c =
    λ text byte shut is. one_begins text byte c.in-Some.identity _ shut (rw c.in-Some.is at is) refl
    c.clear.ensures
