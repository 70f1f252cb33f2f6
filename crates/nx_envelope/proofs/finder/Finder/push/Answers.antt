use Rattle.nx_envelope.proofs.lemmas.finder.Hearing.{hands_out}
use Rattle.nx_envelope.proofs.finder.Finder.push.Goals as goal

pub returns-in-Some-clause-brings : goal.returns-in-Some-clause-brings
returns-in-Some-clause-brings c = λ text h.
    let e = c.in-CopyOver.ensures.hears text h in
    hands_out text c.args.byte e.copy c.in-Some.found e.ends
    (c.in-Some.ensures.found e.copy e.ready)
