use Rattle.nx_left_on.specs.AtHand.{telling}
use Rattle.nx_left_on.proofs.lemmas.chains.OneCall.{answer-quiet}
use Rattle.nx_left_on.proofs.one_call.no_write_had_failed_by_a_read.Goals as goal

pub returns : goal.returns
returns g c a now log outcome at answers there quiet =
    let d = telling g.D.DiskFile g.R.Read.remaining g.W.Write.contents g.N.Write.contents a in
    answer-quiet d now log at there quiet outcome answers
