use Rattle.nx_left_on.specs.AtHand.{telling}
use Rattle.nx_left_on.proofs.lemmas.chains.OneCall.{faulted-kept}
use Rattle.nx_left_on.proofs.one_call.each_copy_is_kept_or_written.Goals as goal

pub returns : goal.returns
returns g c a now log file answers leaves =
    let d = telling g.D.DiskFile g.R.Read.remaining g.W.Write.contents g.N.Write.contents a in
    let all = faulted-kept d now log file answers leaves in
    let k = all.4 in
    (all.0, all.1, all.2, all.3, k.0, k.1, k.2, k.3, k.4, k.5, k.6, k.7)
