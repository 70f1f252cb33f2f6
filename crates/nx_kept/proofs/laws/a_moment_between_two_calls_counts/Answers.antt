use Rattle.nx_kept.proofs.laws.a_moment_between_two_calls_counts.Goals as goal

pub returns : goal.returns
returns g c start left old mid new first second leaves =
    let d = g.D.DiskFile in
    second.keeps (d.moment old) left first.later
    (g.met.D.DiskFile.counts_now start mid (d.moment old) left first.later leaves)
