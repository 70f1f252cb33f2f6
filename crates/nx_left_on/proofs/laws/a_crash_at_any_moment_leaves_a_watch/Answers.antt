use Rattle.nx_left_on.specs.AtHand.{telling}
use Rattle.nx_left_on.proofs.lemmas.chains.Stood.{answer-some, goes-alone}
use Rattle.nx_left_on.proofs.laws.a_crash_at_any_moment_leaves_a_watch.Goals as goal

pub returns : goal.returns
returns g c a now log outcome file answers crash =
    let d = telling g.D.DiskFile g.R.Read.remaining g.W.Write.contents g.N.Write.contents a in
    answer-some goes-alone d now log file crash outcome answers
