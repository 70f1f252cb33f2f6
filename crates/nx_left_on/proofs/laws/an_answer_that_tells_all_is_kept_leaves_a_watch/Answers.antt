use Rattle.nx_left_on.specs.AtHand.{telling}
use Rattle.nx_left_on.proofs.lemmas.chains.Stood.{answer-over, goes-alone}
use Rattle.nx_left_on.proofs.laws.an_answer_that_tells_all_is_kept_leaves_a_watch.Goals as goal

pub returns : goal.returns
returns g c a now log outcome file answers kept over =
    answer-over goes-alone
    (telling g.D.DiskFile g.R.Read.remaining g.W.Write.contents g.N.Write.contents a) now log file
    over outcome answers kept
