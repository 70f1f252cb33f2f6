use Rattle.nx_left_on.specs.AtHand.{telling}
use Rattle.nx_left_on.proofs.lemmas.chains.ByEachRead.{answer-silent, answer-wrote, disk-wrote}
use Rattle.nx_left_on.proofs.laws.what_the_disk_does_not_take_is_written_by_each_read.Goals as goal

pub returns : goal.returns
returns g c = record {
  well = λ a now log outcome at answers there none.
      let d = telling g.D.DiskFile g.R.Read.remaining g.W.Write.contents g.N.Write.contents a in
      answer-silent d now log at there outcome answers none;
  behind_a_failed_put = λ a now log outcome at answers there one.
      let d = telling g.D.DiskFile g.R.Read.remaining g.W.Write.contents g.N.Write.contents a in
      answer-wrote d now log at there outcome answers one;
  at_the_end = λ a now log answers.
      disk-wrote (telling g.D.DiskFile g.R.Read.remaining g.W.Write.contents g.N.Write.contents a)
      now log answers;
}
