use Rattle.std.proofs.Common.{false, true}
use Rattle.nx_left_on.specs.AtHand.{telling}
use Rattle.nx_left_on.proofs.lemmas.chains.ByEachRead.{answer-told}
use Rattle.nx_left_on.proofs.laws.what_there_is_to_tell_is_told_by_each_read.Goals as goal

pub returns : goal.returns
returns g c = record {
  well = λ a now log outcome at answers there quiet none.
      let d = telling g.D.DiskFile g.R.Read.remaining g.W.Write.contents g.N.Write.contents a in
      answer-told d now log at there outcome answers quiet false none;
  behind_a_failed_put = λ a now log outcome at answers there quiet one.
      let d = telling g.D.DiskFile g.R.Read.remaining g.W.Write.contents g.N.Write.contents a in
      answer-told d now log at there outcome answers quiet true one;
}
