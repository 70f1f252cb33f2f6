use Rattle.nx_left_on.specs.AtHand.{telling}
use Rattle.nx_left_on.proofs.lemmas.chains.OneCall.{opened-told, started-told}
use Rattle.nx_left_on.proofs.one_call.what_there_is_to_tell_is_told_at_the_end.Goals as goal

pub returns : goal.returns
returns g c = record {
  started = λ a now log outcome answers quiet.
      let d = telling g.D.DiskFile g.R.Read.remaining g.W.Write.contents g.N.Write.contents a in
      started-told d now log outcome answers quiet;
  opened = λ a log opened changed quiet.
      let d = telling g.D.DiskFile g.R.Read.remaining g.W.Write.contents g.N.Write.contents a in
      opened-told d 0 log opened changed quiet;
}
