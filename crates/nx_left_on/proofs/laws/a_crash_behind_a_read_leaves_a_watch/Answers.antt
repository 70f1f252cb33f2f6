use Rattle.nx_left_on.specs.AtHand.{telling}
use Rattle.nx_left_on.proofs.lemmas.chains.Stood.{answer-left, goes-alone}
use Rattle.nx_left_on.proofs.laws.a_crash_behind_a_read_leaves_a_watch.Goals as goal

pub returns : goal.returns
returns g c = record {
  crash = λ a now log outcome at file answers there well crash.
      let d = telling g.D.DiskFile g.R.Read.remaining g.W.Write.contents g.N.Write.contents a in
      answer-left goes-alone d now log at file there well crash outcome answers;
  found = λ a now log outcome at file answers there well later leaves.
      let d = telling g.D.DiskFile g.R.Read.remaining g.W.Write.contents g.N.Write.contents a in
      let crash = g.met.D.DiskFile.counts_now a.start a.disk_after (g.D.DiskFile.moment at.disk)
      file later leaves in
      answer-left goes-alone d now log at file there well crash outcome answers;
}
