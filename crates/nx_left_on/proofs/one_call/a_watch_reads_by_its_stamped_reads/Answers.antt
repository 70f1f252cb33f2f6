use Rattle.nx_left_on.specs.AtHand.{telling}
use Rattle.nx_left_on.proofs.lemmas.chains.OneCall.{answer-read, failed-read, ok-read}
use Rattle.nx_left_on.proofs.one_call.a_watch_reads_by_its_stamped_reads.Goals as goal

pub returns : goal.returns
returns g c = record {
  all = λ a now log outcome answers.
      answer-read (telling g.D.DiskFile g.R.Read.remaining g.W.Write.contents g.N.Write.contents a)
      now log outcome answers;
  ok = λ a now log report answers.
      ok-read (telling g.D.DiskFile g.R.Read.remaining g.W.Write.contents g.N.Write.contents a)
      now log report answers;
  failed_read = λ a now log answers.
      failed-read (telling g.D.DiskFile g.R.Read.remaining g.W.Write.contents g.N.Write.contents a)
      now log answers;
}
