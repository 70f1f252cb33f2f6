use Rattle.nx_kept.proofs.lemmas.Settling.{heard_now}
use Rattle.nx_kept.proofs.lemmas.Stages.{rests}
use Rattle.nx_kept.proofs.opening.repair.Goals as goal

-- as it was told, nothing had been called
pub returns-clause-told : goal.returns-clause-told
returns-clause-told g c =
    let d = g.D.DiskFile in
    heard_now d g.T.RecordTaker.hears_of_cut
    (λ start. rests d.moment (d.left_since start) (d.may_leave start) (d.seen start)
    c.args.device.now (g.met.D.DiskFile.only_now start c.args.device.now))
    c.tell_of_cut.ensures
