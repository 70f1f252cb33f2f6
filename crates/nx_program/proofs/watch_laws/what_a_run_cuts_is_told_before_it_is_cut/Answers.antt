use Rattle.std.proofs.Common.{◌∙◌, inl, inr, subst}
use Rattle.nx_watch.specs.Watch.{TellsOfCut}
use Rattle.nx_program.specs.WatchCommand.{with_faults}
use Rattle.nx_program.specs.WatchRuns.{beside_of, streams_of}
use Rattle.nx_program.proofs.lemmas.outcomes.WatchRuns.{cut-told-first, hands-back}
use Rattle.nx_program.proofs.watch_laws.what_a_run_cuts_is_told_before_it_is_cut.Goals as goal

pub returns : goal.returns
returns g c arguments sendings run reported disk status fresh named back explained changed answers =
    let d = streams_of g.F.LogFiles.gives g.F.Disk.DiskFile g.R.Read.remaining g.W.Write.contents
    g.E.Write.contents run in
    let b = beside_of g.F.LogFiles.gives g.F.Disk.DiskFile g.R.Read.remaining g.W.Write.contents
    g.E.Write.contents run in
    let watched = hands-back arguments d b reported sendings run.name run.moment disk status named
    back answers in
    let first = cut-told-first d (with_faults b watched.0) sendings run.name run.moment disk
    watched.1 run.found watched.2 back explained in
    let seen = (fresh run.files run.name first.0 first.1).1.seen run.found in
    elim first.2 [
      | inl reads ↦ absurd (changed (reads.same ∙ seen))
      | inr told ↦ (
        first.0,
        first.1,
        told.text,
        subst (λ file. TellsOfCut file told.text) seen told.tells_of,
        λ some.
            let noted = told.noted some in
            let so = noted.untouched run.found in
            (noted.at, noted.one, so.same ∙ seen, so.crash, noted.written),
      )
    ]
