use Rattle.std.proofs.Common.{map, string_bytes}
use Rattle.nx_program.proofs.lemmas.outcomes.Report.{answers-called, answers-reported, answers-success}
use Rattle.nx_program.specs.Arguments.{as_read}
use Rattle.nx_program.specs.WatchCommand.{beside}
use Rattle.nx_fec.specs.Transfers.{devices}
use Rattle.nx_watch.specs.Stamps.{counted_of, cut_notes, stamps_of}
use Rattle.nx_program.proofs.program.answer.Goals as goal

pub returns-in-Ok-clause-exits : goal.returns-in-Ok-clause-exits
returns-in-Ok-clause-exits g c = rw (c.in-Ok.is, ← c.as_slice.ensures.value) c.exit_status.ensures

pub returns-in-Ok-clause-called : goal.returns-in-Ok-clause-called
returns-in-Ok-clause-called g c =
    let arguments = as_read (map string_bytes c.as_slice.result.now) in
    let d = devices g.R.Read.remaining g.W.Write.contents c.args.input
    (counted_of c.exit_status.result.input) c.args.output.now c.exit_status.new.writer in
    let b = beside c.args.files g.F.LogFiles.gives c.exit_status.result.file g.F.Disk.DiskFile
    g.E.Write.contents c.args.faults.now c.exit_status.new.faults
    (stamps_of c.exit_status.result.input) (cut_notes c.exit_status.result.input) in
    rw (c.in-Ok.is, ← c.as_slice.ensures.value)
    (λ call named is. answers-called arguments d b c.exit_status.result.status c.exit_status.ensures
    call
    named is)

pub returns-in-Ok-clause-success : goal.returns-in-Ok-clause-success
returns-in-Ok-clause-success g c =
    let arguments = as_read (map string_bytes c.as_slice.result.now) in
    let d = devices g.R.Read.remaining g.W.Write.contents c.args.input
    (counted_of c.exit_status.result.input) c.args.output.now c.exit_status.new.writer in
    let b = beside c.args.files g.F.LogFiles.gives c.exit_status.result.file g.F.Disk.DiskFile
    g.E.Write.contents c.args.faults.now c.exit_status.new.faults
    (stamps_of c.exit_status.result.input) (cut_notes c.exit_status.result.input) in
    rw (c.in-Ok.is, ← c.as_slice.ensures.value)
    (λ is. answers-success arguments d b c.exit_status.result.status c.exit_status.ensures is)

pub returns-in-Ok-clause-reported : goal.returns-in-Ok-clause-reported
returns-in-Ok-clause-reported g c =
    let arguments = as_read (map string_bytes c.as_slice.result.now) in
    let d = devices g.R.Read.remaining g.W.Write.contents c.args.input
    (counted_of c.exit_status.result.input) c.args.output.now c.exit_status.new.writer in
    let b = beside c.args.files g.F.LogFiles.gives c.exit_status.result.file g.F.Disk.DiskFile
    g.E.Write.contents c.args.faults.now c.exit_status.new.faults
    (stamps_of c.exit_status.result.input) (cut_notes c.exit_status.result.input) in
    answers-reported arguments d b c.exit_status.result.status c.requires.faults
    c.exit_status.ensures
