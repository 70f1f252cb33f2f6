use Rattle.std.proofs.Common.{◌≡◌, [], None, map}
use Rattle.nx_program.proofs.lemmas.outcomes.Program.{exits-fresh, refused-exits, status-exits, success-exits}
use Rattle.nx_program.proofs.lemmas.outcomes.Program.{success-named, arguments-exit}
use Rattle.nx_program.proofs.lemmas.outcomes.Report.{answers-exits, ends-none, ends-unstamped}
use Rattle.nx_watch.specs.Stamps.{counted_of, cut_notes, stamps_of}
use Rattle.nx_program.specs.Arguments.{as_read}
use Rattle.nx_program.specs.Program.{fresh_device}
use Rattle.nx_fec.specs.Transfers.{devices}
use Rattle.nx_program.proofs.program.run.Goals as goal

pub returns : goal.returns
returns g c =
    let arguments = as_read (map g.S.AsStr.text c.args.arguments.now) in
    let answers = c.exit_status.ensures in
    let reader = counted_of c.exit_status.result.input in
    let left = devices g.R.Read.remaining g.W.Write.contents c.new-reader.result reader
    c.new-writer.result c.exit_status.new.writer in
    let d = devices g.R.Read.remaining g.W.Write.contents (fresh_device c.args.input) reader
    (fresh_device c.args.output) c.exit_status.new.writer in
    let status = c.exit_status.result.status in
    let none : c.exit_status.result.file ≡ None =
    ends-none arguments left _ answers.outcome (λ name disk gives. absurd (cc)) answers.ends in
    let unused : (stamps_of c.exit_status.result.input ≡ [])
    × (cut_notes c.exit_status.result.input ≡ []) =
    ends-unstamped arguments left _ answers.outcome (λ name disk gives. absurd (cc)) answers.ends in
    let unstamped : stamps_of c.exit_status.result.input ≡ [] = unused.0 in
    let unnoted : cut_notes c.exit_status.result.input ≡ [] = unused.1 in
    let exits =
    exits-fresh arguments g.R.Read.remaining g.W.Write.contents c.args.input
    c.new-reader.result
    reader c.args.output c.new-writer.result c.exit_status.new.writer
    _ _ c.exit_status.result.file _ g.E.Write.contents c.args.faults c.new-lines.result
    answers.behind_call (stamps_of c.exit_status.result.input)
    (cut_notes c.exit_status.result.input) status
    c.new-reader.ensures.inner c.new-reader.ensures.none
    c.new-writer.ensures.inner
    c.new-writer.ensures.none c.new-lines.ensures.inner c.new-lines.ensures.none
    (answers-exits arguments left _ status answers) in
    let ended = rw unstamped at rw unnoted at rw none at exits in
    let writer = c.exit_status.new.writer in
    record {
      exits = (reader, writer, answers.behind_call, ended);
      status = status-exits arguments d _ status ended;
      success = λ is.
          (reader, writer, answers.behind_call, success-exits arguments d _ status ended is);
      called = λ call named is. (
        reader,
        writer,
        answers.behind_call,
        success-named arguments d _ call named (success-exits arguments d _ status ended is),
      );
      arguments = λ is. arguments-exit arguments d _ status ended is;
      refused = λ refused. refused-exits arguments d _ status ended refused;
    }
