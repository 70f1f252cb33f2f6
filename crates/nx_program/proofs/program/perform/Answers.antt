use Rattle.std.proofs.Common.{Ok, Err, sym, subst}
use Rattle.std.proofs.lemmas.Result.{err_from_is_err_and}
use Rattle.nx_fec.specs.Transfers.{devices}
use Rattle.nx_station.specs.Damage.{Damages}
use Rattle.nx_station.specs.FileSending.{Sends}
use Rattle.nx_locks.specs.Run.{ShowsLocks}
use Rattle.nx_receiver.specs.air_file_runs.Resume.{Resumes}
use Rattle.nx_receiver.specs.declared.air_file_runs.resume_fault.Want.TheVariants.{Log, State}
use Rattle.nx_program.specs.Program.{IsUntouchedByWant, ListensTaking, PerformsOnStreams, ReadsStateBeforeWant}
use Rattle.nx_program.specs.declared.fault.CallFault.TheVariants as call
use Rattle.nx_program.specs.declared.arguments.Call.{Call}
use Rattle.nx_program.proofs.lemmas.outcomes.Program.{tells-err, tells-ok, untouched}
use Rattle.nx_program.proofs.program.perform.Goals as goal

pub returns-in_err-send-in-Send : goal.returns-in_err-send-in-Send
returns-in_err-send-in-Send g c =
    let d = devices g.R.Read.remaining g.W.Write.contents c.args.reader.now c.send.new.reader
    c.args.writer.now c.send.new.writer in
    let outcome = c.from_residual-in_err-send-in-Send.result in
    let p = err_from_is_err_and outcome c.from_residual-in_err-send-in-Send.ensures.1 in
    let P : Call → Type 0 = λ call. PerformsOnStreams call d outcome in
    subst P (sym c.in-Send.is)
    (tells-err (λ why. call.Send why)
    (Sends d c.in-Send.station.byte c.in-Send.moment) outcome c.in_err-send-in-Send.field-0.0 p.0
    c.in_err-send-in-Send.ensures p.1 p.2)

pub returns-in_ok-send-in-Send : goal.returns-in_ok-send-in-Send
returns-in_ok-send-in-Send g c =
    let d = devices g.R.Read.remaining g.W.Write.contents c.args.reader.now c.send.new.reader
    c.args.writer.now c.send.new.writer in
    let P : Call → Type 0 = λ call. PerformsOnStreams call d (Ok tt) in
    subst P (sym c.in-Send.is)
    (tells-ok (λ why. call.Send why)
    (Sends d c.in-Send.station.byte c.in-Send.moment) c.in_ok-send-in-Send.field-0
    c.in_ok-send-in-Send.ensures)

pub returns-in_err-damage-in-Damage : goal.returns-in_err-damage-in-Damage
returns-in_err-damage-in-Damage g c =
    let d = devices g.R.Read.remaining g.W.Write.contents c.args.reader.now c.damage.new.reader
    c.args.writer.now
    c.damage.new.writer in
    let outcome = c.from_residual-in_err-damage-in-Damage.result in
    let p = err_from_is_err_and outcome c.from_residual-in_err-damage-in-Damage.ensures.1 in
    let P : Call → Type 0 = λ call. PerformsOnStreams call d outcome in
    subst P (sym c.in-Damage.is)
    (tells-err (λ why. call.Damage why)
    (Damages (record {
      kind = c.in-Damage.kind;
      from = c.in-Damage.from;
      count =
          c.in-Damage.count;
    }) d) outcome
    c.in_err-damage-in-Damage.field-0.0 p.0 c.in_err-damage-in-Damage.ensures p.1 p.2)

pub returns-in_ok-damage-in-Damage : goal.returns-in_ok-damage-in-Damage
returns-in_ok-damage-in-Damage g c =
    let d = devices g.R.Read.remaining g.W.Write.contents c.args.reader.now c.damage.new.reader
    c.args.writer.now
    c.damage.new.writer in
    let P : Call → Type 0 = λ call. PerformsOnStreams call d (Ok tt) in
    subst P (sym c.in-Damage.is)
    (tells-ok (λ why. call.Damage why)
    (Damages (record {
      kind = c.in-Damage.kind;
      from = c.in-Damage.from;
      count =
          c.in-Damage.count;
    }) d)
    c.in_ok-damage-in-Damage.field-0 c.in_ok-damage-in-Damage.ensures)

pub returns-in_ok-listen_taking-in-Listen : goal.returns-in_ok-listen_taking-in-Listen
returns-in_ok-listen_taking-in-Listen g c =
    let own = c.in_ok-listen_taking-in-Listen in
    let d = devices g.R.Read.remaining g.W.Write.contents c.args.reader.now
    c.listen_taking.new.reader c.args.writer.now c.listen_taking.new.writer in
    let P : Call → Type 0 = λ call. PerformsOnStreams call d (Ok tt) in
    subst P (sym c.in-Listen.is)
    (tells-ok (λ why. call.Listen why) (λ own. ListensTaking c.in-Listen.sendings d own
    × IsUntouchedByWant d own)
    own.field-0
    (own.ensures.listens, untouched d (Ok own.field-0) own.ensures.memory))

pub returns-in_err-listen_taking-in-Listen : goal.returns-in_err-listen_taking-in-Listen
returns-in_err-listen_taking-in-Listen g c =
    let own = c.in_err-listen_taking-in-Listen in
    let d = devices g.R.Read.remaining g.W.Write.contents c.args.reader.now
    c.listen_taking.new.reader c.args.writer.now c.listen_taking.new.writer in
    let outcome = c.from_residual-in_err-listen_taking-in-Listen.result in
    let p = err_from_is_err_and outcome c.from_residual-in_err-listen_taking-in-Listen.ensures.1 in
    let P : Call → Type 0 = λ call. PerformsOnStreams call d outcome in
    subst P (sym c.in-Listen.is)
    (tells-err (λ why. call.Listen why) (λ own. ListensTaking c.in-Listen.sendings d own
    × IsUntouchedByWant d own)
    outcome own.field-0.0 p.0
    (own.ensures.listens, untouched d (Err own.field-0.0) own.ensures.memory) p.1 p.2)

pub returns-in_ok-locks-in-Locks : goal.returns-in_ok-locks-in-Locks
returns-in_ok-locks-in-Locks g c =
    let own = c.in_ok-locks-in-Locks in
    let d = devices g.R.Read.remaining g.W.Write.contents c.args.reader.now c.locks.new.reader
    c.args.writer.now c.locks.new.writer in
    let P : Call → Type 0 = λ call. PerformsOnStreams call d (Ok tt) in
    subst P (sym c.in-Locks.is)
    (tells-ok (λ why. call.Listen why) (ShowsLocks d) own.field-0 own.ensures)

pub returns-in_err-locks-in-Locks : goal.returns-in_err-locks-in-Locks
returns-in_err-locks-in-Locks g c =
    let own = c.in_err-locks-in-Locks in
    let d = devices g.R.Read.remaining g.W.Write.contents c.args.reader.now c.locks.new.reader
    c.args.writer.now c.locks.new.writer in
    let outcome = c.from_residual-in_err-locks-in-Locks.result in
    let p = err_from_is_err_and outcome c.from_residual-in_err-locks-in-Locks.ensures.1 in
    let P : Call → Type 0 = λ call. PerformsOnStreams call d outcome in
    subst P (sym c.in-Locks.is)
    (tells-err (λ why. call.Listen why) (ShowsLocks d) outcome own.field-0.0 p.0 own.ensures p.1
    p.2)

pub returns-in_ok-resume-in-Resume : goal.returns-in_ok-resume-in-Resume
returns-in_ok-resume-in-Resume g c =
    let own = c.in_ok-resume-in-Resume in
    let d = devices g.R.Read.remaining g.W.Write.contents c.args.reader.now c.resume.new.reader
    c.args.writer.now c.resume.new.writer in
    let P : Call → Type 0 = λ call. PerformsOnStreams call d (Ok tt) in
    subst P (sym c.in-Resume.is)
    (tells-ok (λ why. call.Resume why) (λ own. Resumes Log d own × ReadsStateBeforeWant d own)
    own.field-0
    (own.ensures.resumes, own.ensures.memory))

pub returns-in_err-resume-in-Resume : goal.returns-in_err-resume-in-Resume
returns-in_err-resume-in-Resume g c =
    let own = c.in_err-resume-in-Resume in
    let d = devices g.R.Read.remaining g.W.Write.contents c.args.reader.now c.resume.new.reader
    c.args.writer.now c.resume.new.writer in
    let outcome = c.from_residual-in_err-resume-in-Resume.result in
    let p = err_from_is_err_and outcome c.from_residual-in_err-resume-in-Resume.ensures.1 in
    let P : Call → Type 0 = λ call. PerformsOnStreams call d outcome in
    subst P (sym c.in-Resume.is)
    (tells-err (λ why. call.Resume why) (λ own. Resumes Log d own × ReadsStateBeforeWant d own)
    outcome own.field-0.0 p.0
    (own.ensures.resumes, own.ensures.memory) p.1 p.2)

pub returns-in_ok-resume-in-Save : goal.returns-in_ok-resume-in-Save
returns-in_ok-resume-in-Save g c =
    let own = c.in_ok-resume-in-Save in
    let d = devices g.R.Read.remaining g.W.Write.contents c.args.reader.now
    c.resume-in-Save.new.reader c.args.writer.now c.resume-in-Save.new.writer in
    let P : Call → Type 0 = λ call. PerformsOnStreams call d (Ok tt) in
    subst P (sym c.in-Save.is)
    (tells-ok (λ why. call.Resume why) (λ own. Resumes State d own × ReadsStateBeforeWant d own)
    own.field-0
    (own.ensures.resumes, own.ensures.memory))

pub returns-in_err-resume-in-Save : goal.returns-in_err-resume-in-Save
returns-in_err-resume-in-Save g c =
    let own = c.in_err-resume-in-Save in
    let d = devices g.R.Read.remaining g.W.Write.contents c.args.reader.now
    c.resume-in-Save.new.reader c.args.writer.now c.resume-in-Save.new.writer in
    let outcome = c.from_residual-in_err-resume-in-Save.result in
    let p = err_from_is_err_and outcome c.from_residual-in_err-resume-in-Save.ensures.1 in
    let P : Call → Type 0 = λ call. PerformsOnStreams call d outcome in
    subst P (sym c.in-Save.is)
    (tells-err (λ why. call.Resume why) (λ own. Resumes State d own × ReadsStateBeforeWant d own)
    outcome own.field-0.0 p.0
    (own.ensures.resumes, own.ensures.memory) p.1 p.2)
