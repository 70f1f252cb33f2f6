-- What a run that listens writes is the log of logged entries.
use Rattle.std.proofs.Common.{ℕ, List, Result, Ok, Err, inl, inr}
use Rattle.std.specs.Io.KnownBytes.{Appends}
use Rattle.nx_fec.specs.Transfers.{Contents, Extent}
use Rattle.nx_fec.specs.air_files.AirFile.{Line}
use Rattle.nx_receiver.specs.air_file_runs.Listen.{AnswersListening, HasLogged, IsLogOfFile, IsLogOfLines}
use Rattle.nx_receiver.specs.air_file_runs.Resume.{AnswersResuming}
use Rattle.nx_copies.specs.copies.Shares.{MarkedCopy, Starts, starts_from}
use Rattle.nx_receiver.specs.declared.air_file_runs.listen_fault.ListenFault.{ListenFault}
use Rattle.nx_receiver.specs.declared.air_file_runs.listen_fault.ListenFault.TheVariants.{Memory, Read, Write, AirTooLong, LineLong, LineCut, BadLine, NoMoment, Moment, Vital}
use Rattle.nx_receiver.specs.declared.air_file_runs.listening.Report.{Report}
use Rattle.nx_receiver.specs.declared.air_file_runs.resume_fault.ResumeFault.{ResumeFault}
use Rattle.nx_receiver.specs.declared.air_file_runs.resume_fault.ResumeFault.TheVariants as resume
use Rattle.nx_receiver.specs.declared.air_file_runs.resume_fault.Want.TheVariants.{Log}
use Rattle.nx_log.specs.Logged.{IsLogOfLogged}
use Rattle.nx_log.specs.Runs.{ResumedEntries, SomeLog, WroteEntries}
use Rattle.nx_log.proofs.lemmas.printed.Moments.{closed_logged, open_logged}

pub lines_logged : (starts : Starts) (lines : List Line) (log : List ℕ)
    → (l : IsLogOfLines starts lines log) → IsLogOfLogged l.copies log
lines_logged starts lines log l = record {
  logged = open_logged starts lines l.copies l.taken l.printed.each;
  log = l.spelled;
}

pub file_logged : (starts : Starts) (bytes : List ℕ) (lines : List Line) (copies : List MarkedCopy)
    (log : List ℕ) → IsLogOfFile starts bytes lines copies log → IsLogOfLogged copies log
file_logged starts bytes lines copies log l = record {
  logged = closed_logged starts lines copies l.taken l.printed;
  log = l.spelled;
}

module _ (starts : Starts) (extent : Extent) (contents : Contents) where
  some : (lines : List Line) → HasLogged starts contents lines
      → SomeLog (Appends contents.before contents.after)
  some lines h = (h.0, h.1.copies, lines_logged starts lines h.0 h.1, h.2)

  pub wrote_entries : (outcome : Result Report ListenFault) (bytes : List ℕ)
      → AnswersListening starts extent contents outcome bytes → WroteEntries contents outcome
  wrote_entries (Ok report) bytes h =
      let l = h.1 in
      (l.log, l.copies, file_logged starts bytes l.lines l.copies l.log l.heard, l.written)
  wrote_entries (Err (Memory error)) bytes h = tt
  wrote_entries (Err Read) bytes h = some h.lines h.here.2
  wrote_entries (Err (Write written)) bytes h =
      elim h [
        | inl stops ↦
            let here = stops.here in
            (here.0, here.1.copies, lines_logged starts stops.lines here.0 here.1, here.2)
        | inr all ↦
            let log = all.1.0 in
            let whole = all.1.1 in
            (log, whole.1, file_logged starts bytes whole.0 whole.1 log whole.2, all.1.2)
      ]
  wrote_entries (Err (LineCut line)) bytes h = some h.1.lines h.1.here.1
  wrote_entries (Err AirTooLong) bytes h = some h.lines h.here.1
  wrote_entries (Err (LineLong line)) bytes h = some h.lines h.here.1
  wrote_entries (Err (BadLine line)) bytes h = some h.lines h.here.1
  wrote_entries (Err (NoMoment line)) bytes h = some h.lines h.here.1
  wrote_entries (Err (Moment line fault)) bytes h = some h.lines h.here.1
  wrote_entries (Err (Vital line subject)) bytes h = some h.lines h.here.1

pub resumed_entries : (extent : Extent) (contents : Contents)
    (outcome : Result Report ResumeFault) (input : List ℕ)
    → AnswersResuming Log extent contents outcome input → ResumedEntries contents outcome
resumed_entries extent contents (Ok report) input h =
    wrote_entries (starts_from h.states) extent contents (Ok report) h.more h.here.0
resumed_entries extent contents (Err (resume.Listen fault)) input h =
    wrote_entries (starts_from h.states) extent contents (Err fault) h.more h.here
resumed_entries extent contents (Err (resume.State fault)) input h = tt
resumed_entries extent contents (Err (resume.Write written)) input h = tt
