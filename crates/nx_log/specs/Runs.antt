-- What a run that listens wrote, said as logged entries (this profile).
use Rattle.std.specs.Prelude.{ℕ, List, Result, Ok, Err, ⊤}
use Rattle.std.specs.Io.KnownBytes.{Appends}
use Rattle.nx_fec.specs.Transfers.{Contents, WroteSome}
use Rattle.nx_copies.specs.copies.Shares.{MarkedCopy}
use Rattle.nx_receiver.specs.declared.air_file_runs.listen_fault.ListenFault.{ListenFault}
use Rattle.nx_receiver.specs.declared.air_file_runs.listen_fault.ListenFault.TheVariants.{Memory, Write}
use Rattle.nx_receiver.specs.declared.air_file_runs.listening.Report.{Report}
use Rattle.nx_receiver.specs.declared.air_file_runs.resume_fault.ResumeFault.{ResumeFault}
use Rattle.nx_receiver.specs.declared.air_file_runs.resume_fault.ResumeFault.TheVariants as resume
use Rattle.nx_log.specs.Logged.{IsLogOfLogged}

-- this holds of some log of logged entries
abbrev pub SomeLog : (List ℕ → Type 0) → Type 0
SomeLog holds =
    (log : List ℕ) × (entries : List MarkedCopy) × IsLogOfLogged entries log × holds log

-- What was written is the log of logged entries. Where a write failed, the first bytes of one were
-- written; where memory ran out, nothing is said.
abbrev pub WroteEntries : Contents → Result Report ListenFault → Type 0
WroteEntries contents (Err (Write written)) =
    SomeLog (λ log. WroteSome contents.before contents.after log written)
WroteEntries contents (Err (Memory error)) = ⊤
WroteEntries contents outcome = SomeLog (Appends contents.before contents.after)

-- The same of a run that resumes and writes its log. Of a fault that isn't one of listening nothing
-- is said.
abbrev pub ResumedEntries : Contents → Result Report ResumeFault → Type 0
ResumedEntries contents (Ok report) = WroteEntries contents (Ok report)
ResumedEntries contents (Err (resume.Listen fault)) = WroteEntries contents (Err fault)
ResumedEntries contents (Err fault) = ⊤
