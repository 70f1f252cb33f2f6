-- A run that listens and goes on from what is saved: what it answers, and what it leaves (this
-- profile).
use Rattle.std.specs.Prelude.{Result, Ok, Err, IfOk}
use Rattle.nx_fec.specs.Transfers.{Devices, contents_of}
use Rattle.nx_memory.specs.Saved.{SavedStates}
use Rattle.nx_receiver.specs.air_file_runs.Chain.{HasGoneOn}
use Rattle.nx_receiver.specs.air_file_runs.ListenOnce.{ListensOnce}
use Rattle.nx_copies.specs.copies.Shares.{starts_from}
use Rattle.nx_receiver.specs.declared.air_file_runs.listen_fault.ListenFault.{ListenFault}
use Rattle.nx_receiver.specs.declared.air_file_runs.listening.Report.{Report}

-- what a run answers, but for what it leaves
abbrev pub reported : Result (Report × SavedStates) ListenFault → Result Report ListenFault
reported (Ok answer) = Ok answer.0
reported (Err fault) = Err fault

-- A run that begins with what is saved: it listens with that start. Where it reads its file to the
-- end, it wrote the log of the bytes that it read, and it answers what they leave.
pub record GoesOnBy {R W : Type 0} (saved : SavedStates) (d : Devices R W)
    (outcome : Result (Report × SavedStates) ListenFault) : Type 0 where
  pub listens : ListensOnce (starts_from saved) d (reported outcome)
  pub left : IfOk outcome
      (λ answer. HasGoneOn saved (contents_of d) listens.run.bytes answer.1)
