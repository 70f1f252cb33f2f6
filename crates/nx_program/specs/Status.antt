-- The exit statuses (this profile).
use Rattle.std.specs.Prelude.{◌≡◌, ◌⊎◌, ℕ, Result, Ok, Err}
use Rattle.nx_fec.specs.declared.fault.RunFault.{RunFault}
use Rattle.nx_fec.specs.declared.fault.RunFault.TheVariants as run
use Rattle.nx_log.specs.declared.log_fault.LogFault.{LogFault}
use Rattle.nx_log.specs.declared.log_fault.LogFault.TheVariants as log
use Rattle.nx_receiver.specs.declared.air_file_runs.listen_fault.ListenFault.{ListenFault}
use Rattle.nx_receiver.specs.declared.air_file_runs.listen_fault.ListenFault.TheVariants as listen
use Rattle.nx_receiver.specs.declared.air_file_runs.resume_fault.ResumeFault.{ResumeFault}
use Rattle.nx_receiver.specs.declared.air_file_runs.resume_fault.ResumeFault.TheVariants as resume
use Rattle.nx_receiver.specs.declared.air_file_runs.state_fault.StateFault.TheVariants as state
use Rattle.nx_station.specs.declared.fault.CheckFault.{CheckFault}
use Rattle.nx_station.specs.declared.fault.CheckFault.TheVariants as check
use Rattle.nx_station.specs.declared.fault.DamageFault.{DamageFault}
use Rattle.nx_station.specs.declared.fault.DamageFault.TheVariants as damage
use Rattle.nx_station.specs.declared.fault.EmissionFault.TheVariants as emission
use Rattle.nx_station.specs.declared.fault.SendRunFault.{SendRunFault}
use Rattle.nx_station.specs.declared.fault.SendRunFault.TheVariants as send
use Rattle.nx_disk.specs.declared.file.FileFault.TheVariants as file
use Rattle.nx_watch.specs.declared.watch_fault.WatchFault.TheVariants as watch
use Rattle.nx_program.specs.declared.watch_command.WatchFailure.{WatchFailure}
use Rattle.nx_program.specs.declared.watch_command.WatchFailure.TheVariants.{Unopened, Ended}
use Rattle.nx_program.specs.declared.fault.CallFault.{CallFault}
use Rattle.nx_program.specs.declared.fault.CallFault.TheVariants as call
use Rattle.nx_program.specs.declared.fault.Fault.{Fault}
use Rattle.nx_program.specs.declared.fault.Fault.TheVariants as fault

-- the status of a fault: 1 for a device or memory, 2 for a bad file, line or value, 64 for
-- arguments
abbrev pub run_status : RunFault → ℕ
run_status run.Read = 1
run_status (run.Write written) = 1
run_status (run.Memory want) = 1
run_status _ = 2

abbrev pub send_status : SendRunFault → ℕ
send_status send.Read = 1
send_status (send.Write written) = 1
send_status (send.Memory want) = 1
send_status _ = 2

abbrev pub check_status : CheckFault → ℕ
check_status (check.Run why) = run_status why
check_status (check.Emission (emission.Memory want)) = 1
check_status (check.Emission _) = 2

abbrev pub listen_status : ListenFault → ℕ
listen_status listen.Read = 1
listen_status (listen.Write written) = 1
listen_status (listen.Memory want) = 1
listen_status _ = 2

abbrev pub resume_status : ResumeFault → ℕ
resume_status (resume.State state.Read) = 1
resume_status (resume.State _) = 2
resume_status (resume.Listen why) = listen_status why
resume_status (resume.Write written) = 1

abbrev pub damage_status : DamageFault → ℕ
damage_status damage.Read = 1
damage_status (damage.Write written) = 1
damage_status _ = 2

abbrev pub log_status : LogFault → ℕ
log_status log.Read = 1
log_status (log.Write written) = 1
log_status (log.Memory want) = 1
log_status _ = 2

abbrev pub watch_failure_status : WatchFailure → ℕ
watch_failure_status (Unopened file.Busy) = 2
watch_failure_status (Unopened _) = 1
watch_failure_status (Ended (watch.Damaged line first)) = 2
watch_failure_status (Ended (watch.Back line last given)) = 2
watch_failure_status (Ended _) = 1

abbrev pub call_status : CallFault → ℕ
call_status (call.Run why) = run_status why
call_status (call.Send why) = send_status why
call_status (call.Check why) = check_status why
call_status (call.Listen why) = listen_status why
call_status (call.Resume why) = resume_status why
call_status (call.Damage why) = damage_status why
call_status (call.Log why) = log_status why
call_status call.NoSlot = 2

-- the status of a fault in the arguments
abbrev pub arguments_status : ℕ
arguments_status = 64

abbrev pub fault_status : Fault → ℕ
fault_status (fault.Arguments answer) = arguments_status
fault_status fault.NoText = arguments_status
fault_status fault.Station = arguments_status
fault_status fault.Kind = arguments_status
fault_status (fault.Value report) = arguments_status
fault_status (fault.Watch name why) = watch_failure_status why
fault_status (fault.Call why) = call_status why

abbrev pub status_of : Result (Unit {0}) Fault → ℕ
status_of (Ok done) = 0
status_of (Err why) = fault_status why

-- the statuses: success, a device or memory, a bad file, line or value, the arguments
abbrev pub IsStatus : ℕ → Type 0
IsStatus status = (status ≡ 0) ⊎ ((status ≡ 1) ⊎ ((status ≡ 2) ⊎ (status ≡ arguments_status)))
