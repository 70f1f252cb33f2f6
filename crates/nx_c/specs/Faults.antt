-- What the fault of each run tells: its status, and its place (this profile).
use Rattle.std.specs.Prelude.{ℕ}
use Rattle.nx_fec.specs.Transfers.{count_of}
use Rattle.nx_c.specs.Told.{told, told_at, told_in}
use Rattle.nx_handle.specs.declared.status.Status.TheVariants as status
use Rattle.nx_c.specs.declared.told.Told.{Told}
use Rattle.nx_envelope.specs.declared.message.MessageFault.{MessageFault}
use Rattle.nx_envelope.specs.declared.message.MessageFault.TheVariants as message
use Rattle.nx_fec.specs.declared.fault.RunFault.{RunFault}
use Rattle.nx_fec.specs.declared.fault.RunFault.TheVariants as run
use Rattle.nx_receiver.specs.declared.fault.MomentFault.TheVariants as moment
use Rattle.nx_receiver.specs.declared.air_file_runs.listen_fault.ListenFault.{ListenFault}
use Rattle.nx_receiver.specs.declared.air_file_runs.listen_fault.ListenFault.TheVariants as listen
use Rattle.nx_receiver.specs.declared.air_file_runs.resume_fault.ResumeFault.{ResumeFault}
use Rattle.nx_receiver.specs.declared.air_file_runs.resume_fault.ResumeFault.TheVariants as resume
use Rattle.nx_receiver.specs.declared.air_file_runs.state_fault.StateFault.{StateFault}
use Rattle.nx_receiver.specs.declared.air_file_runs.state_fault.StateFault.TheVariants as state
use Rattle.nx_station.specs.declared.fault.CheckFault.{CheckFault}
use Rattle.nx_station.specs.declared.fault.CheckFault.TheVariants as check
use Rattle.nx_station.specs.declared.fault.EmissionFault.{EmissionFault}
use Rattle.nx_station.specs.declared.fault.EmissionFault.TheVariants as emission
use Rattle.nx_station.specs.declared.fault.SendFault.{SendFault}
use Rattle.nx_station.specs.declared.fault.SendFault.TheVariants as send
use Rattle.nx_station.specs.declared.fault.SendRunFault.{SendRunFault}
use Rattle.nx_station.specs.declared.fault.SendRunFault.TheVariants as sending

-- of a run over an air file or a text
abbrev pub run_told : RunFault → Told
run_told run.Read = told status.Read
run_told run.FileTooLong = told status.FileTooLong
run_told (run.LineLong line) = told_at status.LineLong line 0
run_told (run.LineCut line) = told_at status.LineCut line 0
run_told (run.BadLine line) = told_at status.BadLine line 0
run_told (run.Ragged bits) = told_at status.Ragged 0 bits
run_told (run.NoSuchCharacter at) = told_at status.NoSuchCharacter 0 at
run_told (run.Write written) = told status.Write
run_told (run.Memory error) = told status.Memory

-- of a run that listens
abbrev pub listen_told : ListenFault → Told
listen_told listen.Read = told status.Read
listen_told listen.AirTooLong = told status.AirTooLong
listen_told (listen.LineLong line) = told_at status.LineLong line 0
listen_told (listen.LineCut line) = told_at status.LineCut line 0
listen_told (listen.BadLine line) = told_at status.BadLine line 0
listen_told (listen.NoMoment line) = told_at status.NoMoment line 0
listen_told (listen.Moment line (moment.Range given)) = told_at status.MomentRange line given
listen_told (listen.Moment line (moment.Back last given)) = told_at status.MomentBack line given
listen_told (listen.Vital line subject) = told_at status.Vital line subject.byte
listen_told (listen.Write written) = told status.Write
listen_told (listen.Memory error) = told status.Memory

-- of reading a state, and of a run that goes on from it
abbrev pub state_told : StateFault → Told
state_told state.Read = told status.Read
state_told (state.StateLine line) = told_at status.StateLine line 0
state_told (state.StateCut line) = told_at status.StateCut line 0

abbrev pub resume_told : ResumeFault → Told
resume_told (resume.State fault) = state_told fault
resume_told (resume.Listen fault) = listen_told fault
resume_told (resume.Write written) = told status.Write

-- of the lines of a message, which begins at this line of its file
abbrev pub message_told : ℕ → MessageFault → Told
message_told line (message.LongLine text_line) = told_in status.LongLine line text_line 0
message_told line (message.BadCharacter text_line at) =
    told_in status.BadCharacter line text_line at
message_told line (message.Reserved text_line) = told_in status.Reserved line text_line 0
message_told line message.LongText = told_at status.LongText line 0
message_told line (message.Memory error) = told status.Memory

-- of messages, a count that 64 bits can't hold as their greatest number
abbrev pub send_told : SendFault → Told
send_told send.NoMessages = told status.NoMessages
send_told (send.MixedStations at) = told_at status.MixedStations 0 at
send_told send.NoSlot = told status.NoSlot
send_told (send.SlotFull positions) = told_at status.SlotFull 0 (count_of positions)
send_told (send.Memory error) = told status.Memory

-- of a run that sends
abbrev pub sending_told : SendRunFault → Told
sending_told sending.Read = told status.Read
sending_told sending.FileTooLong = told status.FileTooLong
sending_told (sending.BadLine line) = told_at status.BadLine line 0
sending_told (sending.Text line fault) = message_told line fault
sending_told (sending.LineCut line) = told_at status.LineCut line 0
sending_told (sending.Open line) = told_at status.Open line 0
sending_told (sending.Send fault) = send_told fault
sending_told (sending.Write written) = told status.Write
sending_told (sending.Memory error) = told status.Memory

-- of elements that are read as an emission
abbrev pub emission_told : EmissionFault → Told
emission_told (emission.Ragged bits) = told_at status.Ragged 0 bits
emission_told (emission.WrongWord slot) = told_at status.WrongWord 0 slot
emission_told (emission.Unpaired position) = told_at status.Unpaired 0 position
emission_told emission.BadEnvelope = told status.BadEnvelope
emission_told (emission.Memory error) = told status.Memory

-- of a run that checks
abbrev pub check_told : CheckFault → Told
check_told (check.Run fault) = run_told fault
check_told (check.Emission fault) = emission_told fault
