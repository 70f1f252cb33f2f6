-- What the fault lines of the program say of a call that failed (this profile).
use Rattle.std.specs.Prelude.{ℕ, List, [], ◌∷◌, ◌++◌, codes, decimal}
use Rattle.nx_code.specs.Reading.{newline}
use Rattle.nx_envelope.specs.declared.letter.Letter.{Letter}
use Rattle.nx_envelope.specs.declared.message.MessageFault.{MessageFault}
use Rattle.nx_envelope.specs.declared.message.MessageFault.TheVariants as message
use Rattle.nx_fec.specs.declared.fault.RunFault.{RunFault}
use Rattle.nx_fec.specs.declared.fault.RunFault.TheVariants as run
use Rattle.nx_log.specs.declared.log_fault.LogFault.{LogFault}
use Rattle.nx_log.specs.declared.log_fault.LogFault.TheVariants as log
use Rattle.nx_receiver.specs.declared.fault.MomentFault.{MomentFault}
use Rattle.nx_receiver.specs.declared.fault.MomentFault.TheVariants as moment
use Rattle.nx_receiver.specs.declared.air_file_runs.listen_fault.ListenFault.{ListenFault}
use Rattle.nx_receiver.specs.declared.air_file_runs.listen_fault.ListenFault.TheVariants as listen
use Rattle.nx_receiver.specs.declared.air_file_runs.resume_fault.ResumeFault.{ResumeFault}
use Rattle.nx_receiver.specs.declared.air_file_runs.resume_fault.ResumeFault.TheVariants as resume
use Rattle.nx_receiver.specs.declared.air_file_runs.state_fault.StateFault.{StateFault}
use Rattle.nx_receiver.specs.declared.air_file_runs.state_fault.StateFault.TheVariants as state
use Rattle.nx_station.specs.declared.fault.CheckFault.{CheckFault}
use Rattle.nx_station.specs.declared.fault.CheckFault.TheVariants as check
use Rattle.nx_station.specs.declared.fault.DamageFault.{DamageFault}
use Rattle.nx_station.specs.declared.fault.DamageFault.TheVariants as damage
use Rattle.nx_station.specs.declared.fault.EmissionFault.{EmissionFault}
use Rattle.nx_station.specs.declared.fault.EmissionFault.TheVariants as emission
use Rattle.nx_station.specs.declared.fault.SendFault.{SendFault}
use Rattle.nx_station.specs.declared.fault.SendFault.TheVariants as sending
use Rattle.nx_station.specs.declared.fault.SendRunFault.{SendRunFault}
use Rattle.nx_station.specs.declared.fault.SendRunFault.TheVariants as send
use Rattle.nx_disk.specs.declared.file.FileOpenFault.{FileOpenFault}
use Rattle.nx_disk.specs.declared.file.FileOpenFault.TheVariants as file
use Rattle.nx_program.specs.declared.fault.CallFault.{CallFault}
use Rattle.nx_program.specs.declared.fault.CallFault.TheVariants as call

-- ---- what several calls say

abbrev pub read_failed : List ℕ
read_failed = codes "read failed"

abbrev pub write_failed : ℕ → List ℕ
write_failed written = codes "write failed after " ++ (decimal written ++ codes " bytes")

abbrev pub out_of_memory : List ℕ
out_of_memory = codes "out of memory"

abbrev pub file_too_long : List ℕ
file_too_long = codes "file longer than 1048576 bytes"

abbrev pub air_file_too_long : List ℕ
air_file_too_long = codes "air file longer than 268435456 bytes"

abbrev pub no_whole_words : ℕ → List ℕ
no_whole_words bits = decimal bits ++ codes " elements are no whole words"

abbrev pub no_slot : List ℕ
no_slot = codes "no slot"

-- what is said of the line of this number
abbrev pub of_line : ℕ → List ℕ → List ℕ
of_line line text = codes "line " ++ (decimal line ++ text)

abbrev pub line_long : ℕ → List ℕ
line_long line = of_line line (codes " is longer than 514 bytes")

abbrev pub line_cut : ℕ → List ℕ
line_cut line = of_line line (codes " has no end")

abbrev pub bad_line : ℕ → List ℕ
bad_line line = of_line line (codes " is not understood")

-- ---- what each call says

abbrev pub run_text : RunFault → List ℕ
run_text run.Read = read_failed
run_text run.FileTooLong = file_too_long
run_text (run.LineLong line) = line_long line
run_text (run.LineCut line) = line_cut line
run_text (run.BadLine line) = bad_line line
run_text (run.Ragged bits) = no_whole_words bits
run_text (run.NoSuchCharacter at) = codes "no signal for the character at " ++ decimal at
run_text (run.Write written) = write_failed written
run_text (run.Memory want) = out_of_memory

abbrev pub message_text : MessageFault → List ℕ
message_text (message.LongLine line) = of_line line (codes " is too long")
message_text (message.BadCharacter line at) =
    of_line line (codes " has no signal at " ++ decimal at)
message_text (message.Reserved line) = of_line line (codes " has a reserved word")
message_text message.LongText = codes "text is too long"
message_text (message.Memory want) = out_of_memory

abbrev pub sending_text : SendFault → List ℕ
sending_text sending.NoMessages = codes "no messages"
sending_text (sending.MixedStations at) =
    codes "message at " ++ (decimal at ++ codes " is of another station")
sending_text sending.NoSlot = no_slot
sending_text (sending.SlotFull positions) =
    decimal positions ++ codes " positions are too many for a slot"
sending_text (sending.Memory want) = out_of_memory

-- what is said of the message that begins at the line of this number
abbrev pub of_message : ℕ → List ℕ → List ℕ
of_message line text = codes "message at line " ++ (decimal line ++ text)

abbrev pub send_text : SendRunFault → List ℕ
send_text send.Read = read_failed
send_text send.FileTooLong = file_too_long
send_text (send.BadLine line) = bad_line line
send_text (send.Text line fault) = of_message line (codes ": " ++ message_text fault)
send_text (send.LineCut line) = line_cut line
send_text (send.Open line) = of_message line (codes " is not ended")
send_text (send.Send why) = sending_text why
send_text (send.Write written) = write_failed written
send_text (send.Memory want) = out_of_memory

abbrev pub emission_text : EmissionFault → List ℕ
emission_text (emission.Ragged bits) = no_whole_words bits
emission_text (emission.WrongWord slot) =
    codes "word " ++ (decimal slot ++ codes " has the wrong weight")
emission_text (emission.Unpaired position) =
    codes "position " ++ (decimal position ++ codes " is unpaired")
emission_text emission.BadEnvelope = codes "not an emission of this profile"
emission_text (emission.Memory want) = out_of_memory

abbrev pub check_text : CheckFault → List ℕ
check_text (check.Run why) = run_text why
check_text (check.Emission why) = emission_text why

abbrev pub damage_text : DamageFault → List ℕ
damage_text damage.Read = read_failed
damage_text damage.AirTooLong = air_file_too_long
damage_text (damage.LineLong line) = line_long line
damage_text (damage.LineCut line) = line_cut line
damage_text (damage.BadLine line) = bad_line line
damage_text (damage.Write written) = write_failed written

abbrev pub moment_text : MomentFault → List ℕ
moment_text (moment.Range given) =
    codes "moment " ++ (decimal given ++ codes " is out of range")
moment_text (moment.Back last given) =
    codes "moment " ++ (decimal given ++ (codes " is before " ++ decimal last))

-- a subject that can't be refused
abbrev pub vital_text : Letter → List ℕ
vital_text subject = codes "subject " ++ subject.byte ∷ codes " can't be refused"

abbrev pub listen_text : ListenFault → List ℕ
listen_text listen.Read = read_failed
listen_text listen.AirTooLong = air_file_too_long
listen_text (listen.LineLong line) = line_long line
listen_text (listen.LineCut line) = line_cut line
listen_text (listen.BadLine line) = bad_line line
listen_text (listen.NoMoment line) = of_line line (codes " has elements before any moment")
listen_text (listen.Moment line why) = of_line line (codes ": " ++ moment_text why)
listen_text (listen.Vital line subject) = of_line line (codes ": " ++ vital_text subject)
listen_text (listen.Write written) = write_failed written
listen_text (listen.Memory want) = out_of_memory

abbrev pub state_text : StateFault → List ℕ
state_text state.Read = read_failed
state_text (state.StateLine line) =
    codes "state line " ++ (decimal line ++ codes " is not understood")
state_text (state.StateCut line) = codes "state has no end at line " ++ decimal line

abbrev pub resume_text : ResumeFault → List ℕ
resume_text (resume.State why) = state_text why
resume_text (resume.Listen why) = listen_text why
resume_text (resume.Write written) = write_failed written

abbrev pub log_text : LogFault → List ℕ
log_text log.Read = read_failed
log_text (log.Write written) = write_failed written
log_text (log.BadLog line) = of_line line (codes " is not of a log")
log_text (log.Memory want) = out_of_memory

abbrev pub call_text : CallFault → List ℕ
call_text (call.Run why) = run_text why
call_text (call.Send why) = send_text why
call_text (call.Check why) = check_text why
call_text (call.Listen why) = listen_text why
call_text (call.Resume why) = resume_text why
call_text (call.Damage why) = damage_text why
call_text (call.Log why) = log_text why
call_text call.NoSlot = no_slot

-- the line that reports the fault of a call
abbrev pub call_fault_line : CallFault → List ℕ
call_fault_line why = codes "navtex: " ++ call_text why ++ newline ∷ []

-- why the file of a log can't be opened, as it stands behind that it can't; nothing where the
-- reason is none of these
abbrev pub open_reason : FileOpenFault → List ℕ
open_reason file.NoFolder = codes ": its folder isn't there"
open_reason file.NoLeave = codes ": there is no leave to read and write it"
open_reason file.DeadLink = codes ": it is a link that leads nowhere"
open_reason file.FolderName = codes ": its name is that of a folder"
open_reason file.LongName = codes ": its name is too long"
open_reason file.NoRoom = codes ": there is no room on the disk"
open_reason file.OnlyRead = codes ": its disk can only be read"
open_reason file.NotRegular = codes ": it is no regular file"
open_reason file.NoLock = codes ": it can't be locked"
open_reason file.Moved = codes ": it was moved while it was opened"
open_reason file.FolderUnread = codes ": there is no leave to read its folder"
open_reason file.FolderUnsynced = codes ": its folder can't be brought to the disk"
open_reason file.Other = []
