-- The fault of a run that stands for the fault of a part of it (this profile).
use Rattle.nx_envelope.specs.declared.message.MessageFault.{MessageFault}
use Rattle.nx_envelope.specs.declared.message.MessageFault.TheVariants as message
use Rattle.nx_fec.specs.declared.fault.AirFault.{AirFault}
use Rattle.nx_fec.specs.declared.fault.AirFault.TheVariants as air
use Rattle.nx_fec.specs.declared.fault.LineFault.TheVariants as file
use Rattle.nx_fec.specs.declared.fault.ReadFault.{ReadFault}
use Rattle.nx_fec.specs.declared.fault.ReadFault.TheVariants as read
use Rattle.nx_station.specs.declared.fault.DamageFault.{DamageFault}
use Rattle.nx_station.specs.declared.fault.DamageFault.TheVariants as damage
use Rattle.nx_station.specs.declared.fault.EmissionFault.{EmissionFault}
use Rattle.nx_station.specs.declared.fault.EmissionFault.TheVariants as reading
use Rattle.nx_station.specs.declared.fault.SendFault.{SendFault}
use Rattle.nx_station.specs.declared.fault.SendFault.TheVariants as refusal
use Rattle.nx_station.specs.declared.fault.SendRunFault.{SendRunFault}
use Rattle.nx_station.specs.declared.fault.SendRunFault.TheVariants.{Read, FileTooLong, Send, Memory}

-- for the fault of reading a file whole
abbrev pub read_fault : ReadFault → SendRunFault
read_fault read.Read = Read
read_fault read.FileTooLong = FileTooLong
read_fault (read.Memory error) = Memory error

-- for the fault of an emission
abbrev pub send_fault : SendFault → SendRunFault
send_fault (refusal.Memory error) = Memory error
send_fault refused = Send refused

-- for messages that were read, and make no emission
abbrev pub unread_fault : SendFault → EmissionFault
unread_fault (refusal.Memory error) = reading.Memory error
unread_fault _ = reading.BadEnvelope

-- for lines that were read, and make no message
abbrev pub unmade_fault : MessageFault → EmissionFault
unmade_fault (message.Memory error) = reading.Memory error
unmade_fault _ = reading.BadEnvelope

-- for the fault of the lines of an air file that is damaged
abbrev pub air_fault : AirFault → DamageFault
air_fault air.Read = damage.Read
air_fault (air.Line file.TooLong) = damage.AirTooLong
air_fault (air.Line (file.LineLong line)) = damage.LineLong line
air_fault (air.Line (file.LineCut line)) = damage.LineCut line
air_fault (air.Line (file.BadLine line)) = damage.BadLine line
