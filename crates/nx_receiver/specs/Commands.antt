-- The commands of selection that the code gives, and the lines of an air file that give one (this
-- profile).
use Rattle.std.specs.Prelude.{ℕ, Bool, false}
use Rattle.nx_code.specs.Reading.{IsCapital}
use Rattle.nx_envelope.specs.declared.letter.Letter.{Letter}
use Rattle.nx_fec.specs.declared.air_files.lines.LineKind.{LineKind}
use Rattle.nx_fec.specs.declared.air_files.lines.LineKind.TheVariants as line
use Rattle.nx_memory.specs.Selection.{is_vital}
use Rattle.nx_copies.specs.Events.{Command, refuse_station, accept_station, refuse_subject}
use Rattle.nx_copies.specs.Events.{accept_subject}
use Rattle.nx_receiver.specs.declared.command.Command.{Command as TheCommand}
use Rattle.nx_receiver.specs.declared.command.Command.TheVariants.{RefuseStation, AcceptStation, RefuseSubject, AcceptSubject}

-- the command that is given for the letter of a byte
abbrev pub by_byte : TheCommand ℕ → Command
by_byte (RefuseStation byte) = refuse_station byte
by_byte (AcceptStation byte) = accept_station byte
by_byte (RefuseSubject byte) = refuse_subject byte
by_byte (AcceptSubject byte) = accept_subject byte

-- the command that is given for a letter
abbrev pub said : TheCommand Letter → Command
said (RefuseStation letter) = refuse_station letter.byte
said (AcceptStation letter) = accept_station letter.byte
said (RefuseSubject letter) = refuse_subject letter.byte
said (AcceptSubject letter) = accept_subject letter.byte

-- the command is to refuse a vital subject (ITU-R M.540)
abbrev pub refuses_vital : Command → Bool
refuses_vital (refuse_subject letter) = is_vital letter
refuses_vital _ = false

-- the line gives a command for a letter
abbrev pub GivesCommand : LineKind → Type 0
GivesCommand (line.RefuseStation mark byte) = IsCapital byte
GivesCommand (line.AcceptStation mark byte) = IsCapital byte
GivesCommand (line.RefuseSubject mark byte) = IsCapital byte
GivesCommand (line.AcceptSubject mark byte) = IsCapital byte
GivesCommand _ = ⊥
