-- What checking an air file answers (this profile).
use Rattle.std.specs.Prelude.{◌≡◌, ℕ, Bool, List, [], ◌∷◌, ◌++◌, codes, length, map, Result, Ok, Err}
use Rattle.std.specs.Io.KnownBytes.{Appends}
use Rattle.nx_code.specs.Reading.{newline}
use Rattle.nx_envelope.specs.Message.{MessageView}
use Rattle.nx_fec.specs.Transfers.{Contents, Devices, Extent, Manner, Transfers, WroteSome}
use Rattle.nx_fec.specs.Transfers.{at_the_end, contents_of}
use Rattle.nx_fec.specs.air_files.Lines.{IsBitFile, IsFaultless}
use Rattle.nx_fec.specs.Runs.{ExplainsReading, IsOutside, file_limit}
use Rattle.nx_fec.specs.declared.fault.RunFault.TheVariants as run
use Rattle.nx_station.specs.MessageFile.{file_message_of, message_file_bytes}
use Rattle.nx_station.specs.Sendable.{AreOf}
use Rattle.nx_station.specs.StrictReading.{ExplainsEmission, IsEmissionOf}
use Rattle.nx_station.specs.declared.fault.CheckFault.{CheckFault}
use Rattle.nx_station.specs.declared.fault.CheckFault.TheVariants.{Run, Emission}

-- the line of the station
abbrev pub station_line : ℕ → List ℕ
station_line station = codes "station " ++ station ∷ newline ∷ []

-- what is written of messages: the line of their station, and their message file
abbrev pub report : ℕ → List MessageView → List ℕ
report station messages = station_line station ++ message_file_bytes (map file_message_of messages)

-- What is written of an air file, and the count that is answered: its elements on channel 0 are the
-- emission of messages, all of one station.
pub record IsChecked (limit : ℕ) (air written : List ℕ) (count : ℕ) : Type 0 where
  pub bits : List Bool
  pub file : IsBitFile limit air bits
  pub messages : List MessageView
  pub emission : IsEmissionOf messages bits
  pub station : ℕ
  pub of_station : AreOf station messages
  pub whole : written ≡ report station messages
  pub counted : count ≡ length messages

-- What a fault of checking says of bytes of this extent of an air file: a fault of reading its
-- elements, or of writing, or of its elements.
abbrev pub ExplainsChecking : Extent → List ℕ → Contents → CheckFault → Type 0
ExplainsChecking extent air contents (Run (run.Write written)) =
    extent.at_end × (text : List ℕ) × (count : ℕ) × IsChecked file_limit air text count
    × WroteSome contents.before contents.after text written
ExplainsChecking extent air contents (Run fault) = ExplainsReading extent file_limit air fault
ExplainsChecking extent air contents (Emission fault) =
    extent.at_end × (bits : List Bool) × IsBitFile file_limit air bits
    × ExplainsEmission bits fault

-- the fault is of the reader or of memory, while the elements are read or their report is made
abbrev pub IsOutsideChecking : CheckFault → Type 0
IsOutsideChecking (Run fault) = IsOutside fault
IsOutsideChecking (Emission fault) = ⊥

-- what checking answers to bytes of this extent of an air file: the count of its messages, whose
-- report was written, or a fault
abbrev pub AnswersChecking : Extent → List ℕ → Contents → Result ℕ CheckFault → Type 0
AnswersChecking extent air contents (Ok count) =
    extent.at_end × (text : List ℕ) × IsChecked file_limit air text count
    × Appends contents.before contents.after text
AnswersChecking extent air contents (Err fault) = ExplainsChecking extent air contents fault

-- the manner of a run that checks: it writes nothing before all else succeeded
abbrev pub checking_run : Manner CheckFault
checking_run = record {
  read = Run run.Read;
  write = λ written. Run (run.Write written);
  behind = λ fault bytes. IsOutsideChecking fault → IsFaultless file_limit bytes;
  writing = at_the_end;
}

-- A run that checks: it answers so to the bytes that it read, and to the whole file, however it
-- came.
abbrev pub Checks : {R W : Type 0} → Devices R W → Result ℕ CheckFault → Type 0
Checks d outcome = Transfers checking_run d outcome
    (λ extent bytes. AnswersChecking extent bytes (contents_of d) outcome)
