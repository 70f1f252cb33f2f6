-- How a run over the lines of an air file ends at a line (this profile).
use Rattle.std.specs.Prelude.{◌≡◌, ℕ, List, [], ◌∷◌, ◌++◌, Option}
use Rattle.nx_fec.specs.Transfers.{Contents, CountedDevice}
use Rattle.nx_fec.specs.air_files.AirFile.{Line}
use Rattle.nx_fec.specs.air_files.LineRuns.{HasGiven, Waiting}
use Rattle.nx_fec.specs.private.LineRuns.{HasTaken}
use Rattle.nx_receiver.specs.ChannelReceiver.{ReceiverKind}
use Rattle.nx_receiver.specs.Listener.{ListeningOver, starts_by}
use Rattle.nx_receiver.specs.air_file_runs.Listen.{HasLoggedSome, IsLogOfLinesBy}
use Rattle.nx_receiver.specs.private.Listener.{RefusesLine, StandsFromBy}
use Rattle.nx_receiver.specs.private.Runs.{TellsRefusal}
use Rattle.nx_receiver.specs.declared.air_file_runs.listen_fault.ListenFault.{ListenFault}
use Rattle.nx_receiver.specs.declared.air_file_runs.listen_fault.ListenFault.TheVariants.{Write}
use Rattle.nx_receiver.specs.declared.air_file_runs.listening.logged.LineStop.{LineStop}
use Rattle.nx_receiver.specs.declared.air_file_runs.listening.logged.LineStop.TheVariants.{Refused, Lost}

-- The line that follows these is refused, and the listener, the writer and the batch stand as these
-- lines left them. Or a write failed of the log of these lines and the line.
abbrev pub EndsAtLineBy : {R : Type 0} → ReceiverKind R → ListeningOver R → ListeningOver R
    → Contents → Waiting → List Line → Line → LineStop → Type 0
EndsAtLineBy kind first now contents batch lines line (Refused why) =
    RefusesLine (starts_by kind first) lines line why
    × HasTaken (StandsFromBy kind) first now lines (HasGiven contents.before contents.after batch)
EndsAtLineBy kind first now contents batch lines line (Lost fault) =
    HasLoggedSome (IsLogOfLinesBy kind.printing (starts_by kind first) (lines ++ line ∷ []))
    contents fault.written

-- a write failed exactly where that is why
abbrev pub FailsBy : {W : Type 0} → CountedDevice W → LineStop → Type 0
FailsBy writer (Refused why) = writer.failures ≡ 0
FailsBy writer (Lost fault) = writer.failures ≡ 1

-- how it is told
abbrev pub TellsStop : ℕ → LineStop → Option (List ℕ) → Option (List ℕ) → Waiting → ListenFault
    → Type 0
TellsStop number (Refused why) before after batch fault =
    TellsRefusal number why before after batch fault
TellsStop number (Lost lost) before after batch fault =
    (fault ≡ Write lost.written) × (after ≡ before)
