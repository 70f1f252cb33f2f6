-- A run that listens and goes on from what is saved, and writes no log; and how its listener
-- stands: nothing is said of the log but that there is one (this profile).
use Rattle.std.specs.Prelude.{ℕ, List, Option, Result, IfOk, ⊤}
use Rattle.nx_fec.specs.Transfers.{AnswersToEnd, CountedDevice, Extent, Input, Reads, input}
use Rattle.nx_fec.specs.air_files.AirFile.{Line}
use Rattle.nx_fec.specs.private.LineRuns.{HasHeardAll}
use Rattle.nx_memory.specs.Saved.{SavedStates}
use Rattle.nx_copies.specs.copies.Log.{plain}
use Rattle.nx_copies.specs.copies.Shares.{Given, Starts, starts_from}
use Rattle.nx_receiver.specs.private.Listener.{Listening, starts_of}
use Rattle.nx_receiver.specs.air_file_runs.Chain.{HasGoneOn}
use Rattle.nx_receiver.specs.air_file_runs.Listen.{AnswersUnlogged, unknown_contents}
use Rattle.nx_receiver.specs.air_file_runs.ListenFrom.{reported}
use Rattle.nx_receiver.specs.private.Listener.{HearsLog, IsListening}
use Rattle.nx_receiver.specs.private.Runs.{ExplainsLogBy}
use Rattle.nx_receiver.specs.declared.air_file_runs.listen_fault.ListenFault.{ListenFault}
use Rattle.nx_receiver.specs.declared.air_file_runs.listen_fault.ListenFault.TheVariants.{Read, Write}
use Rattle.nx_receiver.specs.declared.air_file_runs.listening.Report.{Report}

-- after these lines
abbrev pub HasHeard : Starts → Listening → List Line → Type 0
HasHeard starts listener lines = (log : List ℕ) × IsListening starts listener lines log

-- the same of a listener that stood so at first
abbrev pub StandsUnlogged : Listening → Listening → List Line → Type 0
StandsUnlogged first now lines = HasHeard (starts_of first) now lines

-- after what lines gave
abbrev pub HasHeardGiven : Starts → Listening → List Given → Type 0
HasHeardGiven starts listener given = (log : List ℕ) × HearsLog starts listener given log

-- What the fault of a run over lines says of bytes of this extent where no log is wanted: no write
-- failed, and nothing is known of the log.
abbrev pub ExplainsUnlogged : Starts → Extent → List ℕ → ListenFault → Type 0
ExplainsUnlogged starts extent bytes (Write written) = ⊥
ExplainsUnlogged starts extent bytes fault =
    ExplainsLogBy plain starts unknown_contents extent bytes fault

-- A run over the lines of an air file, which this listener hears, and for which nothing is written:
-- it answers so to the bytes that it read, and to the whole file, however it came.
abbrev pub HearsLines : {R : Type 0} → Listening → Listening → Input R → Result ℕ ListenFault
    → Type 0
HearsLines first now i outcome =
    Reads i Read (λ fault bytes. ⊤) outcome
    (AnswersToEnd (λ count bytes. HasHeardAll (StandsUnlogged first now) bytes count)
    (λ extent bytes fault. ExplainsUnlogged (starts_of first) extent bytes fault) outcome)

-- what a run answers that goes on so, and what it leaves
abbrev pub AnswersLeaving : SavedStates → Extent
    → Result (Report × SavedStates) ListenFault → List ℕ → Type 0
AnswersLeaving saved extent outcome bytes =
    AnswersUnlogged (starts_from saved) extent (reported outcome) bytes
    × IfOk outcome (λ answer. HasGoneOn saved unknown_contents bytes answer.1)

-- such a run, of its reader
abbrev pub ListensUnlogged : {R : Type 0} → SavedStates → (R → Option (List ℕ)) → CountedDevice R
    → CountedDevice R → Result (Report × SavedStates) ListenFault → Type 0
ListensUnlogged saved remaining old new outcome =
    Reads (input remaining old new) Read (λ fault bytes. ⊤) outcome
    (λ extent. AnswersLeaving saved extent outcome)
