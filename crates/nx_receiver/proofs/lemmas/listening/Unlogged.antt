-- What a run that writes no log says of its reader, and what it leaves.
use Rattle.std.proofs.Common.{◌≡◌, ℕ, List, [], Option, None, Some, IfSome, Ok, Err, arith}
use Rattle.std.proofs.Common.{subst}
use Rattle.std.specs.Prelude.{⊤}
use Rattle.std.specs.declared.alloc.AllocError.{AllocError}
use Rattle.std.proofs.KnownBytes.{Consumes-nil}
use Rattle.nx_fec.specs.Transfers.{CountedDevice, Extent, input, read_from}
use Rattle.nx_fec.specs.air_files.AirFile.{Line}
use Rattle.nx_fec.specs.private.LineRuns.{HasHeardAll}
use Rattle.nx_fec.proofs.lemmas.devices.TransferLaws.{Ok-not_err, Reads-on, read_failed-none}
use Rattle.nx_memory.specs.Saved.{SavedStates}
use Rattle.nx_copies.specs.copies.Shares.{Starts, starts_from}
use Rattle.nx_receiver.specs.private.Listener.{Listening, starts_of}
use Rattle.nx_receiver.specs.air_file_runs.Listen.{AnswersUnlogged, AreTaken, given_by, unknown_contents}
use Rattle.nx_receiver.specs.private.Listener.{HasClosed, IsListening}
use Rattle.nx_receiver.specs.private.Unlogged.{AnswersLeaving, ExplainsUnlogged, HearsLines, ListensUnlogged}
use Rattle.nx_receiver.specs.private.Unlogged.{StandsUnlogged}
use Rattle.nx_receiver.specs.declared.air_file_runs.listen_fault.ListenFault.{ListenFault}
use Rattle.nx_receiver.specs.declared.air_file_runs.listen_fault.ListenFault.TheVariants.{Memory, Read, Write}
use Rattle.nx_receiver.specs.declared.air_file_runs.listen_fault.ListenFault.TheVariants.{AirTooLong, LineLong}
use Rattle.nx_receiver.specs.declared.air_file_runs.listen_fault.ListenFault.TheVariants.{LineCut, BadLine}
use Rattle.nx_receiver.specs.declared.air_file_runs.listen_fault.ListenFault.TheVariants.{NoMoment, Moment, Vital}
use Rattle.nx_receiver.specs.declared.air_file_runs.listening.Report.{Report}
use Rattle.nx_receiver.proofs.lemmas.chain.Runs.{LeavesEach}
use Rattle.nx_receiver.proofs.lemmas.listening.From.{gone}
use Rattle.nx_receiver.proofs.lemmas.listening.Runs.{as-err, err-of, listened, memory-read}

-- what a fault says, as such a run answers it
as-unlogged : (starts : Starts) (extent : Extent) (bytes : List ℕ) (fault : ListenFault)
    → ExplainsUnlogged starts extent bytes fault
    → AnswersUnlogged starts extent (Err fault) bytes
as-unlogged starts extent bytes Read h = h
as-unlogged starts extent bytes AirTooLong h = h
as-unlogged starts extent bytes (LineLong line) h = h
as-unlogged starts extent bytes (LineCut line) h = h
as-unlogged starts extent bytes (BadLine line) h = h
as-unlogged starts extent bytes (NoMoment line) h = h
as-unlogged starts extent bytes (Moment line why) h = h
as-unlogged starts extent bytes (Vital line subject) h = h
as-unlogged starts extent bytes (Write written) h = h
as-unlogged starts extent bytes (Memory error) h = tt

-- it is no want of memory
pub unlogged-held : {R : Type 0} (first now : Listening) (remaining : R → Option (List ℕ))
    (old new : CountedDevice R) (fault : ListenFault) (error : AllocError)
    → HearsLines first now (input remaining old new) (Err fault) → fault ≡ Memory error → ⊥
unlogged-held first now remaining old new fault error h is =
    subst (ExplainsUnlogged (starts_of first) (read_from (input remaining old new)) h.bytes) is
    h.answer

-- a run over lines that ended early is such a run that did
pub unlogged-fault : {R : Type 0} (saved : SavedStates) (first now : Listening)
    (remaining : R → Option (List ℕ)) (old new : CountedDevice R) (fault : ListenFault)
    → starts_of first ≡ starts_from saved
    → HearsLines first now (input remaining old new) (Err fault)
    → ListensUnlogged saved remaining old new (Err fault)
unlogged-fault saved first now remaining old new fault begun h =
    Reads-on (input remaining old new) Read Read (Err fault) (Err fault) _ _ h
    (λ extent bytes k. (
      subst (λ (starts : Starts). AnswersUnlogged starts extent (Err fault) bytes) begun
          (as-unlogged (starts_of first) extent bytes fault k),
      tt,
    ))
    (λ bytes k h. tt) (λ e. as-err _ _ (err-of _ _ e)) (λ e. as-err _ _ (err-of _ _ e))

-- a run over lines that read its file to the end, and what the end closes, are such a run
pub unlogged-ok : {R : Type 0} (saved left : SavedStates) (first now : Listening)
    (remaining : R → Option (List ℕ)) (old new : CountedDevice R) (count : ℕ) (report : Report)
    → starts_of first ≡ starts_from saved
    → HearsLines first now (input remaining old new) (Ok count)
    → ((lines : List Line) (given : List ℕ) → IsListening (starts_of first) now lines given
    → HasClosed (starts_of first) None None (given_by lines) report)
    → ((lines : List Line) (given : List ℕ) → IsListening (starts_of first) now lines given
    → LeavesEach (starts_of first) lines left)
    → report.lines ≡ count → ListensUnlogged saved remaining old new (Ok (report, left))
unlogged-ok saved left first now remaining old new count report begun h closed leaves counted =
    let ends : (lines : List Line) → StandsUnlogged first now lines
    → AreTaken (starts_of first) lines
    × HasClosed (starts_of first) None None (given_by lines) report =
    λ lines s. (s.1.taken, closed lines s.0 s.1) in
    let said : (extent : Extent) (bytes : List ℕ)
    → extent.at_end × HasHeardAll (StandsUnlogged first now) bytes count
    → AnswersLeaving saved extent (Ok (report, left)) bytes =
    λ extent bytes k. (
      subst (λ (starts : Starts). AnswersUnlogged starts extent (Ok report) bytes) begun (
        k.0,
        listened (starts_of first) unknown_contents bytes count report _ k.1 ends counted,
      ),
      gone saved left (starts_of first) unknown_contents bytes count report _ begun k.1 ends
          (λ lines s. leaves lines s.0 s.1),
    ) in
    Reads-on (input remaining old new) Read Read (Ok count) (Ok (report, left))
    (λ extent bytes. extent.at_end × HasHeardAll (StandsUnlogged first now) bytes count)
    (λ extent. AnswersLeaving saved extent (Ok (report, left))) h said
    (λ bytes k h. h) (λ e. absurd (Ok-not_err _ _ e)) (λ e. absurd (Ok-not_err _ _ e))

whatever-twice : (o : Option (List ℕ)) → IfSome o (λ _. ⊤ × ⊤)
whatever-twice None = tt
whatever-twice (Some xs) = (tt, tt)

-- memory ran out before anything was read
pub unlogged-memory : {R : Type 0} (saved : SavedStates) (remaining : R → Option (List ℕ))
    (reader : CountedDevice R) (error : AllocError) → reader.failures ≡ 0
    → ListensUnlogged saved remaining reader reader (Err (Memory error))
unlogged-memory saved remaining reader error none = record {
  bytes = [];
  consumed = Consumes-nil (remaining reader.inner);
  answer = (tt, tt);
  file = whatever-twice (remaining reader.inner);
  before = tt;
  failed = read_failed-none _ _ _ (memory-read error) none;
  once = omega (arith, none);
}
