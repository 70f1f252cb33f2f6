-- What a run that goes on from what is saved answers and leaves.
use Rattle.std.proofs.Common.{◌≡◌, ℕ, List, Option, Result, Ok, Err, IsErr, IsErrAnd, sym, subst}
use Rattle.std.specs.Io.KnownBytes.{Appends}
use Rattle.nx_fec.specs.air_files.AirFile.{Line}
use Rattle.nx_fec.specs.Transfers.{Contents, CountedDevice, Devices, HasWritten, contents_of}
use Rattle.nx_fec.specs.Transfers.{devices}
use Rattle.nx_fec.specs.private.LineRuns.{HasHeardAll, HasTaken}
use Rattle.nx_fec.specs.declared.air_files.line_runs.LinesRead.{LinesRead}
use Rattle.nx_memory.specs.Saved.{SavedStates}
use Rattle.nx_receiver.specs.air_file_runs.Chain.{HasGoneOn}
use Rattle.nx_receiver.specs.air_file_runs.Listen.{AreTaken, IsLogOfFile, Listens}
use Rattle.nx_receiver.specs.air_file_runs.Listen.{given_by}
use Rattle.nx_receiver.specs.air_file_runs.ListenFrom.{GoesOnBy, reported}
use Rattle.nx_receiver.specs.private.Listener.{Listening, content, starts_of}
use Rattle.nx_receiver.specs.Receiver.{plain_kind}
use Rattle.nx_receiver.specs.private.Listener.{HasClosed, IsListening, StandsFromBy}
use Rattle.nx_receiver.specs.private.Runs.{TakesLinesBy}
use Rattle.nx_copies.specs.copies.Shares.{Starts, starts_from}
use Rattle.nx_receiver.specs.declared.air_file_runs.listen_fault.ListenFault.{ListenFault}
use Rattle.nx_receiver.specs.declared.air_file_runs.listening.Report.{Report}
use Rattle.nx_receiver.proofs.lemmas.chain.Runs.{LeavesEach, goes_on}
use Rattle.nx_receiver.proofs.lemmas.listening.Runs.{listens-all}
use Rattle.nx_receiver.proofs.lemmas.listening.Once.{listens-once, printed-once}

-- an outcome that is this fault
pub err-is : (outcome : Result (Report × SavedStates) ListenFault) (fault : ListenFault)
    → IsErr outcome → IsErrAnd outcome (λ made. made ≡ fault) → reported outcome ≡ Err fault
err-is (Ok x) fault h e = cc
err-is (Err made) fault h e = cc

-- the whole file was read, and its end printed
pub gone : (saved left : SavedStates) (starts : Starts) (contents : Contents) (bytes : List ℕ)
    (count : ℕ) (report : Report) (holds : List Line → Type 0) → starts ≡ starts_from saved
    → HasHeardAll holds bytes count
    → ((lines : List Line) → holds lines → AreTaken starts lines
    × HasClosed starts contents.before contents.after (given_by lines) report)
    → ((lines : List Line) → holds lines → LeavesEach starts lines left)
    → HasGoneOn saved contents bytes left
gone saved left starts contents bytes count report holds begins h closed leaves =
    let end = closed h.lines h.here in
    let e = end.1 in
    let log : IsLogOfFile starts bytes h.lines e.copies e.log =
    record { file = h.file; taken = end.0; printed = e.printed; spelled = e.spelled } in
    let run = goes_on saved left bytes h.lines e.copies e.log
    (subst (λ (starts : Starts). IsLogOfFile starts bytes h.lines e.copies e.log) begins log)
    (subst (λ (starts : Starts). LeavesEach starts h.lines left) begins (leaves h.lines h.here)) in
    record {
      run = run.0;
      read = run.1;
      written =
          subst (Appends contents.before contents.after) (sym run.2) e.written;
      goes = run.3;
    }

-- a run over lines that read its file to the end, and what the end prints, go on by what the
-- listener leaves
pub goes-on : {R W : Type 0} (remaining : R → Option (List ℕ)) (contents : W → Option (List ℕ))
    (saved left : SavedStates) (first now : Listening) (reader reader_after : CountedDevice R)
    (writer mid new : CountedDevice W) (read : LinesRead) (report : Report)
    → starts_of first ≡ starts_from saved
    → TakesLinesBy (plain_kind content) first now
    (devices remaining contents reader reader_after writer mid) (Ok read)
    → ((lines : List Line) (given : List ℕ) → IsListening (starts_of first) now lines given
    → HasWritten (contents writer.inner) (contents mid.inner) given read.written
    → HasClosed (starts_of first) (contents writer.inner) (contents new.inner) (given_by lines)
    report)
    → ((lines : List Line) (given : List ℕ) → IsListening (starts_of first) now lines given
    → LeavesEach (starts_of first) lines left)
    → report.lines ≡ read.lines → new.failures ≡ 0
    → GoesOnBy saved (devices remaining contents reader reader_after writer new)
    (Ok (report, left))
goes-on remaining contents saved left first now reader reader_after writer mid new read report
    begins h closed leaves counted none =
    let d = devices remaining contents reader reader_after writer new in
    let ends : (lines : List Line) → HasTaken (StandsFromBy (plain_kind content)) first now lines
    (λ log. HasWritten (contents writer.inner) (contents mid.inner) log read.written)
    → AreTaken (starts_of first) lines × HasClosed (starts_of first) (contents writer.inner)
    (contents new.inner) (given_by lines) report =
    λ lines t. (t.stood.taken, closed lines t.given t.stood t.here) in
    let here = listens-all (plain_kind content) remaining contents first now reader
    reader_after writer mid new read report (λ bytes. HasGoneOn saved (contents_of d) bytes left) h
    ends (λ bytes k. gone saved left (starts_of first) _ bytes read.lines report _ begins k ends
    (λ lines t. leaves lines t.given t.stood)) counted none in
    let there = subst (λ (starts : Starts). (run : Listens starts d (Ok report))
    × HasGoneOn saved (contents_of d) run.bytes left) begins here in
    record {
      listens = record {
        run = there.0;
        once = printed-once (starts_from saved) (contents_of d) there.0.bytes report
            there.0.answer.1;
      };
      left = there.1;
    }

-- and so does one that ended early, which leaves nothing
pub goes-nowhere : {R W : Type 0} (saved : SavedStates) (d : Devices R W)
    (outcome : Result (Report × SavedStates) ListenFault) (fault : ListenFault) → IsErr outcome
    → reported outcome ≡ Err fault → Listens (starts_from saved) d (Err fault)
    → GoesOnBy saved d outcome
goes-nowhere saved d (Ok answer) fault h e run = absurd (cc)
goes-nowhere saved d (Err made) fault h e run = record {
  listens = listens-once (starts_from saved) d (Err made)
      (subst (Listens (starts_from saved) d) (sym e) run);
  left = tt;
}
