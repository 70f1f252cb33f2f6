-- What reading the elements of an air file says of its reader, by what stopped the lines.
use Rattle.std.proofs.Common.{◌≡◌, ◌↔◌, ◌∙◌, ℕ, ◌≤◌, Bool, Option, List, [], ◌∷◌, ◌++◌, Err, IsErrOf, Ok}
use Rattle.std.proofs.Common.{Result, ap, sym, append-nil, arith, refl, subst}
use Rattle.std.specs.Global.{Vec}
use Rattle.std.specs.declared.alloc.AllocError.{AllocError}
use Rattle.std.specs.List.{flat_map}
use Rattle.std.specs.Io.KnownBytes.{Consumes}
use Rattle.std.proofs.lemmas.List.Concat.{flat_map-append}
use Rattle.nx_fec.specs.Runs.{ExplainsReading, IsOutside, air_run_fault, file_limit, run_fault}
use Rattle.nx_fec.specs.Transfers.{AnswersToEnd, Extent, Input, Reads}
use Rattle.nx_fec.specs.air_files.AirFile.{Line}
use Rattle.nx_fec.specs.air_files.LineReading.{EndsEarly, HasFirstFault, HasGivenAll, HasPassed}
use Rattle.nx_fec.specs.air_files.Lines.{IsBitFile, IsFaultless, elements_on}
use Rattle.nx_fec.specs.declared.air_files.channel.Channel.TheVariants.{Zero}
use Rattle.nx_fec.specs.declared.air_files.line_reader.LineReader.{LineReader}
use Rattle.nx_fec.specs.declared.fault.AirFault.{AirFault}
use Rattle.nx_fec.specs.declared.fault.AirFault.TheVariants as air
use Rattle.nx_fec.specs.declared.fault.LineFault.{LineFault}
use Rattle.nx_fec.specs.declared.fault.LineFault.TheVariants as file
use Rattle.nx_fec.specs.declared.fault.RunFault.{RunFault}
use Rattle.nx_fec.specs.declared.fault.RunFault.TheVariants.{Read, Memory}
use Rattle.nx_fec.proofs.lemmas.devices.TransferLaws.{Ok-not_err, read_failed-none}
use Rattle.nx_fec.proofs.lemmas.line_runs.LineReading.{Line-not_read, unfailed}
use Rattle.nx_fec.proofs.lemmas.line_runs.LineRun.{StopsAt-map}
use Rattle.nx_fec.proofs.lemmas.line_runs.LinesRead.{IsFaulty, read-all, read-failed, read-fault}
use Rattle.nx_fec.proofs.lemmas.lines.ReadingLaws.{IfSome-always, Scans-faultless, run_fault-inside}
use Rattle.nx_fec.proofs.lemmas.lines.ReadingLaws.{run_fault-not_read}

-- the elements of one more line
pub joined-more : (lines : List Line) (line : Line) (bits more : List Bool)
    → bits ≡ flat_map (elements_on Zero) lines → more ≡ bits ++ elements_on Zero line
    → more ≡ flat_map (elements_on Zero) (lines ++ line ∷ [])
joined-more lines line bits more is longer =
    longer ∙ ap (λ l. l ++ elements_on Zero line) is
    ∙ ap (λ l. flat_map (elements_on Zero) lines ++ l) (sym (append-nil (elements_on Zero line)))
    ∙ sym (flat_map-append (elements_on Zero) lines (line ∷ []))

explains-fault : (extent : Extent) (limit : ℕ) (lines : List Line) (bytes : List ℕ)
    (why : LineFault) → IsFaulty limit lines why extent bytes
    → ExplainsReading extent limit bytes (run_fault why)
explains-fault extent limit lines bytes file.TooLong h =
    StopsAt-map bytes _ _ (λ before rest more k. k.0) h.1
explains-fault extent limit lines bytes (file.LineLong line) h =
    StopsAt-map bytes _ _ (λ before rest more k. k.0) h.1
explains-fault extent limit lines bytes (file.LineCut line) h =
    (h.0, StopsAt-map bytes _ _ (λ before rest more k. k.0) h.1)
explains-fault extent limit lines bytes (file.BadLine line) h =
    StopsAt-map bytes _ _ (λ before rest more k. k.0) h.1

module _ {R : Type 0} (i : Input R) (reader : LineReader R)
    (same : reader.reader.now ≡ i.reader_after) (lines : List Line)
  where
    abbrev behind : RunFault → List ℕ → Type 0
    behind fault bytes = IsOutside fault → IsFaultless file_limit bytes

    abbrev answers : Result (Vec Bool) RunFault → Extent → List ℕ → Type 0
    answers outcome = AnswersToEnd (λ bits bytes. IsBitFile file_limit bytes bits.items)
        (λ extent bytes fault. ExplainsReading extent file_limit bytes fault) outcome

    abbrev first : Option (List ℕ)
    first = i.remaining i.reader.inner

    -- the file has a fault
    pub elements-fault : (why : LineFault)
        → HasFirstFault i.remaining file_limit first reader lines why
        → reader.reader.now.failures ≡ 0
        → Reads {N = Vec Bool} i Read behind (Err (run_fault why)) (answers (Err (run_fault why)))
    elements-fault why h none =
        read-fault i Read behind (Err (run_fault why)) (answers (Err (run_fault why))) file_limit
        reader same lines why h (ap (λ r. r.failures) (sym same) ∙ none) (run_fault-not_read why)
        (λ bytes outside. absurd (run_fault-inside why outside))
        (λ extent bytes k. explains-fault extent file_limit lines bytes why k)

    -- the lines ended early
    pub elements-stopped : {N : Type 0} (fault : AirFault)
        → EndsEarly i.remaining file_limit first reader lines fault
        → IsErrOf {T = N} (Err fault) air.Read ↔ (reader.reader.now.failures ≡ 1)
        → reader.reader.now.failures ≤ 1
        → Reads {N = Vec Bool} i Read behind (Err (air_run_fault fault))
        (answers (Err (air_run_fault fault)))
    elements-stopped air.Read h failed once =
        read-failed i Read behind (Err Read) (answers (Err Read)) file_limit reader same lines h.0
        h.1 (ap (λ r. r.failures) (sym same) ∙ failed.0 refl) refl
        (λ outside. Scans-faultless file_limit reader.scanner h.0.looked_at lines h.0.scans)
        (λ extent bytes k. tt)
    elements-stopped {N} (air.Line why) h failed once =
        elements-fault why h
        (unfailed {N = N} reader.reader.now.failures _ (Line-not_read why) failed once)

    -- memory ran out, behind bytes in which no fault stands
    pub elements-unheld : (error : AllocError) → HasPassed i.remaining file_limit first reader
        → reader.reader.now.failures ≡ 0
        → Reads {N = Vec Bool} i Read behind (Err (Memory error)) (answers (Err (Memory error)))
    elements-unheld error h none =
        let after = ap (λ r. r.failures) (sym same) ∙ none in
        record {
          bytes = h.bytes;
          consumed = subst (λ r. Consumes first (i.remaining r.inner) h.bytes) same h.consumed;
          answer = tt;
          file = IfSome-always first _ (λ xs. tt);
          before = λ outside. h.faultless;
          failed = read_failed-none _ _ _ (λ e. cc) after;
          once = omega (arith, after);
        }

    -- all lines were read
    pub elements-read : (bits : Vec Bool)
        → HasGivenAll i.remaining file_limit first reader lines → reader.reader.now.failures ≡ 0
        → bits.items ≡ flat_map (elements_on Zero) lines
        → Reads i Read behind (Ok bits) (answers (Ok bits))
    elements-read bits h none joined =
        read-all i Read behind (Ok bits) (answers (Ok bits)) file_limit reader same lines h
        (ap (λ r. r.failures) (sym same) ∙ none)
        (Ok-not_err _ _) (λ bytes. tt)
        (λ extent bytes end file. (
          end,
          record { lines = lines; file = file; joined = joined },
        ))
