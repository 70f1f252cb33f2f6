-- What a run over the lines of an air file answers, by what stopped its lines.
use Rattle.std.proofs.Common.{◌≡◌, ◌↔◌, ◌∙◌, ℕ, ◌+◌, ◌≤◌, List, [], ◌∷◌, ◌++◌, length, Option, None}
use Rattle.std.proofs.Common.{Result, Ok, Err, IsErrOf, inl, inr, ap, arith, refl, subst, sym}
use Rattle.std.specs.Prelude.{⊤}
use Rattle.nx_fec.specs.Transfers.{Contents, Devices, Extent, HasWritten, Input, Reads, Writes}
use Rattle.nx_fec.specs.Transfers.{contents_of, input_of}
use Rattle.nx_fec.specs.air_files.AirFile.{IsLine, Line}
use Rattle.nx_fec.specs.air_files.LineReading.{EndsEarly, HasGivenAll, HasGivenLines}
use Rattle.nx_fec.specs.private.LineRuns.{HasTaken}
use Rattle.nx_fec.specs.air_files.Lines.{IsLineRefused, air_limit}
use Rattle.nx_fec.specs.declared.air_files.line_reader.LineReader.{LineReader}
use Rattle.nx_fec.specs.declared.air_files.line_runs.LinesRead.{LinesRead}
use Rattle.nx_fec.specs.declared.fault.AirFault.{AirFault}
use Rattle.nx_fec.specs.declared.fault.AirFault.TheVariants as air
use Rattle.nx_fec.specs.declared.fault.LineFault.{LineFault}
use Rattle.nx_fec.specs.declared.fault.LineFault.TheVariants as file
use Rattle.nx_fec.proofs.lemmas.devices.TransferLaws.{Ok-not_err, Reads-on, Writes-fault, Writes-none}
use Rattle.nx_fec.proofs.lemmas.line_runs.LineReading.{Line-not_read, unfailed}
use Rattle.nx_fec.proofs.lemmas.line_runs.LineRun.{StopsAt-map}
use Rattle.nx_fec.proofs.lemmas.line_runs.LinesRead.{IsBefore, IsFaulty, read-all, read-before, read-behind}
use Rattle.nx_fec.proofs.lemmas.line_runs.LinesRead.{read-failed, read-fault}
use Rattle.nx_copies.specs.copies.Log.{Printing, plain}
use Rattle.nx_copies.specs.copies.Shares.{Starts}
use Rattle.nx_receiver.specs.ChannelReceiver.{ReceiverKind}
use Rattle.nx_receiver.specs.Listener.{ListeningOver, starts_by}
use Rattle.nx_receiver.specs.private.Listener.{Listening, content, starts_of}
use Rattle.nx_receiver.specs.Receiver.{plain_kind}
use Rattle.nx_receiver.specs.air_file_runs.Listen.{HasLoggedBy, HasLoggedSome, IsLogOfLinesBy}
use Rattle.nx_receiver.specs.air_file_runs.Listen.{RefusesAfter, air_fault, file_fault, refusal_fault}
use Rattle.nx_receiver.specs.air_file_runs.Listen.{unknown_contents}
use Rattle.nx_receiver.specs.private.Listener.{RefusesLine, StandsFromBy}
use Rattle.nx_receiver.specs.private.Runs.{ExplainsLogBy, StopsAtLineBy, TakesLinesBy}
use Rattle.nx_receiver.specs.private.Unlogged.{ExplainsUnlogged, HearsLines, StandsUnlogged}
use Rattle.nx_receiver.specs.declared.air_file_runs.listen_fault.LineRefusal.{LineRefusal}
use Rattle.nx_receiver.specs.declared.air_file_runs.listen_fault.LineRefusal.TheVariants as refusal
use Rattle.nx_receiver.specs.declared.air_file_runs.listen_fault.ListenFault.{ListenFault}
use Rattle.nx_receiver.specs.declared.air_file_runs.listen_fault.ListenFault.TheVariants.{Read, Write}
use Rattle.nx_receiver.proofs.lemmas.listening.Runs.{logged, next-refused, write-not_read}

-- ---- faults of one kind are none of another

file-not_read : {N : Type 0} (why : LineFault)
    → ◌≡◌ {A = Result N ListenFault} (Err (file_fault why)) (Err Read) → ⊥
file-not_read file.TooLong e = cc
file-not_read (file.LineLong line) e = cc
file-not_read (file.LineCut line) e = cc
file-not_read (file.BadLine line) e = cc

refusal-not_read : {N : Type 0} (number : ℕ) (why : LineRefusal)
    → ◌≡◌ {A = Result N ListenFault} (Err (refusal_fault number why)) (Err Read) → ⊥
refusal-not_read number refusal.NoMoment e = cc
refusal-not_read number (refusal.Moment why) e = cc
refusal-not_read number (refusal.Vital subject) e = cc

pub air-not_write : {N : Type 0} (fault : AirFault) (written : ℕ)
    → ◌≡◌ {A = Result N ListenFault} (Err (air_fault fault)) (Err (Write written)) → ⊥
air-not_write air.Read written e = cc
air-not_write (air.Line file.TooLong) written e = cc
air-not_write (air.Line (file.LineLong line)) written e = cc
air-not_write (air.Line (file.LineCut line)) written e = cc
air-not_write (air.Line (file.BadLine line)) written e = cc

-- ---- what a fault says, behind lines of which this holds

explains-line : (printing : Printing) (starts : Starts) (contents : Contents) (extent : Extent)
    (lines : List Line) (bytes : List ℕ) (why : LineFault)
    → HasLoggedBy printing starts contents lines
    → IsFaulty air_limit lines why extent bytes
    → ExplainsLogBy printing starts contents extent bytes (file_fault why)
explains-line printing starts contents extent lines bytes file.TooLong written k =
    StopsAt-map bytes _ _ (λ before rest more p. (
      p.0,
      subst (HasLoggedBy printing starts contents) (sym p.1) written,
    )) k.1
explains-line printing starts contents extent lines bytes (file.LineLong line) written k =
    StopsAt-map bytes _ _ (λ before rest more p. (
      p.0,
      subst (HasLoggedBy printing starts contents) (sym p.1) written,
    )) k.1
explains-line printing starts contents extent lines bytes (file.LineCut line) written k = (
  k.0,
  StopsAt-map bytes _ _ (λ before rest more p. (
    p.0,
    subst (HasLoggedBy printing starts contents) (sym p.1) written,
  )) k.1,
)
explains-line printing starts contents extent lines bytes (file.BadLine line) written k =
    StopsAt-map bytes _ _ (λ before rest more p. (
      p.0,
      subst (HasLoggedBy printing starts contents) (sym p.1) written,
    )) k.1

refused-here : (starts : Starts) (number : ℕ) (lines before : List Line) (line : Line)
    (rest more : List ℕ) (why : LineRefusal) → RefusesLine starts lines line why
    → IsLineRefused (λ front next. (front ≡ lines) × (next ≡ line)) air_limit before rest more
    number
    → IsLineRefused (RefusesAfter starts (refusal_fault number why)) air_limit before rest more
    (length before + 1)
refused-here starts number lines before line rest more why refuses h =
    next-refused starts number before rest more why (record {
      line = h.line;
      after = h.after;
      good = h.good;
      spelled = h.spelled;
      ended = h.ended;
      within = h.within;
      counted = h.counted;
      refused = subst (λ l. RefusesLine starts l h.line why) (sym h.refused.0)
          (subst (λ x. RefusesLine starts lines x why) (sym h.refused.1) refuses);
    })

explains-refused : (printing : Printing) (starts : Starts) (contents : Contents) (extent : Extent)
    (lines : List Line) (line : Line) (number : ℕ) (bytes : List ℕ) (why : LineRefusal)
    → RefusesLine starts lines line why → HasLoggedBy printing starts contents lines
    → IsBefore air_limit lines line number bytes
    → ExplainsLogBy printing starts contents extent bytes (refusal_fault number why)
explains-refused printing starts contents extent lines line number bytes refusal.NoMoment refuses
    written k =
    StopsAt-map bytes _ _ (λ before rest more p. (
      refused-here starts number lines before line rest more refusal.NoMoment refuses p.0,
      subst (HasLoggedBy printing starts contents) (sym p.1) written,
    )) k
explains-refused printing starts contents extent lines line number bytes (refusal.Moment why)
    refuses written k =
    StopsAt-map bytes _ _ (λ before rest more p. (
      refused-here starts number lines before line rest more (refusal.Moment why) refuses p.0,
      subst (HasLoggedBy printing starts contents) (sym p.1) written,
    )) k
explains-refused printing starts contents extent lines line number bytes (refusal.Vital subject)
    refuses written k =
    StopsAt-map bytes _ _ (λ before rest more p. (
      refused-here starts number lines before line rest more (refusal.Vital subject) refuses p.0,
      subst (HasLoggedBy printing starts contents) (sym p.1) written,
    )) k

-- ---- what a run says of its reader

module _ {R : Type 0} (printing : Printing) (starts : Starts) (i : Input R) (contents : Contents)
    (reader : LineReader R) (same : reader.reader.now ≡ i.reader_after) (lines : List Line)
  where
    abbrev from : Option (List ℕ)
    from = i.remaining i.reader.inner

    abbrev behind : ListenFault → List ℕ → Type 0
    behind fault bytes = ⊤

    abbrev answers : ListenFault → Extent → List ℕ → Type 0
    answers fault extent bytes = ExplainsLogBy printing starts contents extent bytes fault

    after : (failures : ℕ) → reader.reader.now.failures ≡ failures
        → i.reader_after.failures ≡ failures
    after failures is = ap (λ r. r.failures) (sym same) ∙ is

    -- the log of the lines before a fault was written
    early : {N M : Type 0} (fault : AirFault)
        → EndsEarly i.remaining air_limit from reader lines fault
        → IsErrOf {T = M} (Err fault) air.Read ↔ (reader.reader.now.failures ≡ 1)
        → reader.reader.now.failures ≤ 1 → HasLoggedBy printing starts contents lines
        → Reads {N = N} i Read behind (Err (air_fault fault)) (answers (air_fault fault))
    early {N} {M} air.Read h failed once written =
        read-failed i Read behind (Err Read) (answers Read) air_limit reader same lines h.0 h.1
        (after 1 (failed.0 refl)) refl tt
        (λ extent bytes k. StopsAt-map bytes _ _ (λ before rest more p. (
          p.0,
          p.1,
          subst (HasLoggedBy printing starts contents) (sym p.2) written,
        )) k)
    early {N} {M} (air.Line why) h failed once written =
        read-fault i Read behind (Err (file_fault why)) (answers (file_fault why)) air_limit reader
        same lines why h (after 0 (unfailed {N = M} _ _ (Line-not_read why) failed once))
        (file-not_read why) (λ bytes. tt)
        (λ extent bytes k. explains-line printing starts contents extent lines bytes why written k)

    -- or writing it failed
    lost-early : {N M : Type 0} (fault : AirFault) (written : ℕ)
        → EndsEarly i.remaining air_limit from reader lines fault
        → IsErrOf {T = M} (Err fault) air.Read ↔ (reader.reader.now.failures ≡ 1)
        → reader.reader.now.failures ≤ 1 → (fault ≡ air.Read → ⊥)
        → HasLoggedSome (IsLogOfLinesBy printing starts lines) contents written
        → Reads {N = N} i Read behind (Err (Write written)) (answers (Write written))
    lost-early {N} {M} air.Read written h failed once other some = absurd (other refl)
    lost-early {N} {M} (air.Line why) written h failed once other some =
        read-fault i Read behind (Err (Write written)) (answers (Write written)) air_limit reader
        same lines why h (after 0 (unfailed {N = M} _ _ (Line-not_read why) failed once))
        (write-not_read written) (λ bytes. tt)
        (λ extent bytes k. inl (StopsAt-map bytes _ _ (λ before rest more p.
        subst (λ l. HasLoggedSome (IsLogOfLinesBy printing starts l) contents written) (sym p.1)
        some) k.1))

    -- so it did behind the lines that were read by then
    lost : {N : Type 0} (written : ℕ) → HasGivenLines i.remaining air_limit from reader lines
        → reader.reader.now.failures ≡ 0
        → HasLoggedSome (IsLogOfLinesBy printing starts lines) contents written
        → Reads {N = N} i Read behind (Err (Write written)) (answers (Write written))
    lost {N} written h none some =
        read-behind i Read behind (Err (Write written)) (answers (Write written)) air_limit reader
        same lines h (after 0 none) (write-not_read written) (λ bytes. tt)
        (λ extent bytes k. inl (StopsAt-map bytes _ _ (λ before rest more p.
        subst (λ l. HasLoggedSome (IsLogOfLinesBy printing starts l) contents written) (sym p) some)
        k))

    -- or before a line that is refused
    lost-before : {N : Type 0} (line : Line) (written : ℕ) → IsLine line
        → HasGivenLines i.remaining air_limit from reader (lines ++ line ∷ [])
        → reader.reader.now.failures ≡ 0
        → HasLoggedSome (IsLogOfLinesBy printing starts lines) contents written
        → Reads {N = N} i Read behind (Err (Write written)) (answers (Write written))
    lost-before {N} line written good h none some =
        read-before i Read behind (Err (Write written)) (answers (Write written)) air_limit reader
        same lines line good h (after 0 none) (write-not_read written) (λ bytes. tt)
        (λ extent bytes k. inl (StopsAt-map bytes _ _ (λ before rest more p.
        subst (λ l. HasLoggedSome (IsLogOfLinesBy printing starts l) contents written) (sym p.1)
        some) k))

    -- the log of the lines before it was written
    refused : {N : Type 0} (line : Line) (why : LineRefusal) → IsLine line
        → HasGivenLines i.remaining air_limit from reader (lines ++ line ∷ [])
        → reader.reader.now.failures ≡ 0 → RefusesLine starts lines line why
        → HasLoggedBy printing starts contents lines
        → Reads {N = N} i Read behind (Err (refusal_fault reader.scanner.lines why))
        (answers (refusal_fault reader.scanner.lines why))
    refused {N} line why good h none refuses written =
        read-before i Read behind (Err (refusal_fault reader.scanner.lines why))
        (answers (refusal_fault reader.scanner.lines why)) air_limit reader same lines line good h
        (after 0 none) (refusal-not_read reader.scanner.lines why) (λ bytes. tt)
        (λ extent bytes k. explains-refused printing starts contents extent lines line
        reader.scanner.lines bytes why refuses written k)

-- a line stopped the run
at-line : {R N : Type 0} (printing : Printing) (starts : Starts) (i : Input R) (contents : Contents)
    (reader : LineReader R) (same : reader.reader.now ≡ i.reader_after) (lines : List Line)
    (line : Line) (fault : ListenFault) → IsLine line
    → HasGivenLines i.remaining air_limit (i.remaining i.reader.inner) reader (lines ++ line ∷ [])
    → reader.reader.now.failures ≡ 0
    → StopsAtLineBy printing starts contents lines line reader.scanner.lines fault
    → Reads {N = N} i Read (λ fault bytes. ⊤) (Err fault)
    (λ extent bytes. ExplainsLogBy printing starts contents extent bytes fault)
at-line {R} {N} printing starts i contents reader same lines line fault good h none stopped =
    let says : ListenFault → Type 0 = λ fault. Reads {N = N} i Read (λ fault bytes. ⊤) (Err fault)
    (λ extent bytes. ExplainsLogBy printing starts contents extent bytes fault) in
    elim stopped [
      | inl k ↦ subst says (sym k.is)
          (refused printing starts i contents reader same lines {N = N} line k.why good h none
          k.explained.0 k.explained.1)
      | inr k ↦ subst says (sym k.is) (elim k.explained [
        | inl some ↦ lost-before printing starts i contents reader same lines {N = N} line k.why
            good h none some
        | inr some ↦ lost printing starts i contents reader same (lines ++ line ∷ []) {N = N} k.why
            h none some
      ])
    ]

-- ---- what a run says that writes the log

module _ {C R W : Type 0} (kind : ReceiverKind C) (first now : ListeningOver C)
    (d : Devices R W) (reader : LineReader R)
    (same : reader.reader.now ≡ d.reader_after) (lines : List Line)
  where
    abbrev begun : Option (List ℕ)
    begun = d.remaining d.reader.inner

    pub takes-all : (count written : ℕ) → HasGivenAll d.remaining air_limit begun reader lines
        → reader.reader.now.failures ≡ 0
        → HasTaken (StandsFromBy kind) first now lines (λ log. HasWritten
        (d.contents d.writer.inner) (d.contents d.writer_after.inner) log written)
        → count ≡ length lines → d.writer_after.failures ≡ 0
        → TakesLinesBy kind first now d (Ok (record { lines = count; written = written }))
    takes-all count written h none taken counted well = record {
      reads = read-all (input_of d) Read (λ fault bytes. ⊤)
          (Ok (record { lines = count; written = written })) _ air_limit reader same lines h
          (ap (λ r. r.failures) (sym same) ∙ none) (Ok-not_err _ _) (λ bytes. tt)
          (λ extent bytes end file. (
            end,
            record { lines = lines; file = file; here = taken; counted = counted },
          ));
      writes = Writes-none _ _ _ (λ written. Ok-not_err _ _) well;
      unwritten = tt;
    }

    pub takes-early : {M : Type 0} (fault : AirFault)
        → EndsEarly d.remaining air_limit begun reader lines fault
        → IsErrOf {T = M} (Err fault) air.Read ↔ (reader.reader.now.failures ≡ 1)
        → reader.reader.now.failures ≤ 1 → HasLoggedBy kind.printing (starts_by kind first)
        (contents_of d) lines
        → d.writer_after.failures ≡ 0 → TakesLinesBy kind first now d (Err (air_fault fault))
    takes-early fault h failed once written well = record {
      reads = early kind.printing (starts_by kind first) (input_of d) (contents_of d) reader same
          lines fault h failed once written;
      writes = Writes-none _ _ _ (air-not_write fault) well;
      unwritten = tt;
    }

    fails : (written : ℕ)
        → Reads {N = LinesRead} (input_of d) Read (λ fault bytes. ⊤) (Err (Write written))
        (λ extent bytes. ExplainsLogBy kind.printing (starts_by kind first) (contents_of d) extent
        bytes (Write written))
        → d.writer_after.failures ≡ 1 → TakesLinesBy kind first now d (Err (Write written))
    fails written reads one = record {
      reads = reads;
      writes =
          record { failed = (λ w. one, λ o. (written, refl)); once = omega (arith, one) };
      unwritten = tt;
    }

    pub takes-lost-early : {M : Type 0} (fault : AirFault) (written : ℕ)
        → EndsEarly d.remaining air_limit begun reader lines fault
        → IsErrOf {T = M} (Err fault) air.Read ↔ (reader.reader.now.failures ≡ 1)
        → reader.reader.now.failures ≤ 1 → (fault ≡ air.Read → ⊥)
        → HasLoggedSome (IsLogOfLinesBy kind.printing (starts_by kind first) lines) (contents_of d)
        written
        → d.writer_after.failures ≡ 1 → TakesLinesBy kind first now d (Err (Write written))
    takes-lost-early fault written h failed once other some one =
        fails written (lost-early kind.printing (starts_by kind first) (input_of d) (contents_of d)
        reader same lines fault written h failed once other some) one

    pub takes-lost : (written : ℕ) → HasGivenLines d.remaining air_limit begun reader lines
        → reader.reader.now.failures ≡ 0
        → HasLoggedSome (IsLogOfLinesBy kind.printing (starts_by kind first) lines) (contents_of d)
        written
        → d.writer_after.failures ≡ 1 → TakesLinesBy kind first now d (Err (Write written))
    takes-lost written h none some one =
        fails written (lost kind.printing (starts_by kind first) (input_of d) (contents_of d) reader
        same lines written h none some) one

    pub takes-to : (line : Line) (fault : ListenFault) → IsLine line
        → HasGivenLines d.remaining air_limit begun reader (lines ++ line ∷ [])
        → reader.reader.now.failures ≡ 0
        → StopsAtLineBy kind.printing (starts_by kind first) (contents_of d) lines line
        reader.scanner.lines fault
        → Writes {N = Unit {0}} d.writer_after (λ written. Write written) (Err fault)
        → TakesLinesBy kind first now d (Err fault)
    takes-to line fault good h none stopped writes = record {
      reads = at-line kind.printing (starts_by kind first) (input_of d) (contents_of d) reader same
          lines line fault good h none stopped;
      writes = Writes-fault d.writer_after (λ written. Write written) fault writes;
      unwritten = tt;
    }

-- ---- and what one says that writes none

-- a fault that isn't one of a write says the same without a log
unlogged-line : (starts : Starts) (extent : Extent) (bytes : List ℕ) (why : LineFault)
    → ExplainsLogBy plain starts unknown_contents extent bytes (file_fault why)
    → ExplainsUnlogged starts extent bytes (file_fault why)
unlogged-line starts extent bytes file.TooLong h = h
unlogged-line starts extent bytes (file.LineLong line) h = h
unlogged-line starts extent bytes (file.LineCut line) h = h
unlogged-line starts extent bytes (file.BadLine line) h = h

unlogged-air : (starts : Starts) (extent : Extent) (bytes : List ℕ) (fault : AirFault)
    → ExplainsLogBy plain starts unknown_contents extent bytes (air_fault fault)
    → ExplainsUnlogged starts extent bytes (air_fault fault)
unlogged-air starts extent bytes air.Read h = h
unlogged-air starts extent bytes (air.Line why) h = unlogged-line starts extent bytes why h

unlogged-refusal : (starts : Starts) (extent : Extent) (bytes : List ℕ) (number : ℕ)
    (why : LineRefusal) → ExplainsLogBy plain starts unknown_contents extent bytes
    (refusal_fault number why)
    → ExplainsUnlogged starts extent bytes (refusal_fault number why)
unlogged-refusal starts extent bytes number refusal.NoMoment h = h
unlogged-refusal starts extent bytes number (refusal.Moment why) h = h
unlogged-refusal starts extent bytes number (refusal.Vital subject) h = h

module _ {R : Type 0} (first now : Listening) (i : Input R) (reader : LineReader R)
    (same : reader.reader.now ≡ i.reader_after) (lines : List Line)
  where
    abbrev started : Option (List ℕ)
    started = i.remaining i.reader.inner

    -- there is a log, and whatever a writer has that tells nothing
    told : StandsUnlogged first now lines
        → HasLoggedBy plain (starts_of first) unknown_contents lines
    told h =
        logged {kind = plain_kind content} first now None None lines
        (record { given = h.0; stood = h.1; here = tt })

    pub hears-all : (count : ℕ) → HasGivenAll i.remaining air_limit started reader lines
        → reader.reader.now.failures ≡ 0 → StandsUnlogged first now lines → count ≡ length lines
        → HearsLines first now i (Ok count)
    hears-all count h none stood counted =
        read-all i Read (λ fault bytes. ⊤) (Ok count) _ air_limit reader same lines h
        (ap (λ r. r.failures) (sym same) ∙ none) (Ok-not_err _ _) (λ bytes. tt)
        (λ extent bytes end file. (
          end,
          record { lines = lines; file = file; here = stood; counted = counted },
        ))

    pub hears-early : {M : Type 0} (fault : AirFault)
        → EndsEarly i.remaining air_limit started reader lines fault
        → IsErrOf {T = M} (Err fault) air.Read ↔ (reader.reader.now.failures ≡ 1)
        → reader.reader.now.failures ≤ 1 → StandsUnlogged first now lines
        → HearsLines first now i (Err (air_fault fault))
    hears-early fault h failed once stood =
        Reads-on {N = ℕ} i Read Read (Err (air_fault fault)) (Err (air_fault fault)) _ _
        (early plain (starts_of first) i unknown_contents reader same lines fault h failed once
        (told stood))
        (λ extent bytes k. unlogged-air (starts_of first) extent bytes fault k)
        (λ bytes k h. h) (λ e. e) (λ e. e)

    pub hears-to : (line : Line) (why : LineRefusal) → IsLine line
        → HasGivenLines i.remaining air_limit started reader (lines ++ line ∷ [])
        → reader.reader.now.failures ≡ 0 → RefusesLine (starts_of first) lines line why
        → StandsUnlogged first now lines
        → HearsLines first now i (Err (refusal_fault reader.scanner.lines why))
    hears-to line why good h none refuses stood =
        let fault = refusal_fault reader.scanner.lines why in
        Reads-on {N = ℕ} i Read Read (Err fault) (Err fault) _ _
        (refused plain (starts_of first) i unknown_contents reader same lines line why good h none
        refuses (told stood))
        (λ extent bytes k. unlogged-refusal (starts_of first) extent bytes reader.scanner.lines why
        k)
        (λ bytes k h. h) (λ e. e) (λ e. e)
