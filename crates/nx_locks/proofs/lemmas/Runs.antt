-- What a run that shows locks answers, by what it took and what stopped the lines.
use Rattle.std.proofs.Common.{◌≡◌, ◌↔◌, ◌∙◌, inl, inr, ℕ, ◌+◌, ◌<◌, ◌≤◌, Bool, List, [], ◌∷◌, ◌++◌, length}
use Rattle.std.proofs.Common.{map, Option, Result, Ok, Err, IsErrOf, refl, sym, ap, subst, arith}
use Rattle.std.proofs.Common.{length-append, codes}
use Rattle.std.specs.Io.KnownBytes.{Appends}
use Rattle.std.proofs.lemmas.List.{length-map}
use Rattle.nx_fec.specs.air_files.AirFile.{Line, IsLine, moment, elements, refuse_station, accept_station}
use Rattle.nx_fec.specs.air_files.AirFile.{refuse_subject, accept_subject, element_digit, mark_bytes}
use Rattle.nx_fec.specs.air_files.AirFile.{spelling}
use Rattle.nx_fec.specs.air_files.Channels.{channel_of}
use Rattle.nx_fec.specs.declared.air_files.channel.Channel.{Channel}
use Rattle.nx_fec.specs.declared.air_files.channel.Channel.TheVariants.{Zero, One, Two}
use Rattle.nx_fec.specs.Transfers.{Contents, Devices, Extent, Reads, WroteSome, contents_of, input_of}
use Rattle.nx_fec.specs.air_files.LineReading.{EndsEarly, GivesNext, HasGivenAll, HasGivenLines}
use Rattle.nx_fec.specs.air_files.LineReading.{SaysLatest, latest_of, lines_given}
use Rattle.nx_fec.specs.air_files.Scanner.{elements_kept, line_with}
use Rattle.nx_fec.specs.declared.air_files.line_reader.NextLine.{NextLine}
use Rattle.nx_fec.specs.declared.air_files.line_reader.NextLine.TheVariants as next
use Rattle.nx_fec.specs.declared.air_files.lines.LineKind.{LineKind}
use Rattle.nx_fec.specs.air_files.Lines.{IsLineRefused, elements_of}
use Rattle.nx_fec.specs.air_files.Lines.{file_of, line_bytes}
use Rattle.nx_fec.specs.declared.air_files.line_reader.LineReader.{LineReader}
use Rattle.nx_fec.specs.declared.fault.AirFault.{AirFault}
use Rattle.nx_fec.specs.declared.fault.AirFault.TheVariants as air
use Rattle.nx_fec.specs.declared.fault.LineFault.{LineFault}
use Rattle.nx_fec.specs.declared.fault.LineFault.TheVariants as file
use Rattle.nx_fec.proofs.lemmas.devices.TransferLaws.{Ok-not_err, Writes-none}
use Rattle.nx_fec.proofs.lemmas.line_runs.LineReading.{Line-not_read, next-line, unfailed}
use Rattle.nx_fec.proofs.lemmas.line_runs.LineRun.{StopsAt-map, file_of-one}
use Rattle.nx_fec.proofs.lemmas.line_runs.LinesRead.{IsBefore, IsFaulty, read-all, read-before, read-behind}
use Rattle.nx_fec.proofs.lemmas.line_runs.LinesRead.{read-failed, read-fault}
use Rattle.nx_copies.specs.Events as events
use Rattle.nx_copies.specs.Events.{Command, command, elements_among}
use Rattle.nx_copies.specs.copies.Shares.{all_at_zero, events_for, to_one}
use Rattle.nx_copies.proofs.lemmas.printing.Logged.{bits_of-append}
use Rattle.nx_receiver.specs.air_file_runs.Listen.{AreTaken, HasLoggedSome, RefusesAfter, events_on}
use Rattle.nx_receiver.specs.air_file_runs.Listen.{file_fault, given_of, refusal_fault}
use Rattle.nx_receiver.specs.private.Listener.{RefusesLine}
use Rattle.nx_receiver.specs.declared.air_file_runs.listen_fault.ListenFault.{ListenFault}
use Rattle.nx_receiver.specs.declared.air_file_runs.listen_fault.ListenFault.TheVariants.{Read, Write}
use Rattle.nx_receiver.specs.declared.air_file_runs.listen_fault.LineRefusal.{LineRefusal}
use Rattle.nx_receiver.specs.declared.air_file_runs.listen_fault.LineRefusal.TheVariants as reason
use Rattle.nx_receiver.proofs.lemmas.listening.Lines.{of-kind}
use Rattle.nx_receiver.proofs.lemmas.listening.Runs.{next-refused}
use Rattle.nx_receiver.proofs.lemmas.receiver.Events.{bits_of-more}
use Rattle.nx_locks.specs.Run.{AnswersShowing, ExplainsShowing, HasShown}
use Rattle.nx_locks.specs.Run.{IsReportOfLines, ShowsLocks}
use Rattle.nx_locks.specs.private.ReportWriter.{HasClosed, HasFew}
use Rattle.nx_receiver.specs.air_file_runs.Listen.{air_fault}
use Rattle.nx_locks.specs.declared.lock_report.LocksReport.{LocksReport}
use Rattle.nx_receiver.proofs.lemmas.listening.Runs.{elements-fewer}

-- lines have fewer elements of channel 0 than bytes
some_elements : (channel : Channel) (bits : List Bool)
    → length (elements_among (events_for Zero (to_one channel (events.elements bits))))
    ≤ length bits
unfolding elements_among
some_elements Zero bits = omega (arith, ap length (bits_of-more [] bits))
some_elements One bits = omega arith
some_elements Two bits = omega arith

no_elements : (channel : Channel) (c : Command)
    → length (elements_among (events_for Zero (to_one channel (command c ∷ [])))) ≡ 0
unfolding elements_among
no_elements Zero c = refl
no_elements One c = refl
no_elements Two c = refl

longer-line : (mark : Option Channel) (bits : List Bool)
    → length bits < length (spelling (elements mark bits))
longer-line mark bits =
    omega (
      arith,
      length-map bits element_digit,
      length-append (codes "B") (mark_bytes mark ++ (32 ∷ map element_digit bits)),
      length-append (mark_bytes mark) (32 ∷ map element_digit bits),
    )

line-fewer : (line : Line)
    → length (elements_among (events_for Zero (given_of line))) ≤ length (line_bytes line)
unfolding elements_among
line-fewer (moment n) = omega arith
line-fewer (elements mark bits) =
    omega (
      arith,
      some_elements (channel_of mark) bits,
      longer-line mark bits,
      length-append (spelling (elements mark bits)) (10 ∷ []),
    )
line-fewer (refuse_station mark letter) =
    omega (arith, no_elements (channel_of mark) (events.refuse_station letter))
line-fewer (accept_station mark letter) =
    omega (arith, no_elements (channel_of mark) (events.accept_station letter))
line-fewer (refuse_subject mark letter) =
    omega (arith, no_elements (channel_of mark) (events.refuse_subject letter))
line-fewer (accept_subject mark letter) =
    omega (arith, no_elements (channel_of mark) (events.accept_subject letter))

lines-fewer : (lines : List Line)
    → length (elements_among (events_on Zero lines)) ≤ length (file_of lines)
unfolding elements_among
lines-fewer [] = omega arith
lines-fewer (line ∷ lines) =
    let gives = events_for Zero (given_of line) in
    let heard : length (elements_among (events_on Zero (line ∷ lines)))
    ≡ length (elements_among gives) + length (elements_among (events_on Zero lines)) =
    ap length (bits_of-append gives (events_on Zero lines))
    ∙ length-append (elements_among gives) (elements_among (events_on Zero lines)) in
    omega (
      arith,
      heard,
      line-fewer line,
      lines-fewer lines,
      length-append (line_bytes line)
          (file_of lines),
    )

-- a file within its limit has no more elements than a counter counts
pub has-few : {R : Type 0} (remaining : R → Option (List ℕ)) (first : Option (List ℕ))
    (reader : LineReader R) (lines : List Line) (line : Line)
    → HasGivenLines remaining 268435456 first reader (lines ++ line ∷ [])
    → HasFew lines (elements_of line)
has-few remaining first reader lines line h =
    omega (
      arith,
      h.scans.allowance,
      ap length h.scans.splits.whole,
      length-append (file_of (lines ++ line ∷ [])) reader.scanner.part,
      ap length (file_of-one lines line),
      length-append (file_of lines) (line_bytes line),
      lines-fewer lines,
      elements-fewer line,
    )

-- the next line, as it is taken
pub record IsTakenNext {R : Type 0} (remaining : R → Option (List ℕ)) (first : Option (List ℕ))
    (reader : LineReader R) (lines : List Line) (kind : LineKind) (bits : List Bool) : Type 0 where
  pub line : Line
  pub good : IsLine line
  pub is : line ≡ line_with kind bits
  pub given : HasGivenLines remaining 268435456 first reader (lines ++ line ∷ [])
  pub few : HasFew lines bits

pub taken-next : {R : Type 0} (remaining : R → Option (List ℕ)) (first : Option (List ℕ))
    (reader : LineReader R) (lines : List Line) (kind : LineKind) (bits : List Bool)
    (given : NextLine) → given ≡ next.Line kind
    → GivesNext remaining 268435456 first reader lines given → SaysLatest (latest_of reader) given
    → bits ≡ elements_kept (latest_of reader) → IsTakenNext remaining first reader lines kind bits
taken-next remaining first reader lines kind bits given is gives says are =
    let n = next-line remaining 268435456 first reader lines kind given is gives says in
    let same : elements_of n.line ≡ bits = sym (are ∙ ap elements_kept n.latest) in
    record {
      line = n.line;
      good = n.good;
      is = of-kind n.line kind kind (sym n.kind_is) refl ∙ ap (line_with kind) same;
      given = n.given;
      few = subst (HasFew lines) same (has-few remaining first reader lines n.line n.given);
    }

-- ---- faults of one kind are none of another

file-not_read : (why : LineFault)
    → ◌≡◌ {A = Result LocksReport ListenFault} (Err (file_fault why)) (Err Read) → ⊥
file-not_read file.TooLong e = cc
file-not_read (file.LineLong line) e = cc
file-not_read (file.LineCut line) e = cc
file-not_read (file.BadLine line) e = cc

refusal-not_read : (number : ℕ) (why : LineRefusal)
    → ◌≡◌ {A = Result LocksReport ListenFault} (Err (refusal_fault number why)) (Err Read) → ⊥
refusal-not_read number reason.NoMoment e = cc
refusal-not_read number (reason.Moment why) e = cc
refusal-not_read number (reason.Vital subject) e = cc

write-not_read : (written : ℕ)
    → ◌≡◌ {A = Result LocksReport ListenFault} (Err (Write written)) (Err Read) → ⊥
write-not_read written e = cc

air-not_write : (fault : AirFault) (written : ℕ)
    → ◌≡◌ {A = Result LocksReport ListenFault} (Err (air_fault fault)) (Err (Write written)) → ⊥
air-not_write air.Read written e = cc
air-not_write (air.Line file.TooLong) written e = cc
air-not_write (air.Line (file.LineLong line)) written e = cc
air-not_write (air.Line (file.LineCut line)) written e = cc
air-not_write (air.Line (file.BadLine line)) written e = cc

refusal-not_write : (number : ℕ) (why : LineRefusal) (written : ℕ)
    → ◌≡◌ {A = Result LocksReport ListenFault} (Err (refusal_fault number why))
    (Err (Write written)) → ⊥
refusal-not_write number reason.NoMoment written e = cc
refusal-not_write number (reason.Moment why) written e = cc
refusal-not_write number (reason.Vital subject) written e = cc

-- ---- what a fault says, behind lines whose report was written

module _ (contents : Contents) (extent : Extent) (lines : List Line) (bytes : List ℕ) where
  says-fault : (why : LineFault) → HasShown contents lines
      → IsFaulty 268435456 lines why extent bytes
      → ExplainsShowing extent contents bytes (file_fault why)
  says-fault file.TooLong shown k =
      StopsAt-map bytes _ _ (λ before rest more p.
      (p.0, subst (HasShown contents) (sym p.1) shown)) k.1
  says-fault (file.LineLong line) shown k =
      StopsAt-map bytes _ _ (λ before rest more p.
      (p.0, subst (HasShown contents) (sym p.1) shown)) k.1
  says-fault (file.LineCut line) shown k = (
    k.0,
    StopsAt-map bytes _ _ (λ before rest more p.
        (p.0, subst (HasShown contents) (sym p.1) shown)) k.1,
  )
  says-fault (file.BadLine line) shown k =
      StopsAt-map bytes _ _ (λ before rest more p.
      (p.0, subst (HasShown contents) (sym p.1) shown)) k.1

  -- the next line is refused
  refused-here : (line : Line) (number : ℕ) (why : LineRefusal) (before : List Line)
      (rest more : List ℕ) → RefusesLine all_at_zero lines line why
      → IsLineRefused (λ front next. (front ≡ lines) × (next ≡ line)) 268435456 before rest more
      number
      → IsLineRefused (RefusesAfter all_at_zero (refusal_fault number why)) 268435456 before rest
      more (length before + 1)
  refused-here line number why before rest more refuses k =
      next-refused all_at_zero number before rest more why (record {
        line = k.line;
        after = k.after;
        good = k.good;
        spelled = k.spelled;
        ended = k.ended;
        within = k.within;
        counted = k.counted;
        refused = subst (λ l. RefusesLine all_at_zero l k.line why) (sym k.refused.0)
            (subst (λ x. RefusesLine all_at_zero lines x why) (sym k.refused.1) refuses);
      })

  says-refused : (line : Line) (number : ℕ) (why : LineRefusal)
      → RefusesLine all_at_zero lines line why → HasShown contents lines
      → IsBefore 268435456 lines line number bytes
      → ExplainsShowing extent contents bytes (refusal_fault number why)
  says-refused line number reason.NoMoment refuses shown k =
      StopsAt-map bytes _ _ (λ before rest more p. (
        refused-here line number reason.NoMoment before rest more refuses p.0,
        subst (HasShown contents) (sym p.1) shown,
      )) k
  says-refused line number (reason.Moment why) refuses shown k =
      StopsAt-map bytes _ _ (λ before rest more p. (
        refused-here line number (reason.Moment why) before rest more refuses p.0,
        subst (HasShown contents) (sym p.1) shown,
      )) k
  says-refused line number (reason.Vital subject) refuses shown k =
      StopsAt-map bytes _ _ (λ before rest more p. (
        refused-here line number (reason.Vital subject) before rest more refuses p.0,
        subst (HasShown contents) (sym p.1) shown,
      )) k

-- ---- the outcomes, by what stopped the lines

module _ {R W : Type 0} (d : Devices R W) (reader : LineReader R)
    (same : reader.reader.now ≡ d.reader_after) (lines : List Line)
  where
    abbrev answers : Result LocksReport ListenFault → Extent → List ℕ → Type 0
    answers outcome extent bytes = AnswersShowing extent (contents_of d) outcome bytes

    abbrev first : Option (List ℕ)
    first = d.remaining d.reader.inner

    abbrev before_run : Option (List ℕ)
    before_run = d.contents d.writer.inner

    abbrev after_run : Option (List ℕ)
    after_run = d.contents d.writer_after.inner

    after : (failures : ℕ) → reader.reader.now.failures ≡ failures
        → d.reader_after.failures ≡ failures
    after failures is = ap (λ r. r.failures) (sym same) ∙ is

    -- the report of the whole file was written
    pub shows-all : (bytes : List ℕ) (report : LocksReport)
        → HasGivenAll d.remaining 268435456 first reader lines → reader.reader.now.failures ≡ 0
        → AreTaken all_at_zero lines → HasClosed lines bytes report
        → report.lines ≡ lines_given reader → Appends before_run after_run bytes
        → d.writer_after.failures ≡ 0 → ShowsLocks d (Ok report)
    shows-all bytes report h none taken closed counted written well = record {
      reads = read-all (input_of d) Read (λ fault bytes. Unit {0}) (Ok report)
          (answers (Ok report)) 268435456 reader same lines h (after 0 none)
          (Ok-not_err report Read) (λ bytes. tt)
          (λ extent file end good. (
            end,
            record {
              lines = lines;
              bytes = bytes;
              report = record { file = good; taken = taken; report = closed.report };
              written = written;
              lines_counted = counted ∙ h.counted;
              elements_counted = closed.elements;
              locks_counted = closed.locks;
              copies_counted = closed.copies;
            },
          ));
      writes = Writes-none _ _ _ (λ count. Ok-not_err report (Write count)) well;
      unwritten = tt;
    }

    -- so was that of the lines before a fault
    pub shows-early : {N : Type 0} (fault : AirFault)
        → EndsEarly d.remaining 268435456 first reader lines fault
        → IsErrOf {T = N} (Err fault) air.Read ↔ (reader.reader.now.failures ≡ 1)
        → reader.reader.now.failures ≤ 1 → HasShown (contents_of d) lines
        → d.writer_after.failures ≡ 0 → ShowsLocks d (Err (air_fault fault))
    shows-early air.Read h failed once shown well = record {
      reads = read-failed (input_of d) Read (λ fault bytes. Unit {0}) (Err Read)
          (answers (Err Read)) 268435456 reader same lines h.0 h.1 (after 1 (failed.0 refl)) refl tt
          (λ extent bytes k. StopsAt-map bytes _ _ (λ before rest more p. (
            p.0,
            p.1,
            subst (HasShown (contents_of d)) (sym p.2) shown,
          )) k);
      writes = Writes-none _ _ _ (air-not_write air.Read) well;
      unwritten = tt;
    }
    shows-early {N} (air.Line why) h failed once shown well = record {
      reads = read-fault (input_of d) Read (λ fault bytes. Unit {0}) (Err (file_fault why))
          (λ extent bytes. ExplainsShowing extent (contents_of d) bytes (file_fault why)) 268435456
          reader same lines why h
          (after 0 (unfailed {N = N} _ _ (Line-not_read why) failed once)) (file-not_read why)
          (λ bytes. tt)
          (λ extent bytes k. says-fault (contents_of d) extent lines bytes why shown k);
      writes = Writes-none _ _ _ (air-not_write (air.Line why)) well;
      unwritten = tt;
    }

    -- and before a line that is refused
    pub shows-refused : (line : Line) (number : ℕ) (why : LineRefusal) → IsLine line
        → HasGivenLines d.remaining 268435456 first reader (lines ++ line ∷ [])
        → reader.reader.now.failures ≡ 0 → number ≡ lines_given reader
        → RefusesLine all_at_zero lines line why → HasShown (contents_of d) lines
        → d.writer_after.failures ≡ 0 → ShowsLocks d (Err (refusal_fault number why))
    shows-refused line number why good h none is refuses shown well = record {
      reads = read-before (input_of d) Read (λ fault bytes. Unit {0})
          (Err (refusal_fault number why))
          (λ extent bytes. ExplainsShowing extent (contents_of d) bytes (refusal_fault number why))
          268435456 reader same lines line good h (after 0 none) (refusal-not_read number why)
          (λ bytes. tt)
          (λ extent bytes k. says-refused (contents_of d) extent lines bytes line number why refuses
          shown (subst (λ n. IsBefore 268435456 lines line n bytes) (sym is) k));
      writes = Writes-none _ _ _ (refusal-not_write number why) well;
      unwritten = tt;
    }

    -- a write failed
    lost : (written : ℕ)
        → Reads {N = LocksReport} (input_of d) Read (λ fault bytes. Unit {0}) (Err (Write written))
        (answers (Err (Write written))) → d.writer_after.failures ≡ 1
        → ShowsLocks d (Err (Write written))
    lost written reads one = record {
      reads = reads;
      writes = record {
        failed = (λ w. one, λ o. (written, refl));
        once = omega (arith, one);
      };
      unwritten = tt;
    }

    abbrev HasShownSome : List Line → ℕ → Type 0
    HasShownSome front written = HasLoggedSome (IsReportOfLines front) (contents_of d) written

    -- of what the whole file shows
    pub shows-part : (bytes : List ℕ) (report : LocksReport) (written : ℕ)
        → HasGivenAll d.remaining 268435456 first reader lines → reader.reader.now.failures ≡ 0
        → AreTaken all_at_zero lines → HasClosed lines bytes report
        → WroteSome before_run after_run bytes written → d.writer_after.failures ≡ 1
        → ShowsLocks d (Err (Write written))
    shows-part bytes report written h none taken closed some one =
        lost written (read-all (input_of d) Read (λ fault bytes. Unit {0}) (Err (Write written))
        (answers (Err (Write written))) 268435456 reader same lines h (after 0 none)
        (write-not_read written) (λ bytes. tt)
        (λ extent file end good. inr (
          end,
          (bytes, (lines, record { file = good; taken = taken; report = closed.report }), some),
        ))) one

    -- of what the lines show that were read by then
    pub shows-lost : (written : ℕ) → HasGivenLines d.remaining 268435456 first reader lines
        → reader.reader.now.failures ≡ 0 → HasShownSome lines written → d.writer_after.failures ≡ 1
        → ShowsLocks d (Err (Write written))
    shows-lost written h none some one =
        lost written (read-behind (input_of d) Read (λ fault bytes. Unit {0}) (Err (Write written))
        (answers (Err (Write written))) 268435456 reader same lines h (after 0 none)
        (write-not_read written) (λ bytes. tt)
        (λ extent bytes k. inl (StopsAt-map bytes _ _ (λ front rest more p.
        subst (λ l. HasShownSome l written) (sym p) some) k))) one

    -- of what the lines before a fault show
    pub shows-lost-early : {N : Type 0} (fault : AirFault) (written : ℕ)
        → EndsEarly d.remaining 268435456 first reader lines fault
        → IsErrOf {T = N} (Err fault) air.Read ↔ (reader.reader.now.failures ≡ 1)
        → reader.reader.now.failures ≤ 1 → (fault ≡ air.Read → ⊥) → HasShownSome lines written
        → d.writer_after.failures ≡ 1 → ShowsLocks d (Err (Write written))
    shows-lost-early air.Read written h failed once other some one = absurd (other refl)
    shows-lost-early {N} (air.Line why) written h failed once other some one =
        lost written (read-fault (input_of d) Read (λ fault bytes. Unit {0}) (Err (Write written))
        (answers (Err (Write written))) 268435456 reader same lines why h
        (after 0 (unfailed {N = N} _ _ (Line-not_read why) failed once)) (write-not_read written)
        (λ bytes. tt)
        (λ extent bytes k. inl (StopsAt-map bytes _ _ (λ front rest more p.
        subst (λ l. HasShownSome l written) (sym p.1) some) k.1))) one

    -- of what the lines before a refused one show
    pub shows-lost-refused : (line : Line) (written : ℕ) → IsLine line
        → HasGivenLines d.remaining 268435456 first reader (lines ++ line ∷ [])
        → reader.reader.now.failures ≡ 0 → HasShownSome lines written → d.writer_after.failures ≡ 1
        → ShowsLocks d (Err (Write written))
    shows-lost-refused line written good h none some one =
        lost written (read-before (input_of d) Read (λ fault bytes. Unit {0})
        (Err (Write written)) (answers (Err (Write written))) 268435456 reader same lines line good
        h (after 0 none) (write-not_read written) (λ bytes. tt)
        (λ extent bytes k. inl (StopsAt-map bytes _ _ (λ front rest more p.
        subst (λ l. HasShownSome l written) (sym p.1) some) k))) one
