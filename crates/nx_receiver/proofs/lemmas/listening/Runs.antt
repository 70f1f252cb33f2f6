-- What a run over lines says, said of the log and in the faults of `listen`.
use Rattle.std.proofs.Common.{◌≡◌, inl, inr, ℕ, ◌+◌, ◌≤◌, List, [], ◌∷◌, ◌++◌, length, map, Option}
use Rattle.std.proofs.Common.{None, Some, IfSome, Result, Ok, Err, refl, ap, ap₂, ◌∙◌, arith}
use Rattle.std.proofs.Common.{length-append, subst, sym}
use Rattle.std.specs.Prelude.{⊤}
use Rattle.std.specs.List.{flat_map}
use Rattle.std.specs.Io.KnownBytes.{Appends}
use Rattle.std.specs.declared.alloc.AllocError.{AllocError}
use Rattle.std.proofs.KnownBytes.{Consumes-nil}
use Rattle.std.proofs.lemmas.List.{length-map}
use Rattle.nx_fec.specs.air_files.AirFile.{Line, moment, elements, refuse_station, accept_station}
use Rattle.nx_fec.specs.air_files.AirFile.{refuse_subject, accept_subject, element_digit, mark_bytes}
use Rattle.nx_fec.specs.Transfers.{Contents, CountedDevice, Devices, Extent, HasWritten, Reads, Writes}
use Rattle.nx_fec.specs.Transfers.{WroteSome, as_read, contents_of, devices, input, input_of}
use Rattle.nx_fec.specs.air_files.LineRuns.{HasGiven, Waiting}
use Rattle.nx_fec.specs.private.LineRuns.{HasHeardAll, HasTaken}
use Rattle.nx_fec.specs.air_files.Lines.{IsLineRefused, air_limit, elements_of, file_of, line_bytes}
use Rattle.nx_fec.specs.declared.air_files.line_runs.LinesRead.{LinesRead}
use Rattle.nx_fec.proofs.lemmas.line_runs.LineRun.{HasGiven-empty, HasTaken-map}
use Rattle.nx_fec.proofs.lemmas.devices.TransferLaws.{Ok-not_err, Reads-on, Writes-fault, Writes-none}
use Rattle.nx_fec.proofs.lemmas.devices.TransferLaws.{read_failed-none}
use Rattle.nx_copies.specs.Events.{elements_among}
use Rattle.nx_copies.specs.copies.Log.{Printing}
use Rattle.nx_receiver.specs.ChannelReceiver.{IsReceiver, ReceiverKind}
use Rattle.nx_receiver.specs.air_file_runs.Listen.{AnswersListeningBy, AreTaken, HasListenedBy}
use Rattle.nx_receiver.specs.air_file_runs.Listen.{HasLoggedBy, HasLoggedSome, IsLogOfBy}
use Rattle.nx_receiver.specs.air_file_runs.Listen.{IsLogOfLinesBy, ListensBy}
use Rattle.nx_receiver.specs.air_file_runs.Listen.{RefusesAfter, given_by, given_of}
use Rattle.nx_receiver.specs.air_file_runs.Listen.{refusal_fault}
use Rattle.nx_copies.specs.copies.Shares.{Starts}
use Rattle.nx_receiver.specs.private.Listener.{HasClosedBy, HasClosedSomeBy, IsListeningBy}
use Rattle.nx_receiver.specs.Listener.{ListeningOver}
use Rattle.nx_receiver.specs.private.Listener.{RefusesLine, StandsFromBy}
use Rattle.nx_receiver.specs.private.ListenerBegins.{begins-listening}
use Rattle.nx_receiver.specs.private.LineStops.{EndsAtLineBy, TellsStop}
use Rattle.nx_receiver.specs.declared.air_file_runs.listening.logged.LineStop.{LineStop}
use Rattle.nx_receiver.specs.declared.air_file_runs.listening.logged.LineStop.TheVariants as stop
use Rattle.nx_receiver.specs.private.Runs.{ExplainsLogBy, HasTakenAllBy, StopsAtLineBy}
use Rattle.nx_receiver.specs.private.Runs.{TakesLinesBy, TellsRefusal}
use Rattle.nx_receiver.specs.Listener.{elements_given, elements_in}
use Rattle.nx_receiver.specs.Listener.{starts_by}
use Rattle.nx_receiver.specs.declared.air_file_runs.listen_fault.ListenFault.{ListenFault}
use Rattle.nx_receiver.specs.declared.air_file_runs.listen_fault.ListenFault.TheVariants.{Memory, Read, Write}
use Rattle.nx_receiver.specs.declared.air_file_runs.listen_fault.ListenFault.TheVariants.{AirTooLong, LineLong}
use Rattle.nx_receiver.specs.declared.air_file_runs.listen_fault.ListenFault.TheVariants.{LineCut, BadLine}
use Rattle.nx_receiver.specs.declared.air_file_runs.listen_fault.ListenFault.TheVariants.{NoMoment, Moment, Vital}
use Rattle.nx_receiver.specs.declared.air_file_runs.listen_fault.LineRefusal.{LineRefusal}
use Rattle.nx_receiver.specs.declared.air_file_runs.listen_fault.LineRefusal.TheVariants as refusal
use Rattle.nx_receiver.specs.declared.air_file_runs.listening.Report.{Report}
use Rattle.nx_receiver.proofs.lemmas.listening.Moments.{logged-some}
use Rattle.nx_receiver.proofs.lemmas.receiver.Events.{bits_of-more}

-- what the lines gave was written: their log
pub logged : {R : Type 0} {kind : ReceiverKind R} (first now : ListeningOver R)
    (old new : Option (List ℕ)) (lines : List Line)
    → HasTaken (StandsFromBy kind) first now lines (Appends old new)
    → HasLoggedBy kind.printing (starts_by kind first) (record { before = old; after = new }) lines
logged first now old new lines h = (
  h.given,
  record {
    taken = h.stood.taken;
    copies = h.stood.hears.log;
    printed = h.stood.hears.hears.in_turn;
    spelled = h.stood.hears.spelled;
  },
  h.here,
)

-- where nothing waits all of it was
pub all-logged : {R : Type 0} {kind : ReceiverKind R} (first now : ListeningOver R)
    (old new : Option (List ℕ)) (batch : Waiting) (lines : List Line) → batch.bytes ≡ []
    → HasTaken (StandsFromBy kind) first now lines (HasGiven old new batch)
    → HasLoggedBy kind.printing (starts_by kind first) (record { before = old; after = new }) lines
all-logged {R} {kind} first now old new batch lines empty h =
    logged first now old new lines
    (HasTaken-map (StandsFromBy kind) first now lines (HasGiven old new batch) (Appends old new)
    (λ given k. HasGiven-empty old new batch given empty k) h)

-- or a write of it failed
pub some-logged : {R : Type 0} {kind : ReceiverKind R} (laws : IsReceiver kind)
    (first now : ListeningOver R) (old mid new : Option (List ℕ)) (batch : Waiting)
    (lines : List Line) (written : ℕ)
    → HasTaken (StandsFromBy kind) first now lines (HasGiven old mid batch)
    → ((given : List ℕ) → HasGiven old mid batch given → WroteSome old new given written)
    → HasLoggedSome (IsLogOfLinesBy kind.printing (starts_by kind first) lines)
    (record { before = old; after = new }) written
some-logged {R} {kind} laws first now old mid new batch lines written h lost =
    logged-some laws.printing (starts_by kind first) old new written lines h.given
    (begins-listening (starts_by kind first) now lines h.given h.stood) (lost h.given h.here)

-- a line is refused, and that is told: the log of the lines before it was written, or not all of it
pub refusal-stops : {R : Type 0} {kind : ReceiverKind R} (laws : IsReceiver kind)
    (first now : ListeningOver R) (old mid new : Option (List ℕ)) (batch : Waiting)
    (lines : List Line) (line : Line) (number : ℕ) (why : LineRefusal) (fault : ListenFault)
    → RefusesLine (starts_by kind first) lines line why
    → HasTaken (StandsFromBy kind) first now lines (HasGiven old mid batch)
    → TellsRefusal number why mid new batch fault
    → StopsAtLineBy kind.printing (starts_by kind first) (record { before = old; after = new })
    lines line number fault
refusal-stops {R} {kind} laws first now old mid new batch lines line number why fault refuses h
    (inl told) =
    inl (record {
      why = why;
      is = told.0;
      explained = (
        refuses,
        logged first now old new lines
            (HasTaken-map (StandsFromBy kind) first now lines (HasGiven old mid batch)
            (Appends old new) (told.1 old) h),
      );
    })
refusal-stops {R} {kind} laws first now old mid new batch lines line number why fault refuses h
    (inr lost) =
    inr (record {
      why = lost.why;
      is = lost.is;
      explained = inl (some-logged laws first now old mid new batch lines lost.why h
          (lost.explained old));
    })

-- a run ends at a line, and that is told
pub stop-told : {R : Type 0} {kind : ReceiverKind R} (laws : IsReceiver kind)
    (first now : ListeningOver R) (old mid new : Option (List ℕ)) (batch : Waiting)
    (lines : List Line) (line : Line) (number : ℕ) (stop : LineStop) (fault : ListenFault)
    → EndsAtLineBy kind first now (record { before = old; after = mid }) batch lines line stop
    → TellsStop number stop mid new batch fault
    → StopsAtLineBy kind.printing (starts_by kind first) (record { before = old; after = new })
    lines line number fault
stop-told laws first now old mid new batch lines line number (stop.Refused why) fault ends told =
    refusal-stops laws first now old mid new batch lines line number why fault ends.0 ends.1 told
stop-told {R} {kind} laws first now old mid new batch lines line number (stop.Lost lost) fault ends
    told =
    inr (record {
      why = lost.written;
      is = told.0;
      explained = inr (subst (λ after. HasLoggedSome
          (IsLogOfLinesBy kind.printing (starts_by kind first) (lines ++ line ∷ []))
          (record { before = old; after = after }) lost.written) (sym told.1) ends);
    })

-- a line that is refused isn't taken, as its fault says
fault-says : (starts : Starts) (number : ℕ) (lines : List Line) (line : Line) (why : LineRefusal)
    → number ≡ length lines + 1 → RefusesLine starts lines line why
    → RefusesAfter starts (refusal_fault number why) lines line
fault-says starts number lines (moment n) refusal.NoMoment e h = h
fault-says starts number lines (moment n) (refusal.Moment why) e h = (e, h)
fault-says starts number lines (moment n) (refusal.Vital subject) e h = h
fault-says starts number lines (elements mark bits) refusal.NoMoment e h = (e, h)
fault-says starts number lines (elements mark bits) (refusal.Moment why) e h = h
fault-says starts number lines (elements mark bits) (refusal.Vital subject) e h = h
fault-says starts number lines (refuse_subject mark letter) refusal.NoMoment e h = h
fault-says starts number lines (refuse_subject mark letter) (refusal.Moment why) e h = h
fault-says starts number lines (refuse_subject mark letter) (refusal.Vital subject) e h =
    (e, h.0, h.1)
fault-says starts number lines (refuse_station mark letter) refusal.NoMoment e h = h
fault-says starts number lines (refuse_station mark letter) (refusal.Moment why) e h = h
fault-says starts number lines (refuse_station mark letter) (refusal.Vital subject) e h = h
fault-says starts number lines (accept_station mark letter) refusal.NoMoment e h = h
fault-says starts number lines (accept_station mark letter) (refusal.Moment why) e h = h
fault-says starts number lines (accept_station mark letter) (refusal.Vital subject) e h = h
fault-says starts number lines (accept_subject mark letter) refusal.NoMoment e h = h
fault-says starts number lines (accept_subject mark letter) (refusal.Moment why) e h = h
fault-says starts number lines (accept_subject mark letter) (refusal.Vital subject) e h = h

pub next-refused : (starts : Starts) (number : ℕ) (lines : List Line) (rest more : List ℕ)
    (why : LineRefusal)
    → IsLineRefused (λ before line. RefusesLine starts before line why) air_limit lines rest more
    number
    → IsLineRefused (RefusesAfter starts (refusal_fault number why)) air_limit lines rest more
    (length lines + 1)
next-refused starts number lines rest more why h = record {
  line = h.line;
  after = h.after;
  good = h.good;
  spelled = h.spelled;
  ended = h.ended;
  within = h.within;
  counted = refl;
  refused = fault-says starts number lines h.line why h.counted h.refused;
}

pub err-of : {N : Type 0} (a b : ListenFault)
    → ◌≡◌ {A = Result N ListenFault} (Err a) (Err b) → a ≡ b
err-of a b e = cc

pub as-err : {N F : Type 0} (a b : F) → a ≡ b → ◌≡◌ {A = Result N F} (Err a) (Err b)
as-err {N} {F} a b e = let out : F → Result N F = λ x. Err x in ap out e

-- what a run says of both devices is what it says as one that listens
listens-by : {R W : Type 0} (printing : Printing) (starts : Starts) (d : Devices R W)
    (outcome : Result Report ListenFault)
    → Reads (input_of d) Read (λ fault bytes. ⊤) outcome
    (λ extent. AnswersListeningBy printing starts extent (contents_of d) outcome)
    → Writes d.writer_after (λ written. Write written) outcome
    → ListensBy printing starts d outcome
listens-by printing starts d outcome r w = record {
  bytes = r.bytes;
  consumed = r.consumed;
  answer = r.answer;
  file = r.file;
  unread = r.failed;
  read_once = r.once;
  unwritten = w.failed;
  write_once = w.once;
}

-- what a fault says, as a run that listens answers it
as-answer : (printing : Printing) (starts : Starts) (contents : Contents) (extent : Extent)
    (bytes : List ℕ) (fault : ListenFault)
    → ExplainsLogBy printing starts contents extent bytes fault
    → AnswersListeningBy printing starts extent contents (Err fault) bytes
as-answer printing starts contents extent bytes Read h = h
as-answer printing starts contents extent bytes AirTooLong h = h
as-answer printing starts contents extent bytes (LineLong line) h = h
as-answer printing starts contents extent bytes (LineCut line) h = h
as-answer printing starts contents extent bytes (BadLine line) h = h
as-answer printing starts contents extent bytes (NoMoment line) h = h
as-answer printing starts contents extent bytes (Moment line why) h = h
as-answer printing starts contents extent bytes (Vital line subject) h = h
as-answer printing starts contents extent bytes (Write written) h = h
as-answer printing starts contents extent bytes (Memory error) h = tt

-- a run over lines that ended early is a run of `listen` that did
pub listens-fault : {C R W : Type 0} (kind : ReceiverKind C) (first now : ListeningOver C)
    (d : Devices R W) (fault : ListenFault) → TakesLinesBy kind first now d (Err fault)
    → ListensBy kind.printing (starts_by kind first) d (Err fault)
listens-fault kind first now d fault h =
    let starts = starts_by kind first in
    listens-by kind.printing starts d (Err fault)
    (Reads-on (input_of d) Read Read (Err fault) (Err fault) _ _ h.reads
    (λ extent bytes k. as-answer kind.printing starts (contents_of d) extent bytes fault k)
    (λ bytes k h. tt) (λ e. as-err _ _ (err-of _ _ e)) (λ e. as-err _ _ (err-of _ _ e)))
    (Writes-fault d.writer_after (λ written. Write written) fault h.writes)

-- and it is no want of memory
pub not-memory : {C R W : Type 0} (kind : ReceiverKind C) (first now : ListeningOver C)
    (d : Devices R W) (fault : ListenFault) (error : AllocError)
    → TakesLinesBy kind first now d (Err fault) → fault ≡ Memory error → ⊥
not-memory kind first now d fault error h is =
    subst (ExplainsLogBy kind.printing (starts_by kind first) (contents_of d) (as_read d)
    h.reads.bytes) is h.reads.answer

line-given : (line : Line) → elements_in (given_of line) ≡ elements_of line
unfolding elements_among
line-given (moment n) = refl
line-given (elements mark bits) = bits_of-more [] bits
line-given (refuse_station mark letter) = refl
line-given (accept_station mark letter) = refl
line-given (refuse_subject mark letter) = refl
line-given (accept_subject mark letter) = refl

-- what lines give has their elements
given-elements : (lines : List Line)
    → elements_given (given_by lines) ≡ flat_map elements_of lines
given-elements [] = refl
given-elements (line ∷ lines) =
    ap₂ (λ bits more. bits ++ more) (line-given line) (given-elements lines)

-- lines have fewer elements than bytes
pub elements-fewer : (line : Line) → length (elements_of line) ≤ length (line_bytes line)
elements-fewer (moment n) = omega arith
elements-fewer (elements mark bits) =
    let digits : length (map element_digit bits) ≡ length bits = simp length-map in
    let rest = 32 ∷ map element_digit bits in
    omega (
      arith,
      digits,
      length-append (mark_bytes mark) rest,
      length-append (mark_bytes mark ++ rest) (10 ∷ []),
    )
elements-fewer (refuse_station mark letter) = omega arith
elements-fewer (accept_station mark letter) = omega arith
elements-fewer (refuse_subject mark letter) = omega arith
elements-fewer (accept_subject mark letter) = omega arith

lines-fewer : (lines : List Line) → length (flat_map elements_of lines) ≤ length (file_of lines)
lines-fewer [] = omega arith
lines-fewer (line ∷ lines) =
    omega (
      arith,
      length-append (elements_of line) (flat_map elements_of lines),
      elements-fewer line,
      lines-fewer lines,
      length-append (line_bytes line)
          (file_of lines),
    )

-- the whole file was read, and its end printed
pub listened : {printing : Printing} (starts : Starts) (contents : Contents) (bytes : List ℕ)
    (count : ℕ) (report : Report) (holds : List Line → Type 0) → HasHeardAll holds bytes count
    → ((lines : List Line) → holds lines → AreTaken starts lines
    × HasClosedBy printing starts contents.before contents.after (given_by lines) report)
    → report.lines ≡ count → HasListenedBy printing starts contents bytes report
listened starts contents bytes count report holds h closed counted =
    let end = closed h.lines h.here in
    let e = end.1 in
    let same = ap length (given-elements h.lines) in
    let few : length (flat_map elements_of h.lines) ≤ 268435456 =
    omega (arith, lines-fewer h.lines, ap length h.file.whole, h.file.within) in
    record {
      lines = h.lines;
      copies = e.copies;
      log = e.log;
      heard =
          record { file = h.file; taken = end.0; printed = e.printed; spelled = e.spelled };
      written = e.written;
      lines_counted = counted ∙ h.counted;
      bits_counted = omega (arith, few, same, e.bits_counted);
      printed_counted = omega (arith, few, same, e.few, e.printed_counted);
    }

-- the whole file was read, and a write of what its end prints failed
part-listened : {printing : Printing} (starts : Starts) (contents : Contents) (bytes : List ℕ)
    (count written : ℕ) (holds : List Line → Type 0) → HasHeardAll holds bytes count
    → ((lines : List Line) → holds lines → AreTaken starts lines
    × HasClosedSomeBy printing starts contents.before contents.after (given_by lines) written)
    → HasLoggedSome (IsLogOfBy printing starts bytes) contents written
part-listened starts contents bytes count written holds h closed =
    let end = closed h.lines h.here in
    let e = end.1 in (
      e.log,
      (
        h.lines,
        e.copies,
        record { file = h.file; taken = end.0; printed = e.printed; spelled = e.spelled },
      ),
      e.some,
    )

pub write-not_read : {N : Type 0} (written : ℕ)
    → ◌≡◌ {A = Result N ListenFault} (Err (Write written)) (Err Read) → ⊥
write-not_read written e = cc

pub listens-part : {C R W : Type 0} (kind : ReceiverKind C) (remaining : R → Option (List ℕ))
    (contents : W → Option (List ℕ)) (first now : ListeningOver C)
    (reader reader_after : CountedDevice R) (writer mid new : CountedDevice W) (read : LinesRead)
    (written : ℕ)
    → TakesLinesBy kind first now (devices remaining contents reader reader_after writer mid)
    (Ok read)
    → ((lines : List Line) (given : List ℕ)
    → IsListeningBy kind (starts_by kind first) now lines given
    → HasWritten (contents writer.inner) (contents mid.inner) given read.written
    → HasClosedSomeBy kind.printing (starts_by kind first) (contents writer.inner)
    (contents new.inner) (given_by lines) written)
    → new.failures ≡ 1 → ListensBy kind.printing (starts_by kind first)
    (devices remaining contents reader reader_after writer new) (Err (Write written))
listens-part kind remaining contents first now reader reader_after writer mid new read
    written h closed one =
    let starts = starts_by kind first in
    listens-by kind.printing starts (devices remaining contents reader reader_after writer new)
    (Err (Write written))
    (Reads-on (input remaining reader reader_after) Read Read (Ok read) (Err (Write written)) _ _
    h.reads
    (λ extent bytes k. inr (
      k.0,
      part-listened starts _ bytes read.lines written _ k.1 (λ lines t. (
        t.stood.taken,
        closed lines t.given t.stood t.here,
      )),
    ))
    (λ bytes k h. tt) (λ e. absurd (write-not_read written e))
    (λ e. absurd (Ok-not_err _ _ e)))
    (record { failed = (λ w. one, λ k. (written, refl)); once = omega (arith, one) })

pub on-some : (o : Option (List ℕ)) (P Q : List ℕ → Type 0) → ((xs : List ℕ) → P xs → Q xs)
    → IfSome o P → IfSome o Q
on-some None P Q f h = tt
on-some (Some xs) P Q f h = f xs h

-- A run over lines that read its file to the end, and what the end printed, is one that listens.
-- What the bytes tell besides is told of those that it read.
pub listens-all : {C R W : Type 0} (kind : ReceiverKind C) (remaining : R → Option (List ℕ))
    (contents : W → Option (List ℕ)) (first now : ListeningOver C)
    (reader reader_after : CountedDevice R) (writer mid new : CountedDevice W) (read : LinesRead)
    (report : Report) (tells : List ℕ → Type 0)
    → TakesLinesBy kind first now (devices remaining contents reader reader_after writer mid)
    (Ok read)
    → ((lines : List Line) → HasTaken (StandsFromBy kind) first now lines
    (λ log. HasWritten (contents writer.inner) (contents mid.inner) log read.written)
    → AreTaken (starts_by kind first) lines
    × HasClosedBy kind.printing (starts_by kind first) (contents writer.inner)
    (contents new.inner) (given_by lines) report)
    → ((bytes : List ℕ) → HasTakenAllBy kind first now
    (contents_of (devices remaining contents reader reader_after writer mid)) read bytes
    → tells bytes)
    → report.lines ≡ read.lines → new.failures ≡ 0
    → (run : ListensBy kind.printing (starts_by kind first)
    (devices remaining contents reader reader_after writer new) (Ok report)) × tells run.bytes
listens-all kind remaining contents first now reader reader_after writer mid new read
    report tells h closed told counted none =
    let d = devices remaining contents reader reader_after writer new in
    let starts = starts_by kind first in
    let heard : (extent : Extent) (bytes : List ℕ) → extent.at_end × HasTakenAllBy kind first now
    (contents_of (devices remaining contents reader reader_after writer mid)) read bytes
    → AnswersListeningBy kind.printing starts extent (contents_of d) (Ok report) bytes
    × tells bytes = λ extent bytes k. (
      (k.0, listened starts _ bytes read.lines report _ k.1 closed counted),
      told bytes k.1,
    ) in
    let r : Reads (input remaining reader reader_after) Read (λ fault bytes. ⊤) (Ok report)
    (λ extent bytes. AnswersListeningBy kind.printing starts extent (contents_of d) (Ok report)
    bytes × tells bytes) =
    Reads-on (input remaining reader reader_after) Read Read (Ok read) (Ok report) _ _ h.reads
    heard
    (λ bytes k h. h) (λ e. absurd (Ok-not_err _ _ e)) (λ e. absurd (Ok-not_err _ _ e)) in
    let writes = Writes-none new (λ written. Write written) (Ok report)
    (λ written. Ok-not_err _ _) none in (
      record {
        bytes = r.bytes;
        consumed = r.consumed;
        answer = r.answer.0;
        file = on-some (remaining reader.inner) _ _ (λ file k. k.0) r.file;
        unread = r.failed;
        read_once = r.once;
        unwritten = writes.failed;
        write_once = writes.once;
      },
      r.answer.1,
    )

pub memory-read : {N : Type 0} (error : AllocError)
    → ◌≡◌ {A = Result N ListenFault} (Err (Memory error)) (Err Read) → ⊥
memory-read error e = cc

pub memory-write : {N : Type 0} (error : AllocError) (written : ℕ)
    → ◌≡◌ {A = Result N ListenFault} (Err (Memory error)) (Err (Write written)) → ⊥
memory-write error written e = cc

pub whatever : (o : Option (List ℕ)) → IfSome o (λ _. ⊤)
whatever None = tt
whatever (Some xs) = tt

-- memory ran out before anything was read
pub listens-memory : {R W : Type 0} (printing : Printing) (starts : Starts)
    (remaining : R → Option (List ℕ)) (contents : W → Option (List ℕ))
    (reader : CountedDevice R) (writer : CountedDevice W) (error : AllocError)
    → reader.failures ≡ 0 → writer.failures ≡ 0
    → ListensBy printing starts (devices remaining contents reader reader writer writer)
    (Err (Memory error))
listens-memory printing starts remaining contents reader writer error read written =
    let outcome : Result Report ListenFault = Err (Memory error) in
    let writes : Writes writer (λ written. Write written) outcome =
    Writes-none _ _ _ (memory-write error) written in
    record {
      bytes = [];
      consumed = Consumes-nil (remaining reader.inner);
      answer = tt;
      file = whatever (remaining reader.inner);
      unread = read_failed-none _ _ _ (memory-read error) read;
      read_once = omega (arith, read);
      unwritten = writes.failed;
      write_once = writes.once;
    }
