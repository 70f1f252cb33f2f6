-- Runs that listen or watch over streams that tell their bytes.
use Rattle.std.proofs.Common.{◌≡◌, ◌⊎◌, inl, inr, ℕ, ◌<◌, List, [], ◌++◌, Option, Some, None}
use Rattle.std.proofs.Common.{Result, Ok, Err, refl, sym, ap, ◌∙◌, subst, arith, length, append-nil}
use Rattle.std.proofs.Common.{length-append}
use Rattle.std.specs.Prelude.{IfSome}
use Rattle.std.specs.Io.KnownBytes.{Appends, Consumes, IsAtEnd}
use Rattle.clap.specs.Words.{Text}
use Rattle.nx_copies.specs.copies.InTurn.{PrintAllToEndBy}
use Rattle.nx_copies.specs.copies.Log.{Printing}
use Rattle.nx_left_on.specs.Chain.{acting_at}
use Rattle.nx_copies.specs.copies.Shares.{MarkedCopy, all_at_zero}
use Rattle.nx_fec.specs.Transfers.{CountedDevice, Devices, IsReadOut, contents_of, whole_input}
use Rattle.nx_fec.specs.air_files.AirFile.{Line}
use Rattle.nx_fec.specs.air_files.Lines.{StopsAt}
use Rattle.nx_receiver.specs.air_file_runs.Listen.{AnswersListeningBy, HasListenFault, HasLoggedBy}
use Rattle.nx_receiver.specs.air_file_runs.Listen.{IsLogOfBy, ListensBy, given_by}
use Rattle.nx_receiver.specs.declared.air_file_runs.listening.Report.{Report}
use Rattle.nx_receiver.specs.declared.air_file_runs.listen_fault.ListenFault.{ListenFault}
use Rattle.nx_receiver.specs.declared.air_file_runs.listen_fault.ListenFault.TheVariants as listen
use Rattle.nx_watch.specs.Acting.{most_bytes}
use Rattle.nx_watch.specs.AnyLines.{AreLines}
use Rattle.nx_watch.specs.Watch.{AnswersStartedBy, AnswersStop, HasWatchedOverBy, KeepsAll}
use Rattle.nx_watch.specs.Watch.{StandsForEntries, Stop, WatchDevices, at_end, back, moments_at}
use Rattle.nx_watch.specs.Watch.{starts_at, unread, unwritten}
use Rattle.nx_watch.specs.declared.watch_fault.WatchFault.{WatchFault}
use Rattle.nx_watch.specs.declared.watch_report.WatchReport.{WatchReport}
use Rattle.nx_program.specs.Arguments.{Names}
use Rattle.nx_program.specs.KnownStreams.{HoldsLogBeforeFault, HoldsLogOf, HoldsLogOfLines}
use Rattle.nx_program.specs.KnownStreams.{KeepsLogOf, TellBytes}
use Rattle.nx_program.specs.Program.{EndsOnStreams, EndsRun, ListensTaking, PerformsOnStreams}
use Rattle.nx_program.specs.Program.{program_outcome}
use Rattle.nx_program.specs.Report.{Answers}
use Rattle.nx_program.specs.Status.{call_status, listen_status, status_of}
use Rattle.nx_program.specs.WatchCommand.{Beside, WatchesFile, WatchesLog, devices_of, printing_of}
use Rattle.nx_program.specs.WatchCommand.{watch_outcome}
use Rattle.nx_program.specs.WatchRuns.{OpensFresh}
use Rattle.nx_program.specs.declared.arguments.Call.{Call}
use Rattle.nx_program.specs.declared.arguments.Call.TheVariants.{Listen, Log, Watch}
use Rattle.nx_program.specs.declared.arguments.Sendings.{Sendings}
use Rattle.nx_program.specs.declared.arguments.Sendings.TheVariants.{Alone, Together}
use Rattle.nx_program.specs.declared.fault.CallFault.{CallFault}
use Rattle.nx_program.specs.declared.fault.CallFault.TheVariants as call
use Rattle.nx_program.specs.declared.fault.Fault.{Fault}
use Rattle.nx_program.specs.declared.fault.Fault.TheVariants as fault
use Rattle.nx_program.specs.private.Reading.{told_of_call}
use Rattle.nx_program.proofs.lemmas.arguments.Arguments.{named_not_help, named_not_refused}
use Rattle.nx_program.proofs.lemmas.arguments.Arguments.{named_not_version, named_once}
use Rattle.nx_program.proofs.lemmas.outcomes.Program.{listen-status}
use Rattle.nx_program.proofs.lemmas.outcomes.Report.{answers-called}

-- ---- known bytes

none-known : {A : Type 0} (bytes : A) → None ≡ Some bytes → ⊥
none-known bytes e = cc

-- all of a known input was read
all-read : (before after : Option (List ℕ)) (input bytes : List ℕ) → before ≡ Some input
    → Consumes before after bytes → IsAtEnd after → (after ≡ Some []) × (bytes ≡ input)
all-read None after input bytes known consumed end = absurd (none-known input known)
all-read (Some xs) None input bytes known consumed end = absurd consumed
all-read (Some xs) (Some ys) input bytes known consumed end =
    let same : xs ≡ input = cc in (
      ap (λ l. Some l) end,
      sym (append-nil bytes) ∙ ap (λ l. bytes ++ l) (sym end) ∙ sym consumed ∙ same,
    )

-- no more than a known input is read
read-within : (before after : Option (List ℕ)) (input bytes : List ℕ) → before ≡ Some input
    → Consumes before after bytes → (rest : List ℕ) × (input ≡ bytes ++ rest)
read-within None after input bytes known consumed = absurd (none-known input known)
read-within (Some xs) None input bytes known consumed = absurd consumed
read-within (Some xs) (Some ys) input bytes known consumed =
    let same : xs ≡ input = cc in (ys, sym same ∙ consumed)

-- known bytes grew
known-grown : (before after : Option (List ℕ)) (held text : List ℕ) → before ≡ Some held
    → Appends before after text → after ≡ Some (held ++ text)
known-grown None after held text known appended = absurd (none-known held known)
known-grown (Some xs) None held text known appended = absurd appended
known-grown (Some xs) (Some ys) held text known appended =
    let same : xs ≡ held = cc in ap (λ l. Some l) (appended ∙ ap (λ l. l ++ text) same)

-- ---- what a run that listens had for an outcome

abbrev own-status : Result Report ListenFault → ℕ
own-status (Ok report) = 0
own-status (Err why) = listen_status why

abbrev telling : Result Report ListenFault → Result (Unit {0}) CallFault
telling own = program_outcome (λ why. call.Listen why) own

status-told : (own : Result Report ListenFault)
    → status_of (told_of_call (telling own)) ≡ own-status own
status-told (Ok report) = refl
status-told (Err why) = refl

record Heard {R W : Type 0} (sendings : Sendings) (d : Devices R W) (status : ℕ) : Type 0 where
  own : Result Report ListenFault
  listens : ListensBy (printing_of sendings) all_at_zero d own
  status_is : status ≡ own-status own

listens-by : {R W : Type 0} (sendings : Sendings) (d : Devices R W)
    (own : Result Report ListenFault) → ListensTaking sendings d own
    → ListensBy (printing_of sendings) all_at_zero d own
listens-by Alone d own h = h.run
listens-by Together d own h = h

told-heard : {R W : Type 0} (sendings : Sendings) (d : Devices R W)
    (outcome : Result (Unit {0}) CallFault) → PerformsOnStreams (Listen sendings) d outcome
    → Heard sendings d (status_of (told_of_call outcome))
told-heard sendings d outcome tells = record {
  own = tells.own;
  listens = listens-by sendings d tells.own tells.answered.0;
  status_is = ap (λ o. status_of (told_of_call o)) tells.told ∙ status-told tells.own;
}

module _ {R W : Type 0} (arguments : List Text) (sendings : Sendings) (d : Devices R W)
    (named : Names arguments (Listen sendings)) where
  call-heard : (outcome : Result (Unit {0}) CallFault) (call : Call) → Names arguments call
      → PerformsOnStreams call d outcome → Heard sendings d (status_of (told_of_call outcome))
  call-heard outcome call names performed =
      told-heard sendings d outcome
      (subst (λ (c : Call). PerformsOnStreams c d outcome)
      (named_once arguments call (Listen sendings) names named) performed)

  abbrev HeardOrFailed : ℕ → Type 0
  HeardOrFailed status = Heard sendings d status ⊎ (status ≡ 1)

  streams-heard : (outcome : Result (Unit {0}) Fault) → EndsOnStreams arguments d outcome
      → HeardOrFailed (status_of outcome)
  streams-heard (Ok done) ends = elim ends [
    | inl runs ↦ inl (call-heard (Ok done) runs.call runs.named runs.performed)
    | inr (inl help) ↦ absurd (named_not_help arguments (Listen sendings) named help.asked)
    | inr (inr version) ↦ absurd (named_not_version arguments (Listen sendings) named
        version.asked)
  ]
  streams-heard (Err (fault.Arguments answer)) ends =
      absurd (named_not_refused arguments (Listen sendings) named (inl ends.0))
  streams-heard (Err fault.NoText) ends = absurd ends
  streams-heard (Err fault.Station) ends =
      absurd (named_not_refused arguments (Listen sendings) named (inr (inl ends.0)))
  streams-heard (Err fault.Kind) ends =
      absurd (named_not_refused arguments (Listen sendings) named (inr (inr (inl ends.0))))
  streams-heard (Err (fault.Value report)) ends =
      absurd (named_not_refused arguments (Listen sendings) named
      (inr (inr (inr (_, ends.0)))))
  streams-heard (Err (fault.Watch name why)) ends = absurd ends
  streams-heard (Err (fault.Call why)) ends = elim ends [
    | inl runs ↦ inl (call-heard (Err why) runs.call runs.named runs.performed)
    | inr (inl help) ↦ absurd (named_not_help arguments (Listen sendings) named help.asked)
    | inr (inr (inl version)) ↦ absurd (named_not_version arguments (Listen sendings) named
        version.asked)
    | inr (inr (inr lacks)) ↦ inr (ap call_status lacks.memory)
  ]

  run-heard : {F D E : Type 0} (b : Beside F D W E) (outcome : Result (Unit {0}) Fault)
      → EndsRun arguments d b outcome → HeardOrFailed (status_of outcome)
  run-heard b outcome ends = elim ends [
    | inl runs ↦
        let odd = named_once arguments (Watch runs.sendings runs.name runs.moment)
        (Listen sendings) runs.named named in
        absurd (cc)
    | inr (inl runs) ↦
        let odd = named_once arguments (Log runs.query runs.form runs.reading) (Listen sendings)
        runs.named named in
        absurd (cc)
    | inr (inr streams) ↦ streams-heard outcome streams.1
  ]

  answers-heard : {F D E : Type 0} (b : Beside F D W E) (status : ℕ)
      → Answers arguments d b status → HeardOrFailed status
  answers-heard b status answers =
      subst HeardOrFailed (sym answers.status_is)
      (run-heard _ answers.outcome answers.ends)

-- a fault doesn't have the status of a success
no-fault : (why : ListenFault) → listen_status why ≡ 0 → ⊥
no-fault why zero = elim (listen-status why) [
  | inl one ↦ absurd (omega (arith, zero, one))
  | inr two ↦ absurd (omega (arith, zero, two))
]

own-one-of : (own : Result Report ListenFault)
    → (own-status own ≡ 0) ⊎ ((own-status own ≡ 1) ⊎ (own-status own ≡ 2))
own-one-of (Ok report) = inl refl
own-one-of (Err why) = inr (listen-status why)

pub heard-status : {R W F D E : Type 0} (arguments : List Text) (sendings : Sendings)
    (d : Devices R W) (b : Beside F D W E) (status : ℕ) → Names arguments (Listen sendings)
    → Answers arguments d b status → (status ≡ 0) ⊎ ((status ≡ 1) ⊎ (status ≡ 2))
heard-status arguments sendings d b status named answers =
    elim (answers-heard arguments sendings d named b status answers) [
      | inl heard ↦ elim (own-one-of heard.own) [
        | inl zero ↦ inl (heard.status_is ∙ zero)
        | inr (inl one) ↦ inr (inl (heard.status_is ∙ one))
        | inr (inr two) ↦ inr (inr (heard.status_is ∙ two))
      ]
      | inr one ↦ inr (inl one)
    ]

module _ {R W : Type 0} (printing : Printing) (d : Devices R W) (input held : List ℕ)
    (tell : TellBytes d input held) where
  holds-log : (own : Result Report ListenFault) → ListensBy printing all_at_zero d own
      → 0 ≡ own-status own → HoldsLogOf printing d input held
  holds-log (Err why) l zero = absurd (no-fault why (sym zero))
  holds-log (Ok report) l zero =
      let read = all-read (d.remaining d.reader.inner) (d.remaining d.reader_after.inner) input
      l.bytes tell.left l.consumed l.answer.0 in
      let h = l.answer.1.heard in
      record {
        spent = read.0;
        log = l.answer.1.log;
        is_log = subst (λ (bytes : List ℕ). IsLogOfBy printing all_at_zero bytes l.answer.1.log)
            read.1 (l.answer.1.lines, l.answer.1.copies, h);
        written = known-grown (d.contents d.writer.inner) (d.contents d.writer_after.inner) held
            l.answer.1.log tell.holds l.answer.1.written;
      }

  -- what holds of the lines before a fault
  stops-so : (bytes : List ℕ) (one other : List Line → List ℕ → List ℕ → Type 0)
      → ((lines : List Line) (rest more : List ℕ) → one lines rest more → other lines rest more)
      → StopsAt bytes one → StopsAt bytes other
  stops-so bytes one other turn s = record {
    lines = s.lines;
    rest = s.rest;
    more = s.more;
    whole = s.whole;
    each = s.each;
    part = s.part;
    here = turn s.lines s.rest s.more s.here;
  }

  abbrev Logged : List Line → Type 0
  Logged lines = HasLoggedBy printing all_at_zero (contents_of d) lines

  holds-lines : (lines : List Line) → Logged lines → HoldsLogOfLines printing d held lines
  holds-lines lines l = (
    l.0,
    l.1,
    known-grown (d.contents d.writer.inner) (d.contents d.writer_after.inner) held l.0 tell.holds
        l.2,
  )

  fault-so : (why : ListenFault) → HasListenFault all_at_zero Logged input why
      → HasListenFault all_at_zero (HoldsLogOfLines printing d held) input why
  fault-so listen.AirTooLong h =
      stops-so input _ _ (λ lines rest more l. (l.0, holds-lines lines l.1)) h
  fault-so (listen.LineLong line) h =
      stops-so input _ _ (λ lines rest more l. (l.0, holds-lines lines l.1)) h
  fault-so (listen.LineCut line) h =
      stops-so input _ _ (λ lines rest more l. (l.0, holds-lines lines l.1)) h
  fault-so (listen.BadLine line) h =
      stops-so input _ _ (λ lines rest more l. (l.0, holds-lines lines l.1)) h
  fault-so listen.Read h =
      stops-so input _ _ (λ lines rest more l. (l.0, holds-lines lines l.1)) h
  fault-so (listen.Write written) h =
      stops-so input _ _ (λ lines rest more l. (l.0, holds-lines lines l.1)) h
  fault-so (listen.Memory error) h =
      stops-so input _ _ (λ lines rest more l. (l.0, holds-lines lines l.1)) h
  fault-so (listen.NoMoment line) h =
      stops-so input _ _ (λ lines rest more l. (l.0, holds-lines lines l.1)) h
  fault-so (listen.Moment line why) h =
      stops-so input _ _ (λ lines rest more l. (l.0, holds-lines lines l.1)) h
  fault-so (listen.Vital line subject) h =
      stops-so input _ _ (λ lines rest more l. (l.0, holds-lines lines l.1)) h

  abbrev Answered : ListenFault → Type 0
  Answered why = AnswersListeningBy printing all_at_zero whole_input (contents_of d) (Err why) input

  -- a fault of the file, by the whole of it
  file-fault : (why : ListenFault) → Answered why → 2 ≡ listen_status why
      → HasListenFault all_at_zero Logged input why
  file-fault listen.Read h two = absurd (omega (arith, two))
  file-fault (listen.Write written) h two = absurd (omega (arith, two))
  file-fault (listen.Memory error) h two = absurd (omega (arith, two))
  file-fault (listen.LineCut line) h two = h.1
  file-fault listen.AirTooLong h two = h
  file-fault (listen.LineLong line) h two = h
  file-fault (listen.BadLine line) h two = h
  file-fault (listen.NoMoment line) h two = h
  file-fault (listen.Moment line why) h two = h
  file-fault (listen.Vital line subject) h two = h

  holds-before : (own : Result Report ListenFault) → ListensBy printing all_at_zero d own
      → 2 ≡ own-status own → HoldsLogBeforeFault printing d input held
  holds-before (Ok report) l two = absurd (omega (arith, two))
  holds-before (Err why) l two =
      let whole : Answered why =
      subst (λ (known : Option (List ℕ)). IfSome known
      (AnswersListeningBy printing all_at_zero whole_input (contents_of d) (Err why)))
      tell.left l.file in
      (why, fault-so why (file-fault why whole two))

pub success-known : {R W F D E : Type 0} (arguments : List Text) (sendings : Sendings)
    (d : Devices R W) (b : Beside F D W E) (input held : List ℕ)
    → Names arguments (Listen sendings) → TellBytes d input held → Answers arguments d b 0
    → HoldsLogOf (printing_of sendings) d input held
success-known arguments sendings d b input held named tell answers =
    elim (answers-heard arguments sendings d named b 0 answers) [
      | inl heard ↦ holds-log (printing_of sendings) d input held tell heard.own heard.listens
          heard.status_is
      | inr one ↦ absurd (omega (arith, one))
    ]

pub fault-known : {R W F D E : Type 0} (arguments : List Text) (sendings : Sendings)
    (d : Devices R W) (b : Beside F D W E) (input held : List ℕ)
    → Names arguments (Listen sendings) → TellBytes d input held → Answers arguments d b 2
    → HoldsLogBeforeFault (printing_of sendings) d input held
fault-known arguments sendings d b input held named tell answers =
    elim (answers-heard arguments sendings d named b 2 answers) [
      | inl heard ↦ holds-before (printing_of sendings) d input held tell heard.own heard.listens
          heard.status_is
      | inr one ↦ absurd (omega (arith, one))
    ]

-- ---- what a watch kept

module _ {D R W E : Type 0} (w : WatchDevices D R W E) (printing : Printing)
    (input held : List ℕ) (now : ℕ) (entries : List MarkedCopy)
    (tell : TellBytes w.streams input held) (fits : length input < most_bytes) where
  abbrev Kept : Type 0
  Kept = KeepsLogOf printing w.streams input held now entries (w.tells.seen w.start w.disk_after)

  -- the input was read out, since it has fewer bytes than are read at most
  read-out : (bytes : List ℕ) → Consumes (w.streams.remaining w.streams.reader.inner)
      (w.streams.remaining w.streams.reader_after.inner) bytes
      → IsReadOut w.streams ⊎ (length bytes ≡ most_bytes)
      → (w.streams.remaining w.streams.reader_after.inner ≡ Some []) × (bytes ≡ input)
  read-out bytes consumed (inl out) =
      all-read (w.streams.remaining w.streams.reader.inner)
      (w.streams.remaining w.streams.reader_after.inner) input bytes tell.left consumed out
  read-out bytes consumed (inr most) =
      let w-in = read-within (w.streams.remaining w.streams.reader.inner)
      (w.streams.remaining w.streams.reader_after.inner) input bytes tell.left consumed in
      absurd (omega (arith, fits, most, ap length w-in.1 ∙ length-append bytes w-in.0))

  all-kept : (lines : List (Option Line)) (copies : List MarkedCopy)
      → HasWatchedOverBy w printing (w.tells.seen w.start w.disk)
      now (starts_at now entries) entries at_end lines copies
      → KeepsAll w entries copies → Kept
  all-kept lines copies watched kept =
      let read = watched.read in
      let out = read-out watched.bytes watched.consumed read.0 in
      record {
        spent = out.0;
        lines = read.1;
        cut = read.2;
        are = subst (λ (bytes : List ℕ). AreLines bytes read.1 read.2) out.1 read.3;
        on = read.5;
        copies = copies;
        printed = subst (λ (all : List (Option Line)). PrintAllToEndBy printing
            (starts_at now entries) (given_by (acting_at now entries all)) copies) read.4
            watched.printed;
        kept = kept.rests;
        silent = ap (λ (c : CountedDevice W). w.streams.contents c.inner) kept.silent ∙ tell.holds;
      }

  stopped-kept : (stop : Stop) (lines : List (Option Line)) (copies : List MarkedCopy)
      (report : WatchReport)
      → HasWatchedOverBy w printing (w.tells.seen w.start w.disk)
      now (starts_at now entries) entries stop lines copies
      → KeepsAll w entries copies
      → AnswersStop (moments_at now (starts_at now entries)) stop lines copies (Ok report) → Kept
  stopped-kept at_end lines copies report watched kept answered =
      all-kept lines copies watched kept
  stopped-kept (back line last given) lines copies report watched kept answered = absurd answered
  stopped-kept unread lines copies report watched kept answered = absurd answered
  stopped-kept unwritten lines copies report watched kept answered = absurd answered

  started-kept : (report : WatchReport)
      → AnswersStartedBy w printing now (starts_at now entries) entries (Ok report) → Kept
  started-kept report s = elim s.4 [
    | inl k ↦ stopped-kept s.0 s.1 s.2 report s.3 k.0 k.1
    | inr k ↦ absurd (cc)
  ]

-- a success is told of a report alone
told-report : (name : Text) (answer : Result WatchReport WatchFault)
    → Ok tt ≡ watch_outcome name answer → (report : WatchReport) × (answer ≡ Ok report)
told-report name (Ok report) e = (report, refl)
told-report name (Err why) e = cc

module _ {R W F D E : Type 0} (sendings : Sendings) (name : Text) (moment : ℕ)
    (d : Devices R W) (b : Beside F D W E) (input held start : List ℕ) (disk : D)
    (entries : List MarkedCopy) (fresh : OpensFresh b.gives b.tells)
    (tell : TellBytes d input held) (fits : length input < most_bytes)
    (back_is : b.disk_after ≡ Some disk) (explained : b.tells.explains start disk)
    (stands : StandsForEntries entries start) where
  file-kept : (opened disk_after : D) (report : WatchReport)
      → b.gives b.files name (Ok opened)
      → WatchesFile d b sendings moment opened disk_after (Ok report)
      → b.tells.explains start disk_after
      → KeepsLogOf (printing_of sendings) d input held moment entries
      (b.tells.seen start disk_after)
  file-kept opened disk_after report given file explains =
      started-kept (devices_of d b opened disk_after start) (printing_of sendings) input held
      moment entries tell fits report
      (file.watched start entries explains
      (subst (StandsForEntries entries) (sym ((fresh b.files name opened given).1.seen start))
      stands))

  log-kept : WatchesLog d b sendings name moment (Ok tt)
      → KeepsLogOf (printing_of sendings) d input held moment entries (b.tells.seen start disk)
  log-kept (Err why, given, rest) = absurd (cc)
  log-kept (Ok opened, given, rest) =
      let after = rest.0 in
      let same : after ≡ disk = cc in
      let told = told-report name rest.2 rest.4 in
      subst (λ (at : D). KeepsLogOf (printing_of sendings) d input held moment entries
      (b.tells.seen start at)) same
      (file-kept opened after told.0 given
      (subst (WatchesFile d b sendings moment opened after) told.1 rest.3)
      (subst (b.tells.explains start) (sym same) explained))

pub watch-known : {R W F D E : Type 0} (arguments : List Text) (sendings : Sendings) (name : Text)
    (moment : ℕ) (d : Devices R W) (b : Beside F D W E) (input held start : List ℕ) (disk : D)
    (entries : List MarkedCopy) → OpensFresh b.gives b.tells
    → Names arguments (Watch sendings name moment) → TellBytes d input held
    → length input < most_bytes → b.disk_after ≡ Some disk → b.tells.explains start disk
    → StandsForEntries entries start → Answers arguments d b 0
    → KeepsLogOf (printing_of sendings) d input held moment entries (b.tells.seen start disk)
watch-known arguments sendings name moment d b input held start disk entries fresh named tell fits
    back_is explained stands answers =
    log-kept sendings name moment d b input held start disk entries fresh tell fits back_is
    explained stands
    (answers-called arguments d b 0 answers (Watch sendings name moment) named refl)
