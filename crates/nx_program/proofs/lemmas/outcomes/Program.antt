-- What the outcome of a run says of its arguments.
use Rattle.std.proofs.Common.{◌≡◌, ◌⊎◌, ℕ, List, Result, Ok, Err, Option, ap, ap₂, inl, inr, refl}
use Rattle.std.proofs.Common.{subst, sym, ◌∙◌, arith}
use Rattle.clap.specs.Words.{Text}
use Rattle.nx_program.specs.declared.fault.CallFault.{CallFault}
use Rattle.nx_program.specs.declared.fault.CallFault.TheVariants as call
use Rattle.nx_program.specs.declared.fault.Fault.{Fault}
use Rattle.nx_program.specs.declared.fault.Fault.TheVariants as fault
use Rattle.nx_program.specs.declared.log_arguments.ReadAs.{ReadAs}
use Rattle.nx_log.specs.declared.log_fault.LogFault.{LogFault}
use Rattle.nx_log.specs.declared.log_fault.LogFault.TheVariants as log
use Rattle.nx_receiver.specs.declared.air_file_runs.listen_fault.ListenFault.{ListenFault}
use Rattle.nx_receiver.specs.declared.air_file_runs.listen_fault.ListenFault.TheVariants as listen
use Rattle.nx_receiver.specs.declared.air_file_runs.resume_fault.ResumeFault.{ResumeFault}
use Rattle.nx_receiver.specs.declared.air_file_runs.resume_fault.ResumeFault.TheVariants as resume
use Rattle.nx_receiver.specs.declared.air_file_runs.state_fault.StateFault.TheVariants as state
use Rattle.nx_station.specs.declared.fault.CheckFault.{CheckFault}
use Rattle.nx_station.specs.declared.fault.CheckFault.TheVariants as check
use Rattle.nx_station.specs.declared.fault.DamageFault.{DamageFault}
use Rattle.nx_station.specs.declared.fault.DamageFault.TheVariants as damage
use Rattle.nx_station.specs.declared.fault.EmissionFault.TheVariants as emission
use Rattle.nx_station.specs.declared.fault.SendRunFault.{SendRunFault}
use Rattle.nx_station.specs.declared.fault.SendRunFault.TheVariants as send
use Rattle.nx_program.specs.declared.arguments.Call.{Call}
use Rattle.nx_fec.specs.declared.fault.RunFault.{RunFault}
use Rattle.nx_fec.specs.declared.fault.RunFault.TheVariants as run
use Rattle.nx_kept.specs.declared.disk.DiskFile.{Ghosts as TellsOfDisk}
use Rattle.nx_disk.specs.declared.file.FileFault.{FileFault}
use Rattle.nx_disk.specs.declared.file.FileFault.TheVariants as file
use Rattle.nx_watch.specs.declared.watch_fault.WatchFault.{WatchFault}
use Rattle.nx_watch.specs.declared.watch_fault.WatchFault.TheVariants as watch
use Rattle.nx_watch.specs.Stamp.{CutNote, Stamp}
use Rattle.nx_watch.specs.declared.watch_report.WatchReport.{WatchReport}
use Rattle.nx_program.specs.declared.watch_command.WatchFailure.{WatchFailure}
use Rattle.nx_program.specs.declared.watch_command.WatchFailure.TheVariants.{Ended, Unopened}
use Rattle.nx_program.specs.Program.{EndsOnStreams, EndsRun, Exits, IsUntouchedByWant, Performs}
use Rattle.nx_program.specs.Program.{EndsLog, PerformsOnStreams, Succeeds, Tells, fresh_device}
use Rattle.nx_program.specs.Program.{log_outcome}
use Rattle.nx_log.specs.Notices.{Notices}
use Rattle.nx_log.specs.declared.queries.query.Query.{Query}
use Rattle.nx_log.specs.declared.writing.form.Form.{Form}
use Rattle.nx_program.specs.WatchCommand.{Beside, IsUnused, WatchesLog, beside, watch_outcome}
use Rattle.nx_program.specs.declared.arguments.Call.TheVariants.{Log, Watch}
use Rattle.nx_program.specs.declared.arguments.Sendings.{Sendings}
use Rattle.std.specs.declared.alloc.AllocError.{AllocError}
use Rattle.nx_program.specs.Status.{IsStatus, call_status, check_status, damage_status}
use Rattle.nx_program.specs.Status.{fault_status, listen_status, log_status, resume_status}
use Rattle.nx_program.specs.Status.{run_status, send_status, status_of, watch_failure_status}
use Rattle.nx_fec.specs.Transfers.{Devices, devices, CountedDevice}
use Rattle.nx_program.specs.Arguments.{IsRefused, Names}
use Rattle.nx_program.specs.private.Reading.{EndsUncalled, told_of_call}
use Rattle.nx_program.proofs.lemmas.arguments.Arguments.{help_not_refused, named_not_help, named_not_refused}
use Rattle.nx_program.proofs.lemmas.arguments.Arguments.{named_not_version, named_once, version_not_refused}

-- what was wrapped, with no failed call
fresh-is : {T : Type 0} (c : CountedDevice T) (device : T) → c.inner ≡ device → c.failures ≡ 0
    → c ≡ fresh_device device
fresh-is {T} c device inner none =
    let make : T → ℕ → CountedDevice T = λ i n. record { inner = i; failures = n } in
    ap₂ make inner none

-- how a run over devices that were wrapped ends, told of fresh ones
pub exits-fresh : {R W F D E : Type 0} (arguments : List Text) (remaining : R → Option (List ℕ))
    (contents : W → Option (List ℕ))
    (input : R) (reader reader_after : CountedDevice R) (output : W)
    (writer writer_after : CountedDevice W)
    (files : F) (gives : F → List ℕ → Result D FileFault → Type 0) (disk_after : Option D)
    (tells : TellsOfDisk D) (told : E → Option (List ℕ)) (errors : E)
    (faults faults_after : CountedDevice E)
    (stamps : List (Stamp D (CountedDevice W) (CountedDevice E)))
    (cuts : List (CutNote D (CountedDevice E)))
    (status : ℕ)
    → reader.inner ≡ input → reader.failures ≡ 0 → writer.inner ≡ output → writer.failures ≡ 0
    → faults.inner ≡ errors → faults.failures ≡ 0
    → Exits arguments (devices remaining contents reader reader_after writer writer_after)
    (beside files gives disk_after tells told faults faults_after stamps cuts) status
    → Exits arguments (devices remaining contents (fresh_device input) reader_after
    (fresh_device output) writer_after)
    (beside files gives disk_after tells told (fresh_device errors) faults_after stamps cuts) status
exits-fresh {R} {W} {F} {D} {E} arguments remaining contents input reader reader_after output writer
    writer_after files gives disk_after tells told errors faults faults_after
    stamps cuts status input_is unread output_is unwritten errors_is untold exits =
    let P : Devices R W → Type 0 = λ d. Exits arguments d
    (beside files gives disk_after tells told (fresh_device errors) faults_after stamps cuts) status in
    let on : CountedDevice R → CountedDevice W
    → Devices R W = λ r w. devices remaining contents r reader_after w writer_after in
    let Q : CountedDevice E → Type 0 = λ e. Exits arguments (on reader writer)
    (beside files gives disk_after tells told e faults_after stamps cuts) status in
    subst P (ap₂ on (fresh-is reader input input_is unread)
    (fresh-is writer output output_is unwritten))
    (subst Q (fresh-is faults errors errors_is untold) exits)

-- a fault of a call has status 1 or 2
run-status : (why : RunFault) → (run_status why ≡ 1) ⊎ (run_status why ≡ 2)
run-status run.Read = inl refl
run-status (run.Write written) = inl refl
run-status (run.Memory want) = inl refl
run-status run.FileTooLong = inr refl
run-status (run.LineLong line) = inr refl
run-status (run.LineCut line) = inr refl
run-status (run.BadLine line) = inr refl
run-status (run.Ragged bits) = inr refl
run-status (run.NoSuchCharacter at) = inr refl

send-status : (why : SendRunFault) → (send_status why ≡ 1) ⊎ (send_status why ≡ 2)
send-status send.Read = inl refl
send-status (send.Write written) = inl refl
send-status (send.Memory want) = inl refl
send-status send.FileTooLong = inr refl
send-status (send.BadLine line) = inr refl
send-status (send.Text line fault) = inr refl
send-status (send.LineCut line) = inr refl
send-status (send.Open line) = inr refl
send-status (send.Send why) = inr refl

check-status : (why : CheckFault) → (check_status why ≡ 1) ⊎ (check_status why ≡ 2)
check-status (check.Run why) = run-status why
check-status (check.Emission (emission.Ragged bits)) = inr refl
check-status (check.Emission (emission.WrongWord slot)) = inr refl
check-status (check.Emission (emission.Unpaired position)) = inr refl
check-status (check.Emission emission.BadEnvelope) = inr refl
check-status (check.Emission (emission.Memory want)) = inl refl

pub listen-status : (why : ListenFault) → (listen_status why ≡ 1) ⊎ (listen_status why ≡ 2)
listen-status listen.Read = inl refl
listen-status listen.AirTooLong = inr refl
listen-status (listen.LineLong line) = inr refl
listen-status (listen.LineCut line) = inr refl
listen-status (listen.BadLine line) = inr refl
listen-status (listen.NoMoment line) = inr refl
listen-status (listen.Moment line why) = inr refl
listen-status (listen.Vital line subject) = inr refl
listen-status (listen.Write written) = inl refl
listen-status (listen.Memory want) = inl refl

resume-status : (why : ResumeFault) → (resume_status why ≡ 1) ⊎ (resume_status why ≡ 2)
resume-status (resume.State state.Read) = inl refl
resume-status (resume.State (state.StateLine line)) = inr refl
resume-status (resume.State (state.StateCut line)) = inr refl
resume-status (resume.Listen why) = listen-status why
resume-status (resume.Write written) = inl refl

damage-status : (why : DamageFault) → (damage_status why ≡ 1) ⊎ (damage_status why ≡ 2)
damage-status damage.Read = inl refl
damage-status damage.AirTooLong = inr refl
damage-status (damage.LineLong line) = inr refl
damage-status (damage.LineCut line) = inr refl
damage-status (damage.BadLine line) = inr refl
damage-status (damage.Write written) = inl refl

log-status : (why : LogFault) → (log_status why ≡ 1) ⊎ (log_status why ≡ 2)
log-status log.Read = inl refl
log-status (log.Write written) = inl refl
log-status (log.BadLog line) = inr refl
log-status (log.Memory want) = inl refl

call-status : (why : CallFault) → (call_status why ≡ 1) ⊎ (call_status why ≡ 2)
call-status (call.Run why) = run-status why
call-status (call.Send why) = send-status why
call-status (call.Check why) = check-status why
call-status (call.Listen why) = listen-status why
call-status (call.Resume why) = resume-status why
call-status (call.Damage why) = damage-status why
call-status (call.Log why) = log-status why
call-status call.NoSlot = inr refl

watch-status : (why : WatchFailure)
    → (watch_failure_status why ≡ 1) ⊎ (watch_failure_status why ≡ 2)
watch-status (Unopened (file.Open why)) = inl refl
watch-status (Unopened file.Busy) = inr refl
watch-status (Unopened file.Memory) = inl refl
watch-status (Ended watch.Open) = inl refl
watch-status (Ended (watch.Damaged line first)) = inr refl
watch-status (Ended watch.Disk) = inl refl
watch-status (Ended watch.Memory) = inl refl
watch-status (Ended watch.Read) = inl refl
watch-status (Ended (watch.Back line last given)) = inr refl

pub fault-status : (why : Fault)
    → (fault_status why ≡ 1) ⊎ ((fault_status why ≡ 2) ⊎ (fault_status why ≡ 64))
fault-status (fault.Arguments answer) = inr (inr refl)
fault-status fault.NoText = inr (inr refl)
fault-status fault.Station = inr (inr refl)
fault-status fault.Kind = inr (inr refl)
fault-status (fault.Value report) = inr (inr refl)
fault-status (fault.Watch name why) =
    elim (watch-status why) [ inl one ↦ inl one | inr two ↦ inr (inl two) ]
fault-status (fault.Call why) =
    elim (call-status why) [ inl one ↦ inl one | inr two ↦ inr (inl two) ]

outcome-status : (outcome : Result (Unit {0}) Fault) → IsStatus (status_of outcome)
outcome-status (Ok done) = inl refl
outcome-status (Err why) = inr (fault-status why)

-- a run exits with one of the statuses
pub status-exits : {R W F D E : Type 0} (arguments : List Text) (d : Devices R W)
    (b : Beside F D W E)
    (status : ℕ) → Exits arguments d b status → IsStatus status
status-exits arguments d b status exits =
    let P : ℕ → Type 0 = λ n. IsStatus n in
    subst P (sym exits.status_is) (outcome-status exits.outcome)

success-ends : {R W F D E : Type 0} (arguments : List Text) (d : Devices R W) (b : Beside F D W E)
    (outcome : Result (Unit {0}) Fault)
    → EndsRun arguments d b outcome → status_of outcome ≡ 0 → Succeeds arguments d b
success-ends arguments d b (Ok done) ends zero = ends
success-ends arguments d b (Err why) ends zero = elim (fault-status why) [
  | inl one ↦ absurd (omega arith)
  | inr other ↦ elim other [ inl two ↦ absurd (omega arith) | inr arguments ↦ absurd (omega arith) ]
]

-- status 0 is a success
pub success-exits : {R W F D E : Type 0} (arguments : List Text) (d : Devices R W)
    (b : Beside F D W E)
    (status : ℕ) → Exits arguments d b status → status ≡ 0 → Succeeds arguments d b
success-exits arguments d b status exits zero =
    success-ends arguments d b exits.outcome exits.ends (sym exits.status_is ∙ zero)

-- a watch doesn't end with the status of arguments
watch-arguments : {R W F D E : Type 0} (d : Devices R W) (b : Beside F D W E)
    (sendings : Sendings) (name : Text) (moment : ℕ)
    (outcome : Result (Unit {0}) Fault) → WatchesLog d b sendings name moment outcome
    → status_of outcome ≡ 64 → ⊥
watch-arguments d b sendings name moment outcome (Err why, gives, opened) is =
    elim (watch-status (Unopened why)) [
      | inl one ↦ absurd (let e = sym (ap status_of opened.3) ∙ is in omega (arith, e, one))
      | inr two ↦ absurd (let e = sym (ap status_of opened.3) ∙ is in omega (arith, e, two))
    ]
watch-arguments d b sendings name moment outcome (Ok disk, gives, opened) is =
    go opened.2 (sym (ap status_of opened.4) ∙ is)
  where
    go : (answer : Result WatchReport WatchFault)
        → status_of (watch_outcome name answer) ≡ 64 → ⊥
    go (Ok report) e = absurd (omega (arith, e))
    go (Err why) e = elim (watch-status (Ended why)) [
      | inl one ↦ absurd (omega (arith, e, one))
      | inr two ↦ absurd (omega (arith, e, two))
    ]

-- nor does a run over a log
log-arguments : {R W : Type 0} (query : Query) (form : Form) (reading : ReadAs) (d : Devices R W)
    (n : Notices) (outcome : Result (Unit {0}) Fault) → EndsLog query form reading d n outcome
    → status_of outcome ≡ 64 → ⊥
log-arguments query form reading d n outcome (own, runs, told) is =
    go own (sym (ap status_of told) ∙ is)
  where
    go : (own : Result ℕ LogFault) → status_of (log_outcome own) ≡ 64 → ⊥
    go (Ok count) e = absurd (omega (arith, e))
    go (Err why) e = elim (log-status why) [
      | inl one ↦ absurd (omega (arith, e, one))
      | inr two ↦ absurd (omega (arith, e, two))
    ]

arguments-end : {R W : Type 0} (arguments : List Text) (d : Devices R W)
    (outcome : Result (Unit {0}) Fault)
    → EndsOnStreams arguments d outcome → status_of outcome ≡ 64 → IsRefused arguments
arguments-end arguments d (Ok done) ends is = absurd (omega arith)
arguments-end arguments d (Err (fault.Arguments answer)) ends is = inl ends.0
arguments-end arguments d (Err fault.NoText) ends is = absurd ends
arguments-end arguments d (Err fault.Station) ends is = inr (inl ends.0)
arguments-end arguments d (Err fault.Kind) ends is = inr (inr (inl ends.0))
arguments-end arguments d (Err (fault.Value report)) ends is = inr (inr (inr (_, ends.0)))
arguments-end arguments d (Err (fault.Watch name why)) ends is = absurd ends
arguments-end arguments d (Err (fault.Call why)) ends is = elim (call-status why) [
  | inl one ↦ absurd
      (omega arith)
  | inr two ↦ absurd (omega arith)
]

-- status 64 is a refusal of the arguments
pub arguments-exit : {R W F D E : Type 0} (arguments : List Text) (d : Devices R W)
    (b : Beside F D W E)
    (status : ℕ) → Exits arguments d b status → status ≡ 64 → IsRefused arguments
arguments-exit arguments d b status exits is = elim exits.ends [
  | inl runs ↦ absurd (watch-arguments d b runs.sendings runs.name runs.moment exits.outcome
      runs.watched (sym exits.status_is ∙ is))
  | inr (inl runs) ↦ absurd (log-arguments runs.query runs.form runs.reading d _ exits.outcome
      runs.read.1
      (sym exits.status_is ∙ is))
  | inr (inr ends) ↦ arguments-end arguments d exits.outcome ends.1 (sym exits.status_is ∙ is)
]

refused-ends : {R W : Type 0} (arguments : List Text) (d : Devices R W)
    (outcome : Result (Unit {0}) Fault)
    → EndsOnStreams arguments d outcome → IsRefused arguments
    → (status_of outcome ≡ 64) ⊎ (status_of outcome ≡ 1)
refused-ends arguments d (Ok done) ends refused = elim ends [
  | inl runs ↦ absurd (named_not_refused arguments runs.call runs.named refused)
  | inr (inl help) ↦ absurd (help_not_refused arguments help.asked refused)
  | inr (inr version) ↦ absurd (version_not_refused arguments version.asked refused)
]
refused-ends arguments d (Err (fault.Arguments answer)) ends refused = inl refl
refused-ends arguments d (Err fault.NoText) ends refused = absurd ends
refused-ends arguments d (Err fault.Station) ends refused = inl refl
refused-ends arguments d (Err fault.Kind) ends refused = inl refl
refused-ends arguments d (Err (fault.Value report)) ends refused = inl refl
refused-ends arguments d (Err (fault.Watch name why)) ends refused = absurd ends
refused-ends arguments d (Err (fault.Call why)) ends refused = elim ends [
  | inl runs ↦ absurd (named_not_refused arguments runs.call runs.named refused)
  | inr (inl help) ↦ absurd (help_not_refused arguments help.asked refused)
  | inr (inr (inl version)) ↦ absurd (version_not_refused arguments version.asked refused)
  | inr (inr (inr lacks)) ↦ inr (ap call_status lacks.memory)
]

-- arguments that are refused end with status 64, or with 1 for want of memory
pub refused-exits : {R W F D E : Type 0} (arguments : List Text) (d : Devices R W)
    (b : Beside F D W E)
    (status : ℕ)
    → Exits arguments d b status
    → IsRefused arguments → (status ≡ 64) ⊎ (status ≡ 1)
refused-exits arguments d b status exits refused = elim exits.ends [
  | inl runs ↦ absurd (named_not_refused arguments
      (Watch runs.sendings runs.name runs.moment) runs.named refused)
  | inr (inl runs) ↦ absurd (named_not_refused arguments
      (Log runs.query runs.form runs.reading) runs.named
      refused)
  | inr (inr ends) ↦ elim (refused-ends arguments d exits.outcome ends.1 refused) [
    | inl is ↦ inl (exits.status_is ∙ is)
    | inr is ↦ inr (exits.status_is ∙ is)
  ]
]

-- what a call did that is neither a watch nor a run over a log
performs-streams : {R W F D E : Type 0} (call : Call) (d : Devices R W) (b : Beside F D W E)
    → IsUnused b → PerformsOnStreams call d (Ok tt) → Performs call d b (Ok tt)
performs-streams (Watch sendings name moment) d b unused performed = absurd performed
performs-streams (Log query form reading) d b unused performed = absurd performed
performs-streams call d b unused performed = (unused, performed)

-- a success of arguments that name a call is the success of that call
pub success-named : {R W F D E : Type 0} (arguments : List Text) (d : Devices R W)
    (b : Beside F D W E)
    (call : Call)
    → Names arguments call
    → Succeeds arguments d b → Performs call d b (Ok tt)
success-named arguments d b call named success = elim success [
  | inl runs ↦ let P : Call → Type 0 = λ c. Performs c d b (Ok tt) in
      subst P (named_once arguments
      (Watch runs.sendings runs.name runs.moment) call runs.named named) runs.watched
  | inr (inl runs) ↦ let P : Call → Type 0 = λ c. Performs c d b (Ok tt) in
      subst P (named_once arguments
      (Log runs.query runs.form runs.reading) call runs.named named) runs.read
  | inr (inr (unused, inl runs)) ↦ let P : Call → Type 0 = λ c. PerformsOnStreams c d (Ok tt) in
      performs-streams call d b unused
      (subst P (named_once arguments runs.call call runs.named named) runs.performed)
  | inr (inr (unused, inr (inl help))) ↦ absurd (named_not_help arguments call named help.asked)
  | inr (inr (unused, inr (inr version))) ↦ absurd (named_not_version arguments call named
      version.asked)
]

-- how the program ends where its arguments name no call, told of an input that it doesn't read
pub uncalled-ends : {R W : Type 0} (arguments : List Text) (remaining : R → Option (List ℕ))
    (contents : W → Option (List ℕ)) (reader : CountedDevice R) (old new : CountedDevice W)
    (outcome : Result (Unit {0}) Fault) → EndsUncalled arguments contents old new outcome
    → EndsOnStreams arguments (devices remaining contents reader reader old new) outcome
uncalled-ends arguments remaining contents reader old new (Ok done) (inl help) =
    inr (inl (record { asked = help.0; unread = refl; written = help.1 }))
uncalled-ends arguments remaining contents reader old new (Ok done) (inr version) =
    inr (inr (record { asked = version.0; unread = refl; written = version.1 }))
uncalled-ends arguments remaining contents reader old new (Err (fault.Arguments answer)) ends =
    (ends.0, record { reader = refl; writer = ends.1 })
uncalled-ends arguments remaining contents reader old new (Err fault.NoText) ends = ends
uncalled-ends arguments remaining contents reader old new (Err fault.Station) ends =
    (ends.0, record { reader = refl; writer = ends.1 })
uncalled-ends arguments remaining contents reader old new (Err fault.Kind) ends =
    (ends.0, record { reader = refl; writer = ends.1 })
uncalled-ends arguments remaining contents reader old new (Err (fault.Value report)) ends =
    (ends.0, record { reader = refl; writer = ends.1 })
uncalled-ends arguments remaining contents reader old new (Err (fault.Watch name why)) ends = ends
uncalled-ends arguments remaining contents reader old new (Err (fault.Call why)) (inl (inl help)) =
    inr (inl (record { asked = help.0; unread = refl; written = help.1 }))
uncalled-ends arguments remaining contents reader old new (Err (fault.Call why))
    (inl (inr version)) =
    inr (inr (inl (record { asked = version.0; unread = refl; written = version.1 })))
uncalled-ends arguments remaining contents reader old new (Err (fault.Call why)) (inr lacks) =
    inr (inr (inr (record {
      untouched = record { reader = refl; writer = lacks.0 };
      memory = lacks.1;
    })))

-- how it ends where they name a call that was performed over the reader of its input
pub called-ends : {R W : Type 0} (arguments : List Text) (remaining : R → Option (List ℕ))
    (contents : W → Option (List ℕ)) (given left handed_back : CountedDevice R)
    (old new : CountedDevice W) (call : Call) (outcome : Result (Unit {0}) CallFault)
    (told : Result (Unit {0}) Fault) → Names arguments call → handed_back ≡ left
    → PerformsOnStreams call (devices remaining contents given left old new) outcome
    → told ≡ told_of_call outcome
    → EndsOnStreams arguments (devices remaining contents given handed_back old new) told
called-ends {R} arguments remaining contents given left handed_back old new call outcome told named
    to performed is =
    subst (λ (o : Result (Unit {0}) Fault).
    EndsOnStreams arguments (devices remaining contents given handed_back old new) o) (sym is)
    (go outcome (subst (λ (r : CountedDevice R).
    PerformsOnStreams call (devices remaining contents given r old new) outcome) (sym to)
    performed))
  where
    go : (o : Result (Unit {0}) CallFault)
        → PerformsOnStreams call (devices remaining contents given handed_back old new) o
        → EndsOnStreams arguments (devices remaining contents given handed_back old new)
        (told_of_call o)
    go (Ok done) p = inl (record { call = call; named = named; performed = p })
    go (Err why) p = inl (record { call = call; named = named; performed = p })

-- what a run answered is told
pub tells-ok : {N F : Type 0} (name : F → CallFault) (answers : Result N F → Type 0) (answer : N)
    → answers (Ok answer) → Tells name answers (Ok tt)
tells-ok name answers answer answered = record { own = Ok answer; answered = answered; told = refl }

pub tells-err : {N F : Type 0} (name : F → CallFault) (answers : Result N F
    → Type 0) (outcome : Result (Unit {0}) CallFault) (why : F) (fault : CallFault)
    → answers (Err why)
    → outcome ≡ Err fault → fault ≡ name why → Tells name answers outcome
tells-err name answers outcome why fault answered is named = record {
  own = Err why;
  answered = answered;
  told = is ∙ ap (λ (f : CallFault). Err f) named;
}

-- a call that ran out of memory called neither device
pub untouched : {R W N : Type 0} (d : Devices R W) (own : Result N ListenFault)
    → ((error : AllocError) → own ≡ Err (listen.Memory error)
    → (d.reader_after ≡ d.reader) × (d.writer_after ≡ d.writer)) → IsUntouchedByWant d own
untouched d own h =
    λ error e. let kept = h error e in record { reader = kept.0; writer = kept.1 }
