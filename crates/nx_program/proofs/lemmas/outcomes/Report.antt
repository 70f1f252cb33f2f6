-- What the program's answer says of its outcome and of standard error.
use Rattle.std.proofs.Common.{◌≡◌, ◌≢◌, ◌<◌, ◌+◌, ◌-◌, ◌^◌, ◌==◌, ◌++◌, ◌∷◌, ◌∙◌, ℕ, Bool, true, false}
use Rattle.std.proofs.Common.{List, []}
use Rattle.std.proofs.Common.{Result, Ok, Err, Option, Some, None, length, take, min, refl, sym, subst, ap, inl, inr}
use Rattle.std.proofs.Common.{arith, append_assoc, length-append, if◌then◌else◌}
use Rattle.std.specs.Prelude.{codes, decimal, string_bytes}
use Rattle.std.specs.Io.KnownBytes.{Appends}
use Rattle.std.specs.List.{flat_map}
use Rattle.std.proofs.KnownBytes.{Appends-nil, Appends-trans}
use Rattle.std.proofs.Math.Seq.{take-append-add}
use Rattle.std.proofs.lemmas.List.{take-append-le}
use Rattle.clap.specs.Words.{Text}
use Rattle.nx_code.specs.Reading.{newline}
use Rattle.nx_fec.specs.air_files.AirFile.{Line}
use Rattle.nx_fec.specs.Transfers.{CountedDevice, Devices}
use Rattle.nx_disk.specs.declared.file.FileFault.TheVariants as file
use Rattle.nx_watch.specs.declared.watch_fault.WatchFault.TheVariants as watch
use Rattle.nx_program.specs.declared.watch_command.WatchFailure.{WatchFailure}
use Rattle.nx_program.specs.declared.watch_command.WatchFailure.TheVariants.{Ended, Unopened}
use Rattle.nx_watch.specs.Acting.{count_without, first_without}
use Rattle.nx_watch.specs.CutTold.{TellsOfSomeCut, count_told_of, cut_told, head_told}
use Rattle.nx_watch.specs.LineRun.{HasTold, TellsOfLines}
use Rattle.nx_watch.specs.LinesTold.{IsFirstTold, IsToldAtEnd, IsToldByRead, number_told, put_told}
use Rattle.nx_watch.specs.LinesTold.{reason_words}
use Rattle.nx_watch.specs.declared.lines.line_effects.StartMoments.{StartMoments}
use Rattle.nx_program.specs.declared.fault.Fault.{Fault}
use Rattle.nx_program.specs.declared.fault.Fault.TheVariants as fault
use Rattle.nx_program.specs.FaultText.{call_fault_line, call_text, open_reason}
use Rattle.nx_log.specs.LogRun.{AnswersLogRun, AnswersRun, RanOut, SalvageRanOut}
use Rattle.nx_log.specs.Notices.{HaveTold, HaveToldAll, HaveToldTorn, Notice, Notices, damaged_at, notice_text, notice_texts, torn_at, torn_notice, torn_notices}
use Rattle.nx_log.specs.declared.damage.Damaged.{Damaged}
use Rattle.nx_log.specs.declared.damage.Damaged.TheVariants.{PassedOver, Refused}
use Rattle.nx_log.specs.declared.log_fault.LogFault.{LogFault}
use Rattle.nx_log.specs.declared.log_fault.LogFault.TheVariants as log
use Rattle.nx_log.specs.declared.queries.query.Query.{Query}
use Rattle.nx_log.specs.declared.writing.form.Form.{Form}
use Rattle.nx_program.specs.Program.{EndsRun, Exits, Performs, ReadsLog, RunsOverInput, Succeeds}
use Rattle.nx_program.specs.declared.log_arguments.ReadAs.{ReadAs}
use Rattle.nx_program.specs.declared.log_arguments.ReadAs.TheVariants.{Kept as AsKept, Log as AsLog}
use Rattle.nx_program.specs.Report.{Answers, IsFaultLine, IsFaultText, Reports, WritesLast, WritesOne}
use Rattle.nx_program.specs.Status.{fault_status, status_of}
use Rattle.nx_program.specs.WatchCommand.{Beside, IsUnused, WatchesLog, begins_with_entry, damage_end, watch_fault_line}
use Rattle.nx_program.specs.declared.arguments.Sendings.{Sendings}
use Rattle.nx_program.specs.WatchCommand.{notices_between, with_faults}
use Rattle.nx_program.specs.Arguments.{Names}
use Rattle.nx_program.specs.declared.arguments.Call.{Call}
use Rattle.nx_program.proofs.lemmas.outcomes.Program.{fault-status, success-exits, success-named}

-- how the program ended is part of what it answers
pub answers-exits : {R W F D E : Type 0} (arguments : List Text) (d : Devices R W)
    (b : Beside F D W E)
    (status : ℕ) (answers : Answers arguments d b status)
    → Exits arguments d (with_faults b answers.behind_call) status
answers-exits arguments d b status answers = record {
  outcome = answers.outcome;
  ends = answers.ends;
  status_is = answers.status_is;
}

-- ---- standard error

-- a fault doesn't have the status of a success
failed : (why : Fault) → fault_status why ≡ 0 → ⊥
failed why zero = elim (fault-status why) [
  | inl one ↦ absurd (omega (arith, zero, one))
  | inr (inl two) ↦ absurd (omega (arith, zero, two))
  | inr (inr arguments) ↦ absurd (omega (arith, zero, arguments))
]

-- each fault has a text
fault-text : (why : Fault) → (text : List ℕ) × IsFaultText why text
fault-text (fault.Arguments answer) = (string_bytes answer, refl)
fault-text fault.NoText = (_, refl)
fault-text fault.Station = (_, refl)
fault-text fault.Kind = (_, refl)
fault-text (fault.Value report) = (string_bytes report, refl)
fault-text (fault.Watch name why) = (watch_fault_line name why, refl)
fault-text (fault.Call why) = (call_fault_line why, refl)

-- the line of a failed watch is one
record EndsLine (text : List ℕ) : Type 0 where
  shown : List ℕ
  whole : text ≡ shown ++ newline ∷ []

ends-behind : (front text : List ℕ) → EndsLine text → EndsLine (front ++ text)
ends-behind front text ends = record {
  shown = front ++ ends.shown;
  whole = ap (λ (l : List ℕ). front ++ l) ends.whole
      ∙ sym (append_assoc front ends.shown (newline ∷ []));
}

navtex-line : (text : List ℕ) → EndsLine text → IsFaultLine (codes "navtex: " ++ text)
navtex-line text ends = record {
  shown = ends.shown;
  whole = ap (λ (l : List ℕ). codes "navtex: " ++ l) ends.whole;
}

line-of : (shown : List ℕ) → EndsLine (shown ++ newline ∷ [])
line-of shown = record { shown = shown; whole = refl }

log-line : (name text : List ℕ) → EndsLine text
    → IsFaultLine (codes "navtex: the log " ++ (name ++ text))
log-line name text ends = navtex-line (codes "the log " ++ (name ++ text))
    (ends-behind (codes "the log ") (name ++ text) (ends-behind name text ends))

damage-ends : (begins : Bool) → EndsLine (damage_end begins)
damage-ends true = line-of (codes ": it begins with an entry, as a log of listen does")
damage-ends false = line-of []

watch-line : (name : Text) (why : WatchFailure) → IsFaultLine (watch_fault_line name why)
watch-line name (Unopened (file.Open why)) =
    log-line name (codes " can't be opened" ++ (open_reason why ++ codes "\n"))
    (ends-behind (codes " can't be opened") (open_reason why ++ codes "\n")
    (ends-behind (open_reason why) (codes "\n") (line-of [])))
watch-line name (Unopened file.Busy) =
    navtex-line (codes "another watch has the log " ++ (name ++ codes "\n"))
    (ends-behind (codes "another watch has the log ") (name ++ codes "\n")
    (ends-behind name (codes "\n") (line-of [])))
watch-line name (Unopened file.Memory) =
    navtex-line (codes "out of memory\n") (line-of (codes "out of memory"))
watch-line name (Ended watch.Open) = log-line name _ (line-of (codes " can't be opened"))
watch-line name (Ended (watch.Damaged line first)) =
    let end = damage_end (begins_with_entry first) in
    log-line name (codes " is damaged at line " ++ (decimal line ++ end))
    (ends-behind (codes " is damaged at line ") (decimal line ++ end)
    (ends-behind (decimal line) end (damage-ends (begins_with_entry first))))
watch-line name (Ended watch.Disk) = log-line name _ (line-of (codes " can't be written"))
watch-line name (Ended watch.Memory) =
    navtex-line (codes "out of memory\n") (line-of (codes "out of memory"))
watch-line name (Ended watch.Read) =
    navtex-line (codes "read failed\n") (line-of (codes "read failed"))
watch-line name (Ended (watch.Back line last given)) =
    let end : List ℕ = decimal last ++ codes "\n" in
    let third : List ℕ = codes " is before " ++ end in
    let second : List ℕ = codes ": moment " ++ (decimal given ++ third) in
    navtex-line (codes "line " ++ (decimal line ++ second))
    (ends-behind (codes "line ") (decimal line ++ second) (ends-behind (decimal line) second
    (ends-behind (codes ": moment ") (decimal given ++ third) (ends-behind (decimal given) third
    (ends-behind (codes " is before ") end
    (ends-behind (decimal last) (codes "\n") (line-of [])))))))

-- each fault but one of the arguments is reported by a line
text-line : (why : Fault) (text : List ℕ) → fault_status why ≢ 64 → IsFaultText why text
    → IsFaultLine text
text-line (fault.Arguments answer) text other is = absurd (other refl)
text-line fault.NoText text other is = absurd (other refl)
text-line fault.Station text other is = absurd (other refl)
text-line fault.Kind text other is = absurd (other refl)
text-line (fault.Value report) text other is = absurd (other refl)
text-line (fault.Watch name why) text other is = subst IsFaultLine (sym is) (watch-line name why)
text-line (fault.Call why) text other is = record { shown = call_text why; whole = is }

-- a line behind another is still one text that begins and ends as a line does
behind-another : (more text : List ℕ) → IsFaultLine text
    → IsFaultLine ((codes "navtex: " ++ more) ++ text)
behind-another more text line = record {
  shown = more ++ (codes "navtex: " ++ line.shown);
  whole = append_assoc (codes "navtex: ") more text
      ∙ ap (λ (l : List ℕ). codes "navtex: " ++ l) (ap (λ (l : List ℕ). more ++ l) (line.whole
      ∙ sym (append_assoc (codes "navtex: ") line.shown (newline ∷ [])))
      ∙ sym (append_assoc more (codes "navtex: " ++ line.shown) (newline ∷ [])));
}

-- a text leads where a line of a fault behind it is still one text that begins and ends so
abbrev Leads : List ℕ → Type 0
Leads told = (text : List ℕ) → IsFaultLine text → IsFaultLine (told ++ text)

leads-none : Leads []
leads-none text line = line

leads-both : (one other : List ℕ) → Leads one → Leads other → Leads (one ++ other)
leads-both one other first second text line =
    subst IsFaultLine (sym (append_assoc one other text)) (first (other ++ text) (second text line))

leads-first : (bytes : List ℕ) (lines : List (Option Line)) (first : Option ℕ) (one : List ℕ)
    → IsFirstTold bytes lines first one → Leads one
leads-first bytes lines None one is = subst Leads (sym is) leads-none
leads-first bytes lines (Some number) one (why, lacks, is) = subst Leads (sym is)
    (behind-another (codes "line " ++ (decimal number
    ++ (codes " had no effect: " ++ (reason_words why ++ codes "\n")))))

leads-put : (failed : Bool) → Leads (put_told failed)
leads-put false = leads-none
leads-put true = behind-another
    (codes "the log can't be written; entries go to standard output from here on\n")

leads-number : (count : ℕ) → Leads (number_told count)
leads-number count text line =
    let words = decimal count
    ++ (if count == 1 then codes " line had no effect\n" else codes " lines had no effect\n") in
    elim (count == 0) as (λ b. IsFaultLine ((if b then [] else codes "navtex: " ++ words) ++ text)) [
      | true ↦ line
      | false ↦ behind-another words text line
    ]

leads-early : (first : StartMoments) (bytes : List ℕ) (lines : List (Option Line)) (failed : Bool)
    (told : List ℕ) → IsToldByRead first bytes lines failed told → Leads told
leads-early first bytes lines failed told (one, is, both) =
    let line = leads-first bytes lines (first_without first lines) one is in
    elim both [
      | inl e ↦ subst Leads (sym e) (leads-both one (put_told failed) line (leads-put failed))
      | inr e ↦ subst Leads (sym e) (leads-both (put_told failed) one (leads-put failed) line)
    ]

leads-told : (first : StartMoments) (bytes : List ℕ) (lines : List (Option Line)) (failed : Bool)
    (told : List ℕ) → IsToldAtEnd first bytes lines failed told → Leads told
leads-told first bytes lines failed told (inl (early, is, e)) =
    let number = number_told (count_without first lines) in
    subst Leads (sym e) (leads-both early number (leads-early first bytes lines failed early is)
    (leads-number (count_without first lines)))
leads-told first bytes lines failed told (inr (early, is, closed, e)) =
    let number = number_told (count_without first lines) in
    subst Leads (sym e) (leads-both early (number ++ put_told true)
    (leads-early first bytes lines false early is)
    (leads-both number (put_told true) (leads-number (count_without first lines))
    (leads-put true)))

behind-cut : (cut text : List ℕ) → TellsOfSomeCut cut → IsFaultLine text → IsFaultLine (cut ++ text)
behind-cut cut text (line, bytes, heads, are, is) end =
    subst (λ (l : List ℕ). IsFaultLine (l ++ text)) (sym is) (so bytes)
  where
    of : (count : ℕ) (one : Bool)
        → IsFaultLine ((count_told_of one count line ++ flat_map head_told heads) ++ text)
    of count true =
        behind-another ((decimal count ++ (codes " byte at line "
        ++ (decimal line ++ codes " of the log is no kept entry, and is cut\n")))
        ++ flat_map head_told heads) text end
    of count false =
        behind-another ((decimal count ++ (codes " bytes at line "
        ++ (decimal line ++ codes " of the log are no kept entry, and are cut\n")))
        ++ flat_map head_told heads) text end

    so : (bytes : List ℕ) → IsFaultLine (cut_told line bytes heads ++ text)
    so [] = end
    so (byte ∷ bytes) = of (length (byte ∷ bytes)) (length (byte ∷ bytes) == 1)

-- a text behind what was told is one text with it
module _ {E : Type 0} (contents : E → Option (List ℕ)) (told : List ℕ)
    (IsText IsAll : List ℕ → Type 0)
    (all : (text : List ℕ) → IsText text → IsAll (told ++ text)) where
  behind-whole : (old mid new : CountedDevice E)
      → Appends (contents old.inner) (contents mid.inner) told → WritesOne IsText contents mid new
      → WritesOne IsAll contents old new
  behind-whole old mid new told_so one = record {
    text = told ++ one.text;
    is_text = all one.text one.is_text;
    written = elim one.written [
      | inl whole ↦ inl (
        Appends-trans (contents old.inner) (contents mid.inner) (contents new.inner) told one.text
            told_so whole.0,
        whole.1,
      )
      | inr some ↦ inr (
        min (length told + some.1.taken) (2 ^ 64 - 1),
        record {
          taken = length told + some.1.taken;
          fewer = omega (arith, some.1.fewer, length-append told one.text);
          counted = refl;
          appended = subst (Appends (contents old.inner) (contents new.inner))
              (sym (take-append-add told one.text some.1.taken))
              (Appends-trans (contents old.inner) (contents mid.inner) (contents new.inner) told
              (take some.1.taken one.text) told_so some.1.appended);
        },
        some.2,
      )
    ];
  }

  behind-part : (old mid : CountedDevice E) (taken : ℕ) → mid.failures ≡ 1 → taken < length told
      → Appends (contents old.inner) (contents mid.inner) (take taken told)
      → (text : List ℕ) → IsText text → WritesOne IsAll contents old mid
  behind-part old mid taken one fewer appended text is = record {
    text = told ++ text;
    is_text = all text is;
    written = inr (
      min taken (2 ^ 64 - 1),
      record {
        taken = taken;
        fewer = omega (arith, fewer, length-append told text);
        counted = refl;
        appended = subst (Appends (contents old.inner) (contents mid.inner))
            (sym (take-append-le taken told text (omega (arith, fewer)))) appended;
      },
      one,
    );
  }

  behind : (old mid new : CountedDevice E) (text : List ℕ) → IsText text
      → HasTold (contents old.inner) (contents mid.inner) mid.failures told
      → WritesLast IsText contents mid new → WritesOne IsAll contents old new
  behind old mid new text is (inl h) last = behind-whole old mid new h.1 (last.written h.0)
  behind old mid new text is (inr h) last =
      subst (λ (e : CountedDevice E). WritesOne IsAll contents old e)
      (sym (last.stopped (omega (arith, h.0))))
      (behind-part old mid h.1 h.0 h.2 h.3 text is)

-- What was told on standard error before a fault was reported: the line of a fault behind it is
-- still one text that begins and ends as a line does.
pub record HasLed {E : Type 0} (contents : E → Option (List ℕ)) (old mid : CountedDevice E)
    : Type 0 where
  told : List ℕ
  leads : (text : List ℕ) → IsFaultLine text → IsFaultLine (told ++ text)
  written : HasTold (contents old.inner) (contents mid.inner) mid.failures told

-- nothing leads
nothing-told : {F D W E : Type 0} (b : Beside F D W E) → b.faults.failures ≡ 0 → IsUnused b
    → HasLed b.contents b.faults b.faults_after
nothing-told {F} {D} {W} {E} b none unused =
    subst (λ (e : CountedDevice E). HasLed b.contents b.faults e) (sym unused.untold) (record {
      told = [];
      leads = λ text line. line;
      written = inl (none, Appends-nil (b.contents b.faults.inner));
    })

-- what is told of a cut and of lines leads
lines-told : {E : Type 0} (contents : E → Option (List ℕ)) (old mid : CountedDevice E)
    → TellsOfLines (contents old.inner) (contents mid.inner) mid.failures → HasLed contents old mid
lines-told contents old mid (cut, some, first, bytes, lines, failed, text, is, written) = record {
  told = cut ++ text;
  leads = λ behind line. subst IsFaultLine (sym (append_assoc cut text behind))
      (behind-cut cut (text ++ behind) some
      (leads-told first bytes lines failed text is behind line));
  written = written;
}

watch-told : {R W F D E : Type 0} (d : Devices R W) (b : Beside F D W E) (sendings : Sendings)
    (name : Text) (moment : ℕ)
    (outcome : Result (Unit {0}) Fault) → b.faults.failures ≡ 0
    → WatchesLog d b sendings name moment outcome → HasLed b.contents b.faults b.faults_after
watch-told d b sendings name moment outcome none (Err why, gives, opened) =
    nothing-told b none opened.2
watch-told d b sendings name moment outcome none (Ok disk, gives, opened) =
    lines-told b.contents b.faults b.faults_after opened.3.told

-- what is told of torn entries leads
behind-torn : (torn : List ℕ) (text : List ℕ) → IsFaultLine text
    → IsFaultLine (torn_notices torn ++ text)
behind-torn [] text line = line
behind-torn (n ∷ torn) text line =
    subst IsFaultLine (sym (append_assoc (torn_notice n) (torn_notices torn) text))
    (behind-another (codes "line " ++ (decimal n ++ codes ": a torn entry was passed over\n"))
    (torn_notices torn ++ text) (behind-torn torn text line))

-- so does what is told of them and of what is passed over
behind-one : (notice : Notice) (text : List ℕ) → IsFaultLine text
    → IsFaultLine (notice_text notice ++ text)
behind-one (torn_at n) text line =
    behind-another (codes "line " ++ (decimal n ++ codes ": a torn entry was passed over\n")) text
    line
behind-one (damaged_at n) text line =
    behind-another
    (codes "line " ++ (decimal n ++ codes " is not of a log, and was passed over\n")) text line

behind-all : (told : List Notice) (text : List ℕ) → IsFaultLine text
    → IsFaultLine (notice_texts told ++ text)
behind-all [] text line = line
behind-all (notice ∷ told) text line =
    subst IsFaultLine (sym (append_assoc (notice_text notice) (notice_texts told) text))
    (behind-one notice (notice_texts told ++ text) (behind-all told text line))

-- what was told, where this leads
pub record ToldLeads (n : Notices) : Type 0 where
  pub text : List ℕ
  pub leads : (behind : List ℕ) → IsFaultLine behind → IsFaultLine (text ++ behind)
  pub told : HaveTold n text

torn-leads : (n : Notices) (torn : List ℕ) → HaveToldTorn n torn → ToldLeads n
torn-leads n torn told =
    record { text = torn_notices torn; leads = behind-torn torn; told = told }

all-leads : (n : Notices) (notices : List Notice) → HaveToldAll n notices → ToldLeads n
all-leads n notices told =
    record { text = notice_texts notices; leads = behind-all notices; told = told }

-- where memory ran out nothing was told, or of some torn entries
ran-out-told : {R W : Type 0} (query : Query) (form : Form) (d : Devices R W) (n : Notices)
    (last : Bool) (bytes : List ℕ) → RanOut query form d n last bytes → ToldLeads n
ran-out-told query form d n false bytes answer = torn-leads n [] answer.3
ran-out-told query form d n true bytes answer = torn-leads n answer.1 answer.4

salvage-out-told : {R W : Type 0} (query : Query) (form : Form) (d : Devices R W) (n : Notices)
    (last : Bool) (bytes : List ℕ) → SalvageRanOut query form d n last bytes → ToldLeads n
salvage-out-told query form d n false bytes answer = torn-leads n [] answer.3
salvage-out-told query form d n true bytes answer = all-leads n answer.2 answer.5

-- a run over a log told of some torn entries
log-answer-told : {R W : Type 0} (query : Query) (form : Form) (d : Devices R W) (n : Notices)
    (own : Result ℕ LogFault) (bytes : List ℕ) → AnswersLogRun query form d n own bytes
    → ToldLeads n
log-answer-told query form d n (Ok count) bytes answer = torn-leads n answer.2 answer.5
log-answer-told query form d n (Err log.Read) bytes answer = torn-leads n answer.1 answer.4
log-answer-told query form d n (Err (log.BadLog line)) bytes answer =
    torn-leads n answer.1 answer.4
log-answer-told query form d n (Err (log.Write written)) bytes answer =
    torn-leads n answer.1 answer.4
log-answer-told query form d n (Err (log.Memory want)) bytes answer =
    ran-out-told query form d n query.last bytes answer

-- also one that passes over what is not of a log
run-answer-told : {R W : Type 0} (query : Query) (form : Form) (damaged : Damaged)
    (d : Devices R W) (n : Notices) (own : Result ℕ LogFault) (bytes : List ℕ)
    → AnswersRun query form d n damaged own bytes → ToldLeads n
run-answer-told query form Refused d n own bytes answer =
    log-answer-told query form d n own bytes answer
run-answer-told query form PassedOver d n (Ok count) bytes answer =
    log-answer-told query form d n (Ok count) bytes answer
run-answer-told query form PassedOver d n (Err log.Read) bytes answer =
    all-leads n answer.2 answer.5
run-answer-told query form PassedOver d n (Err (log.BadLog line)) bytes answer =
    all-leads n answer.3 answer.6
run-answer-told query form PassedOver d n (Err (log.Write written)) bytes answer =
    all-leads n answer.2 answer.5
run-answer-told query form PassedOver d n (Err (log.Memory want)) bytes answer =
    salvage-out-told query form d n query.last bytes answer

-- a run over an input told some, over a kept log nothing
input-told : {R W : Type 0} (query : Query) (form : Form) (reading : ReadAs) (d : Devices R W)
    (n : Notices) (own : Result ℕ LogFault) → RunsOverInput query form reading d n own
    → ToldLeads n
input-told query form (AsLog damaged) d n own runs =
    run-answer-told query form damaged d n own runs.bytes runs.answer
input-told query form (AsKept from) d n own runs = torn-leads n [] runs.1

log-told : {R W F D E : Type 0} (query : Query) (form : Form) (reading : ReadAs)
    (d : Devices R W) (b : Beside F D W E) (outcome : Result (Unit {0}) Fault)
    → ReadsLog query form reading d b outcome → HasLed b.contents b.faults b.faults_after
log-told query form reading d b outcome (opens, (own, runs, told)) =
    let led = input-told query form reading d
    (notices_between b.contents b.faults b.faults_after) own runs in
    record { told = led.text; leads = led.leads; written = led.told }

pub ends-told : {R W F D E : Type 0} (arguments : List Text) (d : Devices R W) (b : Beside F D W E)
    (outcome : Result (Unit {0}) Fault) → b.faults.failures ≡ 0 → EndsRun arguments d b outcome
    → HasLed b.contents b.faults b.faults_after
ends-told arguments d b outcome none (inl runs) =
    watch-told d b runs.sendings runs.name runs.moment outcome none runs.watched
ends-told arguments d b outcome none (inr (inl runs)) =
    log-told runs.query runs.form runs.reading d b outcome runs.read
ends-told arguments d b outcome none (inr (inr ends)) = nothing-told b none ends.0

-- a fault is one text on standard error, with what was told before
pub reported-line : {E : Type 0} (contents : E → Option (List ℕ)) (old mid new : CountedDevice E)
    (outcome : Result (Unit {0}) Fault) (status : ℕ) → status ≡ status_of outcome
    → HasLed contents old mid → Reports contents mid new outcome → status ≢ 0
    → WritesOne (λ text. status ≢ 64 → IsFaultLine text) contents old new
reported-line contents old mid new (Ok done) status is led reports not_zero = absurd (not_zero is)
reported-line contents old mid new (Err why) status is led reports not_zero =
    let line = fault-text why in
    behind contents led.told (IsFaultText why) (λ text. status ≢ 64 → IsFaultLine text)
    (λ text is_text other. led.leads text
    (text-line why text (λ arguments. other (is ∙ arguments)) is_text))
    old mid new line.0 line.1 led.written reports

pub answers-reported : {R W F D E : Type 0} (arguments : List Text) (d : Devices R W)
    (b : Beside F D W E)
    (status : ℕ) → b.faults.failures ≡ 0 → Answers arguments d b status → status ≢ 0
    → WritesOne (λ text. status ≢ 64 → IsFaultLine text) b.contents b.faults b.faults_after
answers-reported arguments d b status none answers not_zero =
    reported-line b.contents b.faults answers.behind_call b.faults_after answers.outcome status
    answers.status_is
    (ends-told arguments d (with_faults b answers.behind_call) answers.outcome none answers.ends)
    answers.reported not_zero

-- ---- a success is the success of its call

reported-nothing : {E : Type 0} (contents : E → Option (List ℕ)) (old new : CountedDevice E)
    (outcome : Result (Unit {0}) Fault) → Reports contents old new outcome → status_of outcome ≡ 0
    → new ≡ old
reported-nothing contents old new (Ok done) reports zero = reports
reported-nothing contents old new (Err why) reports zero = absurd (failed why zero)

pub answers-success : {R W F D E : Type 0} (arguments : List Text) (d : Devices R W)
    (b : Beside F D W E)
    (status : ℕ) → Answers arguments d b status → status ≡ 0 → Succeeds arguments d b
answers-success {R} {W} {F} {D} {E} arguments d b status answers zero =
    let same = reported-nothing b.contents answers.behind_call b.faults_after answers.outcome
    answers.reported (sym answers.status_is ∙ zero) in
    subst (λ (e : CountedDevice E). Succeeds arguments d (with_faults b e)) (sym same)
    (success-exits arguments d (with_faults b answers.behind_call) status
    (answers-exits arguments d b status answers) zero)

pub answers-called : {R W F D E : Type 0} (arguments : List Text) (d : Devices R W)
    (b : Beside F D W E)
    (status : ℕ) → Answers arguments d b status → (call : Call) → Names arguments call → status ≡ 0
    → Performs call d b (Ok tt)
answers-called {R} {W} {F} {D} {E} arguments d b status answers call named zero =
    let exits = answers-exits arguments d b status answers in
    let same = reported-nothing b.contents answers.behind_call b.faults_after answers.outcome
    answers.reported (sym answers.status_is ∙ zero) in
    subst (λ (e : CountedDevice E). Performs call d (with_faults b e) (Ok tt)) (sym same)
    (success-named arguments d (with_faults b answers.behind_call) call named
    (success-exits arguments d (with_faults b answers.behind_call) status exits zero))

-- ---- where no log can be opened, no file is handed back

watch-none : {R W F D E : Type 0} (d : Devices R W) (b : Beside F D W E) (sendings : Sendings)
    (name : Text) (moment : ℕ)
    (outcome : Result (Unit {0}) Fault)
    → ((disk : D) → b.gives b.files name (Ok disk) → ⊥)
    → WatchesLog d b sendings name moment outcome → b.disk_after ≡ None
watch-none d b sendings name moment outcome never (Err why, gives, opened) = opened.2.unopened
watch-none d b sendings name moment outcome never (Ok disk, gives, opened) =
    absurd (never disk gives)

pub ends-none : {R W F D E : Type 0} (arguments : List Text) (d : Devices R W) (b : Beside F D W E)
    (outcome : Result (Unit {0}) Fault)
    → ((name : Text) (disk : D) → b.gives b.files name (Ok disk) → ⊥)
    → EndsRun arguments d b outcome → b.disk_after ≡ None
ends-none arguments d b outcome never (inl runs) =
    watch-none d b runs.sendings runs.name runs.moment outcome (never runs.name) runs.watched
ends-none arguments d b outcome never (inr (inl runs)) = runs.read.0.unopened
ends-none arguments d b outcome never (inr (inr ends)) = ends.0.unopened

-- and no read is stamped, and no cut noted
watch-unstamped : {R W F D E : Type 0} (d : Devices R W) (b : Beside F D W E)
    (sendings : Sendings) (name : Text) (moment : ℕ) (outcome : Result (Unit {0}) Fault)
    → ((disk : D) → b.gives b.files name (Ok disk) → ⊥)
    → WatchesLog d b sendings name moment outcome → (b.stamps ≡ []) × (b.cuts ≡ [])
watch-unstamped d b sendings name moment outcome never (Err why, gives, opened) =
    (opened.2.unstamped, opened.2.unnoted)
watch-unstamped d b sendings name moment outcome never (Ok disk, gives, opened) =
    absurd (never disk gives)

pub ends-unstamped : {R W F D E : Type 0} (arguments : List Text) (d : Devices R W)
    (b : Beside F D W E)
    (outcome : Result (Unit {0}) Fault)
    → ((name : Text) (disk : D) → b.gives b.files name (Ok disk) → ⊥)
    → EndsRun arguments d b outcome → (b.stamps ≡ []) × (b.cuts ≡ [])
ends-unstamped arguments d b outcome never (inl runs) =
    watch-unstamped d b runs.sendings runs.name runs.moment outcome (never runs.name) runs.watched
ends-unstamped arguments d b outcome never (inr (inl runs)) =
    (runs.read.0.unstamped, runs.read.0.unnoted)
ends-unstamped arguments d b outcome never (inr (inr ends)) =
    (ends.0.unstamped, ends.0.unnoted)
