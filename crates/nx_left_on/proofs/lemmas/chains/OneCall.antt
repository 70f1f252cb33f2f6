-- What a watch had read, told and written when it was over.
use Rattle.std.proofs.Common.{◌≡◌, ◌≢◌, ◌⊎◌, ◌≤◌, ◌+◌, ℕ, Bool}
use Rattle.std.proofs.Common.{List, [], ◌++◌, drop, length, take, Option}
use Rattle.std.proofs.Common.{Result, Ok, Err, inl, inr, refl}
use Rattle.std.proofs.Common.{sym, ap, subst, arith, append-nil, ◌∙◌}
use Rattle.std.specs.List.{Contains}
use Rattle.std.specs.Io.KnownBytes.{Appends, Consumes}
use Rattle.std.proofs.KnownBytes.{Consumes-nil}
use Rattle.std.proofs.lemmas.List.Elements.{All-contains}
use Rattle.nx_copies.specs.copies.Log.{IsLog, plain}
use Rattle.nx_copies.specs.copies.Shares.{MarkedCopy}
use Rattle.nx_fec.specs.Transfers.{CountedDevice, IsReadOut}
use Rattle.nx_fec.specs.air_files.AirFile.{Line}
use Rattle.nx_receiver.specs.air_file_runs.Listen.{given_by}
use Rattle.nx_watch.specs.Acting.{most_bytes}
use Rattle.nx_watch.specs.LineRun.{HasTold}
use Rattle.nx_watch.specs.LinesTold.{IsToldAtEnd}
use Rattle.nx_watch.specs.Stamp.{AreTheReads, LastGaveNone, Stamp}
use Rattle.nx_watch.specs.Watch.{AnswersStarted, AnswersStop, AnswersWatch}
use Rattle.nx_watch.specs.Watch.{HadFailed, HasOpened, HasRead}
use Rattle.nx_watch.specs.Watch.{HasWatchedOverBy, PrintsUntil, StandsForEntries, StoodOverBy}
use Rattle.nx_watch.specs.Watch.{Stop, TellsOfCut}
use Rattle.nx_watch.specs.Watch.{WatchDevices, at_end, back}
use Rattle.nx_watch.specs.Watch.{moments_at, starts_at, unread, unwritten}
use Rattle.nx_watch.specs.declared.lines.line_effects.StartMoments.{StartMoments}
use Rattle.nx_watch.specs.declared.watch_report.WatchReport.{WatchReport}
use Rattle.nx_watch.specs.declared.watch_fault.WatchFault.{WatchFault}
use Rattle.nx_watch.specs.declared.watch_fault.WatchFault.TheVariants.{Open, Damaged, Disk, Memory}
use Rattle.nx_watch.specs.declared.watch_fault.WatchFault.TheVariants.{Read, Back}
use Rattle.nx_left_on.specs.Chain.{acting_at}
use Rattle.nx_left_on.proofs.lemmas.chains.ByEachRead.{all-written, none-stamped}

-- a watch that stopped so answers of no fault of the disk
never-disk : (first : StartMoments) (stop : Stop) (lines : List (Option Line))
    (copies : List MarkedCopy) → AnswersStop first stop lines copies (Err Disk) → ⊥
never-disk first at_end lines copies h = h
never-disk first (back line last given) lines copies h = h
never-disk first unread lines copies h = h
never-disk first unwritten lines copies h = h

-- it answers a report at the end alone
ends-ok : (first : StartMoments) (stop : Stop) (lines : List (Option Line))
    (copies : List MarkedCopy) (report : WatchReport)
    → AnswersStop first stop lines copies (Ok report) → stop ≡ at_end
ends-ok first at_end lines copies report h = refl
ends-ok first (back line last given) lines copies report h = absurd h
ends-ok first unread lines copies report h = absurd h
ends-ok first unwritten lines copies report h = absurd h

-- and a failed read where it stopped at one
ends-unread : (first : StartMoments) (stop : Stop) (lines : List (Option Line))
    (copies : List MarkedCopy) → AnswersStop first stop lines copies (Err Read) → stop ≡ unread
ends-unread first at_end lines copies h = absurd h
ends-unread first (back line last given) lines copies h = absurd h
ends-unread first unread lines copies h = refl
ends-unread first unwritten lines copies h = absurd h

module _ {D R W N : Type 0} (d : WatchDevices D R W N) (now : ℕ) (entries : List MarkedCopy)
  where
    -- what it consumed of its input
    abbrev Consumed : List ℕ → Type 0
    Consumed bytes = Consumes (d.streams.remaining d.streams.reader.inner)
        (d.streams.remaining d.streams.reader_after.inner) bytes

    -- whether its input had ended, or it had read as many bytes as it reads at most
    abbrev AtEnd : List ℕ → Type 0
    AtEnd bytes = IsReadOut d.streams ⊎ (length bytes ≡ most_bytes)

    -- ---- what it read

    abbrev ReadBy : Type 0
    ReadBy = (bytes : List ℕ) × Consumed bytes × (length bytes ≤ most_bytes)
        × AreTheReads d.stamps (length bytes)
        × ((at : Stamp D (CountedDevice W) (CountedDevice N)) → Contains d.stamps at
        → at.read ≤ length bytes)

    opened-read : HasOpened d entries → ReadBy
    opened-read o = (
      [],
      subst (λ r. Consumes (d.streams.remaining d.streams.reader.inner)
          (d.streams.remaining r.inner) []) (sym o.unread)
          (Consumes-nil (d.streams.remaining d.streams.reader.inner)),
      omega (arith),
      subst (λ s. AreTheReads s 0) (sym o.unstamped) refl,
      λ at there. absurd (none-stamped d.stamps at o.unstamped there),
    )

    started-read : (outcome : Result WatchReport WatchFault)
        → AnswersStarted d now (starts_at now entries) entries outcome → ReadBy
    started-read outcome s =
        let watched = s.3 in (
          watched.bytes,
          watched.consumed,
          watched.within,
          watched.stamps,
          λ at there. (All-contains (StoodOverBy d plain (d.tells.seen d.start d.disk)
              now (starts_at now entries) entries watched.bytes
              s.2) d.stamps at watched.before_each_read there).within,
        )

    pub answer-read : (outcome : Result WatchReport WatchFault)
        → AnswersWatch d now entries outcome → ReadBy
    answer-read (Err Open) h = opened-read h
    answer-read (Err Memory) h = opened-read h
    answer-read (Err (Damaged line first)) h = absurd h
    answer-read (Err Disk) h = elim h [
      | inl o ↦ opened-read o
      | inr s ↦ started-read (Err Disk) s
    ]
    answer-read (Err Read) h = started-read (Err Read) h
    answer-read (Err (Back line last given)) h = started-read (Err (Back line last given)) h
    answer-read (Ok report) h = started-read (Ok report) h

    abbrev ReadAll : Type 0
    ReadAll = (d.streams.reader_after.failures ≢ 1) × (d.streams.writer_after.failures ≤ 1)
        × (bytes : List ℕ) × Consumed bytes × AtEnd bytes
        × (LastGaveNone d.stamps ⊎ (length bytes ≡ most_bytes))

    at-end-read : (lines : List (Option Line)) (copies : List MarkedCopy)
        → HasWatchedOverBy d plain (d.tells.seen d.start d.disk)
        now (starts_at now entries) entries at_end lines copies → ReadAll
    at-end-read lines copies watched = (
      λ one. let odd : at_end ≡ unread = watched.failed_read.1 one in cc,
      watched.failed_write,
      watched.bytes,
      watched.consumed,
      watched.read.0,
      watched.last_read,
    )

    pub ok-read : (report : WatchReport) → AnswersWatch d now entries (Ok report) → ReadAll
    ok-read report s = elim s.4 [
      | inl k ↦ at-end-read s.1 s.2
          (subst (λ stop. HasWatchedOverBy d plain (d.tells.seen d.start d.disk)
          now (starts_at now entries)
          entries stop s.1 s.2)
          (ends-ok (moments_at now (starts_at now entries)) s.0 s.1 s.2 report k.1) s.3)
      | inr k ↦ absurd (cc)
    ]

    abbrev ReadFailed : Type 0
    ReadFailed = (d.streams.reader_after.failures ≡ 1) × (d.streams.writer_after.failures ≡ 0)
        × LastGaveNone d.stamps

    unread-read : (lines : List (Option Line)) (copies : List MarkedCopy)
        → HasWatchedOverBy d plain (d.tells.seen d.start d.disk)
        now (starts_at now entries) entries unread lines copies → ReadFailed
    unread-read lines copies watched =
        (watched.failed_read.0 refl, watched.failed_write, watched.last_read)

    pub failed-read : AnswersWatch d now entries (Err Read) → ReadFailed
    failed-read s = elim s.4 [
      | inl k ↦ unread-read s.1 s.2
          (subst (λ stop. HasWatchedOverBy d plain (d.tells.seen d.start d.disk)
          now (starts_at now entries)
          entries stop s.1 s.2)
          (ends-unread (moments_at now (starts_at now entries)) s.0 s.1 s.2 k.1) s.3)
      | inr k ↦ absurd (cc)
    ]

    -- ---- no write had failed

    module _ (at : Stamp D (CountedDevice W) (CountedDevice N)) (there : Contains d.stamps at)
        (quiet : d.streams.writer.failures ≡ 0) where
      started-quiet : (outcome : Result WatchReport WatchFault)
          → AnswersStarted d now (starts_at now entries) entries outcome
          → at.writer.failures ≡ 0
      started-quiet outcome s =
          let stood = All-contains (StoodOverBy d plain (d.tells.seen d.start d.disk)
          now (starts_at now entries) entries s.3.bytes s.2)
          d.stamps at s.3.before_each_read there in
          elim stood.kept [
            | inl kept ↦ ap (λ (w : CountedDevice W). w.failures) kept.silent ∙ quiet
            | inr written ↦ written.well
          ]

      opened-quiet : HasOpened d entries → at.writer.failures ≡ 0
      opened-quiet o = absurd (none-stamped d.stamps at o.unstamped there)

      pub answer-quiet : (outcome : Result WatchReport WatchFault)
          → AnswersWatch d now entries outcome → at.writer.failures ≡ 0
      answer-quiet (Err Open) h = opened-quiet h
      answer-quiet (Err Memory) h = opened-quiet h
      answer-quiet (Err (Damaged line first)) h = absurd h
      answer-quiet (Err Disk) h = elim h [
        | inl o ↦ opened-quiet o
        | inr s ↦ started-quiet (Err Disk) s
      ]
      answer-quiet (Err Read) h = started-quiet (Err Read) h
      answer-quiet (Err (Back line last given)) h = started-quiet (Err (Back line last given)) h
      answer-quiet (Ok report) h = started-quiet (Ok report) h

    -- ---- what it told

    pub started-told : (outcome : Result WatchReport WatchFault)
        → AnswersStarted d now (starts_at now entries) entries outcome
        → d.notices_after.failures ≡ 0
        → (bytes : List ℕ) × Consumed bytes × (stop : Stop) × (lines : List (Option Line))
        × HasRead (AtEnd bytes) (moments_at now (starts_at now entries)) stop bytes lines
        × (failed : Bool) × HadFailed d failed d.disk_after
        × (cut : List ℕ) × TellsOfCut (d.tells.seen d.start d.disk) cut × (text : List ℕ)
        × IsToldAtEnd (moments_at now (starts_at now entries)) bytes lines failed text
        × Appends (d.told d.notices.inner) (d.told d.notices_after.inner) (cut ++ text)
    started-told outcome s quiet =
        let watched = s.3 in
        let told = watched.notices_told in
        let cut = told.4 in (
          watched.bytes,
          watched.consumed,
          s.0,
          s.1,
          watched.read,
          told.0,
          told.1,
          cut.0,
          cut.1,
          told.2,
          told.3,
          all-written (d.told d.notices.inner) (d.told d.notices_after.inner)
              d.notices_after.failures (cut.0 ++ told.2) quiet cut.2,
        )

    pub opened-told : HasOpened d entries
        → d.tells.seen d.start d.disk_after ≢ d.tells.seen d.start d.disk
        → d.notices_after.failures ≡ 0
        → (cut : List ℕ) × TellsOfCut (d.tells.seen d.start d.disk) cut
        × Appends (d.told d.notices.inner) (d.told d.notices_after.inner) cut
    opened-told o changed quiet = elim o.told [
      | inl told ↦ (
        told.0,
        told.1,
        subst (Appends (d.told d.notices.inner) (d.told d.notices_after.inner))
            (append-nil told.0)
            (all-written (d.told d.notices.inner) (d.told d.notices_after.inner)
            d.notices_after.failures (told.0 ++ []) quiet told.2),
      )
      | inr reads ↦ absurd (changed reads.1.same)
    ]

    -- ---- what it kept and wrote

    abbrev KeptOrWritten : List ℕ → List MarkedCopy → Type 0
    KeptOrWritten file copies =
        (kept : ℕ) × (kept ≤ length copies) × StandsForEntries (entries ++ take kept copies) file
        × (count : ℕ) × (count ≤ kept) × (text : List ℕ) × IsLog (drop count copies) text
        × HasTold (d.streams.contents d.streams.writer.inner)
        (d.streams.contents d.streams.writer_after.inner) d.streams.writer_after.failures text

    pub faulted-kept : (file : List ℕ)
        → AnswersStarted d now (starts_at now entries) entries (Err Disk)
        → d.tells.may_leave d.start d.disk_after file
        → (stop : Stop) × (lines : List (Option Line)) × (copies : List MarkedCopy)
        × PrintsUntil stop (starts_at now entries) (given_by (acting_at now entries lines)) copies
        × KeptOrWritten file copies
    faulted-kept file s leaves = elim s.4 [
      | inl all ↦ absurd (never-disk (moments_at now (starts_at now entries)) s.0 s.1 s.2 all.1)
      | inr some ↦
          let k = some.0 in
          let kept : KeptOrWritten file s.2 = elim (k.left file leaves) [
            | inl these ↦ (
              k.count,
              omega (arith, k.fewer),
              these,
              k.count,
              omega (arith),
              k.log,
              k.spelled,
              k.written,
            )
            | inr more ↦ (
              k.count + 1,
              omega (arith, k.fewer),
              more,
              k.count,
              omega (arith),
              k.log,
              k.spelled,
              k.written,
            )
          ] in
          (s.0, s.1, s.2, s.3.printed, kept)
    ]
