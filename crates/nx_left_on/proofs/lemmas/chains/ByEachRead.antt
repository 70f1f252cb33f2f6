-- What a watch had told and written by a read of its input.
use Rattle.std.proofs.Common.{◌≡◌, ◌⊎◌, ℕ, suc, Bool, true, false, List, [], ◌++◌, take, length, Option}
use Rattle.std.proofs.Common.{Result, Ok, Err, inl, inr, refl, sym, ap, subst, arith}
use Rattle.std.specs.List.{Contains}
use Rattle.std.specs.Io.KnownBytes.{Appends, Consumes}
use Rattle.std.proofs.lemmas.List.Elements.{All-contains}
use Rattle.nx_fec.specs.Transfers.{CountedDevice}
use Rattle.nx_copies.specs.copies.Log.{plain}
use Rattle.nx_copies.specs.copies.Shares.{MarkedCopy}
use Rattle.nx_watch.specs.LineRun.{HasTold}
use Rattle.nx_watch.specs.LinesTold.{IsToldByRead}
use Rattle.nx_watch.specs.Stamp.{Stamp}
use Rattle.nx_watch.specs.Watch.{AnswersStartedBy, AnswersWatch, HadFailed, HasOpened}
use Rattle.nx_watch.specs.Watch.{StoodOverBy, WatchDevices, moments_at, starts_at}
use Rattle.nx_watch.specs.declared.watch_report.WatchReport.{WatchReport}
use Rattle.nx_watch.specs.declared.watch_fault.WatchFault.{WatchFault}
use Rattle.nx_watch.specs.declared.watch_fault.WatchFault.TheVariants.{Open, Damaged, Disk, Memory}
use Rattle.nx_watch.specs.declared.watch_fault.WatchFault.TheVariants.{Read, Back}
use Rattle.nx_left_on.specs.ByEachRead.{HadTold, HadWrittenOn, HasWrittenOn}

-- a call had failed by then, or none had
one-way : {D R W N : Type 0} (d : WatchDevices D R W N) (at : D) (one other : Bool)
    → HadFailed d one at → HadFailed d other at → one ≡ other
one-way d at false false h k = refl
one-way d at true true h k = refl
one-way d at false true h k = absurd (omega (arith, h, k))
one-way d at true false h k = absurd (omega (arith, h, k))

-- no write of it had failed, so it was written
pub all-written : (old new : Option (List ℕ)) (failures : ℕ) (text : List ℕ) → failures ≡ 0
    → HasTold old new failures text → Appends old new text
all-written old new failures text quiet told = elim told [
  | inl whole ↦ whole.1
  | inr part ↦ absurd (omega (arith, quiet, part.0))
]

pub none-stamped : {A : Type 0} (list : List A) (one : A) → list ≡ [] → Contains list one → ⊥
none-stamped list one e c =
    let odd : 0 ≡ length list = sym (ap length e) in omega (arith, odd, c.1)

module _ {D R W N : Type 0} (d : WatchDevices D R W N) (now : ℕ) (entries : List MarkedCopy)
  where
    module _ (at : Stamp D (CountedDevice W) (CountedDevice N)) (there : Contains d.stamps at) where
      -- what stood at the read, of the bytes of the input
      abbrev StoodThere : Type 0
      StoodThere = (bytes : List ℕ) × Consumes (d.streams.remaining d.streams.reader.inner)
          (d.streams.remaining d.streams.reader_after.inner) bytes
          × (copies : List MarkedCopy)
          × StoodOverBy d plain (d.tells.seen d.start d.disk)
          now (starts_at now entries) entries bytes copies at

      started-there : (outcome : Result WatchReport WatchFault)
          → AnswersStartedBy d plain now (starts_at now entries) entries outcome → StoodThere
      started-there outcome s =
          let watched = s.3 in (
            watched.bytes,
            watched.consumed,
            s.2,
            All-contains (StoodOverBy d plain (d.tells.seen d.start d.disk)
                now (starts_at now entries) entries watched.bytes s.2)
                d.stamps at watched.before_each_read there,
          )

      opened-there : HasOpened d entries → StoodThere
      opened-there o = absurd (none-stamped d.stamps at o.unstamped there)

      stood-there : (outcome : Result WatchReport WatchFault)
          → AnswersWatch d now entries outcome → StoodThere
      stood-there (Err Open) h = opened-there h
      stood-there (Err Memory) h = opened-there h
      stood-there (Err (Damaged line first)) h = absurd h
      stood-there (Err Disk) h = elim h [
        | inl o ↦ opened-there o
        | inr s ↦ started-there (Err Disk) s
      ]
      stood-there (Err Read) h = started-there (Err Read) h
      stood-there (Err (Back line last given)) h = started-there (Err (Back line last given)) h
      stood-there (Ok report) h = started-there (Ok report) h

      pub answer-told : (outcome : Result WatchReport WatchFault)
          → AnswersWatch d now entries outcome → at.notices.failures ≡ 0
          → (has_failed : Bool) → HadFailed d has_failed at.disk
          → HadTold d now entries has_failed at
      answer-told outcome h quiet has_failed so =
          let there_so = stood-there outcome h in
          let stood = there_so.3 in
          let told = stood.told in
          let is = subst (λ (b : Bool). IsToldByRead (moments_at now (starts_at now entries))
          (take at.read there_so.0) stood.lines b told.2)
          (one-way d at.disk told.0 has_failed told.1 so) told.3 in
          let cut = told.4 in (
            there_so.0,
            there_so.1,
            stood.lines,
            stood.rest,
            stood.whole,
            cut.0,
            cut.1,
            is.0,
            is.1,
            told.2,
            is.2,
            all-written (d.told d.notices.inner) (d.told at.notices.inner) at.notices.failures
                (cut.0 ++ told.2) quiet cut.2,
          )

      -- no put had failed, so nothing had been written
      pub answer-silent : (outcome : Result WatchReport WatchFault)
          → AnswersWatch d now entries outcome → d.tells.faults at.disk ≡ d.tells.faults d.disk
          → at.writer ≡ d.streams.writer
      answer-silent outcome h none = elim (stood-there outcome h).3.kept [
        | inl kept ↦ kept.silent
        | inr written ↦ absurd (omega (arith, none, written.failed))
      ]

      -- one had failed, so what came from it on had been written
      pub answer-wrote : (outcome : Result WatchReport WatchFault)
          → AnswersWatch d now entries outcome
          → d.tells.faults at.disk ≡ suc (d.tells.faults d.disk) → HadWrittenOn d now entries at
      answer-wrote outcome h one =
          let there_so = stood-there outcome h in
          let stood = there_so.3 in
          elim stood.kept [
            | inl kept ↦ absurd (omega (arith, one, kept.well))
            | inr written ↦ (
              there_so.0,
              there_so.1,
              stood.lines,
              stood.rest,
              stood.whole,
              stood.printed,
              stood.prints,
              written.count,
              written.fewer,
              written.log,
              written.spelled,
              written.written,
            )
          ]

    -- the disk failed: at once, or from a put on all was written
    pub disk-wrote : AnswersWatch d now entries (Err Disk)
        → (d.streams.writer_after ≡ d.streams.writer) ⊎ HasWrittenOn d now entries
    disk-wrote (inl o) = inl o.unwritten
    disk-wrote (inr s) = elim s.4 [
      | inl all ↦ inl all.0.silent
      | inr some ↦
          inr (
            s.0,
            s.1,
            s.2,
            s.3.printed,
            some.0.count,
            some.0.fewer,
            some.0.log,
            some.0.spelled,
            some.0.written,
          )
    ]
