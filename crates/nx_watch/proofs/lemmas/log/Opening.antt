-- What a watch answers that opens its log and starts.
use Rattle.std.proofs.Common.{◌≡◌, ◌⊎◌, inl, inr, ⊎_elim, ℕ, suc, ◌≤◌, Bool, true, false, List, []}
use Rattle.std.proofs.Common.{◌∷◌, ◌++◌, length, take, Option, Result, Ok, Err, refl, sym, ◌∙◌, ap, subst}
use Rattle.std.proofs.Common.{append-nil, arith}
use Rattle.std.specs.List.{AllZip}
use Rattle.std.proofs.lemmas.List.Elements.{All-weaker}
use Rattle.nx_fec.specs.air_files.AirFile.{Line}
use Rattle.nx_fec.specs.Transfers.{CountedDevice, devices}
use Rattle.nx_kept.specs.Disk.{LeavesOnly, OnlyReads}
use Rattle.nx_kept.specs.Kept.{IsBehindOpenGates, IsDamaged, IsTail}
use Rattle.nx_kept.specs.Open as opening
use Rattle.nx_kept.specs.declared.disk.DiskFile.{Ghosts as TellsOfDisk}
use Rattle.nx_kept.specs.declared.fault.OpenFault.{OpenFault}
use Rattle.nx_kept.specs.declared.fault.OpenFault.TheVariants as why
use Rattle.nx_kept.proofs.lemmas.KeptLaws.{one_list}
use Rattle.nx_kept.proofs.lemmas.Stages.{joined, weaker}
use Rattle.nx_log.specs.Entries.{IsWholeEntry}
use Rattle.nx_log.specs.Logged.{IsLoggedAs}
use Rattle.nx_copies.specs.copies.Log.{Printing}
use Rattle.nx_copies.specs.copies.Shares.{MarkedCopy, Starts}
use Rattle.nx_watch.specs.LineRun.{HasTold}
use Rattle.nx_watch.specs.LinesTold.{IsToldAtEnd, IsToldByRead}
use Rattle.nx_watch.specs.Stamp.{Stamp}
use Rattle.nx_watch.specs.declared.lines.line_effects.StartMoments.{StartMoments}
use Rattle.nx_watch.specs.Watch.{AnswersOverBy, AnswersStartedBy, AnswersStop, AnswersWatchBy, HadFailed, HasCause, HasOpened, HasToldOf, RefusesLog, StandsForEntries, StoodOverBy, Stop, TellsOfCut}
use Rattle.nx_watch.specs.Watch.{WatchDevices, at_end, back, longest_entry, moments_at, starts_at, unread, unwritten}
use Rattle.nx_watch.specs.declared.watch_report.WatchReport.{WatchReport}
use Rattle.nx_watch.specs.declared.watch_fault.WatchFault.{WatchFault}
use Rattle.nx_watch.specs.declared.watch_fault.WatchFault.TheVariants.{Open, Damaged, Disk, Memory, Read, Back}
use Rattle.nx_watch.specs.private.Answering.{fault_answered}
use Rattle.nx_watch.specs.private.Entries.{entry_one, entry_some}
use Rattle.nx_watch.specs.private.Keeping.{StandsForTexts}

-- ---- records and entries

-- records behind open gates are those of entries
pub entries-of : (records : List (List ℕ)) (front : List ℕ)
    → IsBehindOpenGates IsWholeEntry records front
    → (entries : List MarkedCopy) × AllZip IsLoggedAs entries records
entries-of [] front h = ([], tt)
entries-of (first ∷ records) front h =
    let rest = entries-of records h.1 h.5 in (h.3.0 ∷ rest.0, (h.3.1, rest.1))

-- the texts for which a file stands are its records
pub same-texts : (texts records : List (List ℕ)) (front tail file : List ℕ)
    → StandsForTexts texts file → IsBehindOpenGates IsWholeEntry records front
    → IsTail longest_entry tail → file ≡ front ++ tail → texts ≡ records
same-texts texts records front tail file stands kept end split =
    one_list IsWholeEntry longest_entry entry_some entry_one texts records file stands
    (record { front = front; tail = tail; kept = kept; end = end; split = split })

-- ---- an opening that failed

module _ {D R W E : Type 0} (disk : TellsOfDisk D) (content : List ℕ) (old new : D)
    (remaining : R → Option (List ℕ)) (reader reader_after : CountedDevice R)
    (contents : W → Option (List ℕ)) (writer writer_after : CountedDevice W)
    (told : E → Option (List ℕ)) (notices notices_after : CountedDevice E)
  where
    pub has-opened : (entries : List MarkedCopy) (texts : List (List ℕ))
        → AllZip IsLoggedAs entries texts
        → LeavesOnly disk.moment (disk.left_since content) old new
        (λ c. disk.may_leave content old c ⊎ StandsForTexts texts c)
        → reader_after ≡ reader → writer_after ≡ writer
        → ((cut : List ℕ) × TellsOfCut (disk.seen content old) cut
        × HasTold (told notices.inner) (told notices_after.inner) notices_after.failures
        (cut ++ []))
        ⊎ ((notices_after ≡ notices)
        × OnlyReads (disk.seen content) (disk.may_leave content) disk.moment
        (disk.left_since content) old new)
        → (stamps : List (Stamp D (CountedDevice W) (CountedDevice E))) → stamps ≡ []
        → HasOpened (record {
          tells = disk;
          start = content;
          disk = old;
          disk_after = new;
          streams = devices remaining contents reader reader_after writer writer_after;
          told = told;
          notices = notices;
          notices_after = notices_after;
          stamps = stamps;
        }) entries
    has-opened entries texts each moments r w f stamps none = record {
      any_moment = weaker disk.moment (disk.left_since content) (disk.may_leave content) _ _ old
          new moments (λ c h. ⊎_elim (λ left. inl left)
          (λ s. inr (record { texts = texts; each = each; stands = s })) h);
      unread = r;
      unstamped = none;
      unwritten = w;
      told = f;
    }

pub answers-opening : {D R W E : Type 0} (d : WatchDevices D R W E) (printing : Printing) (now : ℕ)
    (entries : List MarkedCopy) (fault : OpenFault) → HasOpened d entries
    → ((line : ℕ) (first : Option ℕ) → fault ≡ why.Damaged line first → ⊥)
    → AnswersWatchBy d printing now entries (Err (fault_answered fault))
answers-opening d printing now entries why.Read h whole = h
answers-opening d printing now entries why.Disk h whole = inl h
answers-opening d printing now entries (why.Damaged line first) h whole = whole line first refl
answers-opening d printing now entries why.Memory h whole = h

pub cause-opening : {D : Type 0} (disk : TellsOfDisk D) (fault : OpenFault) (old new : D)
    → opening.HasCause disk.faults disk.has_failed_to_read disk.has_failed_to_write fault old new
    → HasCause disk (Err (fault_answered fault)) old new
cause-opening disk why.Read old new h = h
cause-opening disk why.Disk old new h = h
cause-opening disk (why.Damaged line first) old new h = h
cause-opening disk why.Memory old new h = ap disk.faults h

-- the answer names the damage that the opening names
pub damage-named : (fault : OpenFault) (line : ℕ) (first : Option ℕ)
    → fault_answered fault ≡ Damaged line first → fault ≡ why.Damaged line first
damage-named why.Read line first e = cc
damage-named why.Disk line first e = cc
damage-named (why.Damaged other byte) line first e = cc
damage-named why.Memory line first e = cc

-- a log that can't be opened is refused
pub refuses : (file : List ℕ) (fault : OpenFault)
    → ((line : ℕ) (first : Option ℕ) → fault ≡ why.Damaged line first
    → IsDamaged IsWholeEntry longest_entry line file)
    → RefusesLog file (Err (fault_answered fault))
refuses file why.Read damaged = tt
refuses file why.Disk damaged = tt
refuses file (why.Damaged line first) damaged = damaged line first refl
refuses file why.Memory damaged = tt

-- why a watch answers so that was opened without a fault
pub cause-behind : {D : Type 0} (disk : TellsOfDisk D) (outcome : Result WatchReport WatchFault)
    (old mid new : D) → disk.faults mid ≡ disk.faults old → HasCause disk outcome mid new
    → HasCause disk outcome old new
cause-behind disk (Ok report) old mid new same h = h ∙ same
cause-behind disk (Err Open) old mid new same h =
    record { once = h.once ∙ ap suc same; last = h.last }
cause-behind disk (Err Disk) old mid new same h =
    record { once = h.once ∙ ap suc same; last = h.last }
cause-behind disk (Err (Damaged line first)) old mid new same h = h ∙ same
cause-behind disk (Err Memory) old mid new same h = h ∙ same
cause-behind disk (Err Read) old mid new same h = h ∙ same
cause-behind disk (Err (Back line last given)) old mid new same h = h ∙ same

-- ---- a watch that was started

-- a fault, as an answer
abbrev err : WatchFault → Result WatchReport WatchFault
err fault = Err fault

never-open : (first : StartMoments) (stop : Stop) (lines : List (Option Line))
    (copies : List MarkedCopy) → AnswersStop first stop lines copies (Err Open) → ⊥
never-open first at_end lines copies h = h
never-open first (back line last given) lines copies h = h
never-open first unread lines copies h = h
never-open first unwritten lines copies h = h

never-memory : (first : StartMoments) (stop : Stop) (lines : List (Option Line))
    (copies : List MarkedCopy) → AnswersStop first stop lines copies (Err Memory) → ⊥
never-memory first at_end lines copies h = h
never-memory first (back line last given) lines copies h = h
never-memory first unread lines copies h = h
never-memory first unwritten lines copies h = h

never-damaged : (first : StartMoments) (stop : Stop) (lines : List (Option Line))
    (copies : List MarkedCopy) (line : ℕ) (byte : Option ℕ)
    → AnswersStop first stop lines copies (Err (Damaged line byte)) → ⊥
never-damaged first at_end lines copies line byte h = h
never-damaged first (back number last given) lines copies line byte h = h
never-damaged first unread lines copies line byte h = h
never-damaged first unwritten lines copies line byte h = h

module _ {D R W E : Type 0} (d : WatchDevices D R W E) (printing : Printing)
    (entries : List MarkedCopy) where
  pub not-damaged : (file : List ℕ) (now : ℕ) (starts : Starts) (line : ℕ) (byte : Option ℕ)
      → AnswersOverBy d printing file now starts entries (Err (Damaged line byte)) → ⊥
  not-damaged file now starts line byte h = ⊎_elim
      (λ k. never-damaged (moments_at now starts) h.0 h.1 h.2 line byte k.1) (λ k. other k.1) h.4
    where
      other : err (Damaged line byte) ≡ err Disk → ⊥
      other e = cc

  pub answers-watch : (now : ℕ) (outcome : Result WatchReport WatchFault)
      → AnswersStartedBy d printing now (starts_at now entries) entries outcome
      → AnswersWatchBy d printing now entries outcome
  answers-watch now (Ok report) h = h
  answers-watch now (Err Read) h = h
  answers-watch now (Err (Back line last given)) h = h
  answers-watch now (Err Disk) h = inr h
  answers-watch now (Err (Damaged line byte)) h =
      not-damaged _ now (starts_at now entries) line byte h
  answers-watch now (Err Open) h = absurd (⊎_elim
      (λ k. never-open (moments_at now (starts_at now entries)) h.0 h.1 h.2 k.1)
      (λ k. other k.1) h.4)
    where
      other : err Open ≡ err Disk → ⊥
      other e = cc
  answers-watch now (Err Memory) h = absurd (⊎_elim
      (λ k. never-memory (moments_at now (starts_at now entries)) h.0 h.1 h.2 k.1)
      (λ k. other k.1) h.4)
    where
      other : err Memory ≡ err Disk → ⊥
      other e = cc

-- a watch that started so started as this says
pub started-so : {D R W E : Type 0} (d : WatchDevices D R W E) (printing : Printing) (file : List ℕ)
    (entries : List MarkedCopy)
    (outcome : Result WatchReport WatchFault) {now : ℕ} {starts same : Starts} → starts ≡ same
    → AnswersOverBy d printing file now starts entries outcome
    → AnswersOverBy d printing file now same entries outcome
started-so d printing file entries outcome {now} is answer =
    subst (λ s. AnswersOverBy d printing file now s entries outcome) is answer

-- what was answered of the open log is answered of the file before it was opened
module _ {D R W E : Type 0} (disk : TellsOfDisk D) (content : List ℕ) (old mid new : D)
    (remaining : R → Option (List ℕ)) (reader reader_after : CountedDevice R)
    (contents : W → Option (List ℕ)) (writer writer_after : CountedDevice W)
    (told : E → Option (List ℕ)) (notices notices_after : CountedDevice E)
    (stamps : List (Stamp D (CountedDevice W) (CountedDevice E)))
  where
    abbrev devices-from : D → WatchDevices D R W E
    devices-from from = record {
      tells = disk;
      start = content;
      disk = from;
      disk_after = new;
      streams = devices remaining contents reader reader_after writer writer_after;
      told = told;
      notices = notices;
      notices_after = notices_after;
      stamps = stamps;
    }

    -- what was told, and whether a call had failed
    failed-before : disk.faults mid ≡ disk.faults old → (failed : Bool) (at : D)
        → HadFailed (devices-from mid) failed at → HadFailed (devices-from old) failed at
    failed-before same false at h = h ∙ same
    failed-before same true at h = h ∙ ap suc same

    told-before : disk.faults mid ≡ disk.faults old → (file : List ℕ) (at : D)
        (notices : CountedDevice E) (IsTold : Bool → List ℕ → Type 0)
        → HasToldOf (devices-from mid) file at notices IsTold
        → HasToldOf (devices-from old) file at notices IsTold
    told-before same file at notices IsTold h =
        (h.0, failed-before same h.0 at h.1, h.2, h.3, h.4)

    -- what stood at a read
    stood-before : (printing : Printing) (file : List ℕ) (now : ℕ) (starts : Starts)
        (entries copies : List MarkedCopy)
        (bytes : List ℕ)
        → disk.faults mid ≡ disk.faults old
        → (at : Stamp D (CountedDevice W) (CountedDevice E))
        → StoodOverBy (devices-from mid) printing file now starts entries bytes copies at
        → StoodOverBy (devices-from old) printing file now starts entries bytes copies at
    stood-before printing file now starts entries copies bytes same at h = record {
      within = h.within;
      lines = h.lines;
      rest = h.rest;
      whole = h.whole;
      on = h.on;
      printed = h.printed;
      prints = h.prints;
      kept = ⊎_elim (λ k. inl (record {
        well = k.well ∙ same;
        silent = k.silent;
        left = k.left;
      }))
          (λ k. inr (record {
            failed = k.failed ∙ ap suc same;
            count = k.count;
            fewer = k.fewer;
            log = k.log;
            spelled = k.spelled;
            written = k.written;
            well = k.well;
          })) h.kept;
      told = told-before same file at.disk at.notices
          (IsToldByRead (moments_at now starts) (take at.read bytes) h.lines) h.told;
    }

    pub started-before : {now : ℕ} (printing : Printing) (file : List ℕ) (starts : Starts)
        (entries : List MarkedCopy)
        (texts : List (List ℕ)) (outcome : Result WatchReport WatchFault)
        → AllZip IsLoggedAs entries texts
        → disk.faults mid ≡ disk.faults old
        → LeavesOnly disk.moment (disk.left_since content) old mid
        (λ c. disk.may_leave content old c ⊎ StandsForTexts texts c)
        → ((c : List ℕ) → disk.may_leave content mid c → StandsForTexts texts c)
        → AnswersOverBy (devices-from mid) printing file now starts entries outcome
        → AnswersOverBy (devices-from old) printing file now starts entries outcome
    started-before {now} printing file starts entries texts outcome each same opened rests h =
        let w = h.3 in (
          h.0,
          h.1,
          h.2,
          record {
            bytes = w.bytes;
            consumed = w.consumed;
            within = w.within;
            read = w.read;
            printed = w.printed;
            stamps = w.stamps;
            last_read = w.last_read;
            before_each_read =
                All-weaker _ _ (stood-before printing file now starts entries h.2 w.bytes same)
                stamps
                w.before_each_read;
            any_moment =
                joined disk.moment (disk.left_since content) (disk.may_leave content) _ _ old mid
                new
                (weaker disk.moment (disk.left_since content) (disk.may_leave content) _ _ old mid
                opened (λ c o. ⊎_elim (λ left. inl left) (λ s. inr (none c s)) o))
                w.any_moment
                (λ c o. ⊎_elim (λ left. inr (none c (rests c left))) (λ h. inr h) o);
            failed_read = w.failed_read;
            failed_write = w.failed_write;
            notices_told = told-before same file new notices_after
                (IsToldAtEnd (moments_at now starts) w.bytes h.1) w.notices_told;
          },
          ⊎_elim (λ k. inl (
            record {
              rests = k.0.rests;
              found = k.0.found;
              left = k.0.left;
              silent = k.0.silent;
            },
            k.1,
          ))
              (λ k. inr (
                record {
                  count = k.0.count;
                  fewer = k.0.fewer;
                  left = k.0.left;
                  log = k.0.log;
                  spelled = k.0.spelled;
                  written = k.0.written;
                },
                k.1,
              )) h.4,
        )
      where
        none : (c : List ℕ) → StandsForTexts texts c
            → (count : ℕ) × (count ≤ length h.2) × StandsForEntries (entries ++ take count h.2) c
        none c s = (
          0,
          omega arith,
          subst (λ l. StandsForEntries l c) (sym (append-nil entries))
              (record { texts = texts; each = each; stands = s }),
        )
