-- What a watch answers in the end.
use Rattle.std.proofs.Common.{◌≡◌, ◌⊎◌, ◌↔◌, inl, inr, ⊎_elim, ℕ, ◌+◌, ◌∙◌, ◌≤◌, suc, zero, Bool, true, false, List}
use Rattle.std.proofs.Common.{[], ◌∷◌, ◌++◌, length, take, drop, Option, Result, Ok, Err, refl, sym, ap}
use Rattle.std.proofs.Common.{subst, arith}
use Rattle.std.proofs.Common.{append_assoc, length-drop, map}
use Rattle.std.specs.List.{All, AllZip, flat_map}
use Rattle.std.specs.Io.KnownBytes.{Appends, Consumes, IsAtEnd}
use Rattle.std.proofs.lemmas.List.{drop_at, map-append}
use Rattle.std.proofs.lemmas.List.Elements.{All-nil, All-weaker}
use Rattle.nx_envelope.specs.Moment.{last_moment}
use Rattle.nx_fec.specs.air_files.AirFile.{Line}
use Rattle.nx_fec.specs.Transfers.{CountedDevice, devices}
use Rattle.nx_kept.specs.Disk.{LeavesOnly}
use Rattle.nx_kept.specs.Kept.{closed_gate}
use Rattle.nx_kept.specs.declared.disk.DiskFile.{Ghosts as TellsOfDisk}
use Rattle.nx_kept.proofs.lemmas.Stages.{weaker}
use Rattle.nx_log.specs.Logged.{IsLoggedAs}
use Rattle.nx_fec.specs.declared.air_files.channel.Channel.TheVariants.{Zero, One, Two}
use Rattle.nx_receiver.specs.air_file_runs.Listen.{given_by, given_of}
use Rattle.nx_copies.specs.copies.InTurn.{PrintAllToEndBy, PrintsInTurnBy}
use Rattle.nx_copies.proofs.lemmas.channels.One.{one-in_turn_by, one-to_end_by}
use Rattle.nx_copies.proofs.lemmas.channels.Some.{later-some_by}
use Rattle.nx_receiver.specs.ChannelReceiver.{IsReceiver, ReceiverKind}
use Rattle.nx_receiver.specs.Listener.{HearsBy, starts_by}
use Rattle.nx_copies.specs.copies.Log.{IsLog, IsPrinting, Printing}
use Rattle.nx_copies.specs.copies.Shares.{MarkedCopy, Starts, marked}
use Rattle.nx_watch.specs.Acting.{acting_lines, goes_on, most_bytes}
use Rattle.nx_watch.specs.declared.lines.line_effects.StartMoments.{StartMoments}
use Rattle.nx_watch.specs.Watch.{AnswersOverBy, AnswersStop, EndsAtRead, FailsWithin, FailsWrites, HadFailed, HadKept, HadWritten, HasCause, HasRead, HasWatchedOverBy, KeepsAll, KeepsSome, LeavesAtAnyMoment, PrintsLoggable, StoodOverBy, TellsOfCut}
use Rattle.nx_watch.specs.Watch.{PrintsUntilBy, StandsForEntries, Stop, WatchDevices, at_end, back, moments_at, unread, unwritten}
use Rattle.nx_watch.specs.LineRun.{HasTold}
use Rattle.nx_watch.specs.private.LineRun.{WereGiven}
use Rattle.nx_watch.specs.Stamp.{AreTheReads, Stamp}
use Rattle.nx_watch.specs.declared.kept_log.keeper.Keeper.{Keeper}
use Rattle.nx_watch.specs.declared.watch_report.WatchReport.{WatchReport}
use Rattle.nx_watch.specs.declared.watch_fault.WatchFault.{WatchFault}
use Rattle.nx_watch.specs.declared.watch_fault.WatchFault.TheVariants as fault
use Rattle.nx_watch.specs.private.Keeping.{AllKept, HasKept, HasKeptSo, KeepsTexts, SomeKept, StandsForFirst, StandsForTexts, keeper_since}
use Rattle.nx_watch.specs.LinesTold.{IsToldAtEnd, IsToldByRead}
use Rattle.nx_watch.specs.private.Running.{HasToldSo, ToldBefore}
use Rattle.nx_watch.specs.private.Stamping.{StandsStamped, WasRunning, telling}
use Rattle.nx_watch.specs.private.LoggingListener.{HasClosed, HasRun, IsLineInRange, KeepsLines, LoggingOver, LoggingTo, TakesLines, logging_to}
use Rattle.nx_watch.proofs.lemmas.log.Keeping.{all-new, keeps-stands}
use Rattle.nx_watch.proofs.lemmas.log.LoggingListener.{log-of, zip-append}
use Rattle.nx_watch.proofs.lemmas.log.Stamping.{says-too}

-- ---- entries and their bytes, side by side

pub zip-length : (copies : List MarkedCopy) (texts : List (List ℕ)) → AllZip IsLoggedAs copies texts
    → length copies ≡ length texts
zip-length [] [] h = refl
zip-length [] (text ∷ texts) h = absurd h
zip-length (one ∷ copies) [] h = absurd h
zip-length (one ∷ copies) (text ∷ texts) h = ap suc (zip-length copies texts h.1)

zip-take : (n : ℕ) (copies : List MarkedCopy) (texts : List (List ℕ))
    → AllZip IsLoggedAs copies texts → AllZip IsLoggedAs (take n copies) (take n texts)
zip-take zero copies texts h = tt
zip-take (suc n) [] [] h = tt
zip-take (suc n) [] (text ∷ texts) h = absurd h
zip-take (suc n) (one ∷ copies) [] h = absurd h
zip-take (suc n) (one ∷ copies) (text ∷ texts) h = (h.0, zip-take n copies texts h.1)

zip-drop : (n : ℕ) (copies : List MarkedCopy) (texts : List (List ℕ))
    → AllZip IsLoggedAs copies texts → AllZip IsLoggedAs (drop n copies) (drop n texts)
zip-drop zero copies texts h = h
zip-drop (suc n) [] [] h = tt
zip-drop (suc n) [] (text ∷ texts) h = absurd h
zip-drop (suc n) (one ∷ copies) [] h = absurd h
zip-drop (suc n) (one ∷ copies) (text ∷ texts) h = zip-drop n copies texts h.1

-- what stands for the texts stands for the entries
first-entries : (entries copies : List MarkedCopy) (texts more : List (List ℕ)) (count : ℕ)
    (file : List ℕ) → AllZip IsLoggedAs entries texts → AllZip IsLoggedAs copies more
    → StandsForTexts (texts ++ take count more) file
    → StandsForEntries (entries ++ take count copies) file
first-entries entries copies texts more count file h k stands = record {
  texts = texts ++ take count more;
  each = zip-append entries (take count copies) texts (take count more) h
      (zip-take count copies more k);
  stands = stands;
}

all-entries : (entries copies : List MarkedCopy) (texts more : List (List ℕ)) (file : List ℕ)
    → AllZip IsLoggedAs entries texts → AllZip IsLoggedAs copies more
    → StandsForTexts (texts ++ more) file → StandsForEntries (entries ++ copies) file
all-entries entries copies texts more file h k stands = record {
  texts = texts ++ more;
  each = zip-append entries copies texts more h k;
  stands = stands;
}

take-append-more : (n k : ℕ) (copies more : List MarkedCopy) → length copies ≡ n
    → take (n + k) (copies ++ more) ≡ copies ++ take k more
take-append-more n k [] more e = ap (λ m. take m more) (omega (arith, e))
take-append-more n k (one ∷ copies) more e =
    let m = length copies in
    let is : n + k ≡ suc (m + k) = omega (arith, e) in
    ap (λ x. take x (one ∷ (copies ++ more))) is
    ∙ ap (λ l. one ∷ l) (take-append-more m k copies more refl)

-- ---- the answer

module _ {D R W E : Type 0} (disk : TellsOfDisk D) (content : List ℕ) (start : Keeper D)
    (remaining : R → Option (List ℕ)) (reader reader_after : CountedDevice R)
    (contents : W → Option (List ℕ)) (writer writer_after : CountedDevice W)
    (told : E → Option (List ℕ)) (notices notices_after : CountedDevice E)
    (stamps : List (Stamp D (CountedDevice W) (CountedDevice E)))
  where
    abbrev pub at-hand : D → WatchDevices D R W E
    at-hand after =
        record {
          tells = disk;
          start = content;
          disk = start.log.device;
          disk_after = after;
          streams = devices remaining contents reader reader_after writer writer_after;
          told = told;
          notices = notices;
          notices_after = notices_after;
          stamps = stamps;
        }

    all-kept : (entries copies : List MarkedCopy) (texts more : List (List ℕ)) (now : Keeper D)
        (given : List ℕ) → AllZip IsLoggedAs entries texts → AllZip IsLoggedAs copies more
        → KeepsTexts disk content texts start → AllKept disk start now more given
        → WereGiven contents writer writer_after given
        → KeepsAll (at-hand now.log.device) entries copies
    all-kept entries copies texts more now given each zip keeps kept wrote =
        let k = kept.kept content texts keeps in record {
          rests = record {
            texts = texts ++ more;
            each = zip-append entries copies texts more each zip;
            front = k.front;
            kept = k.kept;
            whole = k.at_rest.file;
          };
          found = all-entries entries copies texts more (disk.seen content now.log.device) each zip
              (record {
                front = k.front;
                tail = closed_gate ∷ [];
                kept = k.kept;
                end = tt;
                split = k.at_rest.file;
              });
          left = λ file left. all-entries entries copies texts more file each zip
              (keeps-stands disk content (texts ++ more) now k file left);
          silent = wrote.uncalled kept.none;
        }

    some-kept : (entries copies : List MarkedCopy) (texts more : List (List ℕ)) (now : Keeper D)
        (given : List ℕ) → AllZip IsLoggedAs entries texts → AllZip IsLoggedAs copies more
        → KeepsTexts disk content texts start → SomeKept disk start now more given
        → WereGiven contents writer writer_after given
        → KeepsSome (at-hand now.log.device) entries copies
    some-kept entries copies texts more now given each zip keeps kept wrote = record {
      count = kept.count;
      fewer = omega (arith, kept.fewer, zip-length copies more zip);
      left = λ file left.
          ⊎_elim (λ s. inl (first-entries entries copies texts more kept.count file each zip s))
          (λ s. inr (first-entries entries copies texts more (kept.count + 1) file each zip s))
          (kept.left content texts keeps file left);
      log = given;
      spelled = subst (IsLog (drop kept.count copies)) (sym kept.rest)
          (log-of (drop kept.count copies) (drop kept.count more)
          (zip-drop kept.count copies more zip));
      written = wrote.written;
    }

    moments-so : (b : Bool) (more : List (List ℕ)) (now : Keeper D) (given : List ℕ)
        → HasKeptSo disk b start now more given → (texts : List (List ℕ))
        → KeepsTexts disk content texts start
        → LeavesOnly disk.moment (disk.left_since content) start.log.device now.log.device
        (StandsForFirst texts more)
    moments-so false more now given kept texts keeps = kept.any_moment content texts keeps
    moments-so true more now given kept texts keeps = kept.any_moment content texts keeps

    pub moments-of : (entries copies : List MarkedCopy) (texts more : List (List ℕ))
        (now : Keeper D) (given : List ℕ) → AllZip IsLoggedAs entries texts
        → AllZip IsLoggedAs copies more → KeepsTexts disk content texts start
        → HasKeptSo disk now.has_failed start now more given
        → LeavesAtAnyMoment (at-hand now.log.device) (λ file. (count : ℕ)
        × (count ≤ length copies) × StandsForEntries (entries ++ take count copies) file)
    moments-of entries copies texts more now given each zip keeps kept =
        weaker disk.moment (disk.left_since content) (disk.may_leave content) _
        (StandsForFirst texts more) start.log.device now.log.device
        (moments-so now.has_failed more now given kept texts keeps)
        (λ file s. inr (
          s.0,
          omega (arith, s.1, zip-length copies more zip),
          first-entries entries copies texts more s.0 file each zip s.2,
        ))

    pub answers-started : (printing : Printing) (file : List ℕ) (started : ℕ) (starts : Starts)
        (entries copies : List MarkedCopy) (texts more : List (List ℕ)) (now : Keeper D)
        (given : List ℕ) (stop : Stop)
        (lines : List (Option Line)) (outcome : Result WatchReport WatchFault)
        → AllZip IsLoggedAs entries texts → AllZip IsLoggedAs copies more
        → KeepsTexts disk content texts start
        → HasKeptSo disk now.has_failed start now more given
        → WereGiven contents writer writer_after given
        → HasWatchedOverBy (at-hand now.log.device) printing file started starts entries stop lines
        copies
        → (now.has_failed ≡ true → outcome ≡ Err fault.Disk)
        → (now.has_failed ≡ false → AllKept disk start now more given
        → AnswersStop (moments_at started starts) stop lines copies outcome)
        → AnswersOverBy (at-hand now.log.device) printing file started starts entries outcome
    answers-started printing file started starts entries copies texts more now given stop lines
        outcome each
        zip keeps kept wrote watched failed well =
        (stop, lines, copies, watched, so now.has_failed refl kept)
      where
        so : (b : Bool) → now.has_failed ≡ b → HasKeptSo disk b start now more given
            → (KeepsAll (at-hand now.log.device) entries copies
            × AnswersStop (moments_at started starts) stop lines copies outcome)
            ⊎ (KeepsSome (at-hand now.log.device) entries copies × (outcome ≡ Err fault.Disk))
        so false is k =
            inl (all-kept entries copies texts more now given each zip keeps k wrote, well is k)
        so true is k =
            inr (some-kept entries copies texts more now given each zip keeps k wrote, failed is)

-- ---- why it answers so

module _ {D : Type 0} (disk : TellsOfDisk D) where
  pub cause-of : (start now : Keeper D) (more : List (List ℕ)) (given : List ℕ)
      (outcome : Result WatchReport WatchFault)
      → HasKeptSo disk now.has_failed start now more given
      → (now.has_failed ≡ true → outcome ≡ Err fault.Disk)
      → (now.has_failed ≡ false → AllKept disk start now more given
      → HasCause disk outcome start.log.device now.log.device)
      → HasCause disk outcome start.log.device now.log.device
  cause-of start now more given outcome kept failed well = so now.has_failed refl kept
    where
      so : (b : Bool) → now.has_failed ≡ b → HasKeptSo disk b start now more given
          → HasCause disk outcome start.log.device now.log.device
      so false is k = well is k
      so true is k =
          subst (λ o. HasCause disk o start.log.device now.log.device)
          (sym (failed is)) k.failed

  pub explained-of : (start now : Keeper D) (more : List (List ℕ)) (given : List ℕ)
      → HasKeptSo disk now.has_failed start now more given → (content : List ℕ)
      → disk.explains content now.log.device → disk.explains content start.log.device
  explained-of start now more given kept = so now.has_failed kept
    where
      so : (b : Bool) → HasKeptSo disk b start now more given → (content : List ℕ)
          → disk.explains content now.log.device → disk.explains content start.log.device
      so false k = k.explained
      so true k = k.explained

  pub within-of : (start now : Keeper D) (more : List (List ℕ)) (given : List ℕ)
      → HasKeptSo disk now.has_failed start now more given → (content : List ℕ)
      (texts : List (List ℕ)) → KeepsTexts disk content texts start
      → FailsWithin disk content start.log.device now.log.device
  within-of start now more given kept = so now.has_failed kept
    where
      so : (b : Bool) → HasKeptSo disk b start now more given → (content : List ℕ)
          (texts : List (List ℕ)) → KeepsTexts disk content texts start
          → FailsWithin disk content start.log.device now.log.device
      so false k content texts keeps = λ other. absurd (other k.well)
      so true k content texts keeps = λ other. k.within content texts keeps

-- ---- how a watch stopped

pub end-apart : at_end ≡ unread → ⊥
end-apart e = cc

pub back-apart : (line last given : ℕ) → back line last given ≡ unread → ⊥
back-apart line last given e = cc

pub unwritten-apart : unwritten ≡ unread → ⊥
unwritten-apart e = cc

-- before the first line
pub stands-first : {D C : Type 0} (kind : ReceiverKind C) (disk : TellsOfDisk D)
    (logging : LoggingOver D C) → PrintsLoggable kind.printing
    → (starts_by kind logging.listener).moment ≤ last_moment
    → HearsBy kind (starts_by kind logging.listener) logging.listener [] []
    → HasKept disk logging.keeper logging.keeper [] []
    → KeepsLines kind disk logging logging [] []
stands-first kind disk logging loggable range heard kept = record {
  loggable = loggable;
  first = range;
  in_range = All-nil IsLineInRange;
  force = refl;
  copies = [];
  heard = heard;
  texts = [];
  each = tt;
  kept = kept;
}

-- where a watch answers how it stopped, the disk isn't blamed
stop-cause : {D : Type 0} (disk : TellsOfDisk D) (old new : D)
    (first : StartMoments) (stop : Stop) (lines : List (Option Line)) (copies : List MarkedCopy)
    (outcome : Result WatchReport WatchFault) → AnswersStop first stop lines copies outcome
    → disk.faults new ≡ disk.faults old → HasCause disk outcome old new
stop-cause disk old new first stop lines copies (Ok report) h well = well
stop-cause disk old new first stop lines copies (Err fault.Read) h well = well
stop-cause disk old new first stop lines copies (Err fault.Memory) h well = well
stop-cause disk old new first stop lines copies (Err (fault.Damaged line byte)) h
    well = well
stop-cause disk old new first stop lines copies
    (Err (fault.Back line last given)) h well = well
stop-cause disk old new first at_end lines copies (Err fault.Open) h well =
    absurd h
stop-cause disk old new first (back l m n) lines copies (Err fault.Open) h well =
    absurd h
stop-cause disk old new first unread lines copies (Err fault.Open) h well =
    absurd h
stop-cause disk old new first unwritten lines copies (Err fault.Open) h well =
    absurd h
stop-cause disk old new first at_end lines copies (Err fault.Disk) h well =
    absurd h
stop-cause disk old new first (back l m n) lines copies (Err fault.Disk) h well =
    absurd h
stop-cause disk old new first unread lines copies (Err fault.Disk) h well =
    absurd h
stop-cause disk old new first unwritten lines copies (Err fault.Disk) h well =
    absurd h

-- From this start on the keeper was given the texts of these copies.
pub record KeepsOn {D C W : Type 0} (disk : TellsOfDisk D) (now : Keeper D)
    (copies : List MarkedCopy) (since : LoggingTo D C W)
    : Type 0 where
  pub texts : List (List ℕ)
  pub each : AllZip IsLoggedAs copies texts
  pub given : List ℕ
  pub kept : HasKept disk since.logging.keeper now texts given

-- where the end closed what stood open, from there on too
pub closed-on : {D C W : Type 0} {kind : ReceiverKind C} (laws : IsReceiver kind)
    (disk : TellsOfDisk D) (contents : W → Option (List ℕ))
    (starts : Starts) (since : LoggingTo D C W) (now : Keeper D) (writer : CountedDevice W)
    (lines : List Line) (copies : List MarkedCopy)
    → starts_by kind since.logging.listener ≡ starts
    → PrintAllToEndBy kind.printing starts (given_by lines) copies
    → HasClosed kind.printing disk contents (starts_by kind since.logging.listener)
    since.logging.keeper now since.writer writer lines
    → KeepsOn disk now copies since
closed-on {kind} laws disk contents starts since now writer lines copies is printed h = record {
  texts = h.texts;
  each = subst (λ l. AllZip IsLoggedAs l h.texts)
      (one-to_end_by kind.printing laws.printing starts (given_by lines) h.copies copies
      (subst (λ s. PrintAllToEndBy kind.printing s (given_by lines) h.copies) is h.printed)
      printed) h.each;
  given = h.kept.0;
  kept = h.kept.1;
}

-- and where it didn't
pub heard-on : {D C W : Type 0} {kind : ReceiverKind C} (laws : IsReceiver kind)
    (disk : TellsOfDisk D) (contents : W → Option (List ℕ))
    (starts : Starts) (since now : LoggingTo D C W) (keeper : Keeper D) (lines : List Line)
    (copies : List MarkedCopy)
    → starts_by kind since.logging.listener ≡ starts
    → PrintsInTurnBy kind.printing starts (given_by lines) copies
    → keeper ≡ now.logging.keeper → TakesLines kind disk contents since now lines
    → KeepsOn disk keeper copies since
heard-on {kind} laws disk contents starts since now keeper lines copies is printed same h = record {
  texts = h.1.texts;
  each = subst (λ l. AllZip IsLoggedAs l h.1.texts)
      (one-in_turn_by kind.printing laws.printing starts (given_by lines) h.1.copies copies
      (subst (λ s. PrintsInTurnBy kind.printing s (given_by lines) h.1.copies) is
      h.1.heard.in_turn) printed)
      h.1.each;
  given = h.0;
  kept = subst (λ k. HasKept disk since.logging.keeper k h.1.texts h.0) (sym same) h.1.kept;
}

-- what stood at the reads of a run that stands so now, and of which the copies were kept so
pub stamps-keep : {D C W N : Type 0} (kind : ReceiverKind C) (disk : TellsOfDisk D)
    (contents : W → Option (List ℕ)) (told : N → Option (List ℕ)) (old : ToldBefore)
    (first : StartMoments)
    (start now : LoggingTo D C W) (bytes : List ℕ) (keeper : Keeper D)
    (acting all : List Line) (copies : List MarkedCopy)
    (stamps : List (Stamp D (CountedDevice W) (CountedDevice N))) → all ≡ acting
    → ((since : LoggingTo D C W) → since.logging.listener ≡ start.logging.listener
    → TakesLines kind disk contents since now acting → KeepsOn disk keeper copies since)
    → StandsStamped (telling kind disk contents told old) first bytes stamps start now acting
    → All (WasRunning (telling kind disk contents told old) start first bytes
    (λ whole. (later : List Line) × (all ≡ acting_lines first whole ++ later))
    (KeepsOn disk keeper copies)) stamps
stamps-keep kind disk contents told old first start now bytes keeper acting all copies stamps is
    step h =
    says-too kind disk contents told old first start bytes
    (λ whole. (later : List Line) × (acting ≡ acting_lines first whole ++ later))
    (λ whole. (later : List Line) × (all ≡ acting_lines first whole ++ later))
    (λ since. TakesLines kind disk contents since now acting)
    (KeepsOn disk keeper copies) (λ at w. (w.behind.0, is ∙ w.behind.1)) step stamps h.at_reads

moments-since : {D : Type 0} (disk : TellsOfDisk D) (content : List ℕ) (start now : Keeper D)
    (before texts : List (List ℕ)) (given : List ℕ) → HasKept disk start now texts given
    → KeepsTexts disk content before start
    → LeavesOnly disk.moment (disk.left_since content) start.log.device now.log.device
    (StandsForFirst before (drop start.put texts))
moments-since disk content start now before texts given h keeps = so now.has_failed h.since
  where
    so : (b : Bool) → HasKeptSo disk b start now (drop start.put texts) given
        → LeavesOnly disk.moment (disk.left_since content) start.log.device now.log.device
        (StandsForFirst before (drop start.put texts))
    so false k = k.any_moment content before keeps
    so true k = k.any_moment content before keeps

-- whether the disk of a keeper had failed is whether a put had
had-failed : {D R W E : Type 0} (d : WatchDevices D R W E) (start now : Keeper D) (at : D)
    (texts : List (List ℕ)) (given : List ℕ)
    → d.disk ≡ start.log.device → at ≡ now.log.device
    → (failed : Bool) → HasKeptSo d.tells failed start now texts given → HadFailed d failed at
had-failed {D = D} d start now at texts given was is false k =
    ap d.tells.faults is ∙ k.well ∙ ap d.tells.faults (sym was)
had-failed {D = D} d start now at texts given was is true k =
    ap d.tells.faults is ∙ k.failed.once ∙ ap (λ (x : D). suc (d.tells.faults x)) (sym was)

-- what is printed of a beginning of some lines begins what is printed of all
pub printed-first : {printing : Printing} (laws : IsPrinting printing) (starts : Starts)
    (stop : Stop) (all whole later : List Line)
    (printed copies : List MarkedCopy) → all ≡ whole ++ later
    → PrintsInTurnBy printing starts (given_by whole) printed
    → PrintsUntilBy printing stop starts (given_by all) copies
    → (more : List MarkedCopy) × (copies ≡ printed ++ more)
printed-first {printing} laws starts stop all whole later printed copies is h k =
    let goes = later-some_by printing laws starts (given_by whole) (given_by later) printed h in
    let turn = subst (λ g. PrintsInTurnBy printing starts g (printed ++ goes.more))
    (sym (ap given_by is ∙ map-append given_of whole later)) goes.in_turn in
    so stop k goes.more turn
  where
    to-end : (more : List MarkedCopy) → PrintsInTurnBy printing starts (given_by all)
        (printed ++ more)
        → (p : PrintAllToEndBy printing starts (given_by all) copies)
        → (more : List MarkedCopy) × (copies ≡ printed ++ more)
    to-end more turn p = (
      more ++ flat_map (λ channel. map (marked channel) (p.closed channel)) (Zero ∷ One ∷ Two ∷ []),
      p.whole
          ∙ ap (λ l. l ++ flat_map (λ channel. map (marked channel) (p.closed channel))
          (Zero ∷ One ∷ Two ∷ [])) (one-in_turn_by printing laws starts (given_by all) p.ended
          (printed ++ more)
          p.in_turn turn)
          ∙ append_assoc printed more _,
    )

    so : (stop : Stop) → PrintsUntilBy printing stop starts (given_by all) copies
        → (more : List MarkedCopy) → PrintsInTurnBy printing starts (given_by all) (printed ++ more)
        → (more : List MarkedCopy) × (copies ≡ printed ++ more)
    so at_end p more turn = to-end more turn p
    so (back line last given) p more turn = to-end more turn p
    so unread p more turn =
        (more, one-in_turn_by printing laws starts (given_by all) copies (printed ++ more) p turn)
    so unwritten p more turn =
        (more, one-in_turn_by printing laws starts (given_by all) copies (printed ++ more) p turn)

module _ {D C R W E : Type 0} {kind : ReceiverKind C} (laws : IsReceiver kind)
    (disk : TellsOfDisk D) (logging : LoggingOver D C)
    (first : StartMoments)
    (remaining : R → Option (List ℕ)) (reader reader_after : CountedDevice R)
    (contents : W → Option (List ℕ)) (writer writer_after : CountedDevice W)
    (told : E → Option (List ℕ)) (notices notices_after : CountedDevice E) (cut : List ℕ)
    (stamps : List (Stamp D (CountedDevice W) (CountedDevice E)))
  where
    -- what was told before the first line
    abbrev before : ToldBefore
    before = record { old = told notices.inner; text = cut }

    -- A run stopped so: its lines print these copies, of which it gave the texts to its keeper, and
    -- this is the keeper that it left.
    pub record HasStopped (stop : Stop) (now : Keeper D) : Type 0 where
      pub lines : List (Option Line)
      pub copies : List MarkedCopy
      pub texts : List (List ℕ)
      pub given : List ℕ
      pub bytes : List ℕ
      pub each : AllZip IsLoggedAs copies texts
      pub kept : HasKept disk logging.keeper now texts given
      pub wrote : WereGiven contents writer writer_after given
      pub consumed : Consumes (remaining reader.inner) (remaining reader_after.inner) bytes
      pub within : length bytes ≤ most_bytes
      pub reads : AreTheReads stamps (length bytes)
      pub last_read : EndsAtRead stop (length bytes) stamps
      pub read : HasRead (IsAtEnd (remaining reader_after.inner) ⊎ (length bytes ≡ most_bytes))
          first stop bytes lines
      pub printed : PrintsUntilBy kind.printing stop (starts_by kind logging.listener)
          (given_by (acting_lines first lines)) copies
      pub failed_read : (stop ≡ unread) ↔ (reader_after.failures ≡ 1)
      pub failed_write : FailsWrites stop writer_after.failures
      pub stamped : All (WasRunning (telling kind disk contents told before)
          (logging_to logging writer) first bytes
          (λ whole. (later : List Line)
          × (acting_lines first lines ≡ acting_lines first whole ++ later))
          (KeepsOn disk now copies)) stamps
      pub said : HasToldSo before (told notices_after.inner) notices_after.failures
          (IsToldAtEnd first bytes lines now.has_failed)

    abbrev at-hand-with : D → List ℕ → WatchDevices D R W E
    at-hand-with device content =
        record {
          tells = disk;
          start = content;
          disk = logging.keeper.log.device;
          disk_after = device;
          streams = devices remaining contents reader reader_after writer writer_after;
          told = told;
          notices = notices;
          notices_after = notices_after;
          stamps = stamps;
        }

    -- what stood at a read
    stood-at : (stop : Stop) (now : Keeper D) (h : HasStopped stop now)
        → first ≡ moments_at first.started (starts_by kind logging.listener) → logging.keeper.put ≡
        0
        → (content file : List ℕ) (entries : List MarkedCopy) (texts : List (List ℕ))
        → TellsOfCut file cut
        → AllZip IsLoggedAs entries texts → KeepsTexts disk content texts logging.keeper
        → (at : Stamp D (CountedDevice W) (CountedDevice E))
        → WasRunning (telling kind disk contents told before)
        (logging_to logging writer) first h.bytes
        (λ whole. (later : List Line)
        × (acting_lines first h.lines ≡ acting_lines first whole ++ later))
        (KeepsOn disk now h.copies) at
        → StoodOverBy (at-hand-with now.log.device content) kind.printing file first.started
        (starts_by kind logging.listener) entries h.bytes h.copies at
    stood-at stop now h is none content file entries texts is_cut each keeps at w = record {
      within = w.within;
      lines = w.lines;
      rest = w.rest;
      whole = w.whole;
      on = subst (λ f. goes_on f w.lines ≡ true) is w.on;
      printed = printed;
      prints = subst (λ f. PrintsInTurnBy kind.printing (starts_by kind logging.listener)
          (given_by (acting_lines f w.lines)) printed) is w.stood.1.heard.in_turn;
      kept = kept-at w.past.keeper.has_failed refl
          (all-new disk logging.keeper w.past.keeper w.stood.1.texts w.stood.0 none w.stood.1.kept);
      told = (
        w.past.keeper.has_failed,
        had-failed (at-hand-with now.log.device content) logging.keeper w.past.keeper at.disk
            w.stood.1.texts w.stood.0 refl w.device w.past.keeper.has_failed
            (all-new disk logging.keeper w.past.keeper w.stood.1.texts w.stood.0 none
            w.stood.1.kept),
        w.told.0,
        subst (λ f. IsToldByRead f (take at.read h.bytes) w.lines w.past.keeper.has_failed w.told.0)
            is w.told.1,
        (cut, is_cut, w.told.2),
      );
    }
      where
        printed : List MarkedCopy
        printed = w.stood.1.copies

        size : length printed ≡ length w.stood.1.texts
        size = zip-length printed w.stood.1.texts w.stood.1.each

        goes : (more : List MarkedCopy) × (h.copies ≡ printed ++ more)
        goes = printed-first laws.printing (starts_by kind logging.listener) stop
            (acting_lines first h.lines)
            (acting_lines first w.lines) w.behind.0 printed h.copies w.behind.1
            w.stood.1.heard.in_turn h.printed

        left-at : w.past.keeper.has_failed ≡ false
            → KeepsTexts disk content (texts ++ w.stood.1.texts) w.past.keeper → (file : List ℕ)
            → disk.left_since content now.log.device (disk.moment at.disk) file
            → (count : ℕ) × (length printed ≤ count) × (count ≤ length h.copies)
            × StandsForEntries (entries ++ take count h.copies) file
        left-at well keeps file left =
            let on = w.went_on well in
            let n = length w.stood.1.texts in
            let start = keeper_since w.past.keeper n in
            let moments = moments-since disk content start now (texts ++ w.stood.1.texts) on.texts
            on.given on.kept keeps in
            let s = moments.each file (subst (λ (d : D). disk.left_since content now.log.device
            (disk.moment d) file) w.device left) in
            let all = zip-length h.copies on.texts on.each in
            let more = goes.0 in
            let cut : drop n h.copies ≡ more =
            ap (drop n) goes.1 ∙ drop_at printed more n size in
            let first_more : take (n + s.0) h.copies ≡ printed ++ take s.0 more =
            ap (take (n + s.0)) goes.1 ∙ take-append-more n s.0 printed more size in (
              n + s.0,
              omega (arith, size),
              omega (arith, s.1, all, length-drop n on.texts, on.kept.before),
              record {
                texts = (texts ++ w.stood.1.texts) ++ take s.0 (drop n on.texts);
                each = subst (λ l. AllZip IsLoggedAs l
                    ((texts ++ w.stood.1.texts) ++ take s.0 (drop n on.texts)))
                    (append_assoc entries printed (take s.0 more)
                    ∙ ap (λ l. entries ++ l) (sym first_more))
                    (zip-append (entries ++ printed) (take s.0 more) (texts ++ w.stood.1.texts)
                    (take s.0 (drop n on.texts))
                    (zip-append entries printed texts w.stood.1.texts each w.stood.1.each)
                    (zip-take s.0 more (drop n on.texts)
                    (subst (λ l. AllZip IsLoggedAs l (drop n on.texts)) cut
                    (zip-drop n h.copies on.texts on.each))));
                stands = s.2;
              },
            )

        appends : HasTold (contents writer.inner) (contents at.writer.inner) at.writer.failures
            w.stood.0
            → Appends (contents writer.inner) (contents at.writer.inner) w.stood.0
        appends (inl t) = t.1
        appends (inr t) = absurd (omega (arith, w.well, t.0))

        kept-at : (b : Bool) → w.past.keeper.has_failed ≡ b
            → HasKeptSo disk b logging.keeper w.past.keeper w.stood.1.texts w.stood.0
            → HadKept (at-hand-with now.log.device content) entries printed h.copies at
            ⊎ HadWritten (at-hand-with now.log.device content) printed at
        kept-at false well k = inl (record {
          well = ap disk.faults w.device ∙ k.well;
          silent = w.stood.2.uncalled k.none;
          left = left-at well (k.kept content texts keeps);
        })
        kept-at true failed k = inr (record {
          failed = ap disk.faults w.device ∙ k.failed.once;
          count = k.count;
          fewer = omega (arith, k.fewer, size);
          log = w.stood.0;
          spelled = subst (IsLog (drop k.count printed)) (sym k.rest)
              (log-of (drop k.count printed) (drop k.count w.stood.1.texts)
              (zip-drop k.count printed w.stood.1.texts w.stood.1.each));
          written = appends w.stood.2.written;
          well = w.well;
        })

    answers-stopped : (stop : Stop) (now : Keeper D) (h : HasStopped stop now)
        (outcome : Result WatchReport WatchFault)
        → first ≡ moments_at first.started (starts_by kind logging.listener)
        → logging.keeper.put ≡ 0
        → (now.has_failed ≡ true → outcome ≡ Err fault.Disk)
        → (now.has_failed ≡ false → AllKept disk logging.keeper now h.texts h.given
        → AnswersStop first stop h.lines h.copies outcome)
        → (content file : List ℕ) (entries : List MarkedCopy) (texts : List (List ℕ))
        → TellsOfCut file cut
        → AllZip IsLoggedAs entries texts → KeepsTexts disk content texts logging.keeper
        → AnswersOverBy (at-hand-with now.log.device content) kind.printing file first.started
        (starts_by kind logging.listener) entries outcome
    answers-stopped stop now h outcome is none failed well content file entries texts is_cut each
        keeps =
        let so = all-new disk logging.keeper now h.texts h.given none h.kept in
        answers-started disk content logging.keeper remaining reader reader_after contents writer
        writer_after told notices notices_after stamps kind.printing file first.started
        (starts_by kind logging.listener) entries h.copies
        texts h.texts now h.given stop h.lines outcome each h.each keeps so h.wrote (record {
          bytes = h.bytes;
          consumed = h.consumed;
          within = h.within;
          stamps = h.reads;
          last_read = h.last_read;
          read = subst (λ f. HasRead (IsAtEnd (remaining reader_after.inner)
              ⊎ (length h.bytes ≡ most_bytes)) f stop h.bytes h.lines) is h.read;
          printed = subst (λ f. PrintsUntilBy kind.printing stop (starts_by kind logging.listener)
              (given_by (acting_lines f h.lines)) h.copies) is h.printed;
          any_moment = moments-of disk content logging.keeper remaining reader reader_after contents
              writer writer_after told notices notices_after stamps entries h.copies texts h.texts
              now h.given each h.each keeps so;
          before_each_read = All-weaker _ _ (λ at w. stood-at stop now h is none content file
              entries texts is_cut each keeps at w) stamps h.stamped;
          failed_read = h.failed_read;
          failed_write = h.failed_write;
          notices_told = (
            now.has_failed,
            had-failed (at-hand-with now.log.device content) logging.keeper now now.log.device
                h.texts h.given refl refl now.has_failed so,
            h.said.0,
            subst (λ f. IsToldAtEnd f h.bytes h.lines now.has_failed h.said.0) is h.said.1,
            (cut, is_cut, h.said.2),
          );
        }) failed
        (λ w all. subst (λ f. AnswersStop f stop h.lines h.copies outcome) is (well w all))

    start-is : first.newest ≡ (starts_by kind logging.listener).moment
        → first ≡ moments_at first.started (starts_by kind logging.listener)
    start-is is = ap (λ (n : ℕ). record { newest = n; started = first.started }) is

    -- what such a run answers, whose device is that of its keeper
    pub has-run : (stop : Stop) (now : Keeper D) (h : HasStopped stop now)
        (outcome : Result WatchReport WatchFault) (device : D)
        → first.newest ≡ (starts_by kind logging.listener).moment → logging.keeper.put ≡ 0
        → device ≡ now.log.device
        → (now.has_failed ≡ true → outcome ≡ Err fault.Disk)
        → (now.has_failed ≡ false → AllKept disk logging.keeper now h.texts h.given
        → AnswersStop first stop h.lines h.copies outcome)
        → HasRun kind disk first.started cut logging (at-hand-with device) outcome device
    has-run stop now h outcome device is none same failed well =
        let so = all-new disk logging.keeper now h.texts h.given none h.kept in
        subst (λ (d : D). HasRun kind disk first.started cut logging (at-hand-with d) outcome d)
        (sym same)
        (record {
          answers = answers-stopped stop now h outcome (start-is is) none failed well;
          cause = cause-of disk logging.keeper now h.texts h.given outcome so failed
              (λ w all. stop-cause disk logging.keeper.log.device
              now.log.device first stop h.lines h.copies outcome (well w all) all.well);
          within = within-of disk logging.keeper now h.texts h.given so;
          explained = explained-of disk logging.keeper now h.texts h.given so;
        })

-- one that kept nothing yet had no put that failed
pub none-yet-failed : {D : Type 0} (disk : TellsOfDisk D) (keeper : Keeper D)
    → HasKept disk keeper keeper [] [] → keeper.has_failed ≡ false
none-yet-failed disk keeper h = so keeper.has_failed refl h.since
  where
    so : (b : Bool) → keeper.has_failed ≡ b
        → HasKeptSo disk b keeper keeper (drop keeper.put []) [] → keeper.has_failed ≡ false
    so false is k = is
    so true is k = absurd (omega (arith, k.fewer, length-drop {A = List ℕ} keeper.put []))

-- a writer whose write failed was given bytes, so not all was kept
pub wrote-some : {D W : Type 0} {disk : TellsOfDisk D} {contents : W → Option (List ℕ)}
    (start now : Keeper D) (more : List (List ℕ)) (given : List ℕ) (before after : CountedDevice W)
    → before.failures ≡ 0 → after.failures ≡ 1 → WereGiven contents before after given
    → AllKept disk start now more given → ⊥
wrote-some start now more given before after none one wrote all =
    omega (arith, none, one, ap (λ w. w.failures) (wrote.uncalled all.none))
