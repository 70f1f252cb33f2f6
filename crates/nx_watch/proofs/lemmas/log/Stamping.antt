-- What stood at the reads of a run, and how the run went on from there.
use Rattle.std.proofs.Common.{◌≡◌, ◌⊎◌, inl, inr, ℕ, ◌+◌, ◌≤◌, true, false, List, [], ◌∷◌, ◌++◌, length, take, drop}
use Rattle.std.proofs.Common.{nat_le, Option, Some, None, refl, sym, ap, ◌∙◌, subst, append_assoc, append-nil, arith}
use Rattle.std.proofs.Common.{length-append, option_to_list, cond}
use Rattle.std.specs.List.{All, AllZip, flat_map}
use Rattle.std.proofs.lemmas.List.{take_all, take_at, take-append-drop, take-append-le}
use Rattle.std.proofs.lemmas.List.Elements.{All-cons, All-weaker}
use Rattle.nx_envelope.specs.Moment.{last_moment}
use Rattle.nx_fec.specs.air_files.AirFile.{Line, moment, elements, refuse_station, accept_station}
use Rattle.nx_fec.specs.air_files.AirFile.{refuse_subject, accept_subject}
use Rattle.nx_fec.specs.Transfers.{CountedDevice, max_piece}
use Rattle.nx_fec.proofs.lemmas.lines.LineLaws.{first_feed}
use Rattle.nx_kept.specs.declared.disk.DiskFile.{Ghosts as TellsOfDisk}
use Rattle.nx_receiver.specs.ChannelReceiver.{ReceiverKind}
use Rattle.nx_watch.specs.Acting.{acting_behind, acting_lines, acts, moment_said, moments_behind}
use Rattle.nx_watch.specs.Acting.{with_start}
use Rattle.nx_watch.specs.AnyLines.{AreLines, Says, ended}
use Rattle.nx_watch.specs.private.LineRun.{HasTaken}
use Rattle.nx_watch.specs.Stamp.{AreTheReads, LastGaveNone, Stamp, stamp}
use Rattle.nx_watch.specs.declared.lines.line_effects.LineEffects.{LineEffects}
use Rattle.nx_watch.specs.declared.lines.line_effects.StartMoments.{StartMoments}
use Rattle.nx_watch.specs.declared.line_run.LineRun.{LineRun}
use Rattle.nx_watch.specs.declared.line_run.WatchEnd.{WatchEnd}
use Rattle.nx_watch.specs.declared.line_run.WatchEnd.TheVariants.{Read, Back, Write}
use Rattle.nx_watch.specs.private.LoggingListener.{LoggingOver, LoggingTo, TakesLines, logging_to}
use Rattle.nx_watch.specs.LinesTold.{IsToldByRead}
use Rattle.nx_watch.specs.private.Running.{EndsRun, HasToldSo, IsBeside, IsRunning, ToldBefore}
use Rattle.nx_watch.specs.private.Running.{ToldBeside}
use Rattle.nx_watch.specs.private.Stamping.{RunsStamped, StandsStamped, WasRunning, logging_since, telling}
use Rattle.nx_watch.proofs.lemmas.lines.Law.{regroup, says-no_end, says-one}
use Rattle.nx_watch.proofs.lemmas.lines.Run.{acting-idle, ends-idle, nothing}
use Rattle.nx_watch.proofs.lemmas.lines.Scanning.{Parts-lines, parts}
use Rattle.nx_watch.proofs.lemmas.lines.Told.{by-read}
use Rattle.nx_watch.proofs.lemmas.log.Keeping.{kept-since}

-- ---- the stamps are the reads

module _ {D W N : Type 0} (old new : List (Stamp D W N)) (read : ℕ) where
  -- with one more, which stands where those before it end
  pub reads-on : (gave total : ℕ) (disk : D) (writer : W) (notices : N)
      → new ≡ stamp read gave disk writer notices ∷ old → total ≡ read + gave → gave ≤ max_piece
      → AreTheReads old read → AreTheReads new total
  reads-on gave total disk writer notices made is few reads =
      subst (λ s. AreTheReads s total) (sym made) (is, few, reads)

  -- one that gave nothing
  pub gave-none : (disk : D) (writer : W) (notices : N)
      → new ≡ stamp read 0 disk writer notices ∷ old → LastGaveNone new
  gave-none disk writer notices made = subst LastGaveNone (sym made) refl

-- of as many bytes as were given
pub reads-all : {D W N : Type 0} (stamps : List (Stamp D W N)) (total given : ℕ) → total ≡ given
    → AreTheReads stamps given → AreTheReads stamps total
reads-all stamps total given is reads = subst (AreTheReads stamps) (sym is) reads

pub ends-so : {D W N : Type 0} (stamps : List (Stamp D W N)) (total given limit : ℕ)
    → total ≡ given → LastGaveNone stamps ⊎ (given ≡ limit)
    → LastGaveNone stamps ⊎ (total ≡ limit)
ends-so stamps total given limit is (inl none) = inl none
ends-so stamps total given limit is (inr all) = inr (is ∙ all)

-- ---- the lines of a beginning of bytes

reading-first : (t1 t2 : List (List ℕ)) (l1 l2 : List (Option Line)) (r1 r2 : List ℕ)
    → AllZip Says t1 l1 → AllZip Says t2 l2 → length l1 ≤ length l2
    → flat_map ended t1 ++ r1 ≡ flat_map ended t2 ++ r2
    → (more : List (Option Line)) × (l2 ≡ l1 ++ more)
reading-first [] t2 [] l2 r1 r2 s1 s2 few e = (l2, refl)
reading-first [] t2 (a ∷ l1) l2 r1 r2 s1 s2 few e = absurd s1
reading-first (t ∷ t1) t2 [] l2 r1 r2 s1 s2 few e = absurd s1
reading-first (t ∷ t1) t2 (a ∷ l1) [] r1 r2 s1 s2 few e = absurd (omega (arith, few))
reading-first (t ∷ t1) [] (a ∷ l1) (b ∷ l2) r1 r2 s1 s2 few e = absurd s2
reading-first (t ∷ t1) (u ∷ t2) (a ∷ l1) (b ∷ l2) r1 r2 s1 s2 few e =
    let parts = first_feed t u (flat_map ended t1 ++ r1) (flat_map ended t2 ++ r2)
    (says-no_end t a s1.0) (says-no_end u b s2.0) (sym (regroup t t1 r1) ∙ e ∙ regroup u t2 r2) in
    let heads : a ≡ b = says-one u a b (subst (λ l. Says l a) parts.0 s1.0) s2.0 in
    let r = reading-first t1 t2 l1 l2 r1 r2 s1.1 s2.1 (omega (arith, few)) parts.1 in
    (r.0, cc (r.1, heads))

-- of two beginnings of bytes, the lines of the one with fewer begin those of the other
pub lines-first : (a b x y : List ℕ) (l m : List (Option Line)) (r s : List ℕ)
    → AreLines a l r → AreLines b m s → a ++ x ≡ b ++ y → length l ≤ length m
    → (more : List (Option Line)) × (m ≡ l ++ more)
lines-first a b x y l m r s h k e few =
    reading-first h.texts k.texts l m (r ++ x) (s ++ y) h.each k.each few
    (sym (append_assoc (flat_map ended h.texts) r x) ∙ ap (λ w. w ++ x) (sym h.whole) ∙ e
    ∙ ap (λ w. w ++ y) k.whole ∙ append_assoc (flat_map ended k.texts) s y)

-- as many lines are the same
pub lines-same : (a b x y : List ℕ) (l m : List (Option Line)) (r s : List ℕ)
    → AreLines a l r → AreLines b m s → a ++ x ≡ b ++ y → length l ≡ length m → l ≡ m
lines-same a b x y l m r s h k e same =
    let first = lines-first a b x y l m r s h k e (omega (arith, same)) in
    sym (first.1 ∙ ap (λ w. l ++ w) (none first.0 (omega (
      arith,
      same,
      ap length first.1,
      length-append l first.0,
    ))) ∙ append-nil l)
  where
    none : (more : List (Option Line)) → length more ≡ 0 → more ≡ []
    none [] e = refl
    none (x ∷ more) e = absurd (omega (arith, e))

acting-more : (first : ℕ) (moments : List ℕ) (lines more : List (Option Line))
    → (later : List Line)
    × (acting_behind first moments (lines ++ more) ≡ acting_behind first moments lines ++ later)
acting-more first moments [] more = (acting_behind first moments more, refl)
acting-more first moments (line ∷ lines) more =
    let head = cond (acts first moments line) (option_to_list line) [] in
    let rest = acting-more first (moments ++ moment_said line) lines more in (
      rest.0,
      ap (λ l. head ++ l) rest.1
          ∙ sym (append_assoc head (acting_behind first (moments ++ moment_said line) lines)
          rest.0),
    )

-- the lines with the one that is set begin those of more lines
start-more : (start : StartMoments) (lines more : List (Option Line))
    → (later : List (Option Line))
    × (with_start start (lines ++ more) ≡ with_start start lines ++ later)
start-more start [] more = (with_start start more, refl)
start-more start (None ∷ lines) more =
    let rest = start-more start lines more in (rest.0, ap (λ l. None ∷ l) rest.1)
start-more start (Some (moment n) ∷ lines) more =
    let rest = start-more start lines more in
    elim (nat_le n last_moment) as (λ b. (later : List (Option Line))
    × (Some (moment n) ∷ cond b (lines ++ more) (with_start start (lines ++ more))
    ≡ (Some (moment n) ∷ cond b lines (with_start start lines)) ++ later)) [
      | true ↦ (more, refl)
      | false ↦ (rest.0, ap (λ l. Some (moment n) ∷ l) rest.1)
    ]
start-more start (Some (elements mark bits) ∷ lines) more = (more, refl)
start-more start (Some (refuse_station mark letter) ∷ lines) more =
    let rest = start-more start lines more in
    (rest.0, ap (λ l. Some (refuse_station mark letter) ∷ l) rest.1)
start-more start (Some (accept_station mark letter) ∷ lines) more =
    let rest = start-more start lines more in
    (rest.0, ap (λ l. Some (accept_station mark letter) ∷ l) rest.1)
start-more start (Some (refuse_subject mark letter) ∷ lines) more =
    let rest = start-more start lines more in
    (rest.0, ap (λ l. Some (refuse_subject mark letter) ∷ l) rest.1)
start-more start (Some (accept_subject mark letter) ∷ lines) more =
    let rest = start-more start lines more in
    (rest.0, ap (λ l. Some (accept_subject mark letter) ∷ l) rest.1)

-- what acts of the first lines begins what acts of all
pub acting-first : (first : StartMoments) (lines more all : List (Option Line))
    → all ≡ lines ++ more
    → (later : List Line) × (acting_lines first all ≡ acting_lines first lines ++ later)
acting-first first lines more all is =
    let set = start-more first lines more in
    let h = acting-more first.newest [] (with_start first lines) set.0 in
    (h.0, ap (acting_lines first) is ∙ ap (acting_behind first.newest []) set.1 ∙ h.1)

-- without the same last one
cut-last : (a b : List (Option Line)) (x : Option Line) → a ++ x ∷ [] ≡ b ++ x ∷ [] → a ≡ b
cut-last a b x e =
    let size : length a ≡ length b =
    omega (arith, ap length e, length-append a (x ∷ []), length-append b (x ∷ [])) in
    sym (take_at a (x ∷ []) (length a) refl) ∙ ap (take (length a)) e
    ∙ take_at b (x ∷ []) (length a) (sym size)

-- ---- what stood at the reads

module _ {D C W N : Type 0} (kind : ReceiverKind C) (disk : TellsOfDisk D)
    (contents : W → Option (List ℕ)) (told : N → Option (List ℕ)) (old : ToldBefore)
    (first : StartMoments) (start : LoggingTo D C W)
  where
    abbrev AStamp : Type 0
    AStamp = Stamp D (CountedDevice W) (CountedDevice N)

    abbrev Stands : LoggingTo D C W → LoggingTo D C W
        → List Line → Type 0
    Stands = TakesLines kind disk contents

    abbrev pub Was : List ℕ → (List (Option Line) → Type 0)
        → (LoggingTo D C W → Type 0) → AStamp → Type 0
    Was = WasRunning (telling kind disk contents told old) start first

    -- at most so many lines
    abbrev pub AtMost : ℕ → List (Option Line) → Type 0
    AtMost most lines = length lines ≤ most

    -- those of these lines that act begin these
    abbrev pub Begin : List Line → List (Option Line) → Type 0
    Begin all lines = (later : List Line) × (all ≡ acting_lines first lines ++ later)

    -- the start of a run is that of one that began at a read
    abbrev pub IsSince : LoggingTo D C W → Type 0
    IsSince since = since.logging.listener ≡ start.logging.listener

    -- what it had taken by then is behind it
    stands-since : (now : LoggingOver D C) (writer : CountedDevice W) (lines : List Line)
        → now.keeper.has_failed ≡ false → writer.failures ≡ 0
        → ((content file : List ℕ)
        → disk.left_since content now.keeper.log.device (disk.moment now.keeper.log.device) file
        → disk.may_leave content now.keeper.log.device file)
        → (s : Stands start (logging_to now writer) lines)
        → Stands (logging_to (logging_since start.logging now (length s.1.texts)) writer)
        (logging_to now writer) lines
    stands-since now writer lines well none only_now s = (
      [],
      record {
        loggable = s.1.loggable;
        first = s.1.first;
        in_range = s.1.in_range;
        force = s.1.force;
        copies = s.1.copies;
        heard = s.1.heard;
        texts = s.1.texts;
        each = s.1.each;
        kept = kept-since disk start.logging.keeper now.keeper s.1.texts s.0 well only_now s.1.kept;
      },
      record {
        written = inl (none, nothing (contents writer.inner));
        uncalled = λ e. refl;
      },
    )

    -- the run, as it stands where it asks for more
    pub stamp-now : (now : LoggingOver D C) (writer : CountedDevice W)
        (notices : CountedDevice N) (run : LineRun) (beside : ToldBeside) (bytes : List ℕ)
        (read gave : ℕ)
        → IsBeside old now.keeper.has_failed beside → read ≡ length bytes → writer.failures ≡ 0
        → ((content file : List ℕ)
        → disk.left_since content now.keeper.log.device (disk.moment now.keeper.log.device) file
        → disk.may_leave content now.keeper.log.device file)
        → IsRunning Stands start (logging_to now writer) first run beside (told notices.inner)
        notices.failures bytes
        → Was bytes (λ lines. length lines ≤ run.effects.lines)
        (λ since. IsRunning Stands since (logging_to now writer) first run beside
        (told notices.inner) notices.failures bytes)
        (stamp read gave now.keeper.log.device writer notices)
    stamp-now now writer notices run beside bytes read gave sides is none only_now h = record {
      within = omega (arith, is);
      lines = h.lines;
      rest = run.lines.scanner.scanner.part ++ h.scans.passed;
      whole = subst (λ l. AreLines l h.lines (run.lines.scanner.scanner.part ++ h.scans.passed))
          (sym (take_all read bytes (omega (arith, is))))
          (Parts-lines run.lines.scanner bytes h.lines h.scans.passed
          (parts run.lines.scanner bytes h.lines h.scans));
      behind = omega (arith, (h.tells []).kept_so.counted);
      past = now;
      device = refl;
      on = h.taken.on;
      stood = h.taken.stood;
      told = subst (λ b. HasToldSo old (told notices.inner) notices.failures
          (IsToldByRead first b h.lines now.keeper.has_failed))
          (append-nil bytes ∙ sym (take_all read bytes (omega (arith, is))))
          (by-read first run.effects old beside now.keeper.has_failed (told notices.inner)
          notices.failures (bytes ++ []) h.lines sides (h.tells []));
      well = none;
      went_on = λ well. record {
        lines = h.lines;
        scans = h.scans;
        taken = record {
          on = h.taken.on;
          stood = stands-since now writer _ well none only_now h.taken.stood;
        };
        tells = h.tells;
      };
    }

    -- with more bytes the run went on from there
    pub later-bytes : (bytes piece : List ℕ) (Behind Later : List (Option Line) → Type 0)
        (Then Now : LoggingTo D C W → Type 0)
        → ((lines : List (Option Line)) → Behind lines → Later lines)
        → ((since : LoggingTo D C W) → IsSince since → Then since → Now since)
        → (stamps : List AStamp) → All (Was bytes Behind Then) stamps
        → All (Was (bytes ++ piece) Later Now) stamps
    later-bytes bytes piece Behind Later Then Now behind step stamps all =
        All-weaker (Was bytes Behind Then) (Was (bytes ++ piece) Later Now) one stamps all
      where
        one : (at : AStamp) → Was bytes Behind Then at → Was (bytes ++ piece) Later Now at
        one at h = record {
          within = omega (arith, h.within, length-append bytes piece);
          lines = h.lines;
          rest = h.rest;
          whole = subst (λ l. AreLines l h.lines h.rest) (sym (take-append-le at.read bytes piece
              h.within)) h.whole;
          behind = behind h.lines h.behind;
          past = h.past;
          device = h.device;
          on = h.on;
          stood = h.stood;
          told = subst (λ b. HasToldSo old (told at.notices.inner) at.notices.failures
              (IsToldByRead first b h.lines h.past.keeper.has_failed))
              (sym (take-append-le at.read bytes piece h.within)) h.told;
          well = h.well;
          went_on = λ well. step _ refl (h.went_on well);
        }

    -- of the same bytes it says this too
    pub says-too : (bytes : List ℕ) (Behind Later : List (Option Line) → Type 0)
        (Then Now : LoggingTo D C W → Type 0)
        → ((at : AStamp) → (h : Was bytes Behind Then at) → Later h.lines)
        → ((since : LoggingTo D C W) → IsSince since → Then since → Now since)
        → (stamps : List AStamp) → All (Was bytes Behind Then) stamps
        → All (Was bytes Later Now) stamps
    says-too bytes Behind Later Then Now later step stamps all =
        All-weaker (Was bytes Behind Then) (Was bytes Later Now) one stamps all
      where
        one : (at : AStamp) → Was bytes Behind Then at → Was bytes Later Now at
        one at h = record {
          within = h.within;
          lines = h.lines;
          rest = h.rest;
          whole = h.whole;
          behind = later at h;
          past = h.past;
          device = h.device;
          on = h.on;
          stood = h.stood;
          told = h.told;
          well = h.well;
          went_on = λ well. step _ refl (h.went_on well);
        }

    -- at one read more this stood too
    pub stamped-now : (bytes : List ℕ) (Behind : List (Option Line) → Type 0)
        (Then : LoggingTo D C W → Type 0) (at : AStamp)
        (stamps made : List AStamp) → made ≡ at ∷ stamps → Was bytes Behind Then at
        → All (Was bytes Behind Then) stamps → All (Was bytes Behind Then) made
    stamped-now bytes Behind Then at stamps made is now all =
        subst (All (Was bytes Behind Then)) (sym is)
        (All-cons (Was bytes Behind Then) at stamps now all)

    -- the lines at a read begin those of a run that went on to these
    begins : (bytes front more : List ℕ) (all : List (Option Line)) (rest : List ℕ) (most : ℕ)
        (Then : LoggingTo D C W → Type 0) → AreLines front all rest
        → bytes ≡ front ++ more → most ≡ length all
        → (at : AStamp) → (h : Was bytes (AtMost most) Then at)
        → Begin (acting_lines first all) h.lines
    begins bytes front more all rest most Then are whole count at h =
        let longer = lines-first (take at.read bytes) front (drop at.read bytes) more h.lines all
        h.rest rest h.whole are (take-append-drop at.read bytes ∙ whole)
        (omega (arith, h.behind, count)) in
        acting-first first h.lines longer.0 all longer.1

    -- the input ended, or the limit was reached
    pub running-stamped : (now : LoggingTo D C W) (run : LineRun)
        (beside : ToldBeside) (new : Option (List ℕ)) (failures : ℕ) (bytes : List ℕ)
        (stamps : List AStamp)
        → (h : RunsStamped (telling kind disk contents told old) first bytes run.effects.lines start
        (λ since. IsRunning Stands since now first run beside new failures bytes) stamps)
        → HasTaken (StandsStamped (telling kind disk contents told old) first bytes stamps) start
        now
        first h.from_start.lines
    running-stamped now run beside new failures bytes stamps h =
        let s = h.from_start in
        let are = lines-of start s in record {
          on = s.taken.on;
          stood = record {
            stands = s.taken.stood;
            at_reads = says-too bytes (AtMost run.effects.lines)
                (Begin (acting_lines first s.lines))
                (λ since. IsRunning Stands since now first run beside new failures bytes)
                (λ since. Stands since now (acting_lines first s.lines))
                (begins bytes bytes [] s.lines (run.lines.scanner.scanner.part ++ s.scans.passed)
                run.effects.lines
                (λ since. IsRunning Stands since now first run beside new failures bytes) are
                (sym (append-nil bytes)) (s.tells []).kept_so.counted)
                (λ since is k. subst (λ l. Stands since now (acting_lines first l))
                (lines-same bytes bytes [] [] k.lines s.lines
                (run.lines.scanner.scanner.part ++ k.scans.passed)
                (run.lines.scanner.scanner.part ++ s.scans.passed) (lines-of since k) are refl
                (sym (k.tells []).kept_so.counted ∙ (s.tells []).kept_so.counted)) k.taken.stood)
                stamps h.from_reads;
          };
        }
      where
        lines-of : (s : LoggingTo D C W)
            → (k : IsRunning Stands s now first run beside new failures bytes)
            → AreLines bytes k.lines (run.lines.scanner.scanner.part ++ k.scans.passed)
        lines-of s k = Parts-lines run.lines.scanner bytes k.lines k.scans.passed
            (parts run.lines.scanner bytes k.lines k.scans)

    -- the run was over before
    pub ends-stamped : (now : LoggingTo D C W) (kept : LineEffects)
        (beside : ToldBeside) (new : Option (List ℕ)) (failures : ℕ) (end : WatchEnd)
        (bytes : List ℕ) (stamps : List AStamp)
        → RunsStamped (telling kind disk contents told old) first bytes kept.lines start
        (λ since. EndsRun Stands since now first kept beside new failures end bytes) stamps
        → EndsRun (StandsStamped (telling kind disk contents told old) first bytes stamps) start now
        first kept beside new failures end bytes
    ends-stamped now kept beside new failures Read bytes stamps all =
        let h = all.from_start in (
          h.0,
          h.1,
          h.2,
          record {
            on = h.3.on;
            stood = record {
              stands = h.3.stood;
              at_reads = says-too bytes (AtMost kept.lines) (Begin (acting_lines first h.0))
                  (λ since. EndsRun Stands since now first kept beside new failures Read bytes)
                  (λ since. Stands since now (acting_lines first h.0))
                  (begins bytes bytes [] h.0 h.1 kept.lines
                  (λ since. EndsRun Stands since now first kept beside new failures Read bytes) h.2
                  (sym (append-nil bytes)) h.4.kept_so.counted)
                  (λ since is k. subst (λ l. Stands since now (acting_lines first l))
                  (lines-same bytes bytes [] [] k.0 h.0 k.1 h.1 k.2 h.2 refl
                  (sym k.4.kept_so.counted ∙ h.4.kept_so.counted)) k.3.stood) stamps
                  all.from_reads;
            };
          },
          h.4,
        )
    ends-stamped now kept beside new failures (Back line last given) bytes stamps all =
        let h = all.from_start in
        let own = Some (moment given) ∷ [] in
        let idle = acting-idle first h.0 (moment given)
        (ends-idle first.newest (moments_behind first h.0) given h.2) in (
          h.0,
          h.1,
          h.2,
          h.3,
          h.4,
          record {
            stands = h.5;
            at_reads = says-too bytes (AtMost kept.lines) (Begin (acting_lines first h.0))
                (λ since. EndsRun Stands since now first kept beside new failures
                (Back line last given) bytes)
                (λ since. Stands since now (acting_lines first h.0))
                (λ at w.
                let rest = begins bytes h.1.front h.1.more (h.0 ++ own) [] kept.lines
                (λ since. EndsRun Stands since now first kept beside new failures
                (Back line last given) bytes) h.1.are h.1.whole h.6.kept_so.counted at w in
                (rest.0, sym idle ∙ rest.1))
                (λ since is k. subst (λ l. Stands since now (acting_lines first l))
                (cut-last k.0 h.0 (Some (moment given))
                (lines-same k.1.front h.1.front k.1.more h.1.more (k.0 ++ own) (h.0 ++ own) [] []
                k.1.are h.1.are (sym k.1.whole ∙ h.1.whole)
                (sym k.6.kept_so.counted ∙ h.6.kept_so.counted))) k.5) stamps all.from_reads;
          },
          h.6,
        )
    ends-stamped now kept beside new failures Write bytes stamps all =
        let h = all.from_start in
        let lines = h.0 ++ Some h.1 ∷ [] in (
          h.0,
          h.1,
          h.2,
          record {
            on = h.3.on;
            stood = record {
              stands = h.3.stood;
              at_reads = says-too bytes (AtMost kept.lines) (Begin (acting_lines first lines))
                  (λ since. EndsRun Stands since now first kept beside new failures Write bytes)
                  (λ since. Stands since now (acting_lines first lines))
                  (begins bytes h.2.front h.2.more lines [] kept.lines
                  (λ since. EndsRun Stands since now first kept beside new failures Write bytes)
                  h.2.are h.2.whole h.4.kept_so.counted)
                  (λ since is k. subst (λ l. Stands since now (acting_lines first l))
                  (lines-same k.2.front h.2.front k.2.more h.2.more (k.0 ++ Some k.1 ∷ []) lines []
                  [] k.2.are h.2.are (sym k.2.whole ∙ h.2.whole)
                  (sym k.4.kept_so.counted ∙ h.4.kept_so.counted)) k.3.stood) stamps
                  all.from_reads;
            };
          },
          h.4,
        )
