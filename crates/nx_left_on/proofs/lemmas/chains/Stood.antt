-- What stood at a read of a watch: a crash behind it leaves a watch that is sure of the lines that
-- were whole by then.
use Rattle.std.proofs.Common.{◌≡◌, ◌⊎◌, inl, inr, ℕ, ◌≤◌, Bool, true, false, not, ◌&&◌, List, [], ◌∷◌}
use Rattle.std.proofs.Common.{◌++◌, length, take, drop, Option, Some, refl, sym, ap, ◌∙◌, subst, arith}
use Rattle.std.proofs.Common.{append-nil, append_assoc, cond, length-append, nat_le, None}
use Rattle.std.specs.List.{Contains, flat_map}
use Rattle.std.specs.Prelude.{Result, Ok, Err}
use Rattle.std.specs.Io.KnownBytes.{Consumes}
use Rattle.std.proofs.KnownBytes.{Consumes-nil}
use Rattle.std.proofs.Math.Seq.{take-append_seam}
use Rattle.std.proofs.lemmas.Bool.{and_parts, not-true}
use Rattle.std.proofs.lemmas.List.{take-append-drop, take_all}
use Rattle.std.proofs.lemmas.List.Elements.{All-contains}
use Rattle.nx_code.specs.Lists.{Begins}
use Rattle.nx_envelope.specs.Moment.{last_moment}
use Rattle.nx_fec.specs.air_files.AirFile.{Line, accept_station, accept_subject, elements, moment}
use Rattle.nx_fec.specs.air_files.AirFile.{refuse_station, refuse_subject}
use Rattle.nx_fec.specs.Transfers.{CountedDevice, IsReadOut}
use Rattle.nx_receiver.specs.air_file_runs.Listen.{given_by}
use Rattle.nx_combine.specs.CombinedPrinting.{combined}
use Rattle.nx_combine.specs.private.laws.CombinedLaws.{combined-laws}
use Rattle.nx_copies.specs.copies.FoundCopies.{FoundCopy}
use Rattle.nx_copies.specs.copies.InTurn.{PrintsInTurnBy}
use Rattle.nx_copies.specs.copies.Log.{IsPrinting, Printing, plain}
use Rattle.nx_copies.specs.copies.Shares.{MarkedCopy}
use Rattle.nx_copies.proofs.lemmas.channels.Added.{nothing-given_by}
use Rattle.nx_copies.proofs.lemmas.printing.Laws.{plain-laws}
use Rattle.nx_fec.specs.declared.air_files.channel.Channel.{Channel}
use Rattle.nx_watch.specs.Acting.{ends_watch, goes_on, goes_on_behind, moment_said, moments_behind}
use Rattle.nx_watch.specs.Acting.{moments_said, with_start}
use Rattle.nx_watch.specs.AnyLines.{AreLines, cut_line, ended}
use Rattle.nx_watch.specs.LineRun.{StopsBehind}
use Rattle.nx_watch.specs.Stamp.{Stamp}
use Rattle.nx_watch.specs.Watch.{HasRead, HasWatchedOverBy, HadKept, KeepsAll}
use Rattle.nx_watch.specs.Watch.{PrintsUntilBy, StandsForEntries, StoodOverBy}
use Rattle.nx_watch.specs.Watch.{Stop, WatchDevices, at_end, back, moments_at, starts_at, unread}
use Rattle.nx_watch.specs.Watch.{unwritten}
use Rattle.nx_watch.specs.declared.lines.line_effects.StartMoments.{StartMoments}
use Rattle.nx_watch.proofs.lemmas.lines.AnyLine.{AreLines-append}
use Rattle.nx_watch.proofs.lemmas.lines.Law.{AreLines-one}
use Rattle.nx_watch.proofs.lemmas.lines.Reading.{AreLines-some}
use Rattle.nx_watch.specs.Watch.{AnswersStartedBy, AnswersWatchBy, HasOpened}
use Rattle.nx_watch.specs.declared.watch_report.WatchReport.{WatchReport}
use Rattle.nx_watch.specs.declared.watch_fault.WatchFault.{WatchFault}
use Rattle.nx_watch.specs.declared.watch_fault.WatchFault.TheVariants.{Open, Damaged, Disk, Memory}
use Rattle.nx_watch.specs.declared.watch_fault.WatchFault.TheVariants.{Read, Back}
use Rattle.nx_left_on.specs.Call.{CallEnd, AreSure, IsOfCallBy, TellsAllKept, all_kept, ending_by}
use Rattle.nx_left_on.specs.Call.{left_at_any_moment, left_behind}
use Rattle.nx_left_on.specs.Chain.{GoesOn, IsLeftPrinting, PutsBy, Watch, acting_at, kept_some_at}
use Rattle.nx_left_on.specs.Chain.{with_copies}
use Rattle.nx_left_on.proofs.lemmas.chains.Found.{begins-itself, begins-more}
use Rattle.nx_left_on.proofs.lemmas.chains.Keeps.{acting-begins, keeps-all_by, keeps-behind_by}
use Rattle.nx_left_on.proofs.lemmas.chains.Keeps.{keeps-some_by, turn-begins_by}
use Rattle.nx_left_on.proofs.lemmas.entries.Judging.{goes-on, puts-with_by}
use Rattle.nx_left_on.proofs.lemmas.chains.ByEachRead.{none-stamped}

-- ---- the lines of a beginning of some bytes

-- they begin the lines of all
lines-begin : (bytes : List ℕ) (count : ℕ) (front all : List (Option Line)) (rest end : List ℕ)
    → AreLines (take count bytes) front rest → AreLines bytes all end → Begins front all
lines-begin bytes count front all rest end h k =
    let texts = flat_map ended h.texts in
    let after = rest ++ drop count bytes in
    let more = AreLines-some after in
    let whole : bytes ≡ texts ++ after =
    sym (take-append-drop count bytes) ∙ ap (λ l. l ++ drop count bytes) h.whole
    ∙ append_assoc texts rest (drop count bytes) in
    let are : AreLines texts front [] =
    record { texts = h.texts; whole = sym (append-nil texts); each = h.each; part = tt } in
    let joined : AreLines bytes (front ++ more.0) more.1 =
    subst (λ b. AreLines b (front ++ more.0) more.1) (sym whole)
    (AreLines-append texts after front more.0 more.1 are more.2) in
    (more.0, (AreLines-one bytes all (front ++ more.0) end more.1 k joined).0)

-- the lines that a run took begin them too
record AllLines (bytes : List ℕ) (front : List (Option Line)) : Type 0 where
  all : List (Option Line)
  rest : List ℕ
  are : AreLines bytes all rest
  begins : Begins front all

all-lines : (first : StartMoments) (bytes : List ℕ) (before : List (Option Line)) (line : Line)
    → StopsBehind first bytes before line → AllLines bytes (before ++ Some line ∷ [])
all-lines first bytes before line s =
    let more = AreLines-some s.more in
    let front = before ++ Some line ∷ [] in
    record {
      all = front ++ more.0;
      rest = more.1;
      are = subst (λ b. AreLines b (front ++ more.0) more.1) (sym s.whole)
          (AreLines-append s.front s.more front more.0 more.1 s.are more.2);
      begins = (more.0, refl);
    }

-- of two beginnings of a list one begins the other
begins-either : {A : Type 0} (one other all : List A) → Begins one all → Begins other all
    → Begins one other ⊎ Begins other one
begins-either [] other all h k = inl (other, refl)
begins-either (x ∷ one) [] all h k = inr (x ∷ one, refl)
begins-either (x ∷ one) (y ∷ other) all h k =
    let both : x ∷ (one ++ h.0) ≡ y ∷ (other ++ k.0) = sym h.1 ∙ k.1 in
    let head : x ≡ y = cc in
    let tail : one ++ h.0 ≡ other ++ k.0 = cc in
    elim (begins-either one other (one ++ h.0) (h.0, refl) (k.0, tail)) [
      | inl b ↦ inl (b.0, ap (λ z. z ∷ other) (sym head) ∙ ap (λ l. x ∷ l) b.1)
      | inr b ↦ inr (b.0, ap (λ z. z ∷ one) head ∙ ap (λ l. y ∷ l) b.1)
    ]

-- ---- lines behind which a watch goes on

-- none of them ends it
on-behind : (first : ℕ) (moments : List ℕ) (before more : List (Option Line)) (line : Option Line)
    → goes_on_behind first moments (before ++ line ∷ more) ≡ true
    → ends_watch first (moments ++ moments_said before) line ≡ false
on-behind first moments [] more line on =
    ap (λ ms. ends_watch first ms line) (append-nil moments)
    ∙ not-true (ends_watch first moments line)
    (and_parts (not (ends_watch first moments line))
    (goes_on_behind first (moments ++ moment_said line) more) on).0
on-behind first moments (l ∷ before) more line on =
    ap (λ ms. ends_watch first ms line)
    (sym (append_assoc moments (moment_said l) (moments_said before)))
    ∙ on-behind first (moments ++ moment_said l) before more line
    (and_parts (not (ends_watch first moments l))
    (goes_on_behind first (moments ++ moment_said l) (before ++ line ∷ more)) on).1

-- A line that says a moment stands behind those before it, with the moment that the watch sets too.
with-moment : (start : StartMoments) (before : List (Option Line)) (n : ℕ)
    (more : List (Option Line))
    → (rest : List (Option Line))
    × (with_start start (before ++ Some (moment n) ∷ more)
    ≡ with_start start before ++ Some (moment n) ∷ rest)
with-moment start [] n more = (_, refl)
with-moment start (Some (elements mark bits) ∷ before) n more = (more, refl)
with-moment start (Some (moment m) ∷ before) n more =
    let next = with-moment start before n more in
    elim (nat_le m last_moment) as (λ b. (rest : List (Option Line))
    × (Some (moment m) ∷ cond b (before ++ Some (moment n) ∷ more)
    (with_start start (before ++ Some (moment n) ∷ more))
    ≡ (Some (moment m) ∷ cond b before (with_start start before)) ++ Some (moment n) ∷ rest)) [
      | true ↦ (more, refl)
      | false ↦ (next.0, ap (λ l. Some (moment m) ∷ l) next.1)
    ]
with-moment start (None ∷ before) n more =
    let next = with-moment start before n more in (next.0, ap (λ l. None ∷ l) next.1)
with-moment start (Some (refuse_station mark letter) ∷ before) n more =
    let next = with-moment start before n more in
    (next.0, ap (λ l. Some (refuse_station mark letter) ∷ l) next.1)
with-moment start (Some (accept_station mark letter) ∷ before) n more =
    let next = with-moment start before n more in
    (next.0, ap (λ l. Some (accept_station mark letter) ∷ l) next.1)
with-moment start (Some (refuse_subject mark letter) ∷ before) n more =
    let next = with-moment start before n more in
    (next.0, ap (λ l. Some (refuse_subject mark letter) ∷ l) next.1)
with-moment start (Some (accept_subject mark letter) ∷ before) n more =
    let next = with-moment start before n more in
    (next.0, ap (λ l. Some (accept_subject mark letter) ∷ l) next.1)

-- So the line that ended a watch isn't among them.
ends-behind : (start : StartMoments) (before by_then : List (Option Line)) (n : ℕ)
    → ends_watch start.newest (moments_behind start before) (Some (moment n)) ≡ true
    → goes_on start by_then ≡ true → Begins (before ++ Some (moment n) ∷ []) by_then → ⊥
ends-behind start before by_then n ends on b =
    let whole : by_then ≡ before ++ Some (moment n) ∷ b.0 =
    b.1 ∙ append_assoc before (Some (moment n) ∷ []) b.0 in
    let next = with-moment start before n b.0 in
    let stays = on-behind start.newest [] (with_start start before) next.0 (Some (moment n))
    (subst (λ lines. goes_on_behind start.newest [] lines ≡ true)
    (ap (with_start start) whole ∙ next.1) on) in
    let odd : true ≡ false = sym ends ∙ stays in
    cc

-- The lines that were whole at some moment begin those that a watch read; or these begin them, and
-- it stopped at a failed write.
abbrev IsBefore : Stop → List (Option Line) → List (Option Line) → Type 0
IsBefore stop by_then lines =
    Begins by_then lines ⊎ (Begins lines by_then × (stop ≡ unwritten))

whole-before : (AtEnd : Type 0) (first : StartMoments) (stop : Stop) (bytes : List ℕ)
    (lines by_then : List (Option Line)) (count : ℕ) (rest : List ℕ)
    → HasRead AtEnd first stop bytes lines → AreLines (take count bytes) by_then rest
    → goes_on first by_then ≡ true → IsBefore stop by_then lines
whole-before AtEnd first at_end bytes lines by_then count rest h are on =
    let b = lines-begin bytes count by_then h.1 rest h.2 are h.3 in
    inl (begins-more by_then h.1 lines b (cut_line h.2, h.4))
whole-before AtEnd first (back line last given) bytes lines by_then count rest h are on =
    let s = all-lines first bytes h.0 (moment given) h.2 in
    let front = h.0 ++ Some (moment given) ∷ [] in
    elim (begins-either by_then front s.all
    (lines-begin bytes count by_then s.all rest s.rest are s.are) s.begins) [
      | inl b ↦ inl (subst (Begins by_then) (sym h.1) b)
      | inr b ↦ absurd (ends-behind first h.0 by_then given h.3 on b)
    ]
whole-before AtEnd first unread bytes lines by_then count rest h are on =
    inl (lines-begin bytes count by_then lines rest h.0 are h.1)
whole-before AtEnd first unwritten bytes lines by_then count rest h are on =
    let s = all-lines first bytes h.0 h.1 h.3 in
    let front = h.0 ++ Some h.1 ∷ [] in
    elim (begins-either by_then front s.all
    (lines-begin bytes count by_then s.all rest s.rest are s.are) s.begins) [
      | inl b ↦ inl (subst (Begins by_then) (sym h.2) b)
      | inr b ↦ inr (subst (λ l. Begins l by_then) (sym h.2) b, refl)
    ]

-- How a watch goes on whose receivers print so, which is known by what it puts: some copies are
-- found and judged.
pub record GoesSo (printing : Printing) (Goes : List MarkedCopy → Watch → Type 0) : Type 0 where
  pub laws : IsPrinting printing
  pub goes : (log : List MarkedCopy) (watch : Watch) → PutsBy printing log watch
      → (found judged : Channel → List FoundCopy) × Goes log (with_copies watch found judged)

-- where each copy is judged alone
pub goes-alone : GoesSo plain GoesOn
goes-alone = record { laws = plain-laws; goes = goes-on }

-- where copies are taken together, what is put is all that is asked
pub goes-together : GoesSo combined (PutsBy combined)
goes-together = record {
  laws = combined-laws;
  goes = λ log watch puts.
      (watch.found, watch.judged, puts-with_by combined log watch watch.found watch.judged puts);
}

module _ {printing : Printing} {Goes : List MarkedCopy → Watch → Type 0}
    (how : GoesSo printing Goes) where
  -- ---- what a crash leaves

  module _ (now : ℕ) (entries copies printed : List MarkedCopy) (lines by_then : List (Option Line))
      (file : List ℕ) (count : ℕ)
      (prints : PrintsInTurnBy printing (starts_at now entries) (given_by (acting_at now entries
      by_then))
      printed) (least : length printed ≤ count) (most : count ≤ length copies)
      (stands : StandsForEntries (entries ++ take count copies) file)
    where
      -- the sure lines: those that were whole, or all
      abbrev IsSureOf : Stop → List (Option Line) → Type 0
      IsSureOf stop sure =
          IsLeftPrinting printing now entries (kept_some_at stop) (acting_at now entries lines)
          (acting_at now entries sure) (take count copies) file

      sure-whole : (stop : Stop)
          → PrintsUntilBy printing stop (starts_at now entries) (given_by (acting_at now entries
          lines)) copies
          → Begins by_then lines → IsSureOf stop by_then
      sure-whole stop h b =
          keeps-behind_by printing how.laws now entries copies lines by_then file count stop h
          (record { begins = b; surely = printed; in_turn = prints; least = least }) stands

      sure-all : (stop : Stop)
          → PrintsUntilBy printing stop (starts_at now entries) (given_by (acting_at now entries
          lines)) copies
          → Begins lines by_then → stop ≡ unwritten → IsSureOf stop lines
      sure-all stop h b e =
          let turn : PrintsInTurnBy printing (starts_at now entries) (given_by (acting_at now
          entries lines))
          copies = subst (λ s. PrintsUntilBy printing s (starts_at now entries)
          (given_by (acting_at now entries lines)) copies) e h in
          let more = acting-begins (moments_at now (starts_at now entries)) lines by_then b in
          let begun = turn-begins_by printing how.laws (starts_at now entries) (acting_at now
          entries lines) more.0 copies
          printed turn (subst (λ ls. PrintsInTurnBy printing (starts_at now entries) (given_by ls)
          printed)
          more.1 prints) in
          keeps-behind_by printing how.laws now entries copies lines lines file count stop h
          (record {
            begins = begins-itself lines;
            surely = copies;
            in_turn = turn;
            least =
                omega (arith, least, ap length begun.1 ∙ length-append copies begun.0);
          }) stands

      sure-of : (stop : Stop)
          → PrintsUntilBy printing stop (starts_at now entries) (given_by (acting_at now entries
          lines)) copies
          → IsBefore stop by_then lines → IsSureOf stop (take (length by_then) lines)
      sure-of stop h (inl b) =
          subst (IsSureOf stop)
          (sym (ap (take (length by_then)) b.1 ∙ take-append_seam by_then b.0))
          (sure-whole stop h b)
      sure-of stop h (inr k) =
          let enough : length lines ≤ length by_then =
          omega (arith, ap length k.0.1 ∙ length-append lines k.0.0) in
          subst (IsSureOf stop) (sym (take_all (length by_then) lines enough))
          (sure-all stop h k.0 k.1)

  -- a call that read so, and was left so, leaves a watch
  of-call : {D R W N : Type 0} (d : WatchDevices D R W N) (now : ℕ) (entries copies : List
      MarkedCopy)
      (stop : Stop) (lines sure : List (Option Line)) (end : CallEnd) (put : List MarkedCopy)
      (file : List ℕ) (watched : HasWatchedOverBy d printing (d.tells.seen d.start d.disk)
      now (starts_at now entries) entries stop
      lines copies)
      → AreSure end watched.bytes lines sure
      → IsLeftPrinting printing now entries (ending_by end stop) (acting_at now entries lines)
      (acting_at now entries sure) put file
      → (watch : Watch) × IsOfCallBy Goes d.streams now entries end file watch
  of-call d now entries copies stop lines sure end put file watched are left =
      let goes = how.goes entries left.watch left.puts in (
        with_copies left.watch goes.0 goes.1,
        record {
          bytes = watched.bytes;
          consumed = watched.consumed;
          stop = stop;
          lines = lines;
          read = watched.read;
          sure = sure;
          are_sure = are;
          started = left.started;
          took = left.took;
          read_on = left.read_on;
          ended = left.ended;
          left = left.left;
          goes_on = goes.2;
        },
      )

  -- behind a read of the input by which no put had failed
  pub left-behind : {D R W N : Type 0} (d : WatchDevices D R W N) (now : ℕ)
      (entries copies : List MarkedCopy) (stop : Stop) (lines : List (Option Line))
      (at : Stamp D (CountedDevice W) (CountedDevice N)) (file : List ℕ)
      (watched : HasWatchedOverBy d printing (d.tells.seen d.start d.disk)
      now (starts_at now entries) entries stop lines copies)
      → Contains d.stamps at → d.tells.faults at.disk ≡ d.tells.faults d.disk
      → d.tells.left_since d.start d.disk_after (d.tells.moment at.disk) file
      → (watch : Watch) × IsOfCallBy Goes d.streams now entries (left_behind at.read) file watch
  left-behind d now entries copies stop lines at file watched there well crash =
      let stood = All-contains (StoodOverBy d printing (d.tells.seen d.start d.disk)
      now (starts_at now entries) entries
      watched.bytes copies)
      d.stamps at watched.before_each_read there in
      let kept : HadKept d entries stood.printed copies at = elim stood.kept [
        | inl kept ↦ kept
        | inr written ↦ absurd (omega (arith, well, written.failed))
      ] in
      let left = kept.left file crash in
      let before = whole-before (IsReadOut d.streams ⊎ (length watched.bytes ≡ 9223372036854775807))
      (moments_at now (starts_at now entries)) stop watched.bytes lines stood.lines at.read
      stood.rest
      watched.read stood.whole stood.on in
      of-call d now entries copies stop lines (take (length stood.lines) lines) (left_behind
      at.read)
      (take left.0 copies) file watched (stood.lines, stood.rest, stood.whole, refl)
      (sure-of now entries copies stood.printed lines stood.lines file left.0 stood.prints left.1
      left.2 left.3 stop watched.printed before)

  -- when all is over, where all is kept
  pub kept-over : {D R W N : Type 0} (d : WatchDevices D R W N) (now : ℕ)
      (entries copies : List MarkedCopy) (stop : Stop) (lines : List (Option Line)) (file : List ℕ)
      → HasWatchedOverBy d printing (d.tells.seen d.start d.disk)
      now (starts_at now entries) entries stop lines copies
      → KeepsAll d entries copies
      → (d.tells.seen d.start d.disk_after ≡ file) ⊎ d.tells.may_leave d.start d.disk_after file
      → (watch : Watch) × IsOfCallBy Goes d.streams now entries all_kept file watch
  kept-over d now entries copies stop lines file watched kept over =
      let stands : StandsForEntries (entries ++ copies) file = elim over [
        | inl found ↦ subst (StandsForEntries (entries ++ copies)) found kept.found
        | inr crash ↦ kept.left file crash
      ] in
      of-call d now entries copies stop lines lines all_kept copies file watched refl
      (keeps-all_by printing how.laws now entries copies lines file stop watched.printed stands)

  -- ---- whatever the watch answers

  module _ {D R W N : Type 0} (d : WatchDevices D R W N) (now : ℕ) (entries : List MarkedCopy)
      (at : Stamp D (CountedDevice W) (CountedDevice N)) (file : List ℕ)
      (there : Contains d.stamps at)
      (well : d.tells.faults at.disk ≡ d.tells.faults d.disk)
      (crash : d.tells.left_since d.start d.disk_after (d.tells.moment at.disk) file)
    where
      -- a watch that the call leaves
      abbrev LeavesWatch : Type 0
      LeavesWatch = (watch : Watch) × IsOfCallBy Goes d.streams now entries (left_behind at.read)
          file watch

      started-left : (outcome : Result WatchReport WatchFault)
          → AnswersStartedBy d printing now (starts_at now entries) entries outcome → LeavesWatch
      started-left outcome s = left-behind d now entries s.2 s.0 s.1 at file s.3 there well crash

      opened-left : HasOpened d entries → LeavesWatch
      opened-left o = absurd (none-stamped d.stamps at o.unstamped there)

      pub answer-left : (outcome : Result WatchReport WatchFault)
          → AnswersWatchBy d printing now entries outcome → LeavesWatch
      answer-left (Err Open) h = opened-left h
      answer-left (Err Memory) h = opened-left h
      answer-left (Err (Damaged line first)) h = absurd h
      answer-left (Err Disk) h = elim h [
        | inl o ↦ opened-left o
        | inr s ↦ started-left (Err Disk) s
      ]
      answer-left (Err Read) h = started-left (Err Read) h
      answer-left (Err (Back line last given)) h = started-left (Err (Back line last given)) h
      answer-left (Ok report) h = started-left (Ok report) h

  module _ {D R W N : Type 0} (d : WatchDevices D R W N) (now : ℕ) (entries : List MarkedCopy)
      (file : List ℕ)
      (over : (d.tells.seen d.start d.disk_after ≡ file)
      ⊎ d.tells.may_leave d.start d.disk_after file)
    where
      -- a watch that the call leaves, at its end
      abbrev LeavesAtEnd : Type 0
      LeavesAtEnd = (watch : Watch) × IsOfCallBy Goes d.streams now entries all_kept file watch

      started-over : (outcome : Result WatchReport WatchFault)
          → AnswersStartedBy d printing now (starts_at now entries) entries outcome
          → (outcome ≡ Err Disk → ⊥) → LeavesAtEnd
      started-over outcome s other = elim s.4 [
        | inl k ↦ kept-over d now entries s.2 s.0 s.1 file s.3 k.0 over
        | inr k ↦ absurd (other k.1)
      ]

      pub answer-over : (outcome : Result WatchReport WatchFault)
          → AnswersWatchBy d printing now entries outcome → TellsAllKept outcome → LeavesAtEnd
      answer-over (Err Open) h t = absurd t
      answer-over (Err Memory) h t = absurd t
      answer-over (Err (Damaged line first)) h t = absurd t
      answer-over (Err Disk) h t = absurd t
      answer-over (Err Read) h t = started-over (Err Read) h (λ e. cc)
      answer-over (Err (Back line last given)) h t =
          started-over (Err (Back line last given)) h (λ e. cc)
      answer-over (Ok report) h t = started-over (Ok report) h (λ e. cc)

  -- ---- at any moment, before the first read too

  -- a call that read nothing, and left what stands for the entries, leaves a watch
  unheard : {D R W N : Type 0} (d : WatchDevices D R W N) (now : ℕ) (entries : List MarkedCopy)
      (file : List ℕ) → d.streams.reader_after ≡ d.streams.reader → StandsForEntries entries file
      → (watch : Watch) × IsOfCallBy Goes d.streams now entries left_at_any_moment file watch
  unheard d now entries file unread_so stands =
      let left = keeps-some_by printing how.laws now entries [] [] file 0 unread (nothing-given_by
      printing how.laws (starts_at now entries))
      (subst (λ es. StandsForEntries es file) (sym (append-nil entries)) stands) in
      let goes = how.goes entries left.watch left.puts in (
        with_copies left.watch goes.0 goes.1,
        record {
          bytes = [];
          consumed = subst (λ r. Consumes (d.streams.remaining d.streams.reader.inner)
              (d.streams.remaining r.inner) []) (sym unread_so)
              (Consumes-nil (d.streams.remaining d.streams.reader.inner));
          stop = unread;
          lines = [];
          read = ([], record { texts = []; whole = refl; each = tt; part = tt }, refl);
          sure = [];
          are_sure = refl;
          started = left.started;
          took = left.took;
          read_on = left.read_on;
          ended = left.ended;
          left = left.left;
          goes_on = goes.2;
        },
      )

  module _ {D R W N : Type 0} (d : WatchDevices D R W N) (now : ℕ) (entries : List MarkedCopy)
      (file : List ℕ)
      (crash : d.tells.left_since d.start d.disk_after (d.tells.moment d.disk) file)
    where
      -- what could be left before the call, or a watch
      abbrev LeavesSome : Type 0
      LeavesSome = d.tells.may_leave d.start d.disk file
          ⊎ ((watch : Watch) × IsOfCallBy Goes d.streams now entries left_at_any_moment file watch)

      started-some : (outcome : Result WatchReport WatchFault)
          → AnswersStartedBy d printing now (starts_at now entries) entries outcome → LeavesSome
      started-some outcome s = elim (s.3.any_moment.each file crash) [
        | inl before ↦ inl before
        | inr k ↦ inr (of-call d now entries s.2 s.0 s.1 [] left_at_any_moment (take k.0 s.2) file
            s.3 refl (keeps-some_by printing how.laws now entries s.2 s.1 file k.0 s.0 s.3.printed
            k.2))
      ]

      opened-some : HasOpened d entries → LeavesSome
      opened-some o = elim (o.any_moment.each file crash) [
        | inl before ↦ inl before
        | inr stands ↦ inr (unheard d now entries file o.unread stands)
      ]

      pub answer-some : (outcome : Result WatchReport WatchFault)
          → AnswersWatchBy d printing now entries outcome → LeavesSome
      answer-some (Err Open) h = opened-some h
      answer-some (Err Memory) h = opened-some h
      answer-some (Err (Damaged line first)) h = absurd h
      answer-some (Err Disk) h = elim h [
        | inl o ↦ opened-some o
        | inr s ↦ started-some (Err Disk) s
      ]
      answer-some (Err Read) h = started-some (Err Read) h
      answer-some (Err (Back line last given)) h = started-some (Err (Back line last given)) h
      answer-some (Ok report) h = started-some (Ok report) h
