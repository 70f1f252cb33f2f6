use Rattle.std.proofs.Common.{◌≡◌, ◌≤◌, ◌⊎◌, ◌∙◌, ◌++◌, ◌∷◌, [], ℕ, Bool, List, Option, Result, Some, Ok, Err, refl, sym, subst, ap, arith, length, length-append}
use Rattle.std.specs.Io.KnownBytes.{IsAtEnd}
use Rattle.nx_fec.specs.Transfers.{CountedDevice, count_of}
use Rattle.nx_envelope.specs.Moment.{last_moment}
use Rattle.nx_fec.specs.air_files.AirFile.{Line, moment}
use Rattle.nx_copies.specs.copies.InTurn.{PrintAllToEndBy}
use Rattle.nx_receiver.specs.air_file_runs.Listen.{given_by}
use Rattle.nx_receiver.specs.Listener.{HearsBy, ListeningOver, starts_by}
use Rattle.nx_watch.specs.Acting.{acting_lines, moments_behind, most_bytes}
use Rattle.nx_watch.specs.AnyLines.{cut_line}
use Rattle.nx_watch.specs.Watch.{AnswersStop, PrintsLoggable, at_end, back, unread, unwritten}
use Rattle.nx_watch.specs.LineRun.{HasTold, TellsOfLines}
use Rattle.nx_watch.specs.private.LineRun.{AnswersRun, RunOverLines}
use Rattle.nx_watch.specs.Stamps.{counted_of, stamps_of}
use Rattle.nx_watch.specs.CutTold.{TellsOfSomeCut}
use Rattle.nx_watch.specs.LinesTold.{IsToldAtEnd}
use Rattle.nx_watch.specs.declared.lines.line_effects.StartMoments.{StartMoments}
use Rattle.nx_watch.specs.private.Running.{HasToldSo, IsToldByEnd, ToldBefore}
use Rattle.nx_watch.specs.private.Stamping.{StandsStamped, telling}
use Rattle.nx_watch.specs.declared.lines.line_effects.LinesWatched.{LinesWatched}
use Rattle.nx_watch.specs.declared.line_run.WatchEnd.{WatchEnd}
use Rattle.nx_watch.specs.declared.line_run.WatchEnd.TheVariants.{Read, Back, Write}
use Rattle.nx_watch.specs.private.Keeping.{HasKept}
use Rattle.nx_watch.specs.private.LoggingListener.{logging_to}
use Rattle.nx_watch.proofs.lemmas.log.Finish.{back-apart, closed-on, end-apart, has-run, heard-on, none-yet-failed, stamps-keep, stands-first, unwritten-apart, wrote-some, zip-length}
use Rattle.nx_watch.proofs.lemmas.log.Stamping.{ends-so, reads-all}
use Rattle.nx_watch.proofs.lemmas.lines.Run.{acting-cut, acting-idle, ends-idle, tells-some}
use Rattle.nx_watch.proofs.lemmas.lines.Told.{at-end, at-finish}
use Rattle.nx_watch.proofs.watch_run.run_watch.Goals as goal
use Rattle.nx_watch.proofs.watch_run.run_watch.Goals.{After-watch_lines}
use Rattle.nx_log.proofs.lemmas.runs.Laws.{none_failed}

-- what was told before the first line
abbrev behind : {F : Type 0} → (F → Option (List ℕ)) → CountedDevice F → List ℕ → ToldBefore
behind contents notices cut = record { old = contents notices.inner; text = cut }

abbrev ok : LinesWatched → Result LinesWatched WatchEnd
ok counts = Ok counts

abbrev err : WatchEnd → Result LinesWatched WatchEnd
err end = Err end

-- the answers of a run are apart
apart-Ok : (counts : LinesWatched) → ok counts ≡ err Read → ⊥
apart-Ok counts e = cc

apart-Back : (line last given : ℕ) → err (Back line last given) ≡ err Read → ⊥
apart-Back line last given e = cc

apart-Write : err Write ≡ err Read → ⊥
apart-Write e = cc

apart-Written : err Read ≡ err Write → ⊥
apart-Written e = cc

pub returns-in-Ok-clause-runs : goal.returns-in-Ok-clause-runs
returns-in-Ok-clause-runs g c = λ notices cut told loggable is none range heard kept.
    let disk = g.D.DiskFile in
    let kind = g.C.ChannelReceiver.kind in
    let laws = g.met.C.ChannelReceiver.laws in
    let logging = c.args.logging in
    let start = logging_to logging c.args.writer.now in
    let before = behind g.F.Write.contents notices cut in
    let w = c.in-Ok.ensures.watched logging before (sym is)
    (none-yet-failed disk logging.keeper kept)
    (stands-first kind disk logging loggable range heard kept) told in
    let acting = acting_lines c.args.first w.3.1 in
    let closed = c.finish.ensures.closed start acting w.3.4.stood.stands in
    has-run laws disk logging c.args.first g.R.Read.remaining (counted_of c.args.reader.now)
    (counted_of c.watch_lines.new.reader)
    g.W.Write.contents c.args.writer.now c.finish.new.writer g.F.Write.contents notices
    c.finish.new.notices cut (stamps_of c.watch_lines.new.reader) at_end c.finish.result
    (record {
      lines = w.3.1 ++ cut_line w.3.2;
      copies = closed.copies;
      texts = closed.texts;
      given = closed.kept.0;
      bytes = w.0;
      each = closed.each;
      kept = closed.kept.1;
      wrote = closed.kept.2;
      consumed = w.1;
      within = w.2.0;
      reads = reads-all _ _ _ w.2.1 c.watch_lines.ensures.stamps;
      last_read = ends-so _ _ _ most_bytes w.2.1 c.in-Ok.ensures.ended;
      read = (w.3.0, w.3.1, w.3.2, w.3.3, refl, w.3.4.on);
      printed = subst (λ l. PrintAllToEndBy kind.printing (starts_by kind logging.listener)
          (given_by l) closed.copies)
          (sym (acting-cut c.args.first w.3.1 w.3.2)) closed.printed;
      failed_read = (
        λ e. absurd (end-apart e),
        λ f. absurd (apart-Ok c.in-Ok.counts (sym c.in-Ok.is ∙ c.watch_lines.ensures.unread.1 f)),
      );
      failed_write = c.finish.ensures.once;
      stamped = stamps-keep kind disk g.W.Write.contents g.F.Write.contents before c.args.first
          start
          (logging_to c.watch_lines.new.logging c.watch_lines.new.writer) w.0 c.finish.result
          acting (acting_lines c.args.first (w.3.1 ++ cut_line w.3.2)) closed.copies
          (stamps_of c.watch_lines.new.reader) (acting-cut c.args.first w.3.1 w.3.2)
          (λ since same k. closed-on laws disk g.W.Write.contents (starts_by kind logging.listener)
          since
          c.finish.result c.finish.new.writer acting closed.copies
          (ap (λ (l : ListeningOver _). starts_by kind l) same) closed.printed
          (c.finish.ensures.closed since acting k)) w.3.4.stood;
      said = at-finish g.F.Write.contents c.watch_lines.new.notices c.finish.new.notices
          c.args.first before c.watch_lines.new.logging.keeper.has_failed
          c.finish.result.has_failed w.0 (w.3.1 ++ cut_line w.3.2) c.finish.ensures.failed
          c.finish.ensures.told w.3.6;
    }) c.answer.result.0 c.answer.result.1 is none c.answer.ensures.device c.answer.ensures.failed
    (λ well all. subst (AnswersStop c.args.first at_end (w.3.1 ++ cut_line w.3.2) closed.copies)
    (sym (c.answer.ensures.well well)) (
      w.3.5.lines_counted,
      w.3.5.without,
      w.3.5.first_one,
      all.put ∙ ap count_of (omega (
        arith,
        none,
        zip-length closed.copies closed.texts closed.each,
      )),
    ))

pub returns-in-Back-clause-runs : goal.returns-in-Back-clause-runs
returns-in-Back-clause-runs g c = λ notices cut told loggable is none range heard kept.
    let disk = g.D.DiskFile in
    let kind = g.C.ChannelReceiver.kind in
    let laws = g.met.C.ChannelReceiver.laws in
    let logging = c.args.logging in
    let start = logging_to logging c.args.writer.now in
    let before = behind g.F.Write.contents notices cut in
    let lines-read = c.watch_lines.new in
    let w = c.in-Err.ensures.watched logging before (sym is)
    (none-yet-failed disk logging.keeper kept)
    (stands-first kind disk logging loggable range heard kept) told in
    let r : RunOverLines _ = record {
      stands = StandsStamped (telling kind disk g.W.Write.contents g.F.Write.contents before)
          c.args.first w.0 (stamps_of lines-read.reader);
      start = start;
      now = logging_to lines-read.logging lines-read.writer;
      first = c.args.first;
      AtEnd = IsAtEnd (g.R.Read.remaining (counted_of lines-read.reader).inner) ⊎
          (length w.0 ≡ most_bytes);
      tells = λ lines. HasToldSo before (g.F.Write.contents lines-read.notices.inner)
          lines-read.notices.failures
          (IsToldByEnd c.args.first w.0 lines lines-read.logging.keeper.has_failed);
    } in
    let ended = subst (λ e. AnswersRun r (Err e) w.0) c.in-Back.is w.3 in
    let acting = acting_lines c.args.first ended.0 in
    let closed = c.finish-in-Back.ensures.closed start acting ended.5.stands in
    let stop = back c.in-Back.line c.in-Back.last c.in-Back.given in
    let lines = ended.0 ++ Some (moment c.in-Back.given) ∷ [] in
    has-run laws disk logging c.args.first g.R.Read.remaining (counted_of c.args.reader.now)
    (counted_of lines-read.reader)
    g.W.Write.contents c.args.writer.now c.finish-in-Back.new.writer g.F.Write.contents
    notices c.finish-in-Back.new.notices cut (stamps_of lines-read.reader) stop
    c.finish-in-Back.result
    (record {
      lines = lines;
      copies = closed.copies;
      texts = closed.texts;
      given = closed.kept.0;
      bytes = w.0;
      each = closed.each;
      kept = closed.kept.1;
      wrote = closed.kept.2;
      consumed = w.1;
      within = w.2.0;
      reads = reads-all _ _ _ w.2.1 c.watch_lines.ensures.stamps;
      last_read = tt;
      read = (
        ended.0,
        refl,
        ended.1,
        ended.2,
        ended.3 ∙ sym (length-append ended.0 (Some (moment c.in-Back.given) ∷ [])),
        ended.4,
      );
      printed = subst (λ l. PrintAllToEndBy kind.printing (starts_by kind logging.listener)
          (given_by l) closed.copies)
          (sym (acting-idle c.args.first ended.0 (moment c.in-Back.given)
          (ends-idle c.args.first.newest (moments_behind c.args.first ended.0) c.in-Back.given
          ended.2))) closed.printed;
      failed_read = (
        λ e. absurd (back-apart _ _ _ e),
        λ f. absurd (apart-Back _ _ _ (sym (c.in-Err.is ∙ ap Err c.in-Back.is)
            ∙ c.watch_lines.ensures.unread.1 f)),
      );
      failed_write = c.finish-in-Back.ensures.once;
      stamped = stamps-keep kind disk g.W.Write.contents g.F.Write.contents before c.args.first
          start
          (logging_to lines-read.logging lines-read.writer) w.0 c.finish-in-Back.result acting
          (acting_lines c.args.first lines) closed.copies
          (stamps_of lines-read.reader) (acting-idle c.args.first ended.0 (moment c.in-Back.given)
          (ends-idle c.args.first.newest (moments_behind c.args.first ended.0) c.in-Back.given
          ended.2))
          (λ since same k. closed-on laws disk g.W.Write.contents (starts_by kind logging.listener)
          since
          c.finish-in-Back.result c.finish-in-Back.new.writer acting closed.copies
          (ap (λ (l : ListeningOver _). starts_by kind l) same) closed.printed
          (c.finish-in-Back.ensures.closed since acting k)) ended.5;
      said = at-finish g.F.Write.contents lines-read.notices c.finish-in-Back.new.notices
          c.args.first before lines-read.logging.keeper.has_failed
          c.finish-in-Back.result.has_failed w.0 lines c.finish-in-Back.ensures.failed
          c.finish-in-Back.ensures.told ended.6;
    }) c.answer-in-Back.result.0 c.answer-in-Back.result.1 is none c.answer-in-Back.ensures.device
    c.answer-in-Back.ensures.failed
    (λ well all. subst (AnswersStop c.args.first stop lines closed.copies)
    (sym (c.answer-in-Back.ensures.well well)) (refl, refl, refl))

pub returns-in-Read-clause-runs : goal.returns-in-Read-clause-runs
returns-in-Read-clause-runs g c = λ notices cut told loggable is none range heard kept.
    let disk = g.D.DiskFile in
    let kind = g.C.ChannelReceiver.kind in
    let laws = g.met.C.ChannelReceiver.laws in
    let logging = c.args.logging in
    let start = logging_to logging c.args.writer.now in
    let before = behind g.F.Write.contents notices cut in
    let lines-read = c.watch_lines.new in
    let w = c.in-Err.ensures.watched logging before (sym is)
    (none-yet-failed disk logging.keeper kept)
    (stands-first kind disk logging loggable range heard kept) told in
    let r : RunOverLines _ = record {
      stands = StandsStamped (telling kind disk g.W.Write.contents g.F.Write.contents before)
          c.args.first w.0 (stamps_of lines-read.reader);
      start = start;
      now = logging_to lines-read.logging lines-read.writer;
      first = c.args.first;
      AtEnd = IsAtEnd (g.R.Read.remaining (counted_of lines-read.reader).inner) ⊎
          (length w.0 ≡ most_bytes);
      tells = λ lines. HasToldSo before (g.F.Write.contents lines-read.notices.inner)
          lines-read.notices.failures
          (IsToldByEnd c.args.first w.0 lines lines-read.logging.keeper.has_failed);
    } in
    let ended = subst (λ e. AnswersRun r (Err e) w.0) c.in-Read.is w.3 in
    let stood = ended.3.stood.stands in
    has-run laws disk logging c.args.first g.R.Read.remaining (counted_of c.args.reader.now)
    (counted_of lines-read.reader)
    g.W.Write.contents c.args.writer.now lines-read.writer g.F.Write.contents notices
    lines-read.notices cut (stamps_of lines-read.reader) unread c.into_keeper.result (record {
      lines = ended.0;
      copies = stood.1.copies;
      texts = stood.1.texts;
      given = stood.0;
      bytes = w.0;
      each = stood.1.each;
      kept = subst (λ k. HasKept disk logging.keeper k stood.1.texts stood.0)
          (sym c.into_keeper.ensures) stood.1.kept;
      wrote = stood.2;
      consumed = w.1;
      within = w.2.0;
      reads = reads-all _ _ _ w.2.1 c.watch_lines.ensures.stamps;
      last_read = c.watch_lines.ensures.failed (c.in-Err.is ∙ ap Err c.in-Read.is);
      read = (ended.1, ended.2, ended.3.on);
      printed = stood.1.heard.in_turn;
      failed_read =
          (λ e. c.watch_lines.ensures.unread.0 (c.in-Err.is ∙ ap Err c.in-Read.is), λ f. refl);
      failed_write = none_failed _ c.watch_lines.ensures.written_once
          (λ f. absurd (apart-Written (sym (c.in-Err.is ∙ ap Err c.in-Read.is)
          ∙ c.watch_lines.ensures.unwritten.1 f)));
      stamped = stamps-keep kind disk g.W.Write.contents g.F.Write.contents before c.args.first
          start
          (logging_to lines-read.logging lines-read.writer) w.0 c.into_keeper.result
          (acting_lines c.args.first ended.0) (acting_lines c.args.first ended.0) stood.1.copies
          (stamps_of lines-read.reader) refl
          (λ since same k. heard-on laws disk g.W.Write.contents (starts_by kind logging.listener)
          since
          (logging_to lines-read.logging lines-read.writer) c.into_keeper.result
          (acting_lines c.args.first ended.0) stood.1.copies
          (ap (λ (l : ListeningOver _). starts_by kind l) same) stood.1.heard.in_turn
          c.into_keeper.ensures k)
          ended.3.stood;
      said = subst (λ k. HasToldSo before (g.F.Write.contents lines-read.notices.inner)
          lines-read.notices.failures (IsToldAtEnd c.args.first w.0 ended.0 k.has_failed))
          (sym c.into_keeper.ensures) (at-end c.args.first before
          lines-read.logging.keeper.has_failed (g.F.Write.contents lines-read.notices.inner)
          lines-read.notices.failures w.0 ended.0 ended.4);
    }) c.answer-in-Read.result.0 c.answer-in-Read.result.1 is none c.answer-in-Read.ensures.device
    c.answer-in-Read.ensures.failed
    (λ well all. subst (AnswersStop c.args.first unread ended.0 stood.1.copies)
    (sym (c.answer-in-Read.ensures.well well)) tt)

pub returns-in-Write-clause-runs : goal.returns-in-Write-clause-runs
returns-in-Write-clause-runs g c = λ notices cut told loggable is none range heard kept.
    let disk = g.D.DiskFile in
    let kind = g.C.ChannelReceiver.kind in
    let laws = g.met.C.ChannelReceiver.laws in
    let logging = c.args.logging in
    let start = logging_to logging c.args.writer.now in
    let before = behind g.F.Write.contents notices cut in
    let lines-read = c.watch_lines.new in
    let w = c.in-Err.ensures.watched logging before (sym is)
    (none-yet-failed disk logging.keeper kept)
    (stands-first kind disk logging loggable range heard kept) told in
    let r : RunOverLines _ = record {
      stands = StandsStamped (telling kind disk g.W.Write.contents g.F.Write.contents before)
          c.args.first w.0 (stamps_of lines-read.reader);
      start = start;
      now = logging_to lines-read.logging lines-read.writer;
      first = c.args.first;
      AtEnd = IsAtEnd (g.R.Read.remaining (counted_of lines-read.reader).inner) ⊎
          (length w.0 ≡ most_bytes);
      tells = λ lines. HasToldSo before (g.F.Write.contents lines-read.notices.inner)
          lines-read.notices.failures
          (IsToldByEnd c.args.first w.0 lines lines-read.logging.keeper.has_failed);
    } in
    let ended = subst (λ e. AnswersRun r (Err e) w.0) c.in-Write.is w.3 in
    let stood = ended.3.stood.stands in
    let keeper = c.into_keeper-in-Write.result in
    let unwritten_one = c.watch_lines.ensures.unwritten.0 (c.in-Err.is ∙ ap Err c.in-Write.is) in
    has-run laws disk logging c.args.first g.R.Read.remaining (counted_of c.args.reader.now)
    (counted_of lines-read.reader)
    g.W.Write.contents c.args.writer.now lines-read.writer g.F.Write.contents notices
    lines-read.notices cut (stamps_of lines-read.reader) unwritten keeper (record {
      lines = ended.0 ++ Some ended.1 ∷ [];
      copies = stood.1.copies;
      texts = stood.1.texts;
      given = stood.0;
      bytes = w.0;
      each = stood.1.each;
      kept = subst (λ k. HasKept disk logging.keeper k stood.1.texts stood.0)
          (sym c.into_keeper-in-Write.ensures) stood.1.kept;
      wrote = stood.2;
      consumed = w.1;
      within = w.2.0;
      reads = reads-all _ _ _ w.2.1 c.watch_lines.ensures.stamps;
      last_read = tt;
      read = (ended.0, ended.1, refl, ended.2);
      printed = stood.1.heard.in_turn;
      failed_read = (
        λ e. absurd (unwritten-apart e),
        λ f. absurd (apart-Write (sym (c.in-Err.is ∙ ap Err c.in-Write.is)
            ∙ c.watch_lines.ensures.unread.1 f)),
      );
      failed_write = unwritten_one;
      stamped = stamps-keep kind disk g.W.Write.contents g.F.Write.contents before c.args.first
          start
          (logging_to lines-read.logging lines-read.writer) w.0 keeper
          (acting_lines c.args.first (ended.0 ++ Some ended.1 ∷ []))
          (acting_lines c.args.first (ended.0 ++ Some ended.1 ∷ [])) stood.1.copies
          (stamps_of lines-read.reader) refl
          (λ since same k. heard-on laws disk g.W.Write.contents (starts_by kind logging.listener)
          since
          (logging_to lines-read.logging lines-read.writer) keeper
          (acting_lines c.args.first (ended.0 ++ Some ended.1 ∷ [])) stood.1.copies
          (ap (λ (l : ListeningOver _). starts_by kind l) same) stood.1.heard.in_turn
          c.into_keeper-in-Write.ensures k) ended.3.stood;
      said = subst (λ k. HasToldSo before (g.F.Write.contents lines-read.notices.inner)
          lines-read.notices.failures
          (IsToldAtEnd c.args.first w.0 (ended.0 ++ Some ended.1 ∷ []) k.has_failed))
          (sym c.into_keeper-in-Write.ensures) (at-end c.args.first before
          lines-read.logging.keeper.has_failed (g.F.Write.contents lines-read.notices.inner)
          lines-read.notices.failures w.0 (ended.0 ++ Some ended.1 ∷ []) ended.4);
    }) c.answer-in-Write.result.0 c.answer-in-Write.result.1 is none
    c.answer-in-Write.ensures.device
    c.answer-in-Write.ensures.failed
    (λ well all. absurd (wrote-some logging.keeper keeper _ _ _ _ c.requires.writer unwritten_one
    stood.2 all))

-- what was told when the lines were over, however they ended
told-lines : (g : _) → (c : After-watch_lines g) → (before : ToldBefore)
    → HasTold before.old (g.F.Write.contents c.args.notices.now.inner) c.args.notices.now.failures
    before.text
    → PrintsLoggable g.C.ChannelReceiver.kind.printing
    → c.args.first.newest ≡ (starts_by g.C.ChannelReceiver.kind c.args.logging.listener).moment
    → (starts_by g.C.ChannelReceiver.kind c.args.logging.listener).moment ≤ last_moment
    → HearsBy g.C.ChannelReceiver.kind (starts_by g.C.ChannelReceiver.kind c.args.logging.listener)
    c.args.logging.listener [] []
    → HasKept g.D.DiskFile c.args.logging.keeper c.args.logging.keeper [] []
    → (bytes : List ℕ) × (lines : List (Option Line))
    × HasToldSo before (g.F.Write.contents c.watch_lines.new.notices.inner)
    c.watch_lines.new.notices.failures
    (IsToldByEnd c.args.first bytes lines c.watch_lines.new.logging.keeper.has_failed)
told-lines g c before said loggable is range heard kept =
    let disk = g.D.DiskFile in
    let kind = g.C.ChannelReceiver.kind in
    let lines-read = c.watch_lines.new in
    let w = c.watch_lines.ensures.watched c.args.logging before (sym is)
    (none-yet-failed disk c.args.logging.keeper kept)
    (stands-first kind disk c.args.logging loggable range heard kept) said in
    let r : RunOverLines _ = record {
      stands = StandsStamped (telling kind disk g.W.Write.contents g.F.Write.contents before)
          c.args.first w.0 (stamps_of lines-read.reader);
      start = logging_to c.args.logging c.args.writer.now;
      now = logging_to lines-read.logging lines-read.writer;
      first = c.args.first;
      AtEnd = IsAtEnd (g.R.Read.remaining (counted_of lines-read.reader).inner) ⊎
          (length w.0 ≡ most_bytes);
      tells = λ lines. HasToldSo before (g.F.Write.contents lines-read.notices.inner)
          lines-read.notices.failures
          (IsToldByEnd c.args.first w.0 lines lines-read.logging.keeper.has_failed);
    } in
    let told = tells-some r c.watch_lines.result w.0 w.3 in
    (w.0, told.0, told.1)

-- behind what is cut
told-behind : (first : StartMoments) (old new : Option (List ℕ)) (failures : ℕ) (cut : List ℕ)
    (bytes : List ℕ) (lines : List (Option Line)) (failed : Bool) → TellsOfSomeCut cut
    → HasToldSo (record { old = old; text = cut }) new failures
    (IsToldAtEnd first bytes lines failed)
    → TellsOfLines old new failures
told-behind first old new failures cut bytes lines failed some h =
    (cut, some, first, bytes, lines, failed, h.0, h.1, h.2)

pub returns-in-Ok-clause-told : goal.returns-in-Ok-clause-told
returns-in-Ok-clause-told g c = λ old cut some said loggable is range heard kept.
    let before : ToldBefore = record { old = old; text = cut } in
    let mid = c.watch_lines.new in
    let after = c.finish.new.notices in
    let t = told-lines g (goal.at.returns-in-Ok-clause-told g c).After-watch_lines before said
    loggable
    is range heard kept in
    told-behind c.args.first old (g.F.Write.contents after.inner) after.failures cut t.0 t.1
    c.finish.result.has_failed some
    (at-finish g.F.Write.contents mid.notices after c.args.first before
    mid.logging.keeper.has_failed c.finish.result.has_failed t.0 t.1 c.finish.ensures.failed
    c.finish.ensures.told t.2)

pub returns-in-Back-clause-told : goal.returns-in-Back-clause-told
returns-in-Back-clause-told g c = λ old cut some said loggable is range heard kept.
    let before : ToldBefore = record { old = old; text = cut } in
    let mid = c.watch_lines.new in
    let after = c.finish-in-Back.new.notices in
    let t = told-lines g (goal.at.returns-in-Back-clause-told g c).After-watch_lines before said
    loggable
    is range heard kept in
    told-behind c.args.first old (g.F.Write.contents after.inner) after.failures cut t.0 t.1
    c.finish-in-Back.result.has_failed some
    (at-finish g.F.Write.contents mid.notices after c.args.first before
    mid.logging.keeper.has_failed c.finish-in-Back.result.has_failed t.0 t.1
    c.finish-in-Back.ensures.failed c.finish-in-Back.ensures.told t.2)

-- where nothing was closed
told-open : (g : _) → (c : After-watch_lines g) → (old : Option (List ℕ)) (cut : List ℕ)
    → TellsOfSomeCut cut
    → HasTold old (g.F.Write.contents c.args.notices.now.inner) c.args.notices.now.failures cut
    → PrintsLoggable g.C.ChannelReceiver.kind.printing
    → c.args.first.newest ≡ (starts_by g.C.ChannelReceiver.kind c.args.logging.listener).moment
    → (starts_by g.C.ChannelReceiver.kind c.args.logging.listener).moment ≤ last_moment
    → HearsBy g.C.ChannelReceiver.kind (starts_by g.C.ChannelReceiver.kind c.args.logging.listener)
    c.args.logging.listener [] []
    → HasKept g.D.DiskFile c.args.logging.keeper c.args.logging.keeper [] []
    → TellsOfLines old (g.F.Write.contents c.watch_lines.new.notices.inner)
    c.watch_lines.new.notices.failures
told-open g c old cut some said loggable is range heard kept =
    let before : ToldBefore = record { old = old; text = cut } in
    let mid = c.watch_lines.new in
    let new = g.F.Write.contents mid.notices.inner in
    let failures = mid.notices.failures in
    let failed = mid.logging.keeper.has_failed in
    let t = told-lines g c before said loggable is range heard kept in
    told-behind c.args.first old new failures cut t.0 t.1 failed some
    (at-end c.args.first before failed new failures t.0 t.1 t.2)

pub returns-in-Read-clause-told : goal.returns-in-Read-clause-told
returns-in-Read-clause-told g c =
    told-open g (goal.at.returns-in-Read-clause-told g c).After-watch_lines

pub returns-in-Write-clause-told : goal.returns-in-Write-clause-told
returns-in-Write-clause-told g c =
    told-open g (goal.at.returns-in-Write-clause-told g c).After-watch_lines
