use Rattle.std.proofs.Common.{◌≡◌, false, ◌≤◌, ◌∙◌, [], ℕ, List, Option, Result, Err, ap, append-nil, arith, inl, inr, refl, subst, sym}
use Rattle.std.proofs.KnownBytes.{Consumes-nil}
use Rattle.std.specs.Prelude.{unwrap_or}
use Rattle.std.specs.List.{AllZip}
use Rattle.nx_kept.specs.Log.{Keeps}
use Rattle.nx_log.specs.Entries.{IsWholeEntry}
use Rattle.nx_log.specs.Logged.{IsLoggedAs}
use Rattle.nx_envelope.specs.Moment.{last_moment}
use Rattle.nx_receiver.specs.Listener.{HearsBy, starts_by}
use Rattle.nx_watch.specs.declared.watch_report.WatchReport.{WatchReport}
use Rattle.nx_watch.specs.declared.watch_fault.WatchFault.{WatchFault}
use Rattle.nx_watch.specs.declared.watch_fault.WatchFault.TheVariants.{Damaged, Memory}
use Rattle.nx_copies.specs.copies.Shares.{Starts, starts_from}
use Rattle.nx_watch.specs.CutTold.{TellsOfSomeCut}
use Rattle.nx_watch.specs.LineRun.{HasTold, TellsOfLines}
use Rattle.nx_watch.specs.Watch.{AnswersOverBy, HasCause, RefusesLog, starts_at}
use Rattle.nx_watch.specs.Stamp.{AreTheReads}
use Rattle.nx_watch.specs.Stamps.{HasStampedReads, IsFresh, counted_of, cut_notes, stamps_of}
use Rattle.nx_watch.specs.ToldFirst.{ToldBeforeCut}
use Rattle.nx_watch.specs.declared.stamped.StampedReader.{StampedReader}
use Rattle.nx_watch.specs.declared.stamped.cut_notes.CutNotes.{CutNotes}
use Rattle.nx_watch.specs.declared.lines.line_effects.StartMoments.{StartMoments}
use Rattle.nx_watch.specs.private.Keeping.{HasKept}
use Rattle.nx_watch.proofs.lemmas.log.Keeping.{fresh-keeper, keeps-stands, kept-none}
use Rattle.nx_watch.proofs.lemmas.log.Opening.{answers-opening, answers-watch, cause-behind, cause-opening, damage-named, entries-of, has-opened, not-damaged, refuses, same-texts, started-before, started-so}
use Rattle.nx_watch.proofs.lemmas.log.Remembering.{took-all}
use Rattle.nx_watch.proofs.lemmas.log.Cutting.{but-notes, told-first, told-opening, untold-foreign}
use Rattle.nx_watch.proofs.left_on.watch_with.Goals as goal
use Rattle.nx_watch.proofs.left_on.watch_with.Goals.{After-run_watch}

abbrev err : WatchFault → Result WatchReport WatchFault
err fault = Err fault

apart : (line : ℕ) (first : Option ℕ) → err Memory ≡ err (Damaged line first) → ⊥
apart line first e = cc

same-fault : (fault : WatchFault) (line : ℕ) (first : Option ℕ)
    → err fault ≡ err (Damaged line first) → fault ≡ Damaged line first
same-fault fault line first e = cc

-- a reader with these notes
abbrev with-cuts : {R D W N : Type 0} → StampedReader R D W N → CutNotes D N
    → StampedReader R D W N
with-cuts reader cuts = record {
  reader = reader.reader;
  given = reader.given;
  stamps = reader.stamps;
  cuts = cuts;
}

same-reader : {R D W N : Type 0} (reader : StampedReader R D W N) (cuts : CutNotes D N)
    → cuts ≡ reader.cuts → with-cuts reader cuts ≡ reader
same-reader reader cuts same = ap (λ (c : CutNotes _ _). with-cuts reader c) same

-- ---- the log can't be opened

pub returns-in-Err-clause-watched : goal.returns-in-Err-clause-watched
returns-in-Err-clause-watched g c = λ start entries ex stands.
    let disk = g.D.DiskFile in
    let fault = c.in-Err.fault in
    let opened = has-opened disk start c.args.device c.in-Err.device g.R.Read.remaining
    (counted_of c.args.reader.now) (counted_of c.args.reader.now) g.W.Write.contents
    c.args.writer.now c.args.writer.now
    g.F.Write.contents c.args.notices.now c.open_log.new.notices entries stands.texts
    stands.each
    (c.in-Err.ensures.any_moment_err start stands.texts ex stands.stands) refl refl
    (told-opening g.F.Write.contents (disk.seen start c.args.device) c.args.notices.now
    c.open_log.new.notices c.requires.notices (but-notes (c.in-Err.ensures.told_err start ex)))
    (stamps_of c.args.reader.now) c.requires.reader.none_made in
    rw c.fault_of.ensures
    (answers-opening _ g.C.ChannelReceiver.kind.printing c.args.moment entries fault opened
    (λ line first e. (c.in-Err.ensures.damaged start line first ex e).1.not_as_they_are
    (stands.texts, stands.stands)))

pub returns-in-Err-clause-damaged : goal.returns-in-Err-clause-damaged
returns-in-Err-clause-damaged g c = λ start line first ex e.
    c.in-Err.ensures.damaged start line first ex
    (damage-named c.in-Err.fault line first (sym c.fault_of.ensures
    ∙ same-fault c.fault_of.result line first e))

pub returns-in-Err-clause-first : goal.returns-in-Err-clause-first
returns-in-Err-clause-first g c = λ start line first ex e.
    c.in-Err.ensures.first start line first ex
    (damage-named c.in-Err.fault line first (sym c.fault_of.ensures
    ∙ same-fault c.fault_of.result line first e))

pub returns-in-Err-clause-refused : goal.returns-in-Err-clause-refused
returns-in-Err-clause-refused g c = λ start ex none.
    let disk = g.D.DiskFile in
    subst (λ f. RefusesLog (disk.seen start c.args.device) (Err f)) (sym c.fault_of.ensures)
    (refuses (disk.seen start c.args.device) c.in-Err.fault
    (λ line first e. c.in-Err.ensures.damaged start line first ex e))

pub returns-in-Err-clause-foreign : goal.returns-in-Err-clause-foreign
returns-in-Err-clause-foreign g c = λ start ex none.
    let disk = g.D.DiskFile in
    let untold = untold-foreign g.F.Write.contents (disk.seen start c.args.device)
    c.args.notices.now c.open_log.new.notices none (c.in-Err.ensures.told_err start ex) in (
      c.in-Err.ensures.only_read_err start ex none,
      same-reader c.args.reader.now c.open_log.new.cuts untold.1,
      refl,
      untold.0,
    )

pub returns-in-Err-clause-cause : goal.returns-in-Err-clause-cause
returns-in-Err-clause-cause g c =
    let disk = g.D.DiskFile in
    subst (λ f. HasCause disk (Err f) c.args.device c.in-Err.device) (sym c.fault_of.ensures)
    (cause-opening disk c.in-Err.fault c.args.device c.in-Err.device c.in-Err.ensures.cause)

pub returns-in-Err-clause-told_first : goal.returns-in-Err-clause-told_first
returns-in-Err-clause-told_first g c = λ start ex.
    c.in-Err.ensures.told_first_err start ex c.requires.notices

pub returns-in-Err-clause-within : goal.returns-in-Err-clause-within
returns-in-Err-clause-within g c = λ start ex. c.in-Err.ensures.within start ex

-- ---- memory ran out

pub returns-in_default-clause-watched : goal.returns-in_default-clause-watched
returns-in_default-clause-watched g c = λ start entries ex stands.
    let disk = g.D.DiskFile in
    let log = c.in-Ok.log in
    let explained = subst (disk.explains start) c.answer.ensures.device ex in
    let opened = has-opened disk start c.args.device log.device g.R.Read.remaining
    (counted_of c.args.reader.now) (counted_of c.args.reader.now) g.W.Write.contents
    c.args.writer.now c.args.writer.now
    g.F.Write.contents c.args.notices.now c.open_log.new.notices entries stands.texts
    stands.each
    (c.in-Ok.ensures.any_moment start stands.texts explained stands.stands) refl refl
    (told-opening g.F.Write.contents (disk.seen start c.args.device) c.args.notices.now
    c.open_log.new.notices c.requires.notices (inl (c.in-Ok.ensures.opened start explained).told))
    (stamps_of c.args.reader.now) c.requires.reader.none_made in
    rw (c.answer.ensures.well refl, c.answer.ensures.device) opened

pub returns-in_default-clause-damaged : goal.returns-in_default-clause-damaged
returns-in_default-clause-damaged g c = λ start line first ex e.
    absurd (apart line first (sym (c.answer.ensures.well refl) ∙ e))

pub returns-in_default-clause-first : goal.returns-in_default-clause-first
returns-in_default-clause-first g c = λ start line first ex e.
    absurd (apart line first (sym (c.answer.ensures.well refl) ∙ e))

pub returns-in_default-clause-refused : goal.returns-in_default-clause-refused
returns-in_default-clause-refused g c = λ start ex none.
    let disk = g.D.DiskFile in
    let opened = c.in-Ok.ensures.opened start (subst (disk.explains start) c.answer.ensures.device
    ex) in
    let o = opened in
    absurd (none (
      o.records,
      record {
        front = o.front;
        tail = o.tail;
        kept = o.kept;
        end = o.end;
        split = o.split;
      },
    ))

pub returns-in_default-clause-foreign : goal.returns-in_default-clause-foreign
returns-in_default-clause-foreign g c = λ start ex none.
    let disk = g.D.DiskFile in
    let opened = c.in-Ok.ensures.opened start (subst (disk.explains start) c.answer.ensures.device
    ex) in
    let o = opened in
    absurd (none (
      o.records,
      record {
        front = o.front;
        tail = o.tail;
        kept = o.kept;
        end = o.end;
        split = o.split;
      },
    ))

pub returns-in_default-clause-cause : goal.returns-in_default-clause-cause
returns-in_default-clause-cause g c =
    let disk = g.D.DiskFile in
    subst (λ o. HasCause disk o c.args.device c.answer.result.1) (sym (c.answer.ensures.well refl))
    (ap disk.faults c.answer.ensures.device ∙ c.in-Ok.ensures.faults)

pub returns-in_default-clause-explained : goal.returns-in_default-clause-explained
returns-in_default-clause-explained g c = λ start ex.
    let disk = g.D.DiskFile in
    c.in-Ok.ensures.explained start (subst (disk.explains start) c.answer.ensures.device ex)

pub returns-in_default-clause-told_first : goal.returns-in_default-clause-told_first
returns-in_default-clause-told_first g c = λ start ex.
    let disk = g.D.DiskFile in
    inr (c.in-Ok.ensures.told_first start (subst (disk.explains start) c.answer.ensures.device ex)
    c.requires.notices)

pub returns-in_default-clause-within : goal.returns-in_default-clause-within
returns-in_default-clause-within g c = λ start ex other.
    let disk = g.D.DiskFile in
    absurd (other (ap disk.faults c.answer.ensures.device ∙ c.in-Ok.ensures.faults))

-- ---- it was started

-- the run begins with a listener that has heard and kept nothing
begins : (g : _) → (c : After-run_watch g)
    → (c.unwrap_or.result ≡ (starts_by g.C.ChannelReceiver.kind c.in-Ok-starting.listener).moment)
    × ((starts_by g.C.ChannelReceiver.kind c.in-Ok-starting.listener).moment ≤ last_moment)
    × HearsBy g.C.ChannelReceiver.kind (starts_by g.C.ChannelReceiver.kind
    c.in-Ok-starting.listener) c.in-Ok-starting.listener [] []
    × HasKept g.D.DiskFile (fresh-keeper c.in-Ok.log) (fresh-keeper c.in-Ok.log) [] []
begins g c =
    let disk = g.D.DiskFile in
    let listener = c.in-Ok-starting.listener in
    let start = c.in-Ok-starting.ensures.start in (
      c.unwrap_or.ensures ∙ ap (λ o. unwrap_or o 0) c.newest.ensures
          ∙ sym (ap (λ (s : Starts). s.moment) start),
      subst (λ (s : Starts). s.moment ≤ last_moment) (sym start) c.in-Ok-starting.ensures.range,
      subst (λ (s : Starts). HearsBy g.C.ChannelReceiver.kind s listener [] []) (sym start)
          c.in-Ok-starting.ensures.heard,
      record {
        before = omega arith;
        since = kept-none disk (fresh-keeper c.in-Ok.log) 0 refl refl
            (λ content file left. g.met.D.DiskFile.only_now content c.in-Ok.log.device file left);
      },
    )

-- whatever was told, the run was as it is said of it
ran : (g : _) → (c : After-run_watch g) → (cut : List ℕ)
    × TellsOfSomeCut cut
    × HasTold (g.F.Write.contents c.args.notices.now.inner)
    (g.F.Write.contents c.open_log.new.notices.inner) c.open_log.new.notices.failures
    cut
ran g c =
    let told = c.open_log.ensures.told in (
      told.0,
      told.1,
      told-first g.F.Write.contents c.args.notices.now c.open_log.new.notices told.0
          c.requires.notices told.2,
    )

pub returns-clause-watched : goal.returns-clause-watched
returns-clause-watched g c = λ start entries ex stands.
    let disk = g.D.DiskFile in
    let log = c.in-Ok.log in
    let b = begins g (goal.at.returns-clause-watched g c).After-run_watch in
    let some = ran g (goal.at.returns-clause-watched g c).After-run_watch in
    let any = c.run_watch.ensures.runs c.args.notices.now some.0 some.2 c.requires.loggable b.0 refl
    b.1 b.2 b.3 in
    let explained = any.explained start ex in
    let opened = c.in-Ok.ensures.opened start explained in
    let o = opened in
    let told = o.told in
    let run = c.run_watch.ensures.runs c.args.notices.now told.0
    (told-first g.F.Write.contents c.args.notices.now c.open_log.new.notices told.0
    c.requires.notices told.2) c.requires.loggable b.0 refl b.1 b.2 b.3 in
    let same = same-texts stands.texts o.records o.front o.tail (disk.seen start c.args.device)
    stands.stands o.kept o.end o.split in
    let each = subst (AllZip IsLoggedAs entries) same stands.each in
    let keeps : Keeps (disk.seen start) (disk.may_leave start) IsWholeEntry o.records log =
    record { front = o.front; kept = o.kept; at_rest = opened.at_rest } in
    let saved = c.saved_at-saved.ensures entries
    (took-all c.new-memory.result c.open_log.new.memory entries o.records c.new-memory.ensures each
    o.taken) in
    let starts : starts_by g.C.ChannelReceiver.kind c.in-Ok-starting.listener ≡ starts_at
    c.args.moment entries =
    c.in-Ok-starting.ensures.start ∙ ap starts_from saved in
    let answer = run.answers start (disk.seen start c.args.device) entries o.records told.1 each
    keeps in
    answers-watch _ g.C.ChannelReceiver.kind.printing entries c.args.moment c.run_watch.result.0
    (started-before disk start c.args.device log.device c.run_watch.result.1 g.R.Read.remaining
    (counted_of c.args.reader.now) (counted_of c.run_watch.new.reader) g.W.Write.contents
    c.args.writer.now c.run_watch.new.writer
    g.F.Write.contents c.args.notices.now c.run_watch.new.notices (stamps_of c.run_watch.new.reader)
    g.C.ChannelReceiver.kind.printing (disk.seen start c.args.device)
    (starts_at c.args.moment entries)
    entries o.records c.run_watch.result.0 each c.in-Ok.ensures.faults
    (c.in-Ok.ensures.any_moment start o.records explained (record {
      front = o.front;
      tail = o.tail;
      kept = o.kept;
      end = o.end;
      split = o.split;
    }))
    (λ file left. keeps-stands disk start o.records (fresh-keeper log) keeps file left)
    (started-so _ g.C.ChannelReceiver.kind.printing (disk.seen start c.args.device) entries
    c.run_watch.result.0 starts answer))

pub returns-clause-cause : goal.returns-clause-cause
returns-clause-cause g c =
    let disk = g.D.DiskFile in
    let b = begins g (goal.at.returns-clause-cause g c).After-run_watch in
    let some = ran g (goal.at.returns-clause-cause g c).After-run_watch in
    cause-behind disk c.run_watch.result.0 c.args.device c.in-Ok.log.device c.run_watch.result.1
    c.in-Ok.ensures.faults
    (c.run_watch.ensures.runs c.args.notices.now some.0 some.2 c.requires.loggable b.0 refl b.1 b.2
    b.3).cause

pub returns-clause-within : goal.returns-clause-within
returns-clause-within g c = λ start ex other.
    let disk = g.D.DiskFile in
    let b = begins g (goal.at.returns-clause-within g c).After-run_watch in
    let some = ran g (goal.at.returns-clause-within g c).After-run_watch in
    let ran-so = c.run_watch.ensures.runs c.args.notices.now some.0 some.2 c.requires.loggable b.0
    refl b.1 b.2 b.3 in
    let o = c.in-Ok.ensures.opened start (ran-so.explained start ex) in
    ran-so.within start o.records
    (record { front = o.front; kept = o.kept; at_rest = o.at_rest })
    (λ same. other (same ∙ c.in-Ok.ensures.faults))

pub returns-clause-explained : goal.returns-clause-explained
returns-clause-explained g c = λ start ex.
    let b = begins g (goal.at.returns-clause-explained g c).After-run_watch in
    let some = ran g (goal.at.returns-clause-explained g c).After-run_watch in
    c.in-Ok.ensures.explained start
    ((c.run_watch.ensures.runs c.args.notices.now some.0 some.2 c.requires.loggable b.0 refl b.1 b.2
    b.3).explained
    start ex)

pub returns-clause-told_first : goal.returns-clause-told_first
returns-clause-told_first g c = λ start ex.
    let disk = g.D.DiskFile in
    let b = begins g (goal.at.returns-clause-told_first g c).After-run_watch in
    let some = ran g (goal.at.returns-clause-told_first g c).After-run_watch in
    let ran-so = c.run_watch.ensures.runs c.args.notices.now some.0 some.2 c.requires.loggable b.0
    refl b.1 b.2 b.3 in
    inr (subst (λ notes. ToldBeforeCut disk g.F.Write.contents c.args.device c.args.notices.now
    (cut_notes c.args.reader.now) notes start) (sym c.run_watch.ensures.cuts)
    (c.in-Ok.ensures.told_first start (ran-so.explained start ex) c.requires.notices))

pub returns-clause-damaged : goal.returns-clause-damaged
returns-clause-damaged g c = λ start line first ex e.
    let disk = g.D.DiskFile in
    let log = c.in-Ok.log in
    let b = begins g (goal.at.returns-clause-damaged g c).After-run_watch in
    let some = ran g (goal.at.returns-clause-damaged g c).After-run_watch in
    let any = c.run_watch.ensures.runs c.args.notices.now some.0 some.2 c.requires.loggable b.0 refl
    b.1 b.2 b.3 in
    let opened = c.in-Ok.ensures.opened start (any.explained start ex) in
    let o = opened in
    let found = entries-of o.records o.front o.kept in
    let told = o.told in
    let run = c.run_watch.ensures.runs c.args.notices.now told.0
    (told-first g.F.Write.contents c.args.notices.now c.open_log.new.notices told.0
    c.requires.notices told.2) c.requires.loggable b.0 refl b.1 b.2 b.3 in
    let keeps : Keeps (disk.seen start) (disk.may_leave start) IsWholeEntry o.records log =
    record { front = o.front; kept = o.kept; at_rest = opened.at_rest } in
    let answer = run.answers start (disk.seen start c.args.device) found.0 o.records told.1 found.1
    keeps in
    absurd (not-damaged _ g.C.ChannelReceiver.kind.printing found.0 (disk.seen start c.args.device)
    c.args.moment
    (starts_by g.C.ChannelReceiver.kind c.in-Ok-starting.listener) line first
    (subst (AnswersOverBy _ g.C.ChannelReceiver.kind.printing (disk.seen start c.args.device)
    c.args.moment
    (starts_by g.C.ChannelReceiver.kind c.in-Ok-starting.listener) found.0) e answer))

pub returns-clause-first : goal.returns-clause-first
returns-clause-first g c = λ start line first ex e.
    let disk = g.D.DiskFile in
    let log = c.in-Ok.log in
    let b = begins g (goal.at.returns-clause-first g c).After-run_watch in
    let some = ran g (goal.at.returns-clause-first g c).After-run_watch in
    let any = c.run_watch.ensures.runs c.args.notices.now some.0 some.2 c.requires.loggable b.0 refl
    b.1 b.2 b.3 in
    let opened = c.in-Ok.ensures.opened start (any.explained start ex) in
    let o = opened in
    let found = entries-of o.records o.front o.kept in
    let told = o.told in
    let run = c.run_watch.ensures.runs c.args.notices.now told.0
    (told-first g.F.Write.contents c.args.notices.now c.open_log.new.notices told.0
    c.requires.notices told.2) c.requires.loggable b.0 refl b.1 b.2 b.3 in
    let keeps : Keeps (disk.seen start) (disk.may_leave start) IsWholeEntry o.records log =
    record { front = o.front; kept = o.kept; at_rest = opened.at_rest } in
    let answer = run.answers start (disk.seen start c.args.device) found.0 o.records told.1 found.1
    keeps in
    absurd (not-damaged _ g.C.ChannelReceiver.kind.printing found.0 (disk.seen start c.args.device)
    c.args.moment
    (starts_by g.C.ChannelReceiver.kind c.in-Ok-starting.listener) line first
    (subst (AnswersOverBy _ g.C.ChannelReceiver.kind.printing (disk.seen start c.args.device)
    c.args.moment
    (starts_by g.C.ChannelReceiver.kind c.in-Ok-starting.listener) found.0) e answer))

pub returns-clause-refused : goal.returns-clause-refused
returns-clause-refused g c = λ start ex none.
    let b = begins g (goal.at.returns-clause-refused g c).After-run_watch in
    let some = ran g (goal.at.returns-clause-refused g c).After-run_watch in
    let any = c.run_watch.ensures.runs c.args.notices.now some.0 some.2 c.requires.loggable b.0 refl
    b.1 b.2 b.3 in
    let opened = c.in-Ok.ensures.opened start (any.explained start ex) in
    let o = opened in
    absurd (none (
      o.records,
      record {
        front = o.front;
        tail = o.tail;
        kept = o.kept;
        end = o.end;
        split = o.split;
      },
    ))

pub returns-clause-foreign : goal.returns-clause-foreign
returns-clause-foreign g c = λ start ex none.
    let b = begins g (goal.at.returns-clause-foreign g c).After-run_watch in
    let some = ran g (goal.at.returns-clause-foreign g c).After-run_watch in
    let any = c.run_watch.ensures.runs c.args.notices.now some.0 some.2 c.requires.loggable b.0 refl
    b.1 b.2 b.3 in
    let opened = c.in-Ok.ensures.opened start (any.explained start ex) in
    let o = opened in
    absurd (none (
      o.records,
      record {
        front = o.front;
        tail = o.tail;
        kept = o.kept;
        end = o.end;
        split = o.split;
      },
    ))

-- ---- what was told

-- where no line is told of, the moments of the start are any
abbrev no-start : StartMoments
no-start = record { newest = 0; started = 0 }

-- nothing of lines
no-lines : (old new : Option (List ℕ)) (failures : ℕ) (cut : List ℕ) → TellsOfSomeCut cut
    → HasTold old new failures cut → TellsOfLines old new failures
no-lines old new failures cut some told = (
  cut,
  some,
  no-start,
  [],
  [],
  false,
  [],
  inl ([], ([], refl, inl refl), refl),
  subst (HasTold old new failures) (sym (append-nil cut)) told,
)

pub returns-in-Err-clause-told : goal.returns-in-Err-clause-told
returns-in-Err-clause-told g c =
    let told = c.open_log.ensures.told in
    no-lines _ _ _ told.0 told.1
    (told-first g.F.Write.contents c.args.notices.now c.open_log.new.notices told.0
    c.requires.notices told.2)

pub returns-in_default-clause-told : goal.returns-in_default-clause-told
returns-in_default-clause-told g c =
    let told = c.open_log.ensures.told in
    no-lines _ _ _ told.0 told.1
    (told-first g.F.Write.contents c.args.notices.now c.open_log.new.notices told.0
    c.requires.notices told.2)

pub returns-clause-told : goal.returns-clause-told
returns-clause-told g c =
    let b = begins g (goal.at.returns-clause-told g c).After-run_watch in
    let some = ran g (goal.at.returns-clause-told g c).After-run_watch in
    c.run_watch.ensures.told (g.F.Write.contents c.args.notices.now.inner) some.0 some.1 some.2
    c.requires.loggable b.0
    b.1 b.2 b.3

-- ---- the stamps are the reads

-- nothing was read
unread : {R D W N : Type 0} (remaining : R → Option (List ℕ)) (reader : StampedReader R D W N)
    → IsFresh reader → HasStampedReads remaining reader reader
unread remaining reader fresh = (
  [],
  Consumes-nil (remaining (counted_of reader).inner),
  subst (λ s. AreTheReads s 0) (sym fresh.none_made) refl,
)

pub returns-in-Err-clause-stamps : goal.returns-in-Err-clause-stamps
returns-in-Err-clause-stamps g c =
    unread g.R.Read.remaining c.args.reader.now c.requires.reader

pub returns-in_default-clause-stamps : goal.returns-in_default-clause-stamps
returns-in_default-clause-stamps g c =
    unread g.R.Read.remaining c.args.reader.now c.requires.reader
