use Rattle.std.proofs.Common.{arith, rules, ◌≡◌, ◌∙◌, List, [], ℕ, length, take, inl, inr, refl, subst}
use Rattle.std.proofs.lemmas.List.{take_at}
use Rattle.std.proofs.lemmas.Result.{err_from_is_err_and}
use Rattle.nx_kept.specs.Kept.{IsDamaged, first_byte}
use Rattle.nx_kept.proofs.lemmas.Calls.{file_of, sync_reads}
use Rattle.nx_kept.proofs.lemmas.Pieces.{on_err}
use Rattle.nx_kept.proofs.lemmas.Repairing.{read_cause, read_first, repaired}
use Rattle.nx_kept.proofs.lemmas.Stages.{reads_both, rests}
use Rattle.nx_kept.proofs.lemmas.Scanning.{nothing_heard}
use Rattle.nx_kept.proofs.lemmas.Settling.{all_of, heard_later, is_kept_log, settled_closed, settled_repaired}
use Rattle.nx_kept.proofs.lemmas.Staying.{reads_stay, repairs_stay}
use Rattle.nx_kept.specs.Taker.{HeardOfCut, HearsBeforeCut, IsUntouched, cut_of}
use Rattle.nx_kept.proofs.opening.settle.Goals as goal
use Rattle.nx_kept.proofs.opening.settle.Goals.{After-repair}

-- once it has been read, the file hasn't been touched
scanned : (g : _) → (c : After-repair g)
    → IsUntouched g.D.DiskFile c.args.device.now c.scan.new.device
scanned g c = λ start.
    let d = g.D.DiskFile in
    let f = file_of (d.seen start) (d.may_leave start) d.moment (d.left_since start) in
    let first = sync_reads f (g.met.D.DiskFile.only_now start c.args.device.now)
    (record {
      time = c.sync.ensures.time start;
      crash = c.sync.ensures.crash start;
      seen = c.sync.ensures.seen start;
    }) in
    reads_both f.moment f.left_since f.may_leave f.seen c.args.device.now c.sync.new.self
    c.scan.new.device first (c.scan.ensures.only_reads start)

-- and what is cut is told before it is
told_there : (g : _) → (c : After-repair g)
    → HeardOfCut (HearsBeforeCut g.D.DiskFile g.T.RecordTaker.hears_of_cut c.args.device.now)
    c.in_ok-rest.rest.line (cut_of (take c.in_ok-rest.rest.count c.scan.new.buffer))
    c.scan.new.taker c.repair.new.taker
told_there g c =
    let size : length c.scan.new.buffer ≡ c.in_ok-buffer.buffer.len =
    omega (arith, c.scan.auto.buffer, c.deref_mut.ensures.len) in
    let same : c.deref.result.now ≡ c.scan.new.buffer =
    c.deref.ensures.value ∙ take_at c.scan.new.buffer _ c.in_ok-buffer.buffer.len size in
    subst (λ (l : List ℕ). HeardOfCut
    (HearsBeforeCut g.D.DiskFile g.T.RecordTaker.hears_of_cut c.args.device.now)
    c.in_ok-rest.rest.line (cut_of (take c.in_ok-rest.rest.count l)) c.scan.new.taker
    c.repair.new.taker) same
    (heard_later g.D.DiskFile g.T.RecordTaker.hears_of_cut (scanned g c)
    c.repair.ensures.told)

-- the file is being brought to the disk
pub returns-in_err-sync-clause-synced_first_err : goal.returns-in_err-sync-clause-synced_first_err
returns-in_err-sync-clause-synced_first_err g c = λ start records explains stands.
    let d = g.D.DiskFile in
    let f = file_of (d.seen start) (d.may_leave start) d.moment (d.left_since start) in
    let first = sync_reads f (g.met.D.DiskFile.only_now start c.args.device.now)
    (record {
      time = c.sync.ensures.time start;
      crash = c.sync.ensures.crash start;
      seen = c.sync.ensures.seen start;
    }) in
    on_err c.from_residual-in_err-sync.result (inr first)

-- which changes nothing
pub returns-in_err-sync-clause-only_read_err : goal.returns-in_err-sync-clause-only_read_err
returns-in_err-sync-clause-only_read_err g c = λ start explains none.
    let d = g.D.DiskFile in
    let f = file_of (d.seen start) (d.may_leave start) d.moment (d.left_since start) in
    let first = sync_reads f (g.met.D.DiskFile.only_now start c.args.device.now)
    (record {
      time = c.sync.ensures.time start;
      crash = c.sync.ensures.crash start;
      seen = c.sync.ensures.seen start;
    }) in
    first

-- it is being read
pub returns-in_err-rest-clause-synced_first_err : goal.returns-in_err-rest-clause-synced_first_err
returns-in_err-rest-clause-synced_first_err g c = λ start records explains stands.
    let d = g.D.DiskFile in
    let f = file_of (d.seen start) (d.may_leave start) d.moment (d.left_since start) in
    let first = sync_reads f (g.met.D.DiskFile.only_now start c.args.device.now)
    (record {
      time = c.sync.ensures.time start;
      crash = c.sync.ensures.crash start;
      seen = c.sync.ensures.seen start;
    }) in
    on_err c.from_residual-in_err-rest.result
    (inl (read_first f g.G.Grammar.is_record g.G.Grammar.LONGEST records stands first
    (c.in_ok-sync.ensures.durable start) (c.scan.ensures.only_reads start)))

-- which changes nothing either
pub returns-in_err-rest-clause-only_read_err : goal.returns-in_err-rest-clause-only_read_err
returns-in_err-rest-clause-only_read_err g c = λ start explains none.
    let d = g.D.DiskFile in
    let f = file_of (d.seen start) (d.may_leave start) d.moment (d.left_since start) in
    let first = sync_reads f (g.met.D.DiskFile.only_now start c.args.device.now)
    (record {
      time = c.sync.ensures.time start;
      crash = c.sync.ensures.crash start;
      seen = c.sync.ensures.seen start;
    }) in
    let both = reads_both f.moment f.left_since f.may_leave f.seen c.args.device.now c.sync.new.self
    c.scan.new.device first (c.scan.ensures.only_reads start) in
    both

-- its end is being put right
pub returns-in_err-repair-clause-synced_first_err :
    goal.returns-in_err-repair-clause-synced_first_err
returns-in_err-repair-clause-synced_first_err g c = λ start records explains stands.
    let d = g.D.DiskFile in
    let f = file_of (d.seen start) (d.may_leave start) d.moment (d.left_since start) in
    let first = sync_reads f (g.met.D.DiskFile.only_now start c.args.device.now)
    (record {
      time = c.sync.ensures.time start;
      crash = c.sync.ensures.crash start;
      seen = c.sync.ensures.seen start;
    }) in
    on_err c.from_residual-in_err-repair.result
    (inl (repaired f g.G.Grammar.is_record g.G.Grammar.LONGEST g.met.G.Grammar.some
    g.met.G.Grammar.one records c.in_ok-rest.rest stands first (c.in_ok-sync.ensures.durable start)
    (c.scan.ensures.only_reads start)
    (c.in_ok-rest.ensures.found start (c.repair.ensures.explained start explains))
    (c.repair.ensures.any_moment start)))

-- and was put right
pub returns-clause-synced_first : goal.returns-clause-synced_first
returns-clause-synced_first g c = λ start records explains stands.
    let d = g.D.DiskFile in
    let f = file_of (d.seen start) (d.may_leave start) d.moment (d.left_since start) in
    let first = sync_reads f (g.met.D.DiskFile.only_now start c.args.device.now)
    (record {
      time = c.sync.ensures.time start;
      crash = c.sync.ensures.crash start;
      seen = c.sync.ensures.seen start;
    }) in
    repaired f g.G.Grammar.is_record g.G.Grammar.LONGEST g.met.G.Grammar.some g.met.G.Grammar.one
    records c.in_ok-rest.rest stands first (c.in_ok-sync.ensures.durable start)
    (c.scan.ensures.only_reads start)
    (c.in_ok-rest.ensures.found start (c.repair.ensures.explained start explains))
    (c.repair.ensures.any_moment start)

-- a log at rest was only read
pub returns-then-rest-clause-synced_first : goal.returns-then-rest-clause-synced_first
returns-then-rest-clause-synced_first g c = λ start records explains stands.
    let d = g.D.DiskFile in
    let f = file_of (d.seen start) (d.may_leave start) d.moment (d.left_since start) in
    let first = sync_reads f (g.met.D.DiskFile.only_now start c.args.device.now)
    (record {
      time = c.sync.ensures.time start;
      crash = c.sync.ensures.crash start;
      seen = c.sync.ensures.seen start;
    }) in
    read_first f g.G.Grammar.is_record g.G.Grammar.LONGEST records stands first
    (c.in_ok-sync.ensures.durable start) (c.scan.ensures.only_reads start)

-- its bytes too
pub returns-then-rest-clause-only_read : goal.returns-then-rest-clause-only_read
returns-then-rest-clause-only_read g c = λ start explains same.
    let d = g.D.DiskFile in
    let f = file_of (d.seen start) (d.may_leave start) d.moment (d.left_since start) in
    let first = sync_reads f (g.met.D.DiskFile.only_now start c.args.device.now)
    (record {
      time = c.sync.ensures.time start;
      crash = c.sync.ensures.crash start;
      seen = c.sync.ensures.seen start;
    }) in
    let both = reads_both f.moment f.left_since f.may_leave f.seen c.args.device.now c.sync.new.self
    c.scan.new.device first (c.scan.ensures.only_reads start) in
    both

pub returns-then-rest-clause-in_range : goal.returns-then-rest-clause-in_range
returns-then-rest-clause-in_range g c = c.in_ok-rest.ensures.closed_in_range (search rules)

pub returns-in_err-rest-clause-damaged : goal.returns-in_err-rest-clause-damaged
returns-in_err-rest-clause-damaged g c = λ start line first explains same.
    let p = err_from_is_err_and c.from_residual-in_err-rest.result
    c.from_residual-in_err-rest.ensures.1 in
    subst (λ (f : List ℕ). IsDamaged g.G.Grammar.is_record g.G.Grammar.LONGEST line f)
    (c.sync.ensures.seen start)
    (c.in_err-rest.ensures.damaged start line first explains (cc (p.1, p.2, same)))

pub returns-in_err-rest-clause-cause : goal.returns-in_err-rest-clause-cause
returns-in_err-rest-clause-cause g c =
    let p = err_from_is_err_and c.from_residual-in_err-rest.result
    c.from_residual-in_err-rest.ensures.1 in
    rw p.1 (rw p.2 (read_cause g.D.DiskFile.faults g.D.DiskFile.has_failed_to_read
    g.D.DiskFile.has_failed_to_write c.in_err-rest.field-0.0 c.args.device.now c.sync.new.self
    c.scan.new.device c.in_ok-sync.ensures.faults.ok c.in_err-rest.ensures.cause))

-- a closed gate is left
pub returns-then-rest-clause-settled : goal.returns-then-rest-clause-settled
returns-then-rest-clause-settled g c = λ start explains.
    let d = g.D.DiskFile in
    let f = file_of (d.seen start) (d.may_leave start) d.moment (d.left_since start) in
    let first = sync_reads f (g.met.D.DiskFile.only_now start c.args.device.now)
    (record {
      time = c.sync.ensures.time start;
      crash = c.sync.ensures.crash start;
      seen = c.sync.ensures.seen start;
    }) in
    settled_closed f g.G.Grammar.is_record g.G.Grammar.LONGEST g.T.RecordTaker.takes
    (HearsBeforeCut g.D.DiskFile g.T.RecordTaker.hears_of_cut c.args.device.now) first
    (c.in_ok-sync.ensures.durable start) (c.scan.ensures.only_reads start) c.scan.new.buffer
    c.args.taker.now c.scan.new.taker c.in_ok-rest.rest (c.in_ok-rest.ensures.found start explains)
    (search rules)

-- or made
pub returns-clause-settled : goal.returns-clause-settled
returns-clause-settled g c = λ start explains.
    let d = g.D.DiskFile in
    let f = file_of (d.seen start) (d.may_leave start) d.moment (d.left_since start) in
    let first = sync_reads f (g.met.D.DiskFile.only_now start c.args.device.now)
    (record {
      time = c.sync.ensures.time start;
      crash = c.sync.ensures.crash start;
      seen = c.sync.ensures.seen start;
    }) in
    settled_repaired f g.G.Grammar.is_record g.G.Grammar.LONGEST g.T.RecordTaker.takes
    (HearsBeforeCut g.D.DiskFile g.T.RecordTaker.hears_of_cut c.args.device.now) first
    (c.in_ok-sync.ensures.durable start) (c.scan.ensures.only_reads start) c.scan.new.buffer
    c.args.taker.now c.scan.new.taker c.in_ok-rest.rest
    (c.in_ok-rest.ensures.found start (c.repair.ensures.explained start explains))
    (told_there g (goal.at.returns-clause-settled g c).After-repair)
    (c.in_ok-repair.ensures.repaired start) (c.in_ok-repair.ensures.durable start)

-- and where that failed, what was to be cut had been heard of
pub returns-in_err-repair-clause-taken_err : goal.returns-in_err-repair-clause-taken_err
returns-in_err-repair-clause-taken_err g c = λ start explains.
    let d = g.D.DiskFile in
    let f = file_of (d.seen start) (d.may_leave start) d.moment (d.left_since start) in
    let first = sync_reads f (g.met.D.DiskFile.only_now start c.args.device.now)
    (record {
      time = c.sync.ensures.time start;
      crash = c.sync.ensures.crash start;
      seen = c.sync.ensures.seen start;
    }) in
    on_err c.from_residual-in_err-repair.result
    (inr (all_of f g.G.Grammar.is_record g.G.Grammar.LONGEST g.T.RecordTaker.takes
    (HearsBeforeCut g.D.DiskFile g.T.RecordTaker.hears_of_cut c.args.device.now) first
    (c.in_ok-sync.ensures.durable start) (c.scan.ensures.only_reads start) c.scan.new.buffer
    c.args.taker.now c.scan.new.taker c.in_ok-rest.rest
    (c.in_ok-rest.ensures.found start (c.repair.ensures.explained start explains))
    (told_there g (goal.at.returns-in_err-repair-clause-taken_err g c).After-repair)))

pub returns-in_err-repair-clause-told_first : goal.returns-in_err-repair-clause-told_first
returns-in_err-repair-clause-told_first g c = λ start explains same_fault.
    let d = g.D.DiskFile in
    let f = file_of (d.seen start) (d.may_leave start) d.moment (d.left_since start) in
    let first = sync_reads f (g.met.D.DiskFile.only_now start c.args.device.now)
    (record {
      time = c.sync.ensures.time start;
      crash = c.sync.ensures.crash start;
      seen = c.sync.ensures.seen start;
    }) in
    inr (all_of f g.G.Grammar.is_record g.G.Grammar.LONGEST g.T.RecordTaker.takes
    (HearsBeforeCut g.D.DiskFile g.T.RecordTaker.hears_of_cut c.args.device.now) first
    (c.in_ok-sync.ensures.durable start) (c.scan.ensures.only_reads start) c.scan.new.buffer
    c.args.taker.now c.scan.new.taker c.in_ok-rest.rest
    (c.in_ok-rest.ensures.found start (c.repair.ensures.explained start explains))
    (told_there g (goal.at.returns-in_err-repair-clause-told_first g c).After-repair))

-- before that, it was only read
pub returns-in_err-sync-clause-taken_err : goal.returns-in_err-sync-clause-taken_err
returns-in_err-sync-clause-taken_err g c = λ start explains.
    let d = g.D.DiskFile in
    let f = file_of (d.seen start) (d.may_leave start) d.moment (d.left_since start) in
    let first = sync_reads f (g.met.D.DiskFile.only_now start c.args.device.now)
    (record {
      time = c.sync.ensures.time start;
      crash = c.sync.ensures.crash start;
      seen = c.sync.ensures.seen start;
    }) in
    on_err c.from_residual-in_err-sync.result (inl (([], refl), first))

pub returns-in_err-rest-clause-taken_err : goal.returns-in_err-rest-clause-taken_err
returns-in_err-rest-clause-taken_err g c = λ start explains.
    let d = g.D.DiskFile in
    let f = file_of (d.seen start) (d.may_leave start) d.moment (d.left_since start) in
    let first = sync_reads f (g.met.D.DiskFile.only_now start c.args.device.now)
    (record {
      time = c.sync.ensures.time start;
      crash = c.sync.ensures.crash start;
      seen = c.sync.ensures.seen start;
    }) in
    on_err c.from_residual-in_err-rest.result
    (inl (
      c.scan.ensures.took,
      reads_both f.moment f.left_since f.may_leave f.seen c.args.device.now c.sync.new.self
          c.scan.new.device first (c.scan.ensures.only_reads start),
    ))

-- nothing was heard of
pub returns-in_err-buffer-clause-taken : goal.returns-in_err-buffer-clause-taken
returns-in_err-buffer-clause-taken g c =
    nothing_heard g.T.RecordTaker.takes
    (HearsBeforeCut g.D.DiskFile g.T.RecordTaker.hears_of_cut c.args.device.now) c.args.taker.now
    c.args.taker.now
    ([], refl)

pub returns-in_err-sync-clause-taken : goal.returns-in_err-sync-clause-taken
returns-in_err-sync-clause-taken g c =
    nothing_heard g.T.RecordTaker.takes
    (HearsBeforeCut g.D.DiskFile g.T.RecordTaker.hears_of_cut c.args.device.now) c.args.taker.now
    c.args.taker.now
    ([], refl)

pub returns-in_err-rest-clause-taken : goal.returns-in_err-rest-clause-taken
returns-in_err-rest-clause-taken g c =
    nothing_heard g.T.RecordTaker.takes
    (HearsBeforeCut g.D.DiskFile g.T.RecordTaker.hears_of_cut c.args.device.now) c.args.taker.now
    c.scan.new.taker
    c.scan.ensures.took

pub returns-then-rest-clause-taken : goal.returns-then-rest-clause-taken
returns-then-rest-clause-taken g c =
    nothing_heard g.T.RecordTaker.takes
    (HearsBeforeCut g.D.DiskFile g.T.RecordTaker.hears_of_cut c.args.device.now) c.args.taker.now
    c.scan.new.taker
    c.scan.ensures.took

-- or something was, and before the file was touched
pub returns-in_err-repair-clause-taken : goal.returns-in_err-repair-clause-taken
returns-in_err-repair-clause-taken g c = record {
  given = c.scan.new.taker;
  taken = c.scan.ensures.took;
  line = c.in_ok-rest.rest.line;
  bytes = _;
  heard = heard_later g.D.DiskFile g.T.RecordTaker.hears_of_cut
      (scanned g (goal.at.returns-in_err-repair-clause-taken g c).After-repair)
      c.repair.ensures.told;
}

pub returns-clause-taken : goal.returns-clause-taken
returns-clause-taken g c = record {
  given = c.scan.new.taker;
  taken = c.scan.ensures.took;
  line = c.in_ok-rest.rest.line;
  bytes = _;
  heard = heard_later g.D.DiskFile g.T.RecordTaker.hears_of_cut
      (scanned g (goal.at.returns-clause-taken g c).After-repair)
      c.repair.ensures.told;
}

-- a file whose end is put right was a kept log
pub returns-in_err-repair-clause-only_read_err : goal.returns-in_err-repair-clause-only_read_err
returns-in_err-repair-clause-only_read_err g c = λ start explains none.
    absurd (none (is_kept_log (c.sync.ensures.seen start)
    (c.in_ok-rest.ensures.found start (c.repair.ensures.explained start explains))))

pub returns-clause-only_read_err : goal.returns-clause-only_read_err
returns-clause-only_read_err g c = λ start explains none.
    absurd (none (is_kept_log (c.sync.ensures.seen start)
    (c.in_ok-rest.ensures.found start (c.repair.ensures.explained start explains))))

-- what stands before the tail stays
pub returns-in_err-buffer-clause-stays : goal.returns-in_err-buffer-clause-stays
returns-in_err-buffer-clause-stays g c = λ start records explains stands.
    let d = g.D.DiskFile in
    let f = file_of (d.seen start) (d.may_leave start) d.moment (d.left_since start) in
    reads_stay f stands.front (rests f.moment f.left_since f.may_leave f.seen c.args.device.now
    (g.met.D.DiskFile.only_now start c.args.device.now))

pub returns-in_err-sync-clause-stays : goal.returns-in_err-sync-clause-stays
returns-in_err-sync-clause-stays g c = λ start records explains stands.
    let d = g.D.DiskFile in
    let f = file_of (d.seen start) (d.may_leave start) d.moment (d.left_since start) in
    let first = sync_reads f (g.met.D.DiskFile.only_now start c.args.device.now)
    (record {
      time = c.sync.ensures.time start;
      crash = c.sync.ensures.crash start;
      seen = c.sync.ensures.seen start;
    }) in
    reads_stay f stands.front first

pub returns-in_err-rest-clause-stays : goal.returns-in_err-rest-clause-stays
returns-in_err-rest-clause-stays g c = λ start records explains stands.
    let d = g.D.DiskFile in
    let f = file_of (d.seen start) (d.may_leave start) d.moment (d.left_since start) in
    let first = sync_reads f (g.met.D.DiskFile.only_now start c.args.device.now)
    (record {
      time = c.sync.ensures.time start;
      crash = c.sync.ensures.crash start;
      seen = c.sync.ensures.seen start;
    }) in
    reads_stay f stands.front (reads_both f.moment f.left_since f.may_leave f.seen
    c.args.device.now c.sync.new.self c.scan.new.device first (c.scan.ensures.only_reads start))

pub returns-then-rest-clause-stays : goal.returns-then-rest-clause-stays
returns-then-rest-clause-stays g c = λ start records explains stands.
    let d = g.D.DiskFile in
    let f = file_of (d.seen start) (d.may_leave start) d.moment (d.left_since start) in
    let first = sync_reads f (g.met.D.DiskFile.only_now start c.args.device.now)
    (record {
      time = c.sync.ensures.time start;
      crash = c.sync.ensures.crash start;
      seen = c.sync.ensures.seen start;
    }) in
    reads_stay f stands.front (reads_both f.moment f.left_since f.may_leave f.seen
    c.args.device.now c.sync.new.self c.scan.new.device first (c.scan.ensures.only_reads start))

pub returns-in_err-repair-clause-stays : goal.returns-in_err-repair-clause-stays
returns-in_err-repair-clause-stays g c = λ start records explains stands.
    let d = g.D.DiskFile in
    let f = file_of (d.seen start) (d.may_leave start) d.moment (d.left_since start) in
    let first = sync_reads f (g.met.D.DiskFile.only_now start c.args.device.now)
    (record {
      time = c.sync.ensures.time start;
      crash = c.sync.ensures.crash start;
      seen = c.sync.ensures.seen start;
    }) in
    repairs_stay f g.G.Grammar.is_record g.G.Grammar.LONGEST g.met.G.Grammar.some
    g.met.G.Grammar.one records c.in_ok-rest.rest stands first (c.in_ok-sync.ensures.durable start)
    (c.scan.ensures.only_reads start)
    (c.in_ok-rest.ensures.found start (c.repair.ensures.explained start explains))
    (c.repair.ensures.any_moment start)

pub returns-clause-stays : goal.returns-clause-stays
returns-clause-stays g c = λ start records explains stands.
    let d = g.D.DiskFile in
    let f = file_of (d.seen start) (d.may_leave start) d.moment (d.left_since start) in
    let first = sync_reads f (g.met.D.DiskFile.only_now start c.args.device.now)
    (record {
      time = c.sync.ensures.time start;
      crash = c.sync.ensures.crash start;
      seen = c.sync.ensures.seen start;
    }) in
    repairs_stay f g.G.Grammar.is_record g.G.Grammar.LONGEST g.met.G.Grammar.some
    g.met.G.Grammar.one records c.in_ok-rest.rest stands first (c.in_ok-sync.ensures.durable start)
    (c.scan.ensures.only_reads start)
    (c.in_ok-rest.ensures.found start (c.repair.ensures.explained start explains))
    (c.repair.ensures.any_moment start)

pub returns-in_err-rest-clause-first : goal.returns-in_err-rest-clause-first
returns-in_err-rest-clause-first g c = λ start line first explains same.
    let p = err_from_is_err_and c.from_residual-in_err-rest.result
    c.from_residual-in_err-rest.ensures.1 in
    subst (λ (f : List ℕ). first ≡ first_byte f) (c.sync.ensures.seen start)
    (c.in_err-rest.ensures.first start line first explains (cc (p.1, p.2, same)))
