use Rattle.std.proofs.Common.{arith, take}
use Rattle.nx_log.specs.Notices.{notices_of}
use Rattle.nx_log.specs.private.LogRunning.{IsRunning}
use Rattle.nx_log.proofs.lemmas.runs.LogRuns.{front-answer, goes-by}
use Rattle.nx_log.proofs.lemmas.runs.Stretches.{part_within, take_begins}
use Rattle.nx_log.proofs.log_runs.LogRun.take_front.Goals as goal

pub take_entry-requires-clause-begins : goal.take_entry-requires-clause-begins
take_entry-requires-clause-begins g c = λ is_passing.
    take_begins c.args.piece.now c.part_of-count.result c.part_of-count.ensures.some
    (c.passed_in-passed.ensures.none (omega (arith, c.if-passed-gt0.false)) is_passing)

pub returns-then-passed-gt0-clause-taken : goal.returns-then-passed-gt0-clause-taken
returns-then-passed-gt0-clause-taken g c = λ damaged old told bytes within h.
    let passed = c.passed_in-passed.result in
    let p = c.passed_in-passed.ensures.passed c.if-passed-gt0.true in
    goes-by c.args.query.now c.args.form damaged old c.args.self.now _ _ bytes
    (take passed c.args.piece.now) c.saturating_add-self.result h
    (part_within bytes c.args.piece.now passed within) p.0 p.1
    (omega (arith, c.saturating_add-self.ensures, c.line_feeds.ensures))

pub returns-clause-taken : goal.returns-clause-taken
returns-clause-taken g c = λ damaged old told bytes within h.
    let count = c.part_of-count.result in
    let n = notices_of told (g.N.Write.contents c.take_entry.new.notices.inner)
    c.take_entry.new.notices.failures in
    front-answer c.args.query.now c.args.form damaged
    (record { before = old; after = g.W.Write.contents c.take_entry.new.writer.inner }) n bytes
    c.args.piece.now count
    (IsRunning c.args.query.now c.args.form damaged old c.take_entry.new.self
    (g.W.Write.contents c.take_entry.new.writer.inner) n) c.take_entry.result
    c.part_of-count.ensures.within c.take_entry.ensures.within c.take_entry.ensures.unread
    (c.take_entry.ensures.taken damaged old told bytes
    (part_within bytes c.args.piece.now count within) h)
