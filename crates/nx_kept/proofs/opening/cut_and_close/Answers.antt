use Rattle.nx_kept.proofs.lemmas.Calls.{file_of, synced}
use Rattle.nx_kept.proofs.lemmas.Repairing.{is_cutting, is_shutting}
use Rattle.nx_kept.proofs.opening.cut_and_close.Goals as goal

-- the file is being cut
pub returns-in_err-cut-clause-any_moment : goal.returns-in_err-cut-clause-any_moment
returns-in_err-cut-clause-any_moment g c = λ start within only.
    let d = g.D.DiskFile in
    let f = file_of (d.seen start) (d.may_leave start) d.moment (d.left_since start) in
    let first = is_cutting f c.args.gate within (g.met.D.DiskFile.only_now start c.args.device.now)
    only (record {
      time = c.cut.ensures.time start;
      crash = c.cut.ensures.crash start;
    }) in
    first.so_far

-- and brought to the disk
pub returns-in_err-sync-clause-any_moment : goal.returns-in_err-sync-clause-any_moment
returns-in_err-sync-clause-any_moment g c = λ start within only.
    let d = g.D.DiskFile in
    let f = file_of (d.seen start) (d.may_leave start) d.moment (d.left_since start) in
    let first = is_cutting f c.args.gate within (g.met.D.DiskFile.only_now start c.args.device.now)
    only (record {
      time = c.cut.ensures.time start;
      crash = c.cut.ensures.crash start;
    }) in
    (synced f first (record {
      time = c.sync.ensures.time start;
      crash = c.sync.ensures.crash start;
      seen = c.sync.ensures.seen start;
    })).so_far

-- then the closed gate is being written
pub returns-in_err-write_at-clause-any_moment : goal.returns-in_err-write_at-clause-any_moment
returns-in_err-write_at-clause-any_moment g c = λ start within only.
    let d = g.D.DiskFile in
    let f = file_of (d.seen start) (d.may_leave start) d.moment (d.left_since start) in
    let first = is_cutting f c.args.gate within (g.met.D.DiskFile.only_now start c.args.device.now)
    only (record {
      time = c.cut.ensures.time start;
      crash = c.cut.ensures.crash start;
    }) in
    let second = is_shutting f c.args.gate within first (c.in_ok-cut.ensures.cut start within)
    (record {
      time = c.sync.ensures.time start;
      crash = c.sync.ensures.crash start;
      seen = c.sync.ensures.seen start;
    }) (c.in_ok-sync.ensures.durable start) (record {
      time = c.write_at.ensures.time start;
      crash = c.write_at.ensures.crash start;
    }) in
    second.so_far

-- and brought to the disk
pub returns-clause-any_moment : goal.returns-clause-any_moment
returns-clause-any_moment g c = λ start within only.
    let d = g.D.DiskFile in
    let f = file_of (d.seen start) (d.may_leave start) d.moment (d.left_since start) in
    let first = is_cutting f c.args.gate within (g.met.D.DiskFile.only_now start c.args.device.now)
    only (record {
      time = c.cut.ensures.time start;
      crash = c.cut.ensures.crash start;
    }) in
    let second = is_shutting f c.args.gate within first (c.in_ok-cut.ensures.cut start within)
    (record {
      time = c.sync.ensures.time start;
      crash = c.sync.ensures.crash start;
      seen = c.sync.ensures.seen start;
    }) (c.in_ok-sync.ensures.durable start) (record {
      time = c.write_at.ensures.time start;
      crash = c.write_at.ensures.crash start;
    }) in
    (synced f second (record {
      time = c.sync-2.ensures.time start;
      crash = c.sync-2.ensures.crash start;
      seen = c.sync-2.ensures.seen start;
    })).so_far
