use Rattle.std.proofs.Common.{◌≢◌, [], ◌∷◌, ◌++◌, arith, refl, ◌∙◌}
use Rattle.nx_kept.specs.Kept.{closed_gate, open_gate}
use Rattle.nx_kept.proofs.lemmas.Calls.{file_of, synced}
use Rattle.nx_kept.proofs.lemmas.KeptLaws.{one_behind}
use Rattle.nx_kept.proofs.lemmas.Putting.{Putting, found_gate, found_record, opened_gate, open_there, record_there, gate_there, rests_again, wrote_gate, wrote_record}
use Rattle.nx_kept.proofs.lemmas.Staying.{begun_staying, wrote_staying}
use Rattle.nx_kept.proofs.log.KeptLog.put.Goals as goal

-- the record is being written behind the closed gate
pub returns-in_err-write_at-clause-any_moment : goal.returns-in_err-write_at-clause-any_moment
returns-in_err-write_at-clause-any_moment g c = λ start records is_one keeps.
    let d = g.D.DiskFile in
    let f = file_of (d.seen start) (d.may_leave start) d.moment (d.left_since start) in
    let p : Putting f g.G.Grammar.is_record g.G.Grammar.LONGEST records c.args.bytes.now
    c.args.self.now = record {
      keeps = keeps;
      is_one = is_one;
      short = g.met.G.Grammar.bounded c.args.bytes.now is_one;
      only_now = g.met.D.DiskFile.only_now start c.args.self.now.device;
    } in
    let first = wrote_record f p c.write_at.new.self
    (record {
      time = c.write_at.ensures.time start;
      crash = c.write_at.ensures.crash start;
    }) in
    first.so_far

-- and the next closed gate
pub returns-in_err-write_at-2-clause-any_moment : goal.returns-in_err-write_at-2-clause-any_moment
returns-in_err-write_at-2-clause-any_moment g c = λ start records is_one keeps.
    let d = g.D.DiskFile in
    let f = file_of (d.seen start) (d.may_leave start) d.moment (d.left_since start) in
    let p : Putting f g.G.Grammar.is_record g.G.Grammar.LONGEST records c.args.bytes.now
    c.args.self.now = record {
      keeps = keeps;
      is_one = is_one;
      short = g.met.G.Grammar.bounded c.args.bytes.now is_one;
      only_now = g.met.D.DiskFile.only_now start c.args.self.now.device;
    } in
    let first = wrote_record f p c.write_at.new.self
    (record {
      time = c.write_at.ensures.time start;
      crash = c.write_at.ensures.crash start;
    }) in
    let one = found_record f keeps.front c.args.bytes.now c.args.self.now keeps.at_rest
    c.write_at.new.self (c.in_ok-write_at.ensures.written start) in
    let second = wrote_gate f p c.write_at.new.self c.write_at-2.new.self first one
    (record {
      time = c.write_at-2.ensures.time start;
      crash = c.write_at-2.ensures.crash start;
    }) in
    second.so_far

-- and brought to the disk
pub returns-in_err-sync-clause-any_moment : goal.returns-in_err-sync-clause-any_moment
returns-in_err-sync-clause-any_moment g c = λ start records is_one keeps.
    let d = g.D.DiskFile in
    let f = file_of (d.seen start) (d.may_leave start) d.moment (d.left_since start) in
    let p : Putting f g.G.Grammar.is_record g.G.Grammar.LONGEST records c.args.bytes.now
    c.args.self.now = record {
      keeps = keeps;
      is_one = is_one;
      short = g.met.G.Grammar.bounded c.args.bytes.now is_one;
      only_now = g.met.D.DiskFile.only_now start c.args.self.now.device;
    } in
    let first = wrote_record f p c.write_at.new.self
    (record {
      time = c.write_at.ensures.time start;
      crash = c.write_at.ensures.crash start;
    }) in
    let one = found_record f keeps.front c.args.bytes.now c.args.self.now keeps.at_rest
    c.write_at.new.self (c.in_ok-write_at.ensures.written start) in
    let second = wrote_gate f p c.write_at.new.self c.write_at-2.new.self first one
    (record {
      time = c.write_at-2.ensures.time start;
      crash = c.write_at-2.ensures.crash start;
    }) in
    (synced f second (record {
      time = c.sync.ensures.time start;
      crash = c.sync.ensures.crash start;
      seen = c.sync.ensures.seen start;
    })).so_far

-- then the gate before them is being opened
pub returns-in_err-write_at-3-clause-any_moment : goal.returns-in_err-write_at-3-clause-any_moment
returns-in_err-write_at-3-clause-any_moment g c = λ start records is_one keeps.
    let d = g.D.DiskFile in
    let f = file_of (d.seen start) (d.may_leave start) d.moment (d.left_since start) in
    let p : Putting f g.G.Grammar.is_record g.G.Grammar.LONGEST records c.args.bytes.now
    c.args.self.now = record {
      keeps = keeps;
      is_one = is_one;
      short = g.met.G.Grammar.bounded c.args.bytes.now is_one;
      only_now = g.met.D.DiskFile.only_now start c.args.self.now.device;
    } in
    let first = wrote_record f p c.write_at.new.self
    (record {
      time = c.write_at.ensures.time start;
      crash = c.write_at.ensures.crash start;
    }) in
    let one = found_record f keeps.front c.args.bytes.now c.args.self.now keeps.at_rest
    c.write_at.new.self (c.in_ok-write_at.ensures.written start) in
    let second = wrote_gate f p c.write_at.new.self c.write_at-2.new.self first one
    (record {
      time = c.write_at-2.ensures.time start;
      crash = c.write_at-2.ensures.crash start;
    }) in
    let two = found_gate f keeps.front c.args.bytes.now c.args.self.now keeps.at_rest
    c.write_at.new.self c.write_at-2.new.self one (c.in_ok-write_at-2.ensures.written start) in
    let third = opened_gate f p c.write_at-2.new.self c.sync.new.self c.write_at-3.new.self second
    two (record {
      time = c.sync.ensures.time start;
      crash = c.sync.ensures.crash start;
      seen = c.sync.ensures.seen start;
    }) (c.in_ok-sync.ensures.durable start)
    (record {
      time = c.write_at-3.ensures.time start;
      crash = c.write_at-3.ensures.crash start;
    }) in
    third.so_far

-- and brought to the disk
pub returns-in_err-sync-2-clause-any_moment : goal.returns-in_err-sync-2-clause-any_moment
returns-in_err-sync-2-clause-any_moment g c = λ start records is_one keeps.
    let d = g.D.DiskFile in
    let f = file_of (d.seen start) (d.may_leave start) d.moment (d.left_since start) in
    let p : Putting f g.G.Grammar.is_record g.G.Grammar.LONGEST records c.args.bytes.now
    c.args.self.now = record {
      keeps = keeps;
      is_one = is_one;
      short = g.met.G.Grammar.bounded c.args.bytes.now is_one;
      only_now = g.met.D.DiskFile.only_now start c.args.self.now.device;
    } in
    let first = wrote_record f p c.write_at.new.self
    (record {
      time = c.write_at.ensures.time start;
      crash = c.write_at.ensures.crash start;
    }) in
    let one = found_record f keeps.front c.args.bytes.now c.args.self.now keeps.at_rest
    c.write_at.new.self (c.in_ok-write_at.ensures.written start) in
    let second = wrote_gate f p c.write_at.new.self c.write_at-2.new.self first one
    (record {
      time = c.write_at-2.ensures.time start;
      crash = c.write_at-2.ensures.crash start;
    }) in
    let two = found_gate f keeps.front c.args.bytes.now c.args.self.now keeps.at_rest
    c.write_at.new.self c.write_at-2.new.self one (c.in_ok-write_at-2.ensures.written start) in
    let third = opened_gate f p c.write_at-2.new.self c.sync.new.self c.write_at-3.new.self second
    two (record {
      time = c.sync.ensures.time start;
      crash = c.sync.ensures.crash start;
      seen = c.sync.ensures.seen start;
    }) (c.in_ok-sync.ensures.durable start)
    (record {
      time = c.write_at-3.ensures.time start;
      crash = c.write_at-3.ensures.crash start;
    }) in
    (synced f third (record {
      time = c.sync-2.ensures.time start;
      crash = c.sync-2.ensures.crash start;
      seen = c.sync-2.ensures.seen start;
    })).so_far

-- all is done
pub returns-clause-any_moment : goal.returns-clause-any_moment
returns-clause-any_moment g c = λ start records is_one keeps.
    let d = g.D.DiskFile in
    let f = file_of (d.seen start) (d.may_leave start) d.moment (d.left_since start) in
    let p : Putting f g.G.Grammar.is_record g.G.Grammar.LONGEST records c.args.bytes.now
    c.args.self.now = record {
      keeps = keeps;
      is_one = is_one;
      short = g.met.G.Grammar.bounded c.args.bytes.now is_one;
      only_now = g.met.D.DiskFile.only_now start c.args.self.now.device;
    } in
    let first = wrote_record f p c.write_at.new.self
    (record {
      time = c.write_at.ensures.time start;
      crash = c.write_at.ensures.crash start;
    }) in
    let one = found_record f keeps.front c.args.bytes.now c.args.self.now keeps.at_rest
    c.write_at.new.self (c.in_ok-write_at.ensures.written start) in
    let second = wrote_gate f p c.write_at.new.self c.write_at-2.new.self first one
    (record {
      time = c.write_at-2.ensures.time start;
      crash = c.write_at-2.ensures.crash start;
    }) in
    let two = found_gate f keeps.front c.args.bytes.now c.args.self.now keeps.at_rest
    c.write_at.new.self c.write_at-2.new.self one (c.in_ok-write_at-2.ensures.written start) in
    let third = opened_gate f p c.write_at-2.new.self c.sync.new.self c.write_at-3.new.self second
    two (record {
      time = c.sync.ensures.time start;
      crash = c.sync.ensures.crash start;
      seen = c.sync.ensures.seen start;
    }) (c.in_ok-sync.ensures.durable start)
    (record {
      time = c.write_at-3.ensures.time start;
      crash = c.write_at-3.ensures.crash start;
    }) in
    (synced f third (record {
      time = c.sync-2.ensures.time start;
      crash = c.sync-2.ensures.crash start;
      seen = c.sync-2.ensures.seen start;
    })).so_far

-- the file has the record behind an open gate, and a closed gate
pub returns-clause-written : goal.returns-clause-written
returns-clause-written g c = λ start front rest.
    let d = g.D.DiskFile in
    let f = file_of (d.seen start) (d.may_leave start) d.moment (d.left_since start) in
    let one = found_record f front c.args.bytes.now c.args.self.now rest
    c.write_at.new.self (c.in_ok-write_at.ensures.written start) in
    let two = found_gate f front c.args.bytes.now c.args.self.now rest
    c.write_at.new.self c.write_at-2.new.self one (c.in_ok-write_at-2.ensures.written start) in
    rests_again f front c.args.bytes.now c.args.self.now rest c.sync.new.self
    c.write_at-3.new.self _ (c.sync.ensures.seen start ∙ two)
    (c.in_ok-write_at-3.ensures.written start) refl (c.sync-2.ensures.seen start)
    (c.in_ok-sync-2.ensures.durable start)

-- so the log keeps the record
pub returns-clause-acknowledged : goal.returns-clause-acknowledged
returns-clause-acknowledged g c = λ start records is_one keeps.
    let d = g.D.DiskFile in
    let f = file_of (d.seen start) (d.may_leave start) d.moment (d.left_since start) in
    let one = found_record f keeps.front c.args.bytes.now c.args.self.now keeps.at_rest
    c.write_at.new.self (c.in_ok-write_at.ensures.written start) in
    let two = found_gate f keeps.front c.args.bytes.now c.args.self.now keeps.at_rest
    c.write_at.new.self c.write_at-2.new.self one (c.in_ok-write_at-2.ensures.written start) in
    let not_closed : open_gate ≢ closed_gate = omega arith in
    record {
      front = keeps.front ++ open_gate ∷ c.args.bytes.now;
      kept = one_behind g.G.Grammar.is_record g.G.Grammar.LONGEST records keeps.front open_gate
          c.args.bytes.now keeps.kept not_closed is_one;
      at_rest =
          rests_again f keeps.front c.args.bytes.now c.args.self.now keeps.at_rest c.sync.new.self
          c.write_at-3.new.self _ (c.sync.ensures.seen start ∙ two)
          (c.in_ok-write_at-3.ensures.written start) refl (c.sync-2.ensures.seen start)
          (c.in_ok-sync-2.ensures.durable start);
    }

-- what stands before its gate stays in each of these calls
pub returns-in_err-write_at-clause-stays : goal.returns-in_err-write_at-clause-stays
returns-in_err-write_at-clause-stays g c = λ start front rest.
    let d = g.D.DiskFile in
    let f = file_of (d.seen start) (d.may_leave start) d.moment (d.left_since start) in
    let here = rest.gate in
    let first = wrote_staying f front c.args.bytes.now
    (begun_staying f front (closed_gate ∷ [])
    (g.met.D.DiskFile.only_now start c.args.self.now.device) rest.file rest.durable)
    (omega (arith, here)) (record_there f front c.args.bytes.now c.args.self.now rest) (record {
      time = c.write_at.ensures.time start;
      crash = c.write_at.ensures.crash start;
    }) in
    first.so_far

pub returns-in_err-write_at-2-clause-stays : goal.returns-in_err-write_at-2-clause-stays
returns-in_err-write_at-2-clause-stays g c = λ start front rest.
    let d = g.D.DiskFile in
    let f = file_of (d.seen start) (d.may_leave start) d.moment (d.left_since start) in
    let here = rest.gate in
    let first = wrote_staying f front c.args.bytes.now
    (begun_staying f front (closed_gate ∷ [])
    (g.met.D.DiskFile.only_now start c.args.self.now.device) rest.file rest.durable)
    (omega (arith, here)) (record_there f front c.args.bytes.now c.args.self.now rest) (record {
      time = c.write_at.ensures.time start;
      crash = c.write_at.ensures.crash start;
    }) in
    let one = found_record f front c.args.bytes.now c.args.self.now rest
    c.write_at.new.self (c.in_ok-write_at.ensures.written start) in
    let second = wrote_staying f front (closed_gate ∷ []) first (omega (arith, here))
    (gate_there f front c.args.bytes.now c.args.self.now rest c.write_at.new.self one) (record {
      time = c.write_at-2.ensures.time start;
      crash = c.write_at-2.ensures.crash start;
    }) in
    second.so_far

pub returns-in_err-sync-clause-stays : goal.returns-in_err-sync-clause-stays
returns-in_err-sync-clause-stays g c = λ start front rest.
    let d = g.D.DiskFile in
    let f = file_of (d.seen start) (d.may_leave start) d.moment (d.left_since start) in
    let here = rest.gate in
    let first = wrote_staying f front c.args.bytes.now
    (begun_staying f front (closed_gate ∷ [])
    (g.met.D.DiskFile.only_now start c.args.self.now.device) rest.file rest.durable)
    (omega (arith, here)) (record_there f front c.args.bytes.now c.args.self.now rest) (record {
      time = c.write_at.ensures.time start;
      crash = c.write_at.ensures.crash start;
    }) in
    let one = found_record f front c.args.bytes.now c.args.self.now rest
    c.write_at.new.self (c.in_ok-write_at.ensures.written start) in
    let second = wrote_staying f front (closed_gate ∷ []) first (omega (arith, here))
    (gate_there f front c.args.bytes.now c.args.self.now rest c.write_at.new.self one) (record {
      time = c.write_at-2.ensures.time start;
      crash = c.write_at-2.ensures.crash start;
    }) in
    let onto = synced f second (record {
      time = c.sync.ensures.time start;
      crash = c.sync.ensures.crash start;
      seen = c.sync.ensures.seen start;
    }) in
    onto.so_far

pub returns-in_err-write_at-3-clause-stays : goal.returns-in_err-write_at-3-clause-stays
returns-in_err-write_at-3-clause-stays g c = λ start front rest.
    let d = g.D.DiskFile in
    let f = file_of (d.seen start) (d.may_leave start) d.moment (d.left_since start) in
    let here = rest.gate in
    let first = wrote_staying f front c.args.bytes.now
    (begun_staying f front (closed_gate ∷ [])
    (g.met.D.DiskFile.only_now start c.args.self.now.device) rest.file rest.durable)
    (omega (arith, here)) (record_there f front c.args.bytes.now c.args.self.now rest) (record {
      time = c.write_at.ensures.time start;
      crash = c.write_at.ensures.crash start;
    }) in
    let one = found_record f front c.args.bytes.now c.args.self.now rest
    c.write_at.new.self (c.in_ok-write_at.ensures.written start) in
    let second = wrote_staying f front (closed_gate ∷ []) first (omega (arith, here))
    (gate_there f front c.args.bytes.now c.args.self.now rest c.write_at.new.self one) (record {
      time = c.write_at-2.ensures.time start;
      crash = c.write_at-2.ensures.crash start;
    }) in
    let onto = synced f second (record {
      time = c.sync.ensures.time start;
      crash = c.sync.ensures.crash start;
      seen = c.sync.ensures.seen start;
    }) in
    let two = found_gate f front c.args.bytes.now c.args.self.now rest
    c.write_at.new.self c.write_at-2.new.self one (c.in_ok-write_at-2.ensures.written start) in
    let third = wrote_staying f front (open_gate ∷ []) onto (omega (arith, here))
    (open_there f front c.args.bytes.now c.args.self.now rest c.sync.new.self
    (c.sync.ensures.seen start ∙ two)) (record {
      time = c.write_at-3.ensures.time start;
      crash = c.write_at-3.ensures.crash start;
    }) in
    third.so_far

pub returns-in_err-sync-2-clause-stays : goal.returns-in_err-sync-2-clause-stays
returns-in_err-sync-2-clause-stays g c = λ start front rest.
    let d = g.D.DiskFile in
    let f = file_of (d.seen start) (d.may_leave start) d.moment (d.left_since start) in
    let here = rest.gate in
    let first = wrote_staying f front c.args.bytes.now
    (begun_staying f front (closed_gate ∷ [])
    (g.met.D.DiskFile.only_now start c.args.self.now.device) rest.file rest.durable)
    (omega (arith, here)) (record_there f front c.args.bytes.now c.args.self.now rest) (record {
      time = c.write_at.ensures.time start;
      crash = c.write_at.ensures.crash start;
    }) in
    let one = found_record f front c.args.bytes.now c.args.self.now rest
    c.write_at.new.self (c.in_ok-write_at.ensures.written start) in
    let second = wrote_staying f front (closed_gate ∷ []) first (omega (arith, here))
    (gate_there f front c.args.bytes.now c.args.self.now rest c.write_at.new.self one) (record {
      time = c.write_at-2.ensures.time start;
      crash = c.write_at-2.ensures.crash start;
    }) in
    let onto = synced f second (record {
      time = c.sync.ensures.time start;
      crash = c.sync.ensures.crash start;
      seen = c.sync.ensures.seen start;
    }) in
    let two = found_gate f front c.args.bytes.now c.args.self.now rest
    c.write_at.new.self c.write_at-2.new.self one (c.in_ok-write_at-2.ensures.written start) in
    let third = wrote_staying f front (open_gate ∷ []) onto (omega (arith, here))
    (open_there f front c.args.bytes.now c.args.self.now rest c.sync.new.self
    (c.sync.ensures.seen start ∙ two)) (record {
      time = c.write_at-3.ensures.time start;
      crash = c.write_at-3.ensures.crash start;
    }) in
    (synced f third (record {
      time = c.sync-2.ensures.time start;
      crash = c.sync-2.ensures.crash start;
      seen = c.sync-2.ensures.seen start;
    })).so_far

pub returns-clause-stays : goal.returns-clause-stays
returns-clause-stays g c = λ start front rest.
    let d = g.D.DiskFile in
    let f = file_of (d.seen start) (d.may_leave start) d.moment (d.left_since start) in
    let here = rest.gate in
    let first = wrote_staying f front c.args.bytes.now
    (begun_staying f front (closed_gate ∷ [])
    (g.met.D.DiskFile.only_now start c.args.self.now.device) rest.file rest.durable)
    (omega (arith, here)) (record_there f front c.args.bytes.now c.args.self.now rest) (record {
      time = c.write_at.ensures.time start;
      crash = c.write_at.ensures.crash start;
    }) in
    let one = found_record f front c.args.bytes.now c.args.self.now rest
    c.write_at.new.self (c.in_ok-write_at.ensures.written start) in
    let second = wrote_staying f front (closed_gate ∷ []) first (omega (arith, here))
    (gate_there f front c.args.bytes.now c.args.self.now rest c.write_at.new.self one) (record {
      time = c.write_at-2.ensures.time start;
      crash = c.write_at-2.ensures.crash start;
    }) in
    let onto = synced f second (record {
      time = c.sync.ensures.time start;
      crash = c.sync.ensures.crash start;
      seen = c.sync.ensures.seen start;
    }) in
    let two = found_gate f front c.args.bytes.now c.args.self.now rest
    c.write_at.new.self c.write_at-2.new.self one (c.in_ok-write_at-2.ensures.written start) in
    let third = wrote_staying f front (open_gate ∷ []) onto (omega (arith, here))
    (open_there f front c.args.bytes.now c.args.self.now rest c.sync.new.self
    (c.sync.ensures.seen start ∙ two)) (record {
      time = c.write_at-3.ensures.time start;
      crash = c.write_at-3.ensures.crash start;
    }) in
    (synced f third (record {
      time = c.sync-2.ensures.time start;
      crash = c.sync-2.ensures.crash start;
      seen = c.sync-2.ensures.seen start;
    })).so_far
