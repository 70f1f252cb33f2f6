use Rattle.std.proofs.Common.{◌≡◌, ◌+◌, ◌-◌, ◌≤◌, ◌==◌, ℕ, List, length, take, drop, sym, ◌∙◌, ap, subst, arith, length-take}
use Rattle.std.proofs.lemmas.List.{take_all}
use Rattle.std.proofs.lemmas.List.Sums.{count_by-le-length}
use Rattle.nx_kept.specs.Kept.{line_feed, IsDamaged}
use Rattle.nx_kept.specs.private.Scan.{IsAtRecord}
use Rattle.nx_kept.proofs.lemmas.Stages.{reads_on}
use Rattle.nx_kept.proofs.lemmas.Steps.{record_fits, record_there}
use Rattle.nx_kept.proofs.lemmas.Scanning.{first_known, reached_damage, reached_end, reached_more, some_more}
use Rattle.nx_kept.proofs.scan.scan.Goals as goal

pub returns-in_default-clause-only_reads : goal.returns-in_default-clause-only_reads
returns-in_default-clause-only_reads g c =
    λ start. reads_on g.D.DiskFile.moment (g.D.DiskFile.left_since start)
    (g.D.DiskFile.may_leave start) (g.D.DiskFile.seen start) c.args.device.now c.gates.device
    c.read_at.new.self (c.gates.invariant.reads start) (c.read_at.ensures.seen start)
    (c.read_at.ensures.crash start) (c.read_at.ensures.time start)

pub returns-in-Tail-clause-only_reads : goal.returns-in-Tail-clause-only_reads
returns-in-Tail-clause-only_reads g c =
    λ start. reads_on g.D.DiskFile.moment (g.D.DiskFile.left_since start)
    (g.D.DiskFile.may_leave start) (g.D.DiskFile.seen start) c.args.device.now c.gates.device
    c.read_at.new.self (c.gates.invariant.reads start) (c.read_at.ensures.seen start)
    (c.read_at.ensures.crash start) (c.read_at.ensures.time start)

pub returns-in-Damaged-clause-only_reads : goal.returns-in-Damaged-clause-only_reads
returns-in-Damaged-clause-only_reads g c =
    λ start. reads_on g.D.DiskFile.moment (g.D.DiskFile.left_since start)
    (g.D.DiskFile.may_leave start) (g.D.DiskFile.seen start) c.args.device.now c.gates.device
    c.read_at.new.self (c.gates.invariant.reads start) (c.read_at.ensures.seen start)
    (c.read_at.ensures.crash start) (c.read_at.ensures.time start)

pub overflow_add-length : goal.overflow_add-length
overflow_add-length g c =
    let bytes = take c.in-Ok.count c.read_at.new.room in
    let room : length c.read_at.new.room ≡ g.G.Grammar.LONGEST + 3 =
    omega (arith, c.requires.buffer, c.gates.auto.buffer, c.read_at.auto.room) in
    let size : length bytes ≤ g.G.Grammar.LONGEST + 3 =
    omega (arith, room, length-take c.in-Ok.count c.read_at.new.room) in
    let own : bytes ≡ take (g.G.Grammar.LONGEST + 3) bytes =
    sym (take_all (g.G.Grammar.LONGEST + 3) bytes size) in
    let at : IsAtRecord g.G.Grammar.is_record g.G.Grammar.LONGEST c.in-Record.length bytes =
    c.in-Record.ensures bytes own in
    let fits = record_fits g.G.Grammar.is_record g.G.Grammar.LONGEST g.met.G.Grammar.some
    g.met.G.Grammar.bounded g.met.G.Grammar.one c.in-Record.length bytes at in
    let short = g.met.G.Grammar.short in
    omega (arith, fits, size, short)

pub slice_bounds-take-end : goal.slice_bounds-take-end
slice_bounds-take-end g c =
    let bytes = take c.in-Ok.count c.read_at.new.room in
    let room : length c.read_at.new.room ≡ g.G.Grammar.LONGEST + 3 =
    omega (arith, c.requires.buffer, c.gates.auto.buffer, c.read_at.auto.room) in
    let size : length bytes ≤ g.G.Grammar.LONGEST + 3 =
    omega (arith, room, length-take c.in-Ok.count c.read_at.new.room) in
    let own : bytes ≡ take (g.G.Grammar.LONGEST + 3) bytes =
    sym (take_all (g.G.Grammar.LONGEST + 3) bytes size) in
    let at : IsAtRecord g.G.Grammar.is_record g.G.Grammar.LONGEST c.in-Record.length bytes =
    c.in-Record.ensures bytes own in
    let fits = record_fits g.G.Grammar.is_record g.G.Grammar.LONGEST g.met.G.Grammar.some
    g.met.G.Grammar.bounded g.met.G.Grammar.one c.in-Record.length bytes at in
    omega (arith, fits)

pub take-requires : goal.take-requires
take-requires g c =
    let bytes = take c.in-Ok.count c.read_at.new.room in
    let room : length c.read_at.new.room ≡ g.G.Grammar.LONGEST + 3 =
    omega (arith, c.requires.buffer, c.gates.auto.buffer, c.read_at.auto.room) in
    let size : length bytes ≤ g.G.Grammar.LONGEST + 3 =
    omega (arith, room, length-take c.in-Ok.count c.read_at.new.room) in
    let own : bytes ≡ take (g.G.Grammar.LONGEST + 3) bytes =
    sym (take_all (g.G.Grammar.LONGEST + 3) bytes size) in
    let at : IsAtRecord g.G.Grammar.is_record g.G.Grammar.LONGEST c.in-Record.length bytes =
    c.in-Record.ensures bytes own in
    let fits = record_fits g.G.Grammar.is_record g.G.Grammar.LONGEST g.met.G.Grammar.some
    g.met.G.Grammar.bounded g.met.G.Grammar.one c.in-Record.length bytes at in
    let same : c.in-Record.length + 1 - 1 ≡ c.in-Record.length = omega arith in
    subst (λ (n : ℕ). g.T.RecordTaker.can_take (take n (drop 1 bytes))) (sym same)
    (c.requires.understood _
    (record_there g.G.Grammar.is_record g.G.Grammar.LONGEST g.met.G.Grammar.some
    g.met.G.Grammar.bounded g.met.G.Grammar.one c.in-Record.length bytes at))

pub slice_bounds-line_feeds-end : goal.slice_bounds-line_feeds-end
slice_bounds-line_feeds-end g c =
    let bytes = take c.in-Ok.count c.read_at.new.room in
    let room : length c.read_at.new.room ≡ g.G.Grammar.LONGEST + 3 =
    omega (arith, c.requires.buffer, c.gates.auto.buffer, c.read_at.auto.room) in
    let size : length bytes ≤ g.G.Grammar.LONGEST + 3 =
    omega (arith, room, length-take c.in-Ok.count c.read_at.new.room) in
    let own : bytes ≡ take (g.G.Grammar.LONGEST + 3) bytes =
    sym (take_all (g.G.Grammar.LONGEST + 3) bytes size) in
    let at : IsAtRecord g.G.Grammar.is_record g.G.Grammar.LONGEST c.in-Record.length bytes =
    c.in-Record.ensures bytes own in
    let fits = record_fits g.G.Grammar.is_record g.G.Grammar.LONGEST g.met.G.Grammar.some
    g.met.G.Grammar.bounded g.met.G.Grammar.one c.in-Record.length bytes at in
    omega (arith, fits, length-take (c.in-Record.length + 1) bytes)

pub gates-preserved : goal.gates-preserved
gates-preserved g c =
    let bytes = take c.in-Ok.count c.read_at.new.room in
    let room : length c.read_at.new.room ≡ g.G.Grammar.LONGEST + 3 =
    omega (arith, c.requires.buffer, c.gates.auto.buffer, c.read_at.auto.room) in
    let size : length bytes ≤ g.G.Grammar.LONGEST + 3 =
    omega (arith, room, length-take c.in-Ok.count c.read_at.new.room) in
    let own : bytes ≡ take (g.G.Grammar.LONGEST + 3) bytes =
    sym (take_all (g.G.Grammar.LONGEST + 3) bytes size) in
    let at : IsAtRecord g.G.Grammar.is_record g.G.Grammar.LONGEST c.in-Record.length bytes =
    c.in-Record.ensures bytes own in
    let fits = record_fits g.G.Grammar.is_record g.G.Grammar.LONGEST g.met.G.Grammar.some
    g.met.G.Grammar.bounded g.met.G.Grammar.one c.in-Record.length bytes at in
    let count = c.line_feeds.ensures in
    let few = count_by-le-length (λ byte. byte == line_feed)
    (take (c.in-Record.length + 1) bytes) in
    let part = length-take (c.in-Record.length + 1) bytes in
    let in_count : length bytes ≤ c.in-Ok.count =
    omega (arith, length-take c.in-Ok.count c.read_at.new.room) in
    let inv = c.gates.invariant in
    record {
      in_range = omega (arith, fits, in_count, c.in-Ok.ensures.in_range);
      lines = omega (arith, fits, count, few, part, inv.lines);
      faults = c.in-Ok.ensures.faults.ok ∙ inv.faults;
      explained = λ start explains. inv.explained start
          (c.read_at.ensures.explained start explains);
      reads = λ start. reads_on g.D.DiskFile.moment (g.D.DiskFile.left_since start)
          (g.D.DiskFile.may_leave start) (g.D.DiskFile.seen start) c.args.device.now c.gates.device
          c.read_at.new.self (c.gates.invariant.reads start) (c.read_at.ensures.seen start)
          (c.read_at.ensures.crash start) (c.read_at.ensures.time start);
      reached = λ start explains.
          let told = c.in-Ok.ensures.bytes start explains in
          let asked : length c.gates.buffer ≡ g.G.Grammar.LONGEST + 3 =
          omega (arith, c.requires.buffer, c.gates.auto.buffer) in
          let shown : bytes ≡ take (g.G.Grammar.LONGEST + 3)
          (drop c.gates.gate (g.D.DiskFile.seen start c.args.device.now)) =
          told ∙ ap (λ (n : ℕ). take n (drop c.gates.gate (g.D.DiskFile.seen start c.gates.device)))
          asked
          ∙ ap (λ (l : List ℕ). take (g.G.Grammar.LONGEST + 3) (drop c.gates.gate l))
          (c.gates.invariant.reads start).same in
          let same : c.in-Record.length + 1 - 1 ≡ c.in-Record.length = omega arith in
          let took = subst (λ (n : ℕ). g.T.RecordTaker.takes c.gates.taker (take n (drop 1 bytes))
          c.take.new.self) same c.take.ensures in
          reached_more g.G.Grammar.is_record g.T.RecordTaker.takes g.G.Grammar.LONGEST
          (g.D.DiskFile.seen start c.args.device.now) c.gates.gate c.gates.line c.args.taker.now
          c.gates.taker c.take.new.self c.in-Record.length bytes c.line_feeds.result
          (inv.reached start (c.read_at.ensures.explained start explains)) shown
          (c.in-Record.ensures (drop c.gates.gate (g.D.DiskFile.seen start c.args.device.now))
          shown) fits took count;
      first = λ start explains some.
          let told = c.in-Ok.ensures.bytes start explains in
          let asked : length c.gates.buffer ≡ g.G.Grammar.LONGEST + 3 =
          omega (arith, c.requires.buffer, c.gates.auto.buffer) in
          let shown : take c.in-Ok.count c.read_at.new.room ≡ take (g.G.Grammar.LONGEST + 3)
          (drop c.gates.gate (g.D.DiskFile.seen start c.args.device.now)) =
          told
          ∙ ap (λ (n : ℕ). take n (drop c.gates.gate (g.D.DiskFile.seen start c.gates.device)))
          asked
          ∙ ap (λ (l : List ℕ). take (g.G.Grammar.LONGEST + 3) (drop c.gates.gate l))
          (c.gates.invariant.reads start).same in
          first_known (g.D.DiskFile.seen start c.args.device.now)
          (take c.in-Ok.count c.read_at.new.room) c.gates.gate g.G.Grammar.LONGEST c.gates.first
          c.first_of_file-first.result c.first_of_file-first.ensures.begins
          c.first_of_file-first.ensures.known shown
          (c.gates.invariant.first start (c.read_at.ensures.explained start explains));
      took = some_more g.T.RecordTaker.takes _ c.args.taker.now c.gates.taker c.take.new.self
          inv.took c.take.ensures;
    }

pub returns-in-Damaged-clause-damaged : goal.returns-in-Damaged-clause-damaged
returns-in-Damaged-clause-damaged g c = λ start line first explains same.
    let bytes = take c.in-Ok.count c.read_at.new.room in
    let room : length c.read_at.new.room ≡ g.G.Grammar.LONGEST + 3 =
    omega (arith, c.requires.buffer, c.gates.auto.buffer, c.read_at.auto.room) in
    let size : length bytes ≤ g.G.Grammar.LONGEST + 3 =
    omega (arith, room, length-take c.in-Ok.count c.read_at.new.room) in
    let told = c.in-Ok.ensures.bytes start explains in
    let asked : length c.gates.buffer ≡ g.G.Grammar.LONGEST + 3 =
    omega (arith, c.requires.buffer, c.gates.auto.buffer) in
    let shown : bytes ≡ take (g.G.Grammar.LONGEST + 3)
    (drop c.gates.gate (g.D.DiskFile.seen start c.args.device.now)) =
    told
    ∙ ap (λ (n : ℕ). take n (drop c.gates.gate (g.D.DiskFile.seen start c.gates.device)))
    asked
    ∙ ap (λ (l : List ℕ). take (g.G.Grammar.LONGEST + 3) (drop c.gates.gate l))
    (c.gates.invariant.reads start).same in
    let own : bytes ≡ take (g.G.Grammar.LONGEST + 3) bytes =
    sym (take_all (g.G.Grammar.LONGEST + 3) bytes size) in
    let within = (c.in-Damaged.ensures bytes own).within in
    let damage =
    c.in-Damaged.ensures (drop c.gates.gate (g.D.DiskFile.seen start c.args.device.now)) shown in
    let lines : c.gates.line + c.line_feeds-in-Damaged.result ≡ line = cc in
    subst (λ (n : ℕ). IsDamaged g.G.Grammar.is_record g.G.Grammar.LONGEST n
    (g.D.DiskFile.seen start c.args.device.now)) lines
    (reached_damage g.G.Grammar.is_record g.T.RecordTaker.takes g.G.Grammar.LONGEST
    (g.D.DiskFile.seen start c.args.device.now) c.gates.gate c.gates.line c.args.taker.now
    c.gates.taker c.in-Damaged.place bytes c.line_feeds-in-Damaged.result g.met.G.Grammar.some
    g.met.G.Grammar.one
    (c.gates.invariant.reached start (c.read_at.ensures.explained start explains)) shown within
    damage c.line_feeds-in-Damaged.ensures)

pub returns-in-Tail-clause-closed_in_range : goal.returns-in-Tail-clause-closed_in_range
returns-in-Tail-clause-closed_in_range g c = λ closed.
    let one = c.is_closed_gate-is_closed.ensures.0 closed in
    omega (
      arith,
      ap length one,
      length-take c.in-Ok.count c.read_at.new.room,
      c.in-Ok.ensures.in_range,
    )

pub returns-in-Tail-clause-found : goal.returns-in-Tail-clause-found
returns-in-Tail-clause-found g c = λ start explains.
    let told = c.in-Ok.ensures.bytes start explains in
    let asked : length c.gates.buffer ≡ g.G.Grammar.LONGEST + 3 =
    omega (arith, c.requires.buffer, c.gates.auto.buffer) in
    let shown : take c.in-Ok.count c.read_at.new.room ≡ take (g.G.Grammar.LONGEST + 3)
    (drop c.gates.gate (g.D.DiskFile.seen start c.args.device.now)) =
    told
    ∙ ap (λ (n : ℕ). take n (drop c.gates.gate (g.D.DiskFile.seen start c.gates.device)))
    asked
    ∙ ap (λ (l : List ℕ). take (g.G.Grammar.LONGEST + 3) (drop c.gates.gate l))
    (c.gates.invariant.reads start).same in
    let is = c.in-Tail.ensures (drop c.gates.gate (g.D.DiskFile.seen start c.args.device.now))
    shown in
    reached_end g.G.Grammar.is_record g.T.RecordTaker.takes g.G.Grammar.LONGEST
    (g.D.DiskFile.seen start c.args.device.now) c.gates.gate c.gates.line c.args.taker.now
    c.gates.taker c.read_at.new.room c.in-Ok.count c.is_closed_gate-is_closed.result
    (c.gates.invariant.reached start (c.read_at.ensures.explained start explains)) shown is
    c.is_closed_gate-is_closed.ensures

pub returns-in-Damaged-clause-first : goal.returns-in-Damaged-clause-first
returns-in-Damaged-clause-first g c = λ start line first explains same.
    let told = c.in-Ok.ensures.bytes start explains in
    let asked : length c.gates.buffer ≡ g.G.Grammar.LONGEST + 3 =
    omega (arith, c.requires.buffer, c.gates.auto.buffer) in
    let shown : take c.in-Ok.count c.read_at.new.room ≡ take (g.G.Grammar.LONGEST + 3)
    (drop c.gates.gate (g.D.DiskFile.seen start c.args.device.now)) =
    told
    ∙ ap (λ (n : ℕ). take n (drop c.gates.gate (g.D.DiskFile.seen start c.gates.device)))
    asked
    ∙ ap (λ (l : List ℕ). take (g.G.Grammar.LONGEST + 3) (drop c.gates.gate l))
    (c.gates.invariant.reads start).same in
    let is : c.first_of_file-first.result ≡ first = cc in
    sym is ∙ first_known (g.D.DiskFile.seen start c.args.device.now)
    (take c.in-Ok.count c.read_at.new.room) c.gates.gate g.G.Grammar.LONGEST c.gates.first
    c.first_of_file-first.result c.first_of_file-first.ensures.begins
    c.first_of_file-first.ensures.known shown
    (c.gates.invariant.first start (c.read_at.ensures.explained start explains))
