use Rattle.std.proofs.Common.{sym, take, ◌++◌}
use Rattle.nx_watch.specs.Acting.{most_bytes}
use Rattle.nx_watch.specs.private.Scanning.{IsScanning, OnUnknown, lines_ended}
use Rattle.nx_watch.proofs.lemmas.lines.Scanning.{ended-none, no-latest, on-passing, on-scanned, on-stopped}
use Rattle.nx_watch.proofs.lines.any_scanner.AnyScanner.take.Goals as goal

pub returns-then-self-clause-scans : goal.returns-then-self-clause-scans
returns-then-self-clause-scans c = λ bytes lines h.
    on-passing c.args.self.now bytes (take c.pass.result.0 c.args.piece.now)
    c.args.piece.now lines (λ b l. IsScanning c.pass.new.self b
    (l ++ lines_ended c.pass.result.1 c.pass.new.self.scanner.latest))
    c.if-self.true h c.pass.ensures.scans

pub returns-then-self-clause-reason : goal.returns-then-self-clause-reason
returns-then-self-clause-reason c = λ bytes lines h.
    on-passing c.args.self.now bytes (take c.pass.result.0 c.args.piece.now)
    c.args.piece.now lines (λ b l. OnUnknown c.pass.result.1 b l)
    c.if-self.true h c.pass.ensures.reason

pub returns-in-Ok-clause-scans : goal.returns-in-Ok-clause-scans
returns-in-Ok-clause-scans c = λ bytes lines h.
    on-scanned c.args.self.now _ bytes (take c.in-Ok.count c.args.piece.now) lines
    c.push_line.new.self.latest c.if-self.false c.if-self.false h
    (λ since found scans. c.in-Ok.ensures.bytes most_bytes since found scans)

pub returns-in-Ok-2-clause-scans : goal.returns-in-Ok-2-clause-scans
returns-in-Ok-2-clause-scans c = λ bytes lines h.
    ended-none _ _ lines c.push_line.new.self.latest
    (no-latest c.push_line.new.self.latest c.latest.result (sym c.if-is_some.ensures)
    c.latest.ensures)
    (on-scanned c.args.self.now _ bytes (take c.in-Ok.count c.args.piece.now) lines
    c.push_line.new.self.latest c.if-self.false c.if-self.false h
    (λ since found scans. c.in-Ok.ensures.bytes most_bytes since found scans))

pub returns-in-Err-clause-scans : goal.returns-in-Err-clause-scans
returns-in-Err-clause-scans c = λ bytes lines h.
    on-stopped c.args.self.now c.push_line.new.self bytes
    (take c.pass-in-Err.result.0 c.args.piece.now) c.args.piece.now lines c.in-Err.fault
    c.reason_of.result (λ b l. IsScanning c.pass-in-Err.new.self b
    (l ++ lines_ended c.pass-in-Err.result.1 c.pass-in-Err.new.self.scanner.latest))
    c.reason_of.ensures c.if-self.false c.requires.room h
    (λ limit since found scans. c.in-Err.ensures.bytes limit since found scans)
    c.pass-in-Err.ensures.scans

pub returns-in-Err-clause-reason : goal.returns-in-Err-clause-reason
returns-in-Err-clause-reason c = λ bytes lines h.
    on-stopped c.args.self.now c.push_line.new.self bytes
    (take c.pass-in-Err.result.0 c.args.piece.now) c.args.piece.now lines c.in-Err.fault
    c.reason_of.result (λ b l. OnUnknown c.pass-in-Err.result.1 b l)
    c.reason_of.ensures c.if-self.false c.requires.room h
    (λ limit since found scans. c.in-Err.ensures.bytes limit since found scans)
    c.pass-in-Err.ensures.reason
