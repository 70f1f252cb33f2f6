use Rattle.std.proofs.Common.{arith}
use Rattle.nx_log.proofs.lemmas.kept.Steps.{takes_long}
use Rattle.nx_log.proofs.entries.kept_reader.KeptReader.pass_tail.Goals as goal

pub returns-then-bytes-room-clause-takes : goal.returns-then-bytes-room-clause-takes
returns-then-bytes-room-clause-takes c = λ from given entries at.
    takes_long c.args.self.now from given entries at c.args.count c.requires.stage c.args.bytes.now
    _ c.line_after-line.result (omega arith) (omega (arith, c.if-bytes-room.true))
    (c.line_after-line.ensures given at.line)
