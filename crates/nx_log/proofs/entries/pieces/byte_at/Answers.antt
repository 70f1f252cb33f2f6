use Rattle.std.proofs.Common.{arith}
use Rattle.nx_log.proofs.lemmas.beginnings.Bytes.{byte_breaks, byte_to_come}
use Rattle.nx_log.proofs.entries.pieces.byte_at.Goals as goal
use Rattle.nx_log.proofs.entries.pieces.byte_at.Goals.{else-least-byte-via-then-least-byte+else-byte-most, else-least-byte-via-else-least-byte}

pub returns-in-empty-clause-lacks : goal.returns-in-empty-clause-lacks
returns-in-empty-clause-lacks c =
    byte_to_come c.args.least c.args.most c.args.bytes.now c.requires (omega arith)

pub returns-else-least-byte-clause-lacks : goal.returns-else-least-byte-clause-lacks
returns-else-least-byte-clause-lacks c =
    byte_breaks c.args.least c.args.most c.args.bytes.now c.requires c.in-len1-up.len_at_least
    (λ low high. elim c.else-least-byte.branch [
      | else-least-byte-via-then-least-byte+else-byte-most w ↦
          omega (arith, w.if-byte-most.false)
      | else-least-byte-via-else-least-byte w ↦ omega (arith, w.if-least-byte.false)
    ])
