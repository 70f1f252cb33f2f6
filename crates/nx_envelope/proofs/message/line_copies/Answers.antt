use Rattle.std.proofs.Common.{◌<◌, length, arith}
use Rattle.nx_envelope.proofs.lemmas.messages.MessageLines.{map_more_alike}
use Rattle.nx_envelope.proofs.message.line_copies.Goals as goal

pub loop-line-preserved : goal.loop-line-preserved
loop-line-preserved c =
    let lt : c.loop-line.line-index < length c.args.lines.now = omega arith in
    rw c.in_ok-push.ensures.items
    (map_more_alike (λ line. line.items) (λ line. line.now) c.loop-line.kept.items
    c.args.lines.now c.loop-line.line-index _ c.in_ok-copy.copy lt c.loop-line.invariant
    c.in_ok-copy.ensures.items)
