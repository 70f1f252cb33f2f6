use Rattle.std.proofs.Common.{◌≡◌, map, take}
use Rattle.nx_envelope.proofs.message.line_copies.Given as goal

abbrev pub invariant-loop-line : goal.invariant-loop-line
invariant-loop-line l = map (λ line. line.items) l.kept.items
    ≡ take l.line-index (map (λ line. line.now) l.lines)
