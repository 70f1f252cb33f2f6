use Rattle.std.proofs.Common.{◌≡◌, ◌-◌, ◌^◌, map, take, length, min}
use Rattle.std.specs.Prelude.{All}
use Rattle.nx_envelope.specs.Message.{IsMessageLine, text_of}
use Rattle.nx_envelope.proofs.message.check_lines.Given as goal

abbrev pub invariant-loop-line : goal.invariant-loop-line
invariant-loop-line l = record {
  counted : l.number ≡ l.line-index;
  good : All IsMessageLine (take l.line-index (map (λ line. line.now) l.lines));
  text : l.text_len ≡ min (length (text_of (take l.line-index (map (λ line. line.now) l.lines))))
      (2 ^ 64 - 1);
}
