use Rattle.std.proofs.Common.{◌≡◌, ◌^◌, ◌-◌, ◌++◌, ℕ, List, min, take}
use Rattle.std.specs.List.{All}
use Rattle.nx_log.specs.Reading.{IsNoBracket, line_behind}
use Rattle.nx_log.specs.private.Standing.{StandsSomehow}
use Rattle.nx_log.specs.declared.entries.tail.TailEnd.TheVariants as ends
use Rattle.nx_log.proofs.entries.tail.pass_tail.Given as goal

-- the bytes so far stand in the tail
abbrev pub invariant-loop-byte : goal.invariant-loop-byte
invariant-loop-byte l = record {
  count : l.passed.count ≡ l.byte-index;
  none : All IsNoBracket (take l.byte-index l.piece);
  same : l.passed.tail.is_torn ≡ l.fn.tail.is_torn;
  end : l.passed.end ≡ ends.All;
  line : (before : List ℕ) → l.fn.line ≡ min (line_behind before) (2 ^ 64 - 1)
      → l.passed.line ≡ min (line_behind (before ++ take l.byte-index l.piece)) (2 ^ 64 - 1);
  stands : (before front bytes : List ℕ) (reach : ℕ)
      → l.fn.line ≡ min (line_behind (before ++ (front ++ bytes))) (2 ^ 64 - 1)
      → StandsSomehow l.fn.tail before front reach bytes
      → StandsSomehow l.passed.tail before front reach (bytes ++ take l.byte-index l.piece);
}
