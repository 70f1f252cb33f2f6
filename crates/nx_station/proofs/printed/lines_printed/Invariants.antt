use Rattle.std.proofs.Common.{◌≡◌, ◌++◌, length, map}
use Rattle.std.specs.List.{AllByRecursion}
use Rattle.nx_envelope.specs.Message.{text_of}
use Rattle.nx_station.specs.private.PrintedText.{IsTextLine}
use Rattle.nx_station.proofs.printed.lines_printed.Given as goal

abbrev pub invariant-loop-line : goal.invariant-loop-line
invariant-loop-line l = record {
  whole : l.text ≡ text_of (map (λ line. line.now) l.lines.items) ++ l.rest;
  inside : AllByRecursion IsTextLine (map (λ line. line.now) l.lines.items);
}

abbrev pub decreases-loop-line : goal.decreases-loop-line
decreases-loop-line l = length l.rest
