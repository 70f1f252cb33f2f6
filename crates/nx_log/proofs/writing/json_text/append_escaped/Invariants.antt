use Rattle.std.proofs.Common.{◌≡◌, ◌+◌, ◌-◌, ◌*◌, ◌≤◌, ◌++◌, length, take}
use Rattle.json.specs.Print.{escape}
use Rattle.nx_log.proofs.writing.json_text.append_escaped.Given as goal

-- the text so far was appended, as it stands in a string
abbrev pub invariant-loop-end : goal.invariant-loop-end
invariant-loop-end l = record {
  within : l.at ≤ length l.text;
  items : l.line.items ≡ l.fn.line.items ++ escape (take l.at l.text);
  few : length l.line.items ≤ length l.fn.line.items + 2 * l.at;
}

abbrev pub decreases-loop-end : goal.decreases-loop-end
decreases-loop-end l = length l.text - l.at
