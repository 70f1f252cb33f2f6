use Rattle.std.proofs.Common.{◌≡◌, ◌≤◌, slice_index}
use Rattle.nx_code.specs.Word.{wrong_in}
use Rattle.nx_locks.proofs.reader.wrong_among.Given as goal

-- how many of the words so far are wrong
abbrev pub invariant-loop-place : goal.invariant-loop-place
invariant-loop-place l = record {
  counted : l.wrong ≡ wrong_in (slice_index l.words) 0 l.place;
  few : l.wrong ≤ l.place;
}
