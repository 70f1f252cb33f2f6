use Rattle.std.proofs.Common.{◌≡◌, ◌-◌, ◌≤◌, ◌%◌, length, take}
use Rattle.nx_copies.specs.ReaderWords.{ReadsPlain}
use Rattle.nx_copies.proofs.lock_reader.LockReader.hear_pairs.Given as goal

abbrev pub invariant-loop-heard : goal.invariant-loop-heard
invariant-loop-heard l = record {
  within : l.heard ≤ length l.words;
  even : l.heard % 2 ≡ 0;
  plain : ReadsPlain l.fn.self l.self (take l.heard l.words);
}

abbrev pub decreases-loop-heard : goal.decreases-loop-heard
decreases-loop-heard l = length l.words - l.heard
