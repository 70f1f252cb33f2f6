use Rattle.std.proofs.Common.{◌*◌, ◌≤◌, ℕ, take}
use Rattle.nx_sync.specs.declared.step.Role.{Role}
use Rattle.nx_copies.specs.private.LockPrinter.{HasPrintedWords, PrintsLock}
use Rattle.nx_copies.specs.copies.LockText.{AreNext}
use Rattle.nx_copies.proofs.lock_printer.LockPrinter.print_words.Given as goal

-- what the pairs so far print, one byte at most each
abbrev pub invariant-loop-pair : goal.invariant-loop-pair
invariant-loop-pair l = record {
  printed : (first : Role) (before : ℕ → ℕ) (n : ℕ) → PrintsLock l.fn.self first before n
      → AreNext first before n l.words
      → HasPrintedWords l.self first before n (2 * l.pair) (take l.printed.count l.printed.bytes);
  count : l.printed.count ≤ l.pair;
}
