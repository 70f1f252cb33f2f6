-- Logged entries are a grammar: none is empty, none is longer than the longest, and none begins
-- another.
use Rattle.std.specs.Prelude.{◌≡◌, ℕ, ◌<◌, ◌≤◌, List, [], ◌++◌, length}
use Rattle.std.proofs.Common.{sym, append-nil, arith}
use Rattle.nx_log.specs.Entries.{IsWholeEntry}
use Rattle.nx_log.proofs.lemmas.reading.Entries.{entry_bounded as bounded_one, entry_is_some, one_entry}

pub entry_some : (bytes : List ℕ) → IsWholeEntry bytes → 0 < length bytes
entry_some bytes is = omega (arith, entry_is_some is.0 bytes is.1.entry)

pub entry_bounded : (bytes : List ℕ) → IsWholeEntry bytes → length bytes ≤ 4146
entry_bounded bytes is = bounded_one is.0 bytes is.1

pub entry_one : (bytes more : List ℕ) → IsWholeEntry bytes → IsWholeEntry (bytes ++ more)
    → more ≡ []
entry_one bytes more is longer =
    (one_entry is.0 longer.0 bytes (bytes ++ more) more [] is.1 longer.1
    (sym (append-nil (bytes ++ more)))).rest
