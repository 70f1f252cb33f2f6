-- What a grammar tells of bytes at whose place a record is to stand.
use Rattle.std.specs.Prelude.{◌≢◌, ℕ, ◌+◌, ◌<◌, ◌≤◌, List, [], ◌++◌, length, take}
use Rattle.nx_kept.specs.declared.grammar.RecordStart.{RecordStart}
use Rattle.nx_kept.specs.declared.grammar.RecordStart.TheVariants.{Whole, Unfinished, Broken}

-- a record that lacks some bytes at its end
abbrev pub IsUnfinished : (List ℕ → Type 0) → List ℕ → Type 0
IsUnfinished is_record bytes = (more : List ℕ) × is_record (bytes ++ more) × (more ≢ [])

-- The first n bytes are a record; all of them are the beginning of one; or they begin one up to the
-- byte at n, with which they don't, whatever comes.
abbrev pub TellsRecord : (List ℕ → Type 0) → List ℕ → RecordStart → Type 0
TellsRecord is_record bytes (Whole n) = (n ≤ length bytes) × is_record (take n bytes)
TellsRecord is_record bytes Unfinished = IsUnfinished is_record bytes
TellsRecord is_record bytes (Broken n) = (n < length bytes) × IsUnfinished is_record (take n bytes)
    × (is_record (take (n + 1) bytes) → ⊥) × (IsUnfinished is_record (take (n + 1) bytes) → ⊥)
