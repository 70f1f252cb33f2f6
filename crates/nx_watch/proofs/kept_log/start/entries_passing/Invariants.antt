use Rattle.std.proofs.Common.{◌≡◌, ◌≤◌, ◌++◌, Bool, List, drop, length}
use Rattle.nx_memory.specs.declared.memories.entry.MemoryEntry.{MemoryEntry}
use Rattle.nx_memory.specs.Content.{passing}
use Rattle.nx_watch.proofs.kept_log.start.entries_passing.Given as goal

-- those that pass are kept, and those to come
abbrev pub invariant-loop-place : goal.invariant-loop-place
invariant-loop-place g l = record {
  kept : (test : MemoryEntry → List MemoryEntry → Bool)
      → ((entry : _) (behind : _) (answer : Bool) → goal.P-post g l.passes entry behind answer
      → answer ≡ test entry.now behind.now)
      → l.kept.items ++ passing test (drop l.place l.entries) ≡ passing test l.entries;
  few : length l.kept.items ≤ l.place;
}
