use Rattle.std.proofs.Common.{◌≡◌, ◌≤◌, ℕ, List, length, take}
use Rattle.std.specs.List.{filter, range_with_len}
use Rattle.std.specs.FinSet as set
use Rattle.std.specs.Ordering.{nat_cmp}
use Rattle.nx_memory.proofs.letter_set.LetterSet.letters.Given as goal

-- those of the first letters that are in the set
pub record Taken (letters : List ℕ) (place : ℕ) (all : set.FinSet nat_cmp) : Type 0 where
  pub so_far : letters ≡ filter (set.contains all) (take place (range_with_len 65 26))
  pub few : length letters ≤ place

abbrev pub invariant-loop-place : goal.invariant-loop-place
invariant-loop-place l = Taken l.letters.items l.place l.self
