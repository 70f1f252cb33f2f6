-- What the calls of a disk file do to it, and what a crash may leave of it.
use Rattle.std.specs.Prelude.{◌≡◌, ◌⊎◌, ℕ, suc, ◌+◌, ◌≤◌, min, max, List, ◌++◌, length, take, drop, Result, OnOk, OnErr}

-- new is old with these bytes written at this place
abbrev pub Holds : List ℕ → ℕ → List ℕ → List ℕ → Type 0
Holds old at bytes new = new ≡ take at old ++ bytes ++ drop (at + length bytes) old

-- A write of n bytes at a place that a crash meets. In its range each byte may be anything, also
-- past the old end, and the file has a length from the old to the new one. Elsewhere the bytes are
-- the same.
pub record Torn (at n : ℕ) (old new : List ℕ) : Type 0 where
  pub before : take at new ≡ take at old
  pub after : drop (at + n) new ≡ drop (at + n) old
  pub no_shorter : length old ≤ length new
  pub no_longer : length new ≤ max (length old) (at + n)

-- a cut to n bytes that a crash meets: any length between
pub record Cut (n : ℕ) (old new : List ℕ) : Type 0 where
  pub no_shorter : min n (length old) ≤ length new
  pub front : take (length new) old ≡ new

-- each new outcome of a crash is an old one after the step
abbrev pub Follows : (List ℕ → List ℕ → Type 0) → (List ℕ → Type 0) → (List ℕ → Type 0) → Type 0
Follows step old new = (c : List ℕ) → new c → (d : List ℕ) × old d × step d c

-- a crash leaves this and nothing else
abbrev pub Only : List ℕ → (List ℕ → Type 0) → Type 0
Only file outcomes = (c : List ℕ) → outcomes c → c ≡ file

-- Time goes on: a crash since t might have left what it might have left before, or what it may
-- leave now.
pub record Elapses (before now : ℕ) (past since : ℕ → List ℕ → Type 0) (may_leave : List ℕ → Type 0)
    : Type 0 where
  pub later : before ≤ now
  pub nothing_else : (t : ℕ) (c : List ℕ) → t ≤ before → since t c → past t c ⊎ may_leave c
  pub keeps : (t : ℕ) (c : List ℕ) → t ≤ before → past t c → since t c

-- A crash at any moment from old to new leaves a file that has P.
pub record LeavesOnly {D : Type 0} (moment : D → ℕ) (left_since : D → ℕ → List ℕ → Type 0)
    (old new : D) (P : List ℕ → Type 0) : Type 0 where
  pub later : moment old ≤ moment new
  pub each : (c : List ℕ) → left_since new (moment old) c → P c
  -- for a run that began earlier
  pub before : (t : ℕ) (c : List ℕ) → t ≤ moment old → left_since new t c → left_since old t c ⊎ P c

-- The file isn't touched: it has the same bytes, and no crash leaves what one couldn't leave
-- before.
pub record OnlyReads {D : Type 0} (seen : D → List ℕ) (may_leave : D → List ℕ → Type 0)
    (moment : D → ℕ) (left_since : D → ℕ → List ℕ → Type 0) (old new : D) : Type 0 where
  pub same : seen new ≡ seen old
  pub crash : (c : List ℕ) → may_leave new c → may_leave old c
  pub any_moment : LeavesOnly moment left_since old new (may_leave old)

-- One call of the disk failed, and it was the last.
pub record FailedOnce (before now : ℕ) (has_failed : Type 0) : Type 0 where
  pub once : now ≡ suc before
  pub last : has_failed

-- What fails is answered so, and nothing else is: at Ok no call failed, at Err the last one, and it
-- alone.
pub record TellsFaults {A E : Type 0} (before now : ℕ) (has_failed : Type 0) (result : Result A E)
    : Type 0 where
  pub ok : OnOk result (now ≡ before)
  pub err : OnErr result (FailedOnce before now has_failed)
