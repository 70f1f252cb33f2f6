-- The calls of a file with their answers, and what follows from them, where the file had these
-- bytes at first.
use Rattle.std.specs.Prelude.{◌≡◌, ◌⊎◌, ℕ, ◌+◌, ◌≤◌, Bool, true, false, List, [], ◌∷◌, ◌++◌, length, take, drop, Contains, ⊤}
use Rattle.std.proofs.Common.{inl, inr, arith}
use Rattle.nx_kept.specs.Disk.{Torn, Cut}
use Rattle.nx_disk.specs.declared.history.DiskCall.{DiskCall}
use Rattle.nx_disk.specs.declared.history.DiskCall.TheVariants as call

-- a call, whether it succeeded, and the bytes that were read or written
pub record DiskEvent : Type 0 where
  pub call : DiskCall
  pub has_succeeded : Bool
  pub bytes : List ℕ

-- what a read finds after a call
abbrev pub seen_after : DiskCall → Bool → List ℕ → List ℕ → List ℕ
seen_after (call.Written at) true bytes seen =
    take at seen ++ bytes ++ drop (at + length bytes) seen
seen_after (call.Cut size) true bytes seen = take size seen
seen_after _ succeeded bytes seen = seen

-- what a read finds after these calls, the newest first
abbrev pub seen_of : List ℕ → List DiskEvent → List ℕ
seen_of start [] = start
seen_of start (event ∷ earlier) =
    seen_after event.call event.has_succeeded event.bytes (seen_of start earlier)

-- what a read answered is what was there
abbrev pub IsRead : DiskCall → Bool → List ℕ → List ℕ → Type 0
IsRead (call.Read at room) true bytes seen = bytes ≡ take room (drop at seen)
IsRead _ succeeded bytes seen = ⊤

abbrev pub Explains : List ℕ → List DiskEvent → Type 0
Explains start [] = ⊤
Explains start (event ∷ earlier) =
    IsRead event.call event.has_succeeded event.bytes (seen_of start earlier)
    × Explains start earlier

-- what a crash may leave after a call, or in it; a call that failed may have been made in part
abbrev pub LeftAfter : DiskCall → Bool → List ℕ → List ℕ → (List ℕ → Type 0) → List ℕ → Type 0
LeftAfter (call.Read at room) succeeded bytes seen left c = left c
LeftAfter (call.Written at) succeeded bytes seen left c =
    ((d : List ℕ) × left d × Torn at (length bytes) d c)
    ⊎ (c ≡ seen_after (call.Written at) succeeded bytes seen)
LeftAfter (call.Cut size) succeeded bytes seen left c = (d : List ℕ) × left d × Cut size d c
LeftAfter call.Synced true bytes seen left c = c ≡ seen
LeftAfter call.Synced false bytes seen left c = left c

-- Before the first call it may leave what a read finds, or one of these files: an earlier program
-- may have left writes that no sync followed. A list is enough, since what is said of the files
-- that a crash leaves is said of each alone.
abbrev pub LeftAtFirst : List ℕ → List (List ℕ) → List ℕ → Type 0
LeftAtFirst start first c = (c ≡ start) ⊎ Contains first c

abbrev pub MayLeave : List ℕ → List (List ℕ) → List DiskEvent → List ℕ → Type 0
MayLeave start first [] c = LeftAtFirst start first c
MayLeave start first (event ∷ earlier) c =
    LeftAfter event.call event.has_succeeded event.bytes (seen_of start earlier)
    (MayLeave start first earlier) c

-- what a crash since so many calls may have left
abbrev pub LeftSince : List ℕ → List (List ℕ) → List DiskEvent → ℕ → List ℕ → Type 0
LeftSince start first [] t c = LeftAtFirst start first c
LeftSince start first (event ∷ earlier) t c = MayLeave start first (event ∷ earlier) c
    ⊎ ((t ≤ length earlier) × LeftSince start first earlier t c)

abbrev pub one_for : Bool → ℕ
one_for true = 0
one_for false = 1

-- how many calls failed
abbrev pub faults_of : List DiskEvent → ℕ
faults_of [] = 0
faults_of (event ∷ earlier) = one_for event.has_succeeded + faults_of earlier

-- the newest call was of this kind, and failed
abbrev pub HasFailed : (DiskCall → Type 0) → List DiskEvent → Type 0
HasFailed IsOfKind [] = ⊥
HasFailed IsOfKind (event ∷ earlier) = IsOfKind event.call × (event.has_succeeded ≡ false)

-- the place of a call in the file: where it reads or writes, or the size that it cuts to
abbrev pub place_of : DiskCall → ℕ
place_of (call.Read at room) = at
place_of (call.Written at) = at
place_of (call.Cut size) = size
place_of call.Synced = 0

-- the newest call was at a place within the file or at its end, and failed
abbrev pub HasFailedWithin : List ℕ → List DiskEvent → Type 0
HasFailedWithin start [] = ⊥
HasFailedWithin start (event ∷ earlier) =
    (place_of event.call ≤ length (seen_of start earlier)) × (event.has_succeeded ≡ false)

-- the call reads
abbrev pub ReadsDisk : DiskCall → Type 0
ReadsDisk (call.Read at room) = ⊤
ReadsDisk _ = ⊥

-- the call writes, cuts, or brings to the disk
abbrev pub ChangesDisk : DiskCall → Type 0
ChangesDisk (call.Read at room) = ⊥
ChangesDisk _ = ⊤

-- this moment is one of those since an earlier one
pub counts_now : (start : List ℕ) (first : List (List ℕ)) (events : List DiskEvent) (t : ℕ)
    (c : List ℕ) → t ≤ length events → MayLeave start first events c
    → LeftSince start first events t c
counts_now start first [] t c le now = now
counts_now start first (event ∷ earlier) t c le now = inl now

-- since this moment there is no other
pub only_now : (start : List ℕ) (first : List (List ℕ)) (events : List DiskEvent) (c : List ℕ)
    → LeftSince start first events (length events) c → MayLeave start first events c
only_now start first [] c left = left
only_now start first (event ∷ earlier) c (inl now) = now
only_now start first (event ∷ earlier) c (inr since) = absurd (omega (arith, since.0))
