-- What stood at a read (this profile).
use Rattle.std.specs.Prelude.{◌≡◌, ℕ, ◌+◌, ◌≤◌, List, [], ◌∷◌}
use Rattle.nx_fec.specs.Transfers.{max_piece}

-- What stood at a read: how many bytes had come before it, and the disk file, the output and the
-- notices, as they were then. And how many bytes it gave: none where the input had ended, or where
-- it failed.
pub record Stamp (D W N : Type 0) : Type 0 where
  pub read : ℕ
  pub gave : ℕ
  pub disk : D
  pub writer : W
  pub notices : N

-- these, as a stamp
abbrev pub stamp : {D W N : Type 0} → ℕ → ℕ → D → W → N → Stamp D W N
stamp read gave disk writer notices = record {
  read = read;
  gave = gave;
  disk = disk;
  writer = writer;
  notices = notices;
}

-- what stood as a start told what it cuts: the disk file and the notices, before anything was read
abbrev pub CutNote : Type 0 → Type 0 → Type 0
CutNote D N = Stamp D (Unit {0}) N

-- The stamps, the last one first, are all reads of a run that read so many bytes. The first read
-- stood at none, each other one where the one before it ended, and the bytes end where the last one
-- ended. Each gave at most what one read gives. A run that made no read has no stamp, and read
-- nothing.
abbrev pub AreTheReads : {D W N : Type 0} → List (Stamp D W N) → ℕ → Type 0
AreTheReads [] total = total ≡ 0
AreTheReads (last ∷ before) total =
    (total ≡ last.read + last.gave) × (last.gave ≤ max_piece) × AreTheReads before last.read

-- there was a read, and the last one gave nothing
abbrev pub LastGaveNone : {D W N : Type 0} → List (Stamp D W N) → Type 0
LastGaveNone [] = ⊥
LastGaveNone (last ∷ before) = last.gave ≡ 0
