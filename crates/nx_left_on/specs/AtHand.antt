-- What a watch has at hand, by values alone (this profile).
use Rattle.std.specs.Prelude.{ℕ, List, Option}
use Rattle.nx_fec.specs.Transfers.{CountedDevice, devices}
use Rattle.nx_kept.specs.declared.disk.DiskFile.{Ghosts as TellsOfDisk}
use Rattle.nx_watch.specs.Stamp.{Stamp}
use Rattle.nx_watch.specs.Watch.{WatchDevices}

-- The file of a watch with its first content, its input, its output and its notices, as they stand
-- before it and after it, and what stood at each read of the input.
pub record AtHand (D R W N : Type 0) : Type 0 where
  pub start : List ℕ
  pub disk : D
  pub disk_after : D
  pub reader : CountedDevice R
  pub reader_after : CountedDevice R
  pub writer : CountedDevice W
  pub writer_after : CountedDevice W
  pub notices : CountedDevice N
  pub notices_after : CountedDevice N
  pub stamps : List (Stamp D (CountedDevice W) (CountedDevice N))

-- the same with what they tell of themselves
abbrev pub telling : {D R W N : Type 0} → TellsOfDisk D → (R → Option (List ℕ))
    → (W → Option (List ℕ)) → (N → Option (List ℕ)) → AtHand D R W N → WatchDevices D R W N
telling disk remaining contents told a = record {
  tells = disk;
  start = a.start;
  disk = a.disk;
  disk_after = a.disk_after;
  streams = devices remaining contents a.reader a.reader_after a.writer a.writer_after;
  told = told;
  notices = a.notices;
  notices_after = a.notices_after;
  stamps = a.stamps;
}
