-- How entries are kept in a log, and given to a writer from a failed put on.
use Rattle.std.specs.Prelude.{◌≡◌, ◌⊎◌, ℕ, ◌+◌, ◌<◌, ◌≤◌, Bool, true, false, List, [], ◌++◌, length}
use Rattle.std.specs.Prelude.{Option, take, drop}
use Rattle.std.specs.List.{concat}
use Rattle.nx_fec.specs.Transfers.{CountedDevice, count_of}
use Rattle.nx_kept.specs.Disk.{FailedOnce, LeavesOnly}
use Rattle.nx_kept.specs.Kept.{StandsFor}
use Rattle.nx_kept.specs.Log.{Keeps}
use Rattle.nx_kept.specs.declared.disk.DiskFile.{Ghosts as TellsOfDisk}
use Rattle.nx_log.specs.Entries.{IsWholeEntry}
use Rattle.nx_watch.specs.Watch.{longest_entry}
use Rattle.nx_watch.specs.private.LineRun.{WereGiven}
use Rattle.nx_watch.specs.declared.kept_log.keeper.Keeper.{Keeper}

-- a keeper with the log of this one, which so many texts had been put into
abbrev pub keeper_since : {D : Type 0} → Keeper D → ℕ → Keeper D
keeper_since past count = record { log = past.log; put = count; has_failed = false }

-- the bytes of a file stand for these texts of entries
abbrev pub StandsForTexts : List (List ℕ) → List ℕ → Type 0
StandsForTexts texts file = StandsFor IsWholeEntry longest_entry texts file

-- they stand for those before, and for the first of these
abbrev pub StandsForFirst : List (List ℕ) → List (List ℕ) → List ℕ → Type 0
StandsForFirst before texts file =
    (count : ℕ) × (count ≤ length texts) × StandsForTexts (before ++ take count texts) file

module _ {D : Type 0} (disk : TellsOfDisk D) where
  -- the log kept these texts at the start, where the file had this first content
  abbrev pub KeepsTexts : List ℕ → List (List ℕ) → Keeper D → Type 0
  KeepsTexts content texts keeper =
      Keeps (disk.seen content) (disk.may_leave content) IsWholeEntry texts keeper.log

  -- from start to now a crash leaves those before, and the first of these
  abbrev pub LeavesFirst : List ℕ → List (List ℕ) → List (List ℕ) → Keeper D → Keeper D → Type 0
  LeavesFirst content before texts start now =
      LeavesOnly disk.moment (disk.left_since content) start.log.device now.log.device
      (StandsForFirst before texts)

  -- All these texts were put behind those that the log kept at the start, and none was given to a
  -- writer.
  pub record AllKept (start now : Keeper D) (texts : List (List ℕ)) (given : List ℕ) : Type 0 where
    pub put : now.put ≡ count_of (start.put + length texts)
    pub none : given ≡ []
    pub well : disk.faults now.log.device ≡ disk.faults start.log.device
    pub explained : (content : List ℕ) → disk.explains content now.log.device
        → disk.explains content start.log.device
    pub kept : (content : List ℕ) (before : List (List ℕ)) → KeepsTexts content before start
        → KeepsTexts content (before ++ texts) now
    pub any_moment : (content : List ℕ) (before : List (List ℕ))
        → KeepsTexts content before start → LeavesFirst content before texts start now

  -- The disk failed as the text behind so many of them was put. From it on they were given to a
  -- writer.
  pub record SomeKept (start now : Keeper D) (texts : List (List ℕ)) (given : List ℕ) : Type 0 where
    pub count : ℕ
    pub fewer : count < length texts
    pub rest : given ≡ concat (drop count texts)
    pub failed : FailedOnce (disk.faults start.log.device) (disk.faults now.log.device)
        (disk.has_failed_to_write now.log.device)
    pub within : (content : List ℕ) (before : List (List ℕ)) → KeepsTexts content before start
        → disk.has_failed_within content now.log.device
    pub explained : (content : List ℕ) → disk.explains content now.log.device
        → disk.explains content start.log.device
    pub left : (content : List ℕ) (before : List (List ℕ)) → KeepsTexts content before start
        → (file : List ℕ) → disk.may_leave content now.log.device file
        → StandsForTexts (before ++ take count texts) file
        ⊎ StandsForTexts (before ++ take (count + 1) texts) file
    pub any_moment : (content : List ℕ) (before : List (List ℕ))
        → KeepsTexts content before start → LeavesFirst content before texts start now

  abbrev pub HasKeptSo : Bool → Keeper D → Keeper D → List (List ℕ) → List ℕ → Type 0
  HasKeptSo false start now texts given = AllKept start now texts given
  HasKeptSo true start now texts given = SomeKept start now texts given

  -- The keeper was given these texts, of which the first ones had been put at the start, as many as
  -- it says. Of the others it gave these bytes to a writer.
  pub record HasKept (start now : Keeper D) (texts : List (List ℕ)) (given : List ℕ) : Type 0 where
    pub before : start.put ≤ length texts
    pub since : HasKeptSo now.has_failed start now (drop start.put texts) given

  -- and its writer was given them
  abbrev pub KeepsWith : {W : Type 0} → (W → Option (List ℕ)) → Keeper D → Keeper D
      → CountedDevice W → CountedDevice W → List (List ℕ) → Type 0
  KeepsWith contents start now first writer texts =
      (given : List ℕ) × HasKept start now texts given × WereGiven contents first writer given
