-- That a start told what it cuts of its log before anything of it was changed (this profile).
use Rattle.std.specs.Prelude.{◌≡◌, ◌≢◌, ◌⊎◌, ℕ, List, [], ◌∷◌, Option}
use Rattle.nx_fec.specs.Transfers.{CountedDevice}
use Rattle.nx_kept.specs.Disk.{OnlyReads}
use Rattle.nx_kept.specs.Taker.{IsUntouched}
use Rattle.nx_kept.specs.declared.disk.DiskFile.{Ghosts as TellsOfDisk}
use Rattle.nx_watch.specs.LineRun.{HasTold}
use Rattle.nx_watch.specs.Stamp.{CutNote}
use Rattle.nx_watch.specs.Watch.{TellsOfCut}

module _ {D E : Type 0} (tells : TellsOfDisk D) (told : E → Option (List ℕ)) (disk : D)
    (notices : CountedDevice E) (old new : List (CutNote D (CountedDevice E))) where
  -- One note was made. As it was made, this text had been told behind what stood on the notices, or
  -- a write of that had failed; and the file had only been read.
  pub record IsNotedAsTold (text : List ℕ) : Type 0 where
    pub at : CutNote D (CountedDevice E)
    pub one : new ≡ at ∷ old
    pub untouched : IsUntouched tells disk at.disk
    pub written : HasTold (told notices.inner) (told at.notices.inner) at.notices.failures text

  -- What a start cuts of the file, which had these bytes at first, had been told then, if anything
  -- is cut.
  pub record ToldBeforeCut (start : List ℕ) : Type 0 where
    pub text : List ℕ
    pub tells_of : TellsOfCut (tells.seen start disk) text
    pub noted : text ≢ [] → IsNotedAsTold text

  -- until now the file is only read; or that had been told before it was changed
  abbrev pub TellsBeforeChange : List ℕ → D → Type 0
  TellsBeforeChange start disk_after =
      OnlyReads (tells.seen start) (tells.may_leave start) tells.moment (tells.left_since start)
      disk disk_after
      ⊎ ToldBeforeCut start
