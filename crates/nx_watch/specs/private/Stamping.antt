-- What stood at the reads of a run over lines, and how the run went on from there.
use Rattle.std.specs.Prelude.{◌≡◌, ℕ, ◌≤◌, true, false, List, ◌++◌, length, take, Option}
use Rattle.std.specs.List.{All}
use Rattle.nx_fec.specs.air_files.AirFile.{Line}
use Rattle.nx_fec.specs.Transfers.{CountedDevice}
use Rattle.nx_kept.specs.declared.disk.DiskFile.{Ghosts as TellsOfDisk}
use Rattle.nx_receiver.specs.ChannelReceiver.{ReceiverKind}
use Rattle.nx_watch.specs.Acting.{acting_lines, goes_on}
use Rattle.nx_watch.specs.AnyLines.{AreLines}
use Rattle.nx_watch.specs.LinesTold.{IsToldByRead}
use Rattle.nx_watch.specs.Stamp.{Stamp}
use Rattle.nx_watch.specs.declared.lines.line_effects.StartMoments.{StartMoments}
use Rattle.nx_watch.specs.private.Keeping.{keeper_since}
use Rattle.nx_watch.specs.private.LoggingListener.{LoggingOver, LoggingTo, TakesLines, logging_to}
use Rattle.nx_watch.specs.private.Running.{HasToldSo, ToldBefore}

-- one that began like this one, and to which the other's log, of so many texts, was given
abbrev pub logging_since : {D C : Type 0} → LoggingOver D C → LoggingOver D C → ℕ
    → LoggingOver D C
logging_since start past count = record {
  listener = start.listener;
  keeper = keeper_since past.keeper count;
  entry = past.entry;
}

-- What a run needs of its receivers and devices to tell of its stamps: of what kind its receivers
-- are, what the disk, the output and the notices tell, and what stood on the notices before its
-- first line.
pub record Telling (D C W N : Type 0) : Type 1 where
  pub kind : ReceiverKind C
  pub disk : TellsOfDisk D
  pub contents : W → Option (List ℕ)
  pub told : N → Option (List ℕ)
  pub old : ToldBefore

abbrev pub telling : {D C W N : Type 0} → ReceiverKind C → TellsOfDisk D
    → (W → Option (List ℕ)) → (N → Option (List ℕ)) → ToldBefore → Telling D C W N
telling kind disk contents told old =
    record { kind = kind; disk = disk; contents = contents; told = told; old = old }

module _ {D C W N : Type 0} (tells : Telling D C W N) where
  -- What stood at a read of a run, of these bytes: the lines that were whole, of which this holds,
  -- had been taken; the first of them without effect had been told, and a put that had failed.
  -- Where none had, the run went on so from what was kept then.
  pub record WasRunning (start : LoggingTo D C W) (first : StartMoments) (bytes : List ℕ)
      (Behind : List (Option Line) → Type 0) (WentOn : LoggingTo D C W → Type 0)
      (at : Stamp D (CountedDevice W) (CountedDevice N))
      : Type 0 where
    pub within : at.read ≤ length bytes
    pub lines : List (Option Line)
    pub rest : List ℕ
    pub whole : AreLines (take at.read bytes) lines rest
    pub behind : Behind lines
    pub past : LoggingOver D C
    pub device : at.disk ≡ past.keeper.log.device
    pub on : goes_on first lines ≡ true
    pub stood : TakesLines tells.kind tells.disk tells.contents start (logging_to past at.writer)
        (acting_lines first lines)
    pub told : HasToldSo tells.old (tells.told at.notices.inner) at.notices.failures
        (IsToldByRead first (take at.read bytes) lines past.keeper.has_failed)
    pub well : at.writer.failures ≡ 0
    pub went_on : past.keeper.has_failed ≡ false
        → WentOn (logging_to (logging_since start.logging past (length stood.1.texts)) at.writer)

  -- A run went on so from its start, and from each of these reads, at which at most so many lines
  -- were whole.
  pub record RunsStamped (first : StartMoments) (bytes : List ℕ) (most : ℕ)
      (start : LoggingTo D C W) (WentOn : LoggingTo D C W → Type 0)
      (stamps : List (Stamp D (CountedDevice W) (CountedDevice N)))
      : Type 0 where
    pub from_start : WentOn start
    pub from_reads : All
        (WasRunning start first bytes (λ lines. length lines ≤ most) WentOn) stamps

  -- A run stands so after these lines. Those that were whole at each of these reads are a beginning
  -- of them, and it stands so from what was kept then.
  pub record StandsStamped (first : StartMoments) (bytes : List ℕ)
      (stamps : List (Stamp D (CountedDevice W) (CountedDevice N)))
      (start now : LoggingTo D C W) (lines : List Line)
      : Type 0 where
    pub stands : TakesLines tells.kind tells.disk tells.contents start now lines
    pub at_reads : All (WasRunning start first bytes
        (λ whole. (later : List Line) × (lines ≡ acting_lines first whole ++ later))
        (λ since. TakesLines tells.kind tells.disk tells.contents since now lines)) stamps
