-- How a run over the lines of any bytes stands.
use Rattle.std.specs.Prelude.{◌≡◌, ◌⊎◌, ℕ, Bool, List, [], ◌++◌, Option, None, Err}
use Rattle.nx_fec.specs.air_files.AirFile.{Line}
use Rattle.nx_watch.specs.AnyLines.{AreLines, cut_line}
use Rattle.nx_watch.specs.Acting.{count_without, first_without}
use Rattle.nx_watch.specs.LineRun.{HasTold}
use Rattle.nx_watch.specs.private.LineRun.{AnswersRun, AreCounted, HasTaken, TakerRelation}
use Rattle.nx_watch.specs.LinesTold.{IsFirstTold, IsToldByRead, number_told, put_told}
use Rattle.nx_watch.specs.declared.lines.line_effects.LineEffects.{LineEffects}
use Rattle.nx_watch.specs.declared.lines.line_effects.StartMoments.{StartMoments}
use Rattle.nx_watch.specs.declared.line_run.LineRun.{LineRun}
use Rattle.nx_watch.specs.declared.lines.line_effects.LinesWatched.{LinesWatched}
use Rattle.nx_watch.specs.declared.line_run.WatchEnd.{WatchEnd}
use Rattle.nx_watch.specs.private.Effects.{IsKept}
use Rattle.nx_watch.specs.private.Scanning.{IsScanning}

-- What stood on the notices before a watch, and what it told there before its first line.
pub record ToldBefore : Type 0 where
  pub old : Option (List ℕ)
  pub text : List ℕ

-- What stood on the notices before a watch, and what it told there before the first line without
-- effect and behind it.
pub record ToldBeside : Type 0 where
  pub old : Option (List ℕ)
  pub before : List ℕ
  pub behind : List ℕ

-- nothing but what was told before the first line
abbrev pub beside : ToldBefore → ToldBeside
beside told = record { old = told.old; before = told.text; behind = [] }

-- a put that failed was told too, before the first line without effect or behind it
pub record IsBeside (old : ToldBefore) (failed : Bool) (told : ToldBeside) : Type 0 where
  pub same : told.old ≡ old.old
  pub sides : ((told.before ≡ old.text ++ put_told failed) × (told.behind ≡ []))
      ⊎ ((told.before ≡ old.text) × (told.behind ≡ put_told failed))

-- This is kept of these lines of the bytes, and the first of them without effect was told, between
-- what stands before it and behind it. While there is none, nothing stands behind it.
pub record TellsFirst (first : StartMoments) (kept : LineEffects) (old : ToldBeside)
    (new : Option (List ℕ))
    (failures : ℕ) (bytes : List ℕ) (lines : List (Option Line))
    : Type 0 where
  pub kept_so : IsKept first lines kept
  pub one : List ℕ
  pub is : IsFirstTold bytes lines kept.first_without one
  pub told : HasTold old.old new failures ((old.before ++ one) ++ old.behind)
  pub none : kept.first_without ≡ None → old.behind ≡ []

-- and so was how many of these lines had no effect
pub record HasToldLines (old : ToldBeside) (new : Option (List ℕ)) (failures : ℕ)
    (first : StartMoments) (bytes : List ℕ) (lines : List (Option Line)) : Type 0 where
  pub one : List ℕ
  pub is : IsFirstTold bytes lines (first_without first lines) one
  pub told : HasTold old.old new failures
      (((old.before ++ one) ++ old.behind) ++ number_told (count_without first lines))

-- The text was told when a run over lines was over: what was told by a read, and how many lines had
-- no effect.
abbrev pub IsToldByEnd : StartMoments → List ℕ → List (Option Line) → Bool → List ℕ → Type 0
IsToldByEnd first bytes lines failed text =
    (early : List ℕ) × IsToldByRead first bytes lines failed early
    × (text ≡ early ++ number_told (count_without first lines))

-- behind what was told before the first line this was told, of which this holds
abbrev pub HasToldSo : ToldBefore → Option (List ℕ) → ℕ → (List ℕ → Type 0) → Type 0
HasToldSo old new failures IsTold =
    (text : List ℕ) × IsTold text × HasTold old.old new failures (old.text ++ text)

-- The run stands so behind these bytes: all lines with their ends were read, and those that act
-- were taken. What was told of the lines is so whatever bytes come behind these.
pub record IsRunning {T : Type 0} (stands : TakerRelation T) (start now : T) (first : StartMoments)
    (run : LineRun) (old : ToldBeside) (new : Option (List ℕ)) (failures : ℕ) (bytes : List ℕ)
    : Type 0 where
  pub lines : List (Option Line)
  pub scans : IsScanning run.lines.scanner bytes lines
  pub taken : HasTaken stands start now first lines
  pub tells : (more : List ℕ)
      → TellsFirst first run.effects old new failures (bytes ++ more) lines

-- the run is over with this end, in these bytes
abbrev pub EndsRun : {T : Type 0} → TakerRelation T → T → T → StartMoments → LineEffects
    → ToldBeside → Option (List ℕ) → ℕ → WatchEnd → List ℕ → Type 0
EndsRun stands start now first kept old new failures end bytes =
    AnswersRun (record {
      stands = stands;
      start = start;
      now = now;
      first = first;
      AtEnd = ⊥;
      tells = TellsFirst first kept old new failures bytes;
    }) (Err end) bytes

-- the input ended: these are the counts of the lines, a cut one too, and all was told
pub record EndsInput (first : StartMoments) (bytes : List ℕ) (lines : List (Option Line))
    (old : ToldBeside) (new : Option (List ℕ)) (failures : ℕ) (counts : LinesWatched)
    : Type 0 where
  pub rest : List ℕ
  pub are : AreLines bytes lines rest
  pub counted : AreCounted first (lines ++ cut_line rest) counts
  pub told : HasToldLines old new failures first bytes (lines ++ cut_line rest)
