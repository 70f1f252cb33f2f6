-- What only private contracts and proofs cite, beside LineRun (this profile).
use Rattle.std.specs.Prelude.{◌≡◌, ℕ, ◌+◌, ◌≤◌, true, false, List, [], ◌∷◌, ◌++◌}
use Rattle.std.specs.Prelude.{length, map, Option, Some, Result, Ok, Err, ⊤}
use Rattle.nx_envelope.specs.Moment.{last_moment}
use Rattle.nx_fec.specs.air_files.AirFile.{Line, moment, elements, refuse_station, accept_station}
use Rattle.nx_fec.specs.air_files.AirFile.{refuse_subject, accept_subject}
use Rattle.nx_fec.specs.Transfers.{CountedDevice}
use Rattle.nx_memory.specs.Selection.{is_vital}
use Rattle.nx_watch.specs.Acting.{acting_lines, count_without, ends_watch, first_without}
use Rattle.nx_watch.specs.Acting.{goes_on, in_force, moments_behind, moments_said}
use Rattle.nx_watch.specs.AnyLines.{AreLines, cut_line}
use Rattle.nx_watch.specs.declared.lines.line_effects.StartMoments.{StartMoments}
use Rattle.nx_watch.specs.declared.lines.line_effects.LinesWatched.{LinesWatched}
use Rattle.nx_watch.specs.declared.line_run.WatchEnd.{WatchEnd}
use Rattle.nx_watch.specs.declared.line_run.WatchEnd.TheVariants.{Read, Back, Write}
use Rattle.nx_watch.specs.LineRun.{HasTold, StopsBehind}

-- A relation between how what takes the lines that act stood at first, how it stands now, and the
-- lines that it took between.
abbrev pub TakerRelation : Type 0 → Type 1
TakerRelation T = T → T → List Line → Type 0

-- the moment in force behind lines that act
abbrev pub force_behind : ℕ → List Line → ℕ
force_behind first lines = in_force first (moments_said (map Some lines))

-- A line may act behind these: a moment is in range, and not before the one in force; a subject
-- that is refused isn't vital.
abbrev pub MayAct : ℕ → List Line → Line → Type 0
MayAct first lines (moment n) = (force_behind first lines ≤ n) × (n ≤ last_moment)
MayAct first lines (elements mark bits) = ⊤
MayAct first lines (refuse_station mark letter) = ⊤
MayAct first lines (accept_station mark letter) = ⊤
MayAct first lines (refuse_subject mark letter) = is_vital letter ≡ false
MayAct first lines (accept_subject mark letter) = ⊤

-- These bytes were given to a writer: they were written, or a first part of them, where a write
-- failed. Where there are none, it wasn't called.
pub record WereGiven {W : Type 0} (contents : W → Option (List ℕ)) (old new : CountedDevice W)
    (bytes : List ℕ)
    : Type 0 where
  pub written : HasTold (contents old.inner) (contents new.inner) new.failures bytes
  pub uncalled : bytes ≡ [] → new ≡ old

-- None of these lines ended the watch, and those that act were taken.
pub record HasTaken {T : Type 0} (stands : TakerRelation T) (start now : T) (first : StartMoments)
    (lines : List (Option Line)) : Type 0 where
  pub on : goes_on first lines ≡ true
  pub stood : stands start now (acting_lines first lines)

-- These counts are those of these lines.
pub record AreCounted (first : StartMoments) (lines : List (Option Line)) (counts : LinesWatched)
    : Type 0 where
  pub lines_counted : counts.lines ≡ length lines
  pub without : counts.without_effect ≡ count_without first lines
  pub first_one : counts.first_without_effect ≡ first_without first lines

-- A run over lines: how what takes them stands, at first and now, and with which moments it starts.
-- With it stands what holds where the input ended, or the limit was reached, and what holds of the
-- lines that it tells of.
pub record RunOverLines (T : Type 0) : Type 1 where
  pub stands : TakerRelation T
  pub start : T
  pub now : T
  pub first : StartMoments
  pub AtEnd : Type 0
  pub tells : List (Option Line) → Type 0

-- What a run answers of these bytes. At the end of the input, or at the limit, all lines were
-- taken, a cut one too. After a failed read all lines with their ends were taken, and behind the
-- line that ends the watch, those before it, since that line has no effect. After a failed write
-- the lines up to the one that gave the bytes were taken.
abbrev pub AnswersRun : {T : Type 0} → RunOverLines T → Result LinesWatched WatchEnd → List ℕ
    → Type 0
AnswersRun r (Ok counts) bytes =
    r.AtEnd × (lines : List (Option Line)) × (rest : List ℕ) × AreLines bytes lines rest
    × HasTaken r.stands r.start r.now r.first lines
    × AreCounted r.first (lines ++ cut_line rest) counts × r.tells (lines ++ cut_line rest)
AnswersRun r (Err Read) bytes =
    (lines : List (Option Line)) × (rest : List ℕ) × AreLines bytes lines rest
    × HasTaken r.stands r.start r.now r.first lines × r.tells lines
AnswersRun r (Err (Back line last given)) bytes =
    (lines : List (Option Line)) × StopsBehind r.first bytes lines (moment given)
    × (ends_watch r.first.newest (moments_behind r.first lines) (Some (moment given)) ≡ true)
    × (line ≡ length lines + 1) × (last ≡ in_force r.first.newest (moments_behind r.first lines))
    × r.stands r.start r.now (acting_lines r.first lines)
    × r.tells (lines ++ Some (moment given) ∷ [])
AnswersRun r (Err Write) bytes =
    (lines : List (Option Line)) × (line : Line) × StopsBehind r.first bytes lines line
    × HasTaken r.stands r.start r.now r.first (lines ++ Some line ∷ [])
    × r.tells (lines ++ Some line ∷ [])
