-- What is kept of the lines of a watch, and what it says of them.
use Rattle.std.specs.Prelude.{◌≡◌, ℕ, nat_le, nat_lt, Bool, List, [], ◌∷◌, ◌++◌, length, map}
use Rattle.std.specs.Prelude.{Option, Some, None, Result, Ok, Err, if◌then◌else◌, ◌&&◌, not}
use Rattle.std.specs.Prelude.{true, false}
use Rattle.nx_envelope.specs.Moment.{last_moment}
use Rattle.nx_fec.specs.air_files.AirFile.{Line, elements, moment, refuse_subject}
use Rattle.nx_fec.specs.declared.air_files.channel.Channel.{Channel}
use Rattle.nx_memory.specs.Selection.{is_vital}
use Rattle.nx_receiver.specs.Moments.{Refuses}
use Rattle.nx_watch.specs.Acting.{acting_lines, acts, count_without, ends_watch, first_without}
use Rattle.nx_watch.specs.Acting.{given, in_force, moment_said, moments_behind, went_far_back}
use Rattle.nx_watch.specs.private.LineRun.{MayAct}
use Rattle.nx_watch.specs.LinesTold.{IsReason}
use Rattle.nx_watch.specs.declared.lines.line_effects.StartMoments.{StartMoments}
use Rattle.nx_watch.specs.declared.lines.line_effects.LineEffects.{LineEffects}
use Rattle.nx_watch.specs.declared.lines.line_effects.Effect.{Effect}
use Rattle.nx_watch.specs.declared.lines.line_effects.Effect.TheVariants.{Acts, Nothing, Ends}
use Rattle.nx_watch.specs.declared.lines.refusal.Refusal.{Refusal}
use Rattle.nx_watch.specs.declared.lines.refusal.Refusal.TheVariants as refusal
use Rattle.nx_watch.specs.declared.lines.refusal.Refusal.TheVariants.{Moment}

-- whether a line behind these moments in range sets the one of the start
abbrev pub sets : StartMoments → List ℕ → Option Line → Bool
sets start moments (Some (elements mark bits)) =
    not (nat_lt 0 (length moments)) && nat_le (given start) last_moment
sets start moments line = false

-- the moment that a line sets before it acts, behind these, if it does
abbrev pub set_by : StartMoments → List ℕ → Line → List ℕ
set_by start moments line = if sets start moments (Some line) then given start ∷ [] else []

-- the lines that act, and the moment that one more line sets behind them, if it does
abbrev pub acting_and_set : StartMoments → List (Option Line) → Line → List Line
acting_and_set start lines line =
    acting_lines start lines ++ map moment (set_by start (moments_behind start lines) line)

-- the line sets no moment before it acts; or it is of elements behind no moment in range, and this
-- is the moment of the start
abbrev pub IsStartBefore : StartMoments → List ℕ → Line → Option ℕ → Type 0
IsStartBefore start moments line None = sets start moments (Some line) ≡ false
IsStartBefore start moments line (Some n) =
    (n ≡ given start) × (moments ≡ [])
    × (mark : Option Channel) × (bits : List Bool) × (line ≡ elements mark bits)

-- the moment in range that a line says or sets behind these
abbrev pub said_behind : StartMoments → List ℕ → Option Line → List ℕ
said_behind start moments line =
    if sets start moments line then given start ∷ [] else moment_said line

-- this is kept of the moments in range that lines said
pub record KeepsMoments (start : StartMoments) (moments : List ℕ) (kept : LineEffects) : Type 0
  where
    pub start_is : kept.start ≡ given start
    pub has_moment : kept.has_moment ≡ nat_lt 0 (length moments)
    pub far_back : kept.went_far_back ≡ went_far_back start.newest moments

-- the same of lines, and how many there were, and how many of them had no effect
pub record IsKept (start : StartMoments) (lines : List (Option Line)) (kept : LineEffects)
    : Type 0 where
  pub moments : KeepsMoments start (moments_behind start lines) kept
  pub counted : kept.lines ≡ length lines
  pub without : kept.without_effect ≡ count_without start lines
  pub first_one : kept.first_without ≡ first_without start lines

-- What the receivers answer to a line, where this moment is in force: they take one that may act,
-- and refuse a moment that is out of range or goes back, and the refusal of a vital subject.
abbrev pub IsAnswer : ℕ → Line → Result (Unit {0}) Refusal → Type 0
IsAnswer force line (Ok taken) = MayAct force [] line
IsAnswer force line (Err (Moment fault)) =
    (n : ℕ) × (line ≡ moment n) × Refuses force n fault
IsAnswer force line (Err refusal.Vital) =
    (mark : Option Channel) × (letter : ℕ) × (line ≡ refuse_subject mark letter)
    × (is_vital letter ≡ true)

-- the line, if the receivers took it
abbrev pub lines_taken : Line → Result (Unit {0}) Refusal → List Line
lines_taken line (Ok taken) = line ∷ []
lines_taken line (Err why) = []

-- what a line does behind these moments
abbrev pub IsEffect : StartMoments → List ℕ → Option Line → Effect → Type 0
IsEffect start moments line Acts =
    (acts start.newest moments line ≡ true) × (ends_watch start.newest moments line ≡ false)
IsEffect start moments line (Nothing why) =
    (acts start.newest moments line ≡ false) × (ends_watch start.newest moments line ≡ false)
    × ((bytes : List ℕ) (before : List (Option Line)) → IsReason bytes before line why)
IsEffect start moments line (Ends last back) =
    (acts start.newest moments line ≡ false) × (ends_watch start.newest moments line ≡ true)
    × (last ≡ in_force start.newest moments) × (line ≡ Some (moment back))

-- the counters are the same
pub record SameCounts (old new : LineEffects) : Type 0 where
  pub lines : new.lines ≡ old.lines
  pub without : new.without_effect ≡ old.without_effect
  pub first_one : new.first_without ≡ old.first_without

-- whether a line of this effect acts
abbrev pub is_acting : Effect → Bool
is_acting Acts = true
is_acting (Nothing why) = false
is_acting (Ends last given) = false
