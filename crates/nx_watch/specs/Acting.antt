-- Which lines act on a watch (this profile). A line is one of an air file, or none that is
-- understood.
use Rattle.std.specs.Prelude.{ℕ, ◌+◌, ◌-◌, ◌&&◌, nat_lt, nat_le, max, Bool, true, false, not}
use Rattle.std.specs.Prelude.{if◌then◌else◌, List, [], ◌∷◌, ◌++◌, length, slice_index, take}
use Rattle.std.specs.Prelude.{Option, Some, None, option_to_list}
use Rattle.std.specs.List.{count_by, flat_map, position_from}
use Rattle.nx_envelope.specs.Moment.{last_moment}
use Rattle.nx_fec.specs.air_files.AirFile.{Line, moment, elements, refuse_station, accept_station}
use Rattle.nx_fec.specs.air_files.AirFile.{refuse_subject, accept_subject}
use Rattle.nx_memory.specs.Memory.{seconds_known}
use Rattle.nx_memory.specs.Selection.{is_vital}
use Rattle.nx_watch.specs.declared.lines.line_effects.StartMoments.{StartMoments}

-- the moment that a line says, where it is in range
abbrev pub moment_said : Option Line → List ℕ
moment_said (Some (moment n)) = if nat_le n last_moment then n ∷ [] else []
moment_said _ = []

-- the moments in range that lines say, in order
abbrev pub moments_said : List (Option Line) → List ℕ
moments_said lines = flat_map moment_said lines

-- The moment in force after these moments, where it was `first` before them: the greatest, since
-- one that goes back has no effect.
abbrev pub in_force : ℕ → List ℕ → ℕ
in_force first [] = first
in_force first (n ∷ moments) = in_force (max first n) moments

-- the moment that a watch sets which started so: the one at which it started, or the newest one
-- that it remembered, where that is later
abbrev pub given : StartMoments → ℕ
given start = max start.newest start.started

-- The lines, with one more, which says the moment that the watch sets: it stands before the first
-- elements that come behind no moment in range. There is none where a moment in range comes first.
abbrev pub with_start : StartMoments → List (Option Line) → List (Option Line)
with_start start [] = []
with_start start (Some (elements mark bits) ∷ lines) =
    Some (moment (given start)) ∷ Some (elements mark bits) ∷ lines
with_start start (Some (moment n) ∷ lines) =
    Some (moment n) ∷ (if nat_le n last_moment then lines else with_start start lines)
with_start start (line ∷ lines) = line ∷ with_start start lines

-- the moments in range that are said behind these lines
abbrev pub moments_behind : StartMoments → List (Option Line) → List ℕ
moments_behind start lines = moments_said (with_start start lines)

-- Whether a line acts, behind lines that said these moments in range. A moment does that is in
-- range and isn't before the one in force. Elements do. A command does, but for the refusal of a
-- vital subject (ITU-R M.540).
abbrev pub acts : ℕ → List ℕ → Option Line → Bool
acts first moments None = false
acts first moments (Some (moment n)) = nat_le n last_moment && nat_le (in_force first moments) n
acts first moments (Some (elements mark bits)) = true
acts first moments (Some (refuse_station mark letter)) = true
acts first moments (Some (accept_station mark letter)) = true
acts first moments (Some (refuse_subject mark letter)) = not (is_vital letter)
acts first moments (Some (accept_subject mark letter)) = true

-- whether each of these lines acts, behind the lines before them
abbrev pub effects : StartMoments → List (Option Line) → List (Option Line) → List Bool
effects start before [] = []
effects start before (line ∷ lines) =
    acts start.newest (moments_behind start before) line
    ∷ effects start (before ++ line ∷ []) lines

-- those of these lines that act, behind lines that said these moments in range
abbrev pub acting_behind : ℕ → List ℕ → List (Option Line) → List Line
acting_behind first moments [] = []
acting_behind first moments (line ∷ lines) =
    (if acts first moments line then option_to_list line else [])
    ++ acting_behind first (moments ++ moment_said line) lines

-- the lines that act, of all lines from the first on, and the one that the watch sets
abbrev pub acting_lines : StartMoments → List (Option Line) → List Line
acting_lines start lines = acting_behind start.newest [] (with_start start lines)

-- how many lines have no effect
abbrev pub count_without : StartMoments → List (Option Line) → ℕ
count_without start lines = count_by not (effects start [] lines)

-- the first line without effect, where lines count from 1
abbrev pub first_without : StartMoments → List (Option Line) → Option ℕ
first_without start lines = position_from not 1 (effects start [] lines)

-- a moment goes far back where it lies 66 hours or more before the one in force
abbrev pub is_far_back : ℕ → List ℕ → ℕ → Bool
is_far_back first moments n = nat_le (n + seconds_known) (in_force first moments)

-- the last of these moments went far back
abbrev pub went_far_back : ℕ → List ℕ → Bool
went_far_back first moments =
    nat_lt 0 (length moments)
    && is_far_back first (take (length moments - 1) moments)
    (slice_index moments (length moments - 1))

-- A line ends the watch where it says a moment in range that goes far back, and so did the moment
-- in range before it.
abbrev pub ends_watch : ℕ → List ℕ → Option Line → Bool
ends_watch first moments (Some (moment n)) =
    nat_le n last_moment && is_far_back first moments n && went_far_back first moments
ends_watch first moments _ = false

-- none of these lines ends the watch
abbrev pub goes_on_behind : ℕ → List ℕ → List (Option Line) → Bool
goes_on_behind first moments [] = true
goes_on_behind first moments (line ∷ lines) =
    not (ends_watch first moments line)
    && goes_on_behind first (moments ++ moment_said line) lines

abbrev pub goes_on : StartMoments → List (Option Line) → Bool
goes_on start lines = goes_on_behind start.newest [] (with_start start lines)

-- the most bytes of the input of a watch: 2 ^ 63 - 1
abbrev pub most_bytes : ℕ
most_bytes = 9223372036854775807
