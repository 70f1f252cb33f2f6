-- What is told of lines without effect, and of a put that failed (this profile).
use Rattle.std.specs.Prelude.{◌≡◌, ◌⊎◌, ℕ, ◌+◌, ◌<◌, ◌≤◌, ◌==◌, if◌then◌else◌, Bool, true, false}
use Rattle.std.specs.Prelude.{List, [], ◌∷◌, ◌++◌, codes, decimal, length, Option, Some, None, ⊤}
use Rattle.nx_code.specs.Reading.{newline}
use Rattle.nx_envelope.specs.Moment.{last_moment}
use Rattle.nx_fec.specs.air_files.AirFile.{Line, moment, refuse_subject}
use Rattle.nx_fec.specs.air_files.Lines.{max_line_bytes}
use Rattle.nx_watch.specs.Acting.{count_without, first_without}
use Rattle.nx_watch.specs.AnyLines.{AreLines, HasNoLineEnd}
use Rattle.nx_watch.specs.declared.lines.line_effects.StartMoments.{StartMoments}
use Rattle.nx_watch.specs.declared.lines.no_effect.NoEffect.{NoEffect}
use Rattle.nx_watch.specs.declared.lines.no_effect.NoEffect.TheVariants.{NoLine, TooLong, NoEnd}
use Rattle.nx_watch.specs.declared.lines.no_effect.NoEffect.TheVariants.{PastLast, GoesBack, Vital}

-- ---- why a line has no effect

-- The bytes are these lines, then this text of one more, and these bytes behind it.
pub record StandsBehind (bytes : List ℕ) (lines : List (Option Line)) (text behind : List ℕ)
    : Type 0 where
  pub front : List ℕ
  pub are : AreLines front lines []
  pub unended : HasNoLineEnd text
  pub whole : bytes ≡ front ++ (text ++ behind)

-- Why a line of the bytes has no effect that comes behind these lines. One that isn't understood is
-- too long; else it has its end, or is the last one and has none. One that is understood says a
-- moment out of range, or one in range that goes back; or it refuses a vital subject.
abbrev pub IsReason : List ℕ → List (Option Line) → Option Line → NoEffect → Type 0
IsReason bytes before None TooLong =
    (text : List ℕ) × (behind : List ℕ) × StandsBehind bytes before text behind
    × (max_line_bytes < length text)
IsReason bytes before None NoLine =
    (text : List ℕ) × (behind : List ℕ) × StandsBehind bytes before text (newline ∷ behind)
    × (length text ≤ max_line_bytes)
IsReason bytes before None NoEnd =
    (text : List ℕ) × StandsBehind bytes before text [] × (length text ≤ max_line_bytes)
IsReason bytes before (Some (moment n)) PastLast = last_moment < n
IsReason bytes before (Some (moment n)) GoesBack = n ≤ last_moment
IsReason bytes before (Some (refuse_subject mark letter)) Vital = ⊤
IsReason bytes before line why = ⊥

-- the line of this number among these, where lines count from 1, has no effect for this reason
pub record LacksEffect (bytes : List ℕ) (lines : List (Option Line)) (number : ℕ) (why : NoEffect)
    : Type 0 where
  pub before : List (Option Line)
  pub line : Option Line
  pub later : List (Option Line)
  pub whole : lines ≡ before ++ line ∷ later
  pub counted : number ≡ length before + 1
  pub reason : IsReason bytes before line why

-- ---- what is told of that

-- the words for a reason
abbrev pub reason_words : NoEffect → List ℕ
reason_words NoLine = codes "it is no line of an air file"
reason_words TooLong = codes "it has more than 514 bytes"
reason_words NoEnd = codes "it has no end"
reason_words PastLast = codes "its moment is past the year 2999"
reason_words GoesBack = codes "its moment is before the last one"
reason_words Vital = codes "subjects A, B, D and L can't be refused"

-- what is told of a line without effect
abbrev pub line_told : ℕ → NoEffect → List ℕ
line_told number why =
    codes "navtex: line " ++ (decimal number
    ++ (codes " had no effect: " ++ (reason_words why ++ codes "\n")))

-- the text is what is told of the first of these lines without effect, if there is one
abbrev pub IsFirstTold : List ℕ → List (Option Line) → Option ℕ → List ℕ → Type 0
IsFirstTold bytes lines None text = text ≡ []
IsFirstTold bytes lines (Some number) text =
    (why : NoEffect) × LacksEffect bytes lines number why × (text ≡ line_told number why)

-- what is told at the end of so many lines without effect, if there are any
abbrev pub number_told : ℕ → List ℕ
number_told count =
    if count == 0 then []
    else codes "navtex: " ++ (decimal count
    ++ (if count == 1 then codes " line had no effect\n" else codes " lines had no effect\n"))

-- what is told of a put that failed, where one did
abbrev pub put_told : Bool → List ℕ
put_told false = []
put_told true =
    codes "navtex: the log can't be written; entries go to standard output from here on\n"

-- the text is these two, one behind the other
abbrev pub IsBoth : List ℕ → List ℕ → List ℕ → Type 0
IsBoth one other text = (text ≡ one ++ other) ⊎ (text ≡ other ++ one)

-- By a read of the bytes, which are these lines, the text was told: what is told of the first line
-- without effect, and of a put that failed, where one did. The one that came first stands first.
abbrev pub IsToldByRead : StartMoments → List ℕ → List (Option Line) → Bool → List ℕ → Type 0
IsToldByRead first bytes lines failed text =
    (one : List ℕ) × IsFirstTold bytes lines (first_without first lines) one
    × IsBoth one (put_told failed) text

-- At the end the text was told: that, and how many lines had no effect. What is told of a put that
-- failed when the end closed the copies that stood open comes last.
abbrev pub IsToldAtEnd : StartMoments → List ℕ → List (Option Line) → Bool → List ℕ → Type 0
IsToldAtEnd first bytes lines failed text =
    ((early : List ℕ) × IsToldByRead first bytes lines failed early
    × (text ≡ early ++ number_told (count_without first lines)))
    ⊎ ((early : List ℕ) × IsToldByRead first bytes lines false early × (failed ≡ true)
    × (text ≡ early ++ (number_told (count_without first lines) ++ put_told true)))
