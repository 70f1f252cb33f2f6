-- What was salvaged of a damaged log, one stretch more, or one that goes on.
use Rattle.std.proofs.Common.{◌≡◌, inl, inr, ℕ, zero, suc, ◌+◌, ◌-◌, ◌≤◌, ◌<◌, Bool, true, false, cond, List, [], ◌∷◌, ◌++◌, length, take, drop}
use Rattle.std.proofs.Common.{refl, sym, ap, ◌∙◌, subst, arith, append_assoc, append-nil, get_or, length-append, None, Some}
use Rattle.std.specs.Prelude.{◌==◌}
use Rattle.std.specs.List.{All}
use Rattle.std.proofs.Math.Seq.{drop-append-add}
use Rattle.std.proofs.lemmas.Bool.{cases_lt}
use Rattle.std.proofs.lemmas.List.{drop-append-le, get_or-take, length-take-le, take-append-drop, take-append-le}
use Rattle.std.proofs.lemmas.List.Elements.{All-append, All-cons, All-drop, All-from_get_or, All-nil}
use Rattle.std.proofs.lemmas.List.Sums.{count_by-le-length, sum_by-append}
use Rattle.memchr.specs.Find.{IsFirstByte, is_byte}
use Rattle.nx_code.specs.Reading.{newline}
use Rattle.nx_copies.specs.copies.Shares.{MarkedCopy}
use Rattle.nx_log.specs.LogRun.{most_read}
use Rattle.nx_log.specs.Notices.{damaged_at, torn_at}
use Rattle.nx_log.specs.Reading.{HoldEntries, IsBlank, IsNext, IsNoBracket, IsOfLog, LogRead, StopAtLine, begun, line_behind}
use Rattle.nx_log.specs.Salvage.{AreCut, BeginsAnew, BeginsBehind, IsPassedOver, Stretch, bytes_in, lines_in, told_in, told_of, told_torn}
use Rattle.nx_log.specs.private.LogRunning.{IsPassing}
use Rattle.nx_log.proofs.lemmas.reader.Begun.{bracket_begins}
use Rattle.nx_log.proofs.lemmas.reader.Steps.{take_behind}
use Rattle.nx_log.proofs.lemmas.reading.Fronts.{not_nil}
use Rattle.nx_log.proofs.lemmas.reading.Reads.{hold_is_log, less_is_log}

-- some of a part is within what is read
pub part_within : (bytes part : List ℕ) (taken : ℕ) → length (bytes ++ part) ≤ most_read
    → length (bytes ++ take taken part) ≤ most_read
part_within bytes part taken h =
    omega (
      arith,
      h,
      length-append bytes part,
      length-append bytes (take taken part),
      ap length (take-append-drop taken part),
      length-append (take taken part) (drop taken part),
    )

-- ---- a bracket goes on with a log

next_bracket : (read : LogRead) → IsNext false read (91 ∷ []) (record {
  bytes = read.bytes ++ 91 ∷ [];
  entries = read.entries ++ [];
  told = read.told ++ read.last;
  last = line_behind read.bytes ∷ [];
  reach = read.reach - 1;
})
next_bracket read = record {
  is_part = ([], refl, All-nil IsNoBracket);
  head = begun;
  front = 91 ∷ [];
  tail = [];
  torn = None;
  split = refl;
  is_head = (bracket_begins, (λ byte more e. absurd (not_nil byte more e)));
  is_tail = (inl (All-nil IsBlank), refl);
  bytes = refl;
  entries = refl;
  told = refl;
  last = refl;
}

pub bracket_on : (bytes : List ℕ) → IsOfLog bytes → IsOfLog (bytes ++ 91 ∷ [])
bracket_on bytes (read, is) = (
  record {
    bytes = read.bytes ++ 91 ∷ [];
    entries = read.entries ++ [];
    told = read.told ++ read.last;
    last = line_behind read.bytes ∷ [];
    reach = read.reach - 1;
  },
  record {
    part = 91 ∷ [];
    earlier = is.part ∷ is.earlier;
    are = (read, is.are, next_bracket read);
    all = ap (λ l. l ++ 91 ∷ []) is.all;
  },
)

-- ---- no bracket stands behind the byte with which bytes stop being a log

place_behind : (rest part : List ℕ) (entries : List MarkedCopy) (torn : List ℕ) (line : ℕ)
    → IsOfLog rest → (s : StopAtLine (rest ++ part) entries torn line) → length rest ≤ s.place
place_behind rest part entries torn line is s = elim (cases_lt s.place (length rest)) [
  | inr within ↦ within
  | inl less ↦
      let early : s.place + 1 ≤ length rest = omega arith in
      absurd (s.bad_with_it (subst IsOfLog (sym (take-append-le (s.place + 1) rest part early))
      (less_is_log rest (s.place + 1) is)))
]

no_bracket_there : (bytes : List ℕ) (entries : List MarkedCopy) (torn : List ℕ) (line : ℕ)
    (s : StopAtLine bytes entries torn line) (more : List ℕ)
    → drop s.place bytes ≡ 91 ∷ more → ⊥
no_bracket_there bytes entries torn line s more e =
    s.bad_with_it (subst IsOfLog (sym (take_behind bytes s.place 91 more e))
    (bracket_on (take s.place bytes) (hold_is_log _ entries torn s.good_before)))

none_from : (part : List ℕ) (k : ℕ) → All IsNoBracket (drop 1 part)
    → ((more : List ℕ) → drop k part ≡ 91 ∷ more → ⊥) → All IsNoBracket (drop k part)
none_from [] zero all first = All-nil IsNoBracket
none_from [] (suc k) all first = All-nil IsNoBracket
none_from (b ∷ part) zero all first =
    All-cons IsNoBracket b part (λ e. first part (ap (λ h. h ∷ part) e)) all
none_from (b ∷ part) (suc k) all first = All-drop IsNoBracket k part all

pub none_behind : (rest part : List ℕ) (entries : List MarkedCopy) (torn : List ℕ) (line : ℕ)
    → IsOfLog rest → All IsNoBracket (drop 1 part)
    → (s : StopAtLine (rest ++ part) entries torn line)
    → All IsNoBracket (drop s.place (rest ++ part))
none_behind rest part entries torn line is one s =
    let far = place_behind rest part entries torn line is s in
    let k = s.place - length rest in
    let sum : s.place ≡ length rest + k = omega (arith, far) in
    let same : drop s.place (rest ++ part) ≡ drop k part =
    ap (λ n. drop n (rest ++ part)) sum ∙ drop-append-add rest part k in
    subst (All IsNoBracket) (sym same)
    (none_from part k one
    (λ more e. no_bracket_there (rest ++ part) entries torn line s more (same ∙ e)))

-- ---- a stretch more

pub begins_more : (stretches : List Stretch) (bytes more : List ℕ)
    → BeginsBehind stretches bytes → BeginsBehind stretches (bytes ++ more)
begins_more [] bytes more b = tt
begins_more (stretch ∷ earlier) bytes more b = (b.0 ++ more, ap (λ l. l ++ more) b.1)

pub take_begins : (part : List ℕ) (taken : ℕ) → 0 < taken → BeginsAnew part
    → BeginsAnew (take taken part)
take_begins part zero some b = absurd (omega (arith, some))
take_begins part (suc n) some b = (take n b.0, ap (take (suc n)) b.1)

behind_taken : (stretches : List Stretch) (rest part : List ℕ) (taken : ℕ) → 0 < taken
    → rest ≡ [] → BeginsAnew part → BeginsBehind stretches (rest ++ take taken part)
behind_taken [] rest part taken some none b = tt
behind_taken (stretch ∷ earlier) rest part taken some none b =
    let t = take_begins part taken some b in (t.0, ap (λ l. l ++ take taken part) none ∙ t.1)

-- what the reader is given begins with a bracket
pub begins_behind : (passing : Bool) (stretches : List Stretch) (rest torn part : List ℕ)
    (taken : ℕ) → IsPassing passing stretches rest torn → (passing ≡ true → BeginsAnew part)
    → 0 < taken → BeginsBehind stretches (rest ++ take taken part)
begins_behind true stretches rest torn part taken is begins some =
    behind_taken stretches rest part taken some is.0 (begins refl)
begins_behind false stretches rest torn part taken is begins some =
    begins_more stretches rest (take taken part) is

-- bytes more in the rest
pub cut_on : (bytes more rest : List ℕ) (stretches : List Stretch) → AreCut bytes stretches rest
    → BeginsBehind stretches (rest ++ more) → AreCut (bytes ++ more) stretches (rest ++ more)
cut_on bytes more rest stretches cut begins = record {
  split = ap (λ l. l ++ more) cut.split ∙ append_assoc (bytes_in stretches) rest more;
  are = cut.are;
  behind = inr begins;
}

-- the rest stops being a log
pub cut_off : (bytes more rest : List ℕ) (stretches : List Stretch) (stretch : Stretch)
    → AreCut bytes stretches rest → stretch.bytes ≡ rest ++ more → IsPassedOver stretch
    → BeginsBehind stretches (rest ++ more) → AreCut (bytes ++ more) (stretch ∷ stretches) []
cut_off bytes more rest stretches stretch cut is passed begins = record {
  split = ap (λ l. l ++ more) cut.split
      ∙ append_assoc (bytes_in stretches) rest more
      ∙ ap (λ l. bytes_in stretches ++ l) (sym is)
      ∙ sym (append-nil (bytes_in stretches ++ stretch.bytes));
  are = (cut.are, passed, subst (BeginsBehind stretches) (sym is) begins);
  behind = inl refl;
}

-- the last stretch goes on
abbrev pub longer : Stretch → List ℕ → Stretch
longer stretch more = record {
  bytes = stretch.bytes ++ more;
  entries = stretch.entries;
  torn = stretch.torn;
  line = stretch.line;
}

-- it stops being a log where it did before
abbrev pub stop_on : (bytes more : List ℕ) (entries : List MarkedCopy) (torn : List ℕ) (line : ℕ)
    → StopAtLine bytes entries torn line → StopAtLine (bytes ++ more) entries torn line
stop_on bytes more entries torn line s =
    let front : take s.place (bytes ++ more) ≡ take s.place bytes =
    take-append-le s.place bytes more (omega (arith, s.within)) in
    let next : take (s.place + 1) (bytes ++ more) ≡ take (s.place + 1) bytes =
    take-append-le (s.place + 1) bytes more (omega (arith, s.within)) in
    record {
      place = s.place;
      within = omega (arith, s.within, length-append bytes more);
      good_before = subst (λ l. HoldEntries l entries torn) (sym front) s.good_before;
      bad_with_it = subst (λ l. ¬ IsOfLog l) (sym next) s.bad_with_it;
      is_line = s.is_line ∙ ap line_behind (sym front);
    }

passed_on : (stretch : Stretch) (more : List ℕ) → IsPassedOver stretch → All IsNoBracket more
    → IsPassedOver (longer stretch more)
passed_on stretch more passed none =
    let bytes = stretch.bytes in
    let s = passed.stop in
    record {
      stop = stop_on bytes more stretch.entries stretch.torn stretch.line s;
      no_bracket = subst (All IsNoBracket)
          (sym (drop-append-le s.place bytes more (omega (arith, s.within))))
          (All-append IsNoBracket (drop s.place bytes) more passed.no_bracket none);
    }

pub cut_longer : (bytes more : List ℕ) (stretch : Stretch) (earlier : List Stretch)
    → AreCut bytes (stretch ∷ earlier) [] → All IsNoBracket more
    → AreCut (bytes ++ more) (longer stretch more ∷ earlier) []
cut_longer bytes more stretch earlier cut none = record {
  split = ap (λ l. l ++ more) (cut.split ∙ append-nil (bytes_in earlier ++ stretch.bytes))
      ∙ append_assoc (bytes_in earlier) stretch.bytes more
      ∙ sym (append-nil (bytes_in earlier ++ (stretch.bytes ++ more)));
  are = (
    cut.are.0,
    passed_on stretch more cut.are.1 none,
    begins_more earlier stretch.bytes more cut.are.2,
  );
  behind = inl refl;
}

-- ---- lines

pub lines_more : (xs ys : List ℕ) → lines_in (xs ++ ys) ≡ lines_in xs + lines_in ys
lines_more xs ys = sum_by-append (λ byte. cond (byte == newline) 1 0) xs ys

pub lines_few : (bytes : List ℕ) → lines_in bytes ≤ length bytes
lines_few bytes = count_by-le-length (λ byte. byte == newline) bytes

-- ---- what is told

torn_more : (ended : ℕ) (torn : List ℕ) (line : ℕ)
    → told_torn ended (torn ++ line ∷ []) ≡ told_torn ended torn ++ torn_at (ended + line) ∷ []
torn_more ended [] line = refl
torn_more ended (first ∷ torn) line =
    ap (λ l. torn_at (ended + first) ∷ l) (torn_more ended torn line)

-- one torn entry more
pub told_more : (stretches : List Stretch) (torn : List ℕ) (line : ℕ)
    → told_of stretches (torn ++ line ∷ [])
    ≡ told_of stretches torn ++ torn_at (lines_in (bytes_in stretches) + line) ∷ []
told_more stretches torn line =
    ap (λ l. told_in stretches ++ l) (torn_more (lines_in (bytes_in stretches)) torn line)
    ∙ sym (append_assoc (told_in stretches) (told_torn (lines_in (bytes_in stretches)) torn)
    (torn_at (lines_in (bytes_in stretches) + line) ∷ []))

-- and one stretch more
pub told_over : (stretches : List Stretch) (stretch : Stretch)
    → told_of (stretch ∷ stretches) []
    ≡ told_of stretches stretch.torn
    ++ damaged_at (lines_in (bytes_in stretches) + stretch.line) ∷ []
told_over stretches stretch =
    append-nil (told_in (stretch ∷ stretches))
    ∙ sym (append_assoc (told_in stretches)
    (told_torn (lines_in (bytes_in stretches)) stretch.torn)
    (damaged_at (lines_in (bytes_in stretches) + stretch.line) ∷ []))

-- ---- where the first bracket stands

is-none : (bytes : List ℕ) (k : ℕ) → ¬ ((get_or bytes k 0 == 91) ≡ true)
    → IsNoBracket (get_or bytes k 0)
is-none bytes k other = λ e. other (ap (λ b. b == 91) e)

pub none-before : (bytes : List ℕ) (place : ℕ) → IsFirstByte (is_byte 91) bytes (Some place)
    → All IsNoBracket (take place bytes)
none-before bytes place found =
    All-from_get_or IsNoBracket (take place bytes) 0 (λ k less.
    let below : k < place =
    omega (arith, less, length-take-le place bytes (omega (arith, found.0.high))) in
    subst IsNoBracket (sym (get_or-take place bytes k 0 below))
    (is-none bytes k (found.0.before k (omega arith) below)))
