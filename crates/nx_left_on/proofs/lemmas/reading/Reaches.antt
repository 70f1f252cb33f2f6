-- What a file holds behind its last closed gate is within the reach of that space, so the file is a
-- log. Whether bytes are an entry isn't decided here, so what is shown is that it can't fail to be
-- one.
use Rattle.std.proofs.Common.{◌≡◌, ◌≢◌, ◌⊎◌, inl, inr, ℕ, ◌+◌, ◌-◌, ◌≤◌, Bool, true, false, List, [], ◌∷◌, ◌++◌, get_or, take, drop, length, Option, Some, None, ap, sym, ◌∙◌, refl, subst, arith, append-nil, append_assoc, length-append}
use Rattle.std.specs.List.{All}
use Rattle.std.proofs.lemmas.Bool.{cases_eq, true≢false}
use Rattle.std.proofs.lemmas.List.{take-append-drop}
use Rattle.std.proofs.lemmas.List.Elements.{All-append, All-cons, All-head, All-nil, All-tail}
use Rattle.nx_kept.specs.Kept.{IsTail as IsFileTail}
use Rattle.nx_log.specs.Entries.{IsUnfinishedEntry, IsWholeEntry}
use Rattle.nx_log.specs.Reading.{AreRead, Head, IsBlank, IsGap, IsHead, IsLongest, IsNoBracket, IsOfLog, IsPart, IsTail, LogRead, StopAtLine, begun, entries_of, is_begun, is_first, nothing, reach_behind, whole}
use Rattle.nx_log.proofs.lemmas.reader.Begun.{bracket_begins}
use Rattle.nx_log.proofs.lemmas.reader.Tails.{reach_append}
use Rattle.nx_log.proofs.lemmas.reading.Fronts.{front_is_log, is_blank}
use Rattle.nx_copies.specs.copies.Shares.{MarkedCopy}
use Rattle.nx_watch.specs.Watch.{StandsForEntries}
use Rattle.nx_left_on.proofs.lemmas.reading.Rests.{Closed, Rests, blanks_of, close, head_more, reach_least, reach_most, reach_space, rest_closed, rest_gate, rest_kept, rest_space, rests_first}
use Rattle.nx_log.proofs.lemmas.reader.Steps.{part_more}

-- ---- bytes within reach

-- In the last part, behind blanks, so many bytes more are within reach.
pub record Reaches (bytes : List ℕ) (room : ℕ) : Type 0 where
  pub earlier : List (List ℕ)
  pub before : LogRead
  pub are : AreRead earlier before
  pub short : before.reach ≤ 4147
  pub head : Head
  pub front : List ℕ
  pub blanks : List ℕ
  pub more : List ℕ
  pub split : bytes ≡ before.bytes ++ (front ++ (blanks ++ more))
  pub is_part : IsPart (is_first earlier) (front ++ (blanks ++ more))
  pub is_head : IsHead (is_first earlier) head front (blanks ++ more)
  pub are_blanks : All IsBlank blanks
  pub no_blanks : is_begun head ≡ true → blanks ≡ []
  pub reached : room + length more ≤ reach_behind (before.reach - length front) blanks

-- the blanks with which bytes begin, and another byte
record BlanksFirst (bytes : List ℕ) : Type 0 where
  pub blanks : List ℕ
  pub byte : ℕ
  pub rest : List ℕ
  pub is : bytes ≡ blanks ++ (byte ∷ rest)
  pub are_blanks : All IsBlank blanks
  pub other : ¬ IsBlank byte

blanks_first : (bytes : List ℕ) → All IsBlank bytes ⊎ BlanksFirst bytes
blanks_first [] = inl (All-nil IsBlank)
blanks_first (x ∷ xs) = elim (is_blank x) [
  | inr other ↦ inr
      (record {
        blanks = [];
        byte = x;
        rest = xs;
        is = refl;
        are_blanks = All-nil IsBlank;
        other = other;
      })
  | inl blank ↦ elim (blanks_first xs) [
    | inl all ↦ inl (All-cons IsBlank x xs blank all)
    | inr f ↦ inr
        (record {
          blanks = x ∷ f.blanks;
          byte = f.byte;
          rest = f.rest;
          is = ap (λ l. x ∷ l) f.is;
          are_blanks = All-cons IsBlank x f.blanks blank f.are_blanks;
          other = f.other;
        })
  ]
]

-- a tail within reach, and how many bytes more are
record InReach (is_torn : Bool) (reach room : ℕ) (tail : List ℕ) : Type 0 where
  pub torn : Option (List ℕ)
  pub left : ℕ
  pub is : IsTail is_torn reach tail torn left
  pub at_most : left ≤ 4147
  pub room_left : room ≤ left

last_other : (front : List ℕ) (byte : ℕ) (more : List ℕ) → ¬ IsBlank byte
    → ¬ All IsBlank (front ++ (byte ∷ more))
last_other [] byte more other h = other (All-head IsBlank byte more h)
last_other (x ∷ front) byte more other h =
    last_other front byte more other (All-tail IsBlank x (front ++ (byte ∷ more)) h)

-- blanks, and bytes within reach of them
in_reach : (is_torn : Bool) (reach room : ℕ) (blanks more : List ℕ) → reach ≤ 4147
    → All IsBlank blanks → (is_torn ≡ true → blanks ≡ [])
    → room + length more ≤ reach_behind reach blanks
    → InReach is_torn reach room (blanks ++ more)
in_reach is_torn reach room blanks more small are none fits = elim (blanks_first more) [
  | inl all ↦ gap (inl (All-append IsBlank blanks more are all))
  | inr f ↦ one_or_torn is_torn none f (cases_eq (length (blanks ++ more)) 1)
]
  where
    behind : ℕ
    behind = reach_behind reach blanks

    behind_small : behind ≤ 4147
    behind_small = reach_most blanks reach small

    gap : IsGap (blanks ++ more) → InReach is_torn reach room (blanks ++ more)
    gap is = record {
      torn = None;
      left = reach_behind reach (blanks ++ more);
      is = (is, refl);
      at_most = reach_most (blanks ++ more) reach small;
      room_left = omega (
        arith,
        reach_append reach blanks more,
        reach_least more behind behind_small,
        fits,
      );
    }

    no_gap : BlanksFirst more → length (blanks ++ more) ≢ 1 → ¬ IsGap (blanks ++ more)
    no_gap f long g = elim g [
      | inl all ↦ last_other (blanks ++ f.blanks) f.byte f.rest f.other
          (subst (All IsBlank)
          (ap (λ l. blanks ++ l) f.is ∙ sym (append_assoc blanks f.blanks (f.byte ∷ f.rest))) all)
      | inr one ↦ long one
    ]

    one_or_torn : (b : Bool) → (b ≡ true → blanks ≡ []) → BlanksFirst more
        → (length (blanks ++ more) ≡ 1) ⊎ (length (blanks ++ more) ≢ 1)
        → InReach b reach room (blanks ++ more)
    one_or_torn b none f (inl one) = record {
      torn = None;
      left = reach_behind reach (blanks ++ more);
      is = (inr one, refl);
      at_most = reach_most (blanks ++ more) reach small;
      room_left = omega (
        arith,
        reach_append reach blanks more,
        reach_least more behind behind_small,
        fits,
      );
    }
    one_or_torn true none f (inr long) =
        let no : blanks ≡ [] = none refl in
        let same : blanks ++ more ≡ more = ap (λ l. l ++ more) no in
        let fits : room + length more ≤ reach =
        subst (λ l. room + length more ≤ reach_behind reach l) no fits in
        record {
          torn = Some [];
          left = reach - length more;
          is = (
            no_gap f long,
            record {
              torn = more;
              split = same;
              begins = refl;
              reached = omega (arith, fits);
              is_left = refl;
            },
          );
          at_most = omega (arith, small);
          room_left = omega (arith, fits);
        }
    one_or_torn false none f (inr long) =
        let torn = f.byte ∷ f.rest in
        let all = blanks ++ f.blanks in
        let at = reach_append reach blanks f.blanks in
        let least = reach_least f.blanks behind behind_small in
        let lengths = ap length f.is ∙ length-append f.blanks torn in
        record {
          torn = Some all;
          left = reach_behind reach all - length torn;
          is = (
            no_gap f long,
            record {
              torn = torn;
              split = ap (λ l. blanks ++ l) f.is ∙ sym (append_assoc blanks f.blanks torn);
              begins = (
                All-append IsBlank blanks f.blanks are f.are_blanks,
                (f.byte, f.rest, refl, f.other),
              );
              reached = omega (arith, at, least, lengths, fits);
              is_left = refl;
            },
          );
          at_most = omega (arith, at, reach_most f.blanks behind behind_small);
          room_left = omega (arith, at, least, lengths, fits);
        }

-- what stands so is a log
pub record ClosedWith (bytes : List ℕ) (room : ℕ) : Type 0 where
  pub entries : List MarkedCopy
  pub closed : Closed bytes entries
  pub room_left : room ≤ closed.read.reach

pub reaches_closed : (bytes : List ℕ) (room : ℕ) → Reaches bytes room → ClosedWith bytes room
unfolding close
reaches_closed bytes room r =
    let reach = r.before.reach - length r.front in
    let tail = r.blanks ++ r.more in
    let t = in_reach (is_begun r.head) reach room r.blanks r.more (omega (arith, r.short))
    r.are_blanks r.no_blanks r.reached in
    let c = close r.earlier r.before r.head r.front tail t.torn t.left r.are r.is_part r.is_head
    t.is t.at_most in
    subst (λ l. ClosedWith l room) (sym r.split)
    (record {
      entries = r.before.entries ++ entries_of r.head;
      closed = c;
      room_left = t.room_left;
    })

closed_is_log : (bytes : List ℕ) (entries : List MarkedCopy) → Closed bytes entries
    → IsOfLog bytes
closed_is_log bytes entries c = (c.read, c.is)

-- ---- one byte more

abbrev pub NotNot : Type 0 → Type 0
NotNot A = ¬ ¬ A

longest_more : (front tail : List ℕ) (byte : ℕ) → tail ≢ [] → IsLongest front tail
    → IsLongest front (tail ++ byte ∷ [])
longest_more front [] byte some longest = absurd (some refl)
longest_more front (x ∷ tail) byte some longest = λ next more e.
    longest next tail (ap (λ z. z ∷ tail) (ap (λ (l : List ℕ). get_or l 0 0) e))

-- behind bytes that were torn, or that an entry has before it
more_behind : (bytes : List ℕ) (room byte : ℕ) → byte ≢ 91 → (r : Reaches bytes (room + 1))
    → IsHead (is_first r.earlier) r.head r.front (r.blanks ++ (r.more ++ byte ∷ []))
    → Reaches (bytes ++ byte ∷ []) room
more_behind bytes room byte other r is_head =
    let more = r.more ++ byte ∷ [] in
    let same : (r.front ++ (r.blanks ++ r.more)) ++ byte ∷ [] ≡ r.front ++ (r.blanks ++ more) =
    append_assoc r.front (r.blanks ++ r.more) (byte ∷ [])
    ∙ ap (λ l. r.front ++ l) (append_assoc r.blanks r.more (byte ∷ [])) in
    record {
      earlier = r.earlier;
      before = r.before;
      are = r.are;
      short = r.short;
      head = r.head;
      front = r.front;
      blanks = r.blanks;
      more = more;
      split = ap (λ l. l ++ byte ∷ []) r.split
          ∙ append_assoc r.before.bytes (r.front ++ (r.blanks ++ r.more)) (byte ∷ [])
          ∙ ap (λ l. r.before.bytes ++ l) same;
      is_part = subst (IsPart (is_first r.earlier)) same
          (part_more (is_first r.earlier) (r.front ++ (r.blanks ++ r.more)) (byte ∷ []) r.is_part
          (All-cons IsNoBracket byte [] other (All-nil IsNoBracket)));
      is_head = is_head;
      are_blanks = r.are_blanks;
      no_blanks = r.no_blanks;
      reached = omega (arith, r.reached, length-append r.more (byte ∷ []));
    }

-- a bracket begins a part of its own
more_bracket : (bytes : List ℕ) (room : ℕ) → Reaches bytes (room + 1)
    → Reaches (bytes ++ 91 ∷ []) room
more_bracket bytes room r =
    let w = reaches_closed bytes (room + 1) r in
    let c = w.closed in
    record {
      earlier = c.is.part ∷ c.is.earlier;
      before = c.read;
      are = c.is.are;
      short = c.short;
      head = begun;
      front = 91 ∷ [];
      blanks = [];
      more = [];
      split = ap (λ l. l ++ 91 ∷ []) (sym c.is.all);
      is_part = ([], refl, All-nil IsNoBracket);
      is_head = (bracket_begins, λ byte more e. absurd (omega (arith, ap length e)));
      are_blanks = All-nil IsBlank;
      no_blanks = λ e. refl;
      reached = omega (arith, w.room_left);
    }

-- a part that is the beginning of an entry, and another byte
record BegunAlone (bytes front : List ℕ) (room : ℕ) : Type 0 where
  pub earlier : List (List ℕ)
  pub before : LogRead
  pub are : AreRead earlier before
  pub short : before.reach ≤ 4147
  pub later : is_first earlier ≡ false
  pub split : bytes ≡ before.bytes ++ front
  pub is_part : IsPart false front
  pub lacks : IsUnfinishedEntry front
  pub reached : room + 1 ≤ before.reach - length front

-- it goes on so, with this front and this tail
goes_on : (bytes front : List ℕ) (room byte : ℕ) (head : Head) (first more : List ℕ)
    → BegunAlone bytes front room → byte ≢ 91 → IsHead false head first more
    → first ++ more ≡ front ++ byte ∷ [] → Reaches (bytes ++ byte ∷ []) room
goes_on bytes front room byte head first more b other is_head e =
    let part : IsPart false (first ++ more) =
    subst (IsPart false) (sym e)
    (part_more false front (byte ∷ []) b.is_part
    (All-cons IsNoBracket byte [] other (All-nil IsNoBracket))) in
    let lengths = sym (length-append first more) ∙ ap length e ∙ length-append front (byte ∷ []) in
    record {
      earlier = b.earlier;
      before = b.before;
      are = b.are;
      short = b.short;
      head = head;
      front = first;
      blanks = [];
      more = more;
      split = ap (λ l. l ++ byte ∷ []) b.split ∙ append_assoc b.before.bytes front (byte ∷ [])
          ∙ ap (λ l. b.before.bytes ++ l) (sym e);
      is_part = subst (λ f. IsPart f (first ++ more)) (sym b.later) part;
      is_head = subst (λ f. IsHead f head first more) (sym b.later) is_head;
      are_blanks = All-nil IsBlank;
      no_blanks = λ e. refl;
      reached = omega (arith, b.reached, lengths);
    }

more_begun : (bytes front : List ℕ) (room byte : ℕ) → byte ≢ 91 → BegunAlone bytes front room
    → NotNot (Reaches (bytes ++ byte ∷ []) room)
more_begun bytes front room byte other b none =
    let all = front ++ byte ∷ [] in
    let no_whole : ¬ IsWholeEntry all =
    λ w. none (goes_on bytes front room byte (whole w.0) all [] b other w.1 (append-nil all)) in
    let no_part : ¬ IsUnfinishedEntry all =
    λ u. none (goes_on bytes front room byte begun all [] b other (
      u,
      λ next more e. absurd (omega (arith, ap length e)),
    ) (append-nil all)) in
    let longest : IsLongest front (byte ∷ []) =
    λ next more e.
    let here : byte ≡ next = ap (λ (l : List ℕ). get_or l 0 0) e in (
      λ w. no_whole (subst (λ z. IsWholeEntry (front ++ z ∷ [])) (sym here) w),
      λ u. no_part (subst (λ z. IsUnfinishedEntry (front ++ z ∷ [])) (sym here) u),
    ) in
    none (goes_on bytes front room byte begun front (byte ∷ []) b other (b.lacks, longest) refl)

more_reaches : (bytes : List ℕ) (room byte : ℕ) → Reaches bytes (room + 1)
    → NotNot (Reaches (bytes ++ byte ∷ []) room)
more_reaches bytes room byte r = elim (cases_eq byte 91) [
  | inl e ↦ λ none. none
      (subst (λ z. Reaches (bytes ++ z ∷ []) room) (sym e) (more_bracket bytes room r))
  | inr other ↦ by_head other r.earlier r.head refl refl
]
  where
    plain : byte ≢ 91 → is_begun r.head ≡ false → NotNot (Reaches (bytes ++ byte ∷ []) room)
    plain other not_begun none =
        none (more_behind bytes room byte other r
        (head_more (is_first r.earlier) r.head r.front (r.blanks ++ r.more)
        (r.blanks ++ (r.more ++ byte ∷ [])) not_begun r.is_head))

    behind_begun : byte ≢ 91 → is_first r.earlier ≡ false → r.head ≡ begun → r.blanks ≡ []
        → IsHead false begun r.front r.more → (more : List ℕ) → more ≡ r.more
        → NotNot (Reaches (bytes ++ byte ∷ []) room)
    behind_begun other later is none head [] e =
        let tail : r.blanks ++ r.more ≡ [] = ap (λ l. l ++ r.more) none ∙ sym e in
        let front : r.front ++ (r.blanks ++ r.more) ≡ r.front =
        ap (λ l. r.front ++ l) tail ∙ append-nil r.front in
        more_begun bytes r.front room byte other (record {
          earlier = r.earlier;
          before = r.before;
          are = r.are;
          short = r.short;
          later = later;
          split = r.split ∙ ap (λ l. r.before.bytes ++ l) front;
          is_part = subst (IsPart false) front
              (subst (λ f. IsPart f (r.front ++ (r.blanks ++ r.more))) later r.is_part);
          lacks = head.0;
          reached = omega (
            arith,
            subst (λ l. (room + 1) + length r.more
                ≤ reach_behind (r.before.reach - length r.front) l) none r.reached,
          );
        })
    behind_begun other later is none head (x ∷ more) e = λ no.
        let some : r.more ≢ [] = λ n. omega (arith, ap length (e ∙ n)) in
        let longer : IsHead false begun r.front (r.more ++ byte ∷ []) =
        (head.0, longest_more r.front r.more byte some head.1) in
        let at : IsHead false begun r.front (r.blanks ++ (r.more ++ byte ∷ [])) =
        subst (λ l. IsHead false begun r.front (l ++ (r.more ++ byte ∷ []))) (sym none) longer in
        no (more_behind bytes room byte other r
        (subst (λ f. IsHead f r.head r.front (r.blanks ++ (r.more ++ byte ∷ []))) (sym later)
        (subst (λ h. IsHead false h r.front (r.blanks ++ (r.more ++ byte ∷ []))) (sym is) at)))

    -- in each case the parts are those of what reaches
    by_head : byte ≢ 91 → (earlier : List (List ℕ)) (head : Head) → earlier ≡ r.earlier
        → head ≡ r.head → NotNot (Reaches (bytes ++ byte ∷ []) room)
    by_head other earlier nothing p q = plain other (ap is_begun (sym q))
    by_head other earlier (whole one) p q = plain other (ap is_begun (sym q))
    by_head other [] begun p q =
        absurd (subst (λ h. IsHead true h r.front (r.blanks ++ r.more)) (sym q)
        (subst (λ l. IsHead (is_first l) r.head r.front (r.blanks ++ r.more)) (sym p) r.is_head))
    by_head other (part ∷ earlier) begun p q =
        let later : is_first r.earlier ≡ false = ap is_first (sym p) in
        let head : IsHead false begun r.front (r.blanks ++ r.more) =
        subst (λ h. IsHead false h r.front (r.blanks ++ r.more)) (sym q)
        (subst (λ f. IsHead f r.head r.front (r.blanks ++ r.more)) later r.is_head) in
        let none : r.blanks ≡ [] = r.no_blanks (ap is_begun (sym q)) in
        behind_begun other later (sym q) none
        (subst (λ l. IsHead false begun r.front (l ++ r.more)) none head) r.more refl

all_reached : (more bytes : List ℕ) (room : ℕ) → length more ≤ room → Reaches bytes room
    → NotNot (IsOfLog (bytes ++ more))
all_reached [] bytes room fits r none =
    let w = reaches_closed bytes room r in
    none (subst IsOfLog (sym (append-nil bytes)) (closed_is_log bytes w.entries w.closed))
all_reached (x ∷ more) bytes room fits r none =
    let less : room ≡ (room - 1) + 1 = omega (arith, fits) in
    more_reaches bytes (room - 1) x (subst (Reaches bytes) less r)
    (λ next. all_reached more (bytes ++ x ∷ []) (room - 1) (omega (arith, fits)) next
    (λ is. none (subst IsOfLog (append_assoc bytes (x ∷ []) more) is)))

-- ---- a file that stands for entries

space_reaches : (bytes : List ℕ) (entries : List MarkedCopy) → Rests bytes entries
    → Reaches (bytes ++ 32 ∷ []) 4147
unfolding rest_space
space_reaches bytes entries r =
    let s = rest_space bytes entries r in
    let same = append-nil s.tail in
    let at : reach_behind (s.before.reach - length s.front) s.tail ≡ 4147 =
    reach_space r.tail (s.before.reach - length s.front) in
    record {
      earlier = s.earlier;
      before = s.before;
      are = s.are;
      short = s.short;
      head = s.head;
      front = s.front;
      blanks = s.tail;
      more = [];
      split = s.split ∙ ap (λ l. s.before.bytes ++ (s.front ++ l)) (sym same);
      is_part = subst (λ l. IsPart (is_first s.earlier) (s.front ++ l)) (sym same) s.is_part;
      is_head = subst (λ l. IsHead (is_first s.earlier) s.head s.front l) (sym same) s.is_head;
      are_blanks = blanks_of s.tail s.spaces;
      no_blanks = λ e. absurd (true≢false (sym e ∙ s.not_begun));
      reached = omega (arith, at);
    }

tail_read : (tail bytes : List ℕ) (entries : List MarkedCopy) → IsFileTail 4146 tail
    → Rests bytes entries → NotNot (IsOfLog (bytes ++ tail))
tail_read [] bytes entries h r none =
    none (subst IsOfLog (sym (append-nil bytes))
    (closed_is_log bytes entries (rest_closed bytes entries r)))
tail_read (gate ∷ []) bytes entries h r none =
    none (closed_is_log (bytes ++ gate ∷ []) entries (rest_gate bytes entries gate r))
tail_read (gate ∷ next ∷ more) bytes entries h r none =
    let reached = space_reaches bytes entries r in
    all_reached (next ∷ more) (bytes ++ 32 ∷ []) 4147 (omega (arith, h.1)) reached
    (λ is. none (subst IsOfLog
    (append_assoc bytes (32 ∷ []) (next ∷ more)
    ∙ ap (λ z. bytes ++ (z ∷ next ∷ more)) (sym h.0)) is))

pub file_is_log : (entries : List MarkedCopy) (file : List ℕ) → StandsForEntries entries file
    → NotNot (IsOfLog file)
file_is_log entries file s none =
    let kept = rest_kept entries s.texts s.stands.front [] [] s.each s.stands.kept rests_first in
    tail_read s.stands.tail s.stands.front entries s.stands.end kept
    (λ is. none (subst IsOfLog (sym s.stands.split) is))

-- no first part of a log stops being one
pub none_stops : (front more : List ℕ) (entries : List MarkedCopy) (torn : List ℕ) (line : ℕ)
    → IsOfLog (front ++ more) → StopAtLine front entries torn line → ⊥
none_stops front more entries torn line is s =
    let first = front_is_log more front is in
    s.bad_with_it (front_is_log (drop (s.place + 1) front) (take (s.place + 1) front)
    (subst IsOfLog (sym (take-append-drop (s.place + 1) front)) first))
