-- A tail with one byte more.
use Rattle.std.proofs.Common.{◌≡◌, ◌≢◌, ◌⊎◌, inl, inr, ℕ, ◌+◌, ◌-◌, ◌^◌, ◌≤◌, ◌<◌, min, Bool, true, false, cond, List, [], ◌∷◌, ◌++◌, length, Option, Some, None, ap, sym, ◌∙◌, refl, subst, arith, append-nil, append_assoc, length-append}
use Rattle.std.specs.Prelude.{◌==◌, if◌then◌else◌, count_by}
use Rattle.std.specs.List.{All}
use Rattle.std.proofs.lemmas.List.Elements.{All-head, All-nil, All-push, All-tail, All-take}
use Rattle.std.proofs.lemmas.List.Sums.{sum_by-append}
use Rattle.std.proofs.lemmas.List.{take-append-le, take_all, nil_from_length}
use Rattle.nx_code.specs.Reading.{newline, space}
use Rattle.nx_log.specs.Reading.{IsBlank, IsGap, IsInReach, IsNoBracket, TornBegins, line_behind, reach_behind}
use Rattle.nx_log.specs.private.Standing.{CanTear, StaysGap, IsSomeTail, StandsAs, StandsSomehow, TellsLine, torn_behind, torn_reach_behind, with_blank, with_torn}
use Rattle.nx_log.specs.declared.entries.tail.Tail.{Tail}
use Rattle.nx_log.specs.declared.entries.tail.Shape.{Shape}
use Rattle.nx_log.specs.declared.entries.tail.Shape.TheVariants as shapes
use Rattle.nx_log.proofs.lemmas.beginnings.Lists.{some_elements}
use Rattle.nx_log.proofs.lemmas.reading.Gaps.{same_blanks}

-- ---- lists

pub all_front : (P : ℕ → Type 0) (xs ys : List ℕ) → All P (xs ++ ys) → All P xs
all_front P xs ys h =
    subst (All P) (take-append-le (length xs) xs ys (omega arith)
    ∙ take_all (length xs) xs (omega arith)) (All-take P (length xs) (xs ++ ys) h)

pub all_last : (P : ℕ → Type 0) (xs : List ℕ) (x : ℕ) → All P (xs ++ x ∷ []) → P x
all_last P [] x h = All-head P x [] h
all_last P (y ∷ xs) x h = all_last P xs x (All-tail P y (xs ++ x ∷ []) h)

pub reach_append : (reach : ℕ) (xs ys : List ℕ)
    → reach_behind reach (xs ++ ys) ≡ reach_behind (reach_behind reach xs) ys
reach_append reach [] ys = refl
reach_append reach (x ∷ xs) ys = reach_append (if x == space then 4147 else reach - 1) xs ys

-- a byte that is no newline stands on the line of the next
same_count : (z : ℕ) → z ≢ newline → count_by (λ byte. byte == newline) (z ∷ []) ≡ 0
same_count z other = grind arith

pub same_line : (xs : List ℕ) (z : ℕ) → z ≢ newline → line_behind (xs ++ z ∷ []) ≡ line_behind xs
same_line xs z other =
    ap (λ n. n + 1) (sum_by-append (λ byte. cond (byte == newline) 1 0) xs (z ∷ [])
    ∙ omega (arith, same_count z other))

-- ---- where the torn bytes of a tail begin

pub record SameTorn (a b x y : List ℕ) : Type 0 where
  pub blanks : a ≡ b
  pub torn : x ≡ y

pub same_torn : (is_torn : Bool) (a b x y : List ℕ) → TornBegins is_torn a x
    → TornBegins is_torn b y → a ++ x ≡ b ++ y → SameTorn a b x y
same_torn true a b x y h k e = record {
  blanks = h ∙ sym k;
  torn = ap (λ l. l ++ x) (sym h) ∙ e ∙ ap (λ l. l ++ y) k;
}
same_torn false a b x y h k e =
    let first = h.1.0 in
    let second = k.1.0 in
    let same = same_blanks a b first second h.1.1 k.1.1 h.0 k.0 h.1.3 k.1.3
    (ap (λ l. a ++ l) (sym h.1.2) ∙ e ∙ ap (λ l. b ++ l) k.1.2) in
    record { blanks = same.front; torn = h.1.2 ∙ same.back ∙ sym k.1.2 }

-- a tail with one byte that is torn: where the torn bytes begin, and how many are reached
pub record Tear (is_torn : Bool) (reach room : ℕ) (all : List ℕ) : Type 0 where
  pub blanks : List ℕ
  pub torn : List ℕ
  pub split : all ≡ blanks ++ torn
  pub begins : TornBegins is_torn blanks torn
  pub some : 1 ≤ length torn
  pub room_is : room ≡ reach_behind reach blanks - (length torn - 1)
  pub no_gap : ¬ IsGap all

-- it is torn within reach where some byte is left
pub torn_on : (is_torn : Bool) (reach room : ℕ) (all : List ℕ)
    → (t : Tear is_torn reach room all) → 0 < room
    → IsInReach is_torn reach all t.blanks (room - 1)
torn_on is_torn reach room all t has =
    let some = t.some in
    let is = t.room_is in
    record {
      torn = t.torn;
      split = t.split;
      begins = t.begins;
      reached = omega (arith, some, is, has);
      is_left = omega (arith, some, is, has);
    }

-- else it is no tail
pub torn_off : (is_torn : Bool) (reach room : ℕ) (all : List ℕ)
    → Tear is_torn reach room all → room ≡ 0 → ¬ IsSomeTail is_torn reach all
torn_off is_torn reach room all t none (None, left, gap) = t.no_gap gap.0
torn_off is_torn reach room all t none (Some blanks, left, h) =
    let r = h.1 in
    let same = same_torn is_torn t.blanks blanks t.torn r.torn t.begins r.begins
    (sym t.split ∙ r.split) in
    let reached = r.reached in
    let size = ap length same.torn in
    let reach_is = ap (reach_behind reach) same.blanks in
    let some = t.some in
    let is = t.room_is in
    omega (arith, reached, size, reach_is, some, is, none)

-- ---- no gap

no_gap_behind : (bytes : List ℕ) (byte : ℕ) → bytes ≢ [] → ¬ IsBlank byte
    → ¬ IsGap (bytes ++ byte ∷ [])
no_gap_behind bytes byte some other (inl blank) = other (all_last IsBlank bytes byte blank)
no_gap_behind bytes byte some other (inr one) =
    let has = some_elements bytes some in
    omega (arith, one, has, length-append bytes (byte ∷ []))

no_gap_more : (bytes : List ℕ) (byte : ℕ) → ¬ IsGap bytes → ¬ IsGap (bytes ++ byte ∷ [])
no_gap_more bytes byte none (inl blank) = none (inl (all_front IsBlank bytes (byte ∷ []) blank))
no_gap_more bytes byte none (inr one) =
    none (inl (subst (All IsBlank)
    (sym (nil_from_length bytes (omega (arith, one, length-append bytes (byte ∷ [])))))
    (All-nil IsBlank)))

no_gap_two : (one byte : ℕ) → ¬ IsBlank one → ¬ IsGap (one ∷ byte ∷ [])
no_gap_two one byte other (inl blank) = other (All-head IsBlank one (byte ∷ []) blank)
no_gap_two one byte other (inr size) = omega (arith, size)

-- ---- a byte that is no newline and no space of a gap

-- a tail by its parts
abbrev pub made : Bool → Shape → ℕ → ℕ → ℕ → Tail
made is_torn shape reach torn_reach torn_line = record {
  is_torn = is_torn;
  shape = shape;
  reach = reach;
  torn_reach = torn_reach;
  torn_line = torn_line;
}

pub tear : (is_torn : Bool) (shape : Shape) (r t l reach byte : ℕ) (bytes : List ℕ)
    (torn : Option (List ℕ)) → CanTear shape byte
    → StandsAs shape (made is_torn shape r t l) reach bytes torn
    → Tear is_torn reach t (bytes ++ byte ∷ [])
tear is_torn shapes.Nothing r t l reach byte bytes torn can s = absurd can
tear true shapes.Blanks r t l reach byte bytes torn can s =
    let is = s.1.torn_is in
    let size = length-append bytes (byte ∷ []) in
    record {
      blanks = [];
      torn = bytes ++ byte ∷ [];
      split = refl;
      begins = refl;
      some = omega (arith, size);
      room_is = omega (arith, is, size);
      no_gap = no_gap_behind bytes byte s.1.some can;
    }
tear false shapes.Blanks r t l reach byte bytes torn can s =
    let is = s.1.torn_is in
    record {
      blanks = bytes;
      torn = byte ∷ [];
      split = refl;
      begins = (s.1.blank, (byte, [], refl, can));
      some = omega arith;
      room_is = omega (arith, is);
      no_gap = no_gap_behind bytes byte s.1.some can;
    }
tear true shapes.One r t l reach byte bytes torn can s =
    let o = s.1 in
    let is = o.torn_is in
    let whole : bytes ++ byte ∷ [] ≡ o.byte ∷ byte ∷ [] = ap (λ l. l ++ byte ∷ []) o.is in
    record {
      blanks = [];
      torn = o.byte ∷ byte ∷ [];
      split = whole;
      begins = refl;
      some = omega arith;
      room_is = omega (arith, is);
      no_gap = subst (λ l. ¬ IsGap l) (sym whole) (no_gap_two o.byte byte o.not_blank);
    }
tear false shapes.One r t l reach byte bytes torn can s =
    let o = s.1 in
    let is = o.torn_is in
    let whole : bytes ++ byte ∷ [] ≡ o.byte ∷ byte ∷ [] = ap (λ l. l ++ byte ∷ []) o.is in
    record {
      blanks = [];
      torn = o.byte ∷ byte ∷ [];
      split = whole;
      begins = (All-nil IsBlank, (o.byte, byte ∷ [], refl, o.not_blank));
      some = omega arith;
      room_is = omega (arith, is);
      no_gap = subst (λ l. ¬ IsGap l) (sym whole) (no_gap_two o.byte byte o.not_blank);
    }
tear is_torn shapes.Torn r t l reach byte bytes torn can s =
    let a = s.2 in
    let in_reach = a.in_reach in
    let is = a.torn_is in
    let left = in_reach.is_left in
    let size = length-append in_reach.torn (byte ∷ []) in
    record {
      blanks = s.0;
      torn = in_reach.torn ++ byte ∷ [];
      split = ap (λ l. l ++ byte ∷ []) in_reach.split
          ∙ append_assoc s.0 in_reach.torn (byte ∷ []);
      begins = begins_more is_torn s.0 in_reach.torn in_reach.begins;
      some = omega (arith, size);
      room_is = omega (arith, is, left, size);
      no_gap = no_gap_more bytes byte a.no_gap;
    }
  where
    begins_more : (is_torn : Bool) (blanks torn : List ℕ) → TornBegins is_torn blanks torn
        → TornBegins is_torn blanks (torn ++ byte ∷ [])
    begins_more true blanks torn h = h
    begins_more false blanks torn h =
        (h.0, (h.1.0, h.1.1 ++ byte ∷ [], ap (λ l. l ++ byte ∷ []) h.1.2, h.1.3))

-- the line of the torn entry is kept, or is that of the byte
tells : (is_torn : Bool) (shape : Shape) (r t l reach byte line : ℕ) (before front bytes : List ℕ)
    (torn : Option (List ℕ)) → (can : CanTear shape byte)
    → (s : StandsAs shape (made is_torn shape r t l) reach bytes torn)
    → TellsLine (made is_torn shape r t l) before front torn is_torn
    → line ≡ min (line_behind (before ++ (front ++ bytes))) (2 ^ 64 - 1)
    → TellsLine (with_torn (made is_torn shape r t l) line) before front
    (Some (tear is_torn shape r t l reach byte bytes torn can s).blanks) is_torn
unfolding tear
tells true shapes.Nothing r t l reach byte line before front bytes torn can s h e = absurd can
tells true shapes.Blanks r t l reach byte line before front bytes torn can s h e = h
tells true shapes.One r t l reach byte line before front bytes torn can s h e = h
tells true shapes.Torn r t l reach byte line before front bytes torn can s h e = h
tells false shapes.Nothing r t l reach byte line before front bytes torn can s h e = absurd can
tells false shapes.Blanks r t l reach byte line before front bytes torn can s h e = e
tells false shapes.One r t l reach byte line before front bytes torn can s h e =
    let o = s.1 in
    let other : o.byte ≢ newline = λ n. o.not_blank (inl n) in
    e ∙ ap (λ x. min (line_behind (before ++ (front ++ x))) (2 ^ 64 - 1)) o.is
    ∙ ap (λ x. min (line_behind x) (2 ^ 64 - 1))
    (sym (append_assoc before front (o.byte ∷ [])))
    ∙ ap (λ n. min n (2 ^ 64 - 1)) (same_line (before ++ front) o.byte other)
    ∙ ap (λ x. min (line_behind (before ++ x)) (2 ^ 64 - 1)) (sym (append-nil front))
tells false shapes.Torn r t l reach byte line before front bytes torn can s h e =
    subst (λ o. TellsLine (made false shapes.Torn r t l) before front o false) s.1 h

stands_torn : (is_torn : Bool) (shape : Shape) (r t l reach byte line : ℕ)
    (before front bytes : List ℕ) → CanTear shape byte → byte ≢ 91 → 0 < t
    → line ≡ min (line_behind (before ++ (front ++ bytes))) (2 ^ 64 - 1)
    → StandsSomehow (made is_torn shape r t l) before front reach bytes
    → StandsSomehow (with_torn (made is_torn shape r t l) line) before front reach
    (bytes ++ byte ∷ [])
stands_torn is_torn shape r t l reach byte line before front bytes can other has e s =
    let torn = tear is_torn shape r t l reach byte bytes s.0 can s.1.stands in (
      Some torn.blanks,
      record {
        no_bracket = All-push IsNoBracket bytes byte s.1.no_bracket other;
        stands = (
          torn.blanks,
          refl,
          record {
            no_gap = torn.no_gap;
            in_reach = torn_on is_torn reach t (bytes ++ byte ∷ []) torn has;
            torn_is = refl;
          },
        );
        tells = tells is_torn shape r t l reach byte line before front bytes s.0 can s.1.stands
            s.1.tells e;
      },
    )

pub goes_on_torn : (tail : Tail) (reach byte line : ℕ) (before front bytes : List ℕ)
    → CanTear tail.shape byte → byte ≢ 91 → 0 < tail.torn_reach
    → line ≡ min (line_behind (before ++ (front ++ bytes))) (2 ^ 64 - 1)
    → StandsSomehow tail before front reach bytes
    → StandsSomehow (with_torn tail line) before front reach (bytes ++ byte ∷ [])
goes_on_torn tail reach byte line before front bytes can other has e s =
    stands_torn tail.is_torn tail.shape tail.reach tail.torn_reach tail.torn_line reach byte line
    before front bytes can other has e s

pub breaks_off : (tail : Tail) (reach byte : ℕ) (before front bytes : List ℕ)
    → CanTear tail.shape byte → tail.torn_reach ≡ 0
    → StandsSomehow tail before front reach bytes
    → ¬ IsSomeTail tail.is_torn reach (bytes ++ byte ∷ [])
breaks_off tail reach byte before front bytes can none s =
    torn_off tail.is_torn reach tail.torn_reach (bytes ++ byte ∷ [])
    (tear tail.is_torn tail.shape tail.reach tail.torn_reach tail.torn_line reach byte bytes s.0 can
    s.1.stands) none

-- ---- a gap

-- newlines and spaces so far, or nothing
record BlankSoFar (is_torn : Bool) (r t reach : ℕ) (bytes : List ℕ) (torn : Option (List ℕ))
    : Type 0 where
  blank : All IsBlank bytes
  none : torn ≡ None
  reach_is : r ≡ reach_behind reach bytes
  torn_is : t ≡ torn_reach_behind is_torn reach bytes

whole_reach : (is_torn : Bool) (reach t : ℕ) → t ≡ reach → t ≡ torn_reach_behind is_torn reach []
whole_reach true reach t e = omega (arith, e)
whole_reach false reach t e = e

blank_so_far : (is_torn : Bool) (shape : Shape) (r t l reach : ℕ) (bytes : List ℕ)
    (torn : Option (List ℕ)) → (shape ≡ shapes.Nothing) ⊎ (shape ≡ shapes.Blanks)
    → StandsAs shape (made is_torn shape r t l) reach bytes torn
    → BlankSoFar is_torn r t reach bytes torn
blank_so_far is_torn shapes.Nothing r t l reach bytes torn gap s = record {
  blank = subst (All IsBlank) (sym s.0) (All-nil IsBlank);
  none = s.1;
  reach_is = s.2 ∙ ap (reach_behind reach) (sym s.0);
  torn_is = whole_reach is_torn reach t s.3
      ∙ ap (torn_reach_behind is_torn reach) (sym s.0);
}
blank_so_far is_torn shapes.Blanks r t l reach bytes torn gap s = record {
  blank = s.1.blank;
  none = s.0;
  reach_is = s.1.reach_is;
  torn_is = s.1.torn_is;
}
blank_so_far is_torn shapes.One r t l reach bytes torn (inl gap) s = cc
blank_so_far is_torn shapes.One r t l reach bytes torn (inr gap) s = cc
blank_so_far is_torn shapes.Torn r t l reach bytes torn (inl gap) s = cc
blank_so_far is_torn shapes.Torn r t l reach bytes torn (inr gap) s = cc

torn_more : (is_torn : Bool) (r t reach byte : ℕ) (bytes : List ℕ)
    → r ≡ reach_behind reach bytes → t ≡ torn_reach_behind is_torn reach bytes
    → torn_behind is_torn t (reach_behind r (byte ∷ []))
    ≡ torn_reach_behind is_torn reach (bytes ++ byte ∷ [])
torn_more true r t reach byte bytes e f =
    omega (arith, f, length-append bytes (byte ∷ []))
torn_more false r t reach byte bytes e f =
    ap (λ n. reach_behind n (byte ∷ [])) e ∙ sym (reach_append reach bytes (byte ∷ []))

tells_none : (is_torn : Bool) (tail next : Tail) (before front : List ℕ) (torn : Option (List ℕ))
    → next.torn_line ≡ tail.torn_line → TellsLine tail before front torn is_torn
    → TellsLine next before front None is_torn
tells_none true tail next before front torn e h = e ∙ h
tells_none false tail next before front torn e h = tt

pub goes_on_blank : (tail : Tail) (reach byte : ℕ) (before front bytes : List ℕ)
    → (tail.shape ≡ shapes.Nothing) ⊎ (tail.shape ≡ shapes.Blanks) → IsBlank byte → byte ≢ 91
    → StandsSomehow tail before front reach bytes
    → StandsSomehow (with_blank tail byte) before front reach (bytes ++ byte ∷ [])
goes_on_blank tail reach byte before front bytes gap blank other s =
    let so_far = blank_so_far tail.is_torn tail.shape tail.reach tail.torn_reach tail.torn_line
    reach bytes s.0 gap s.1.stands in (
      None,
      record {
        no_bracket = All-push IsNoBracket bytes byte s.1.no_bracket other;
        stands = (
          refl,
          record {
            blank = All-push IsBlank bytes byte so_far.blank blank;
            some = λ e. omega (arith, ap length e, length-append bytes (byte ∷ []));
            reach_is = ap (λ n. reach_behind n (byte ∷ [])) so_far.reach_is
                ∙ sym (reach_append reach bytes (byte ∷ []));
            torn_is = torn_more tail.is_torn tail.reach tail.torn_reach reach byte bytes
                so_far.reach_is so_far.torn_is;
          },
        );
        tells = tells_none tail.is_torn tail (with_blank tail byte) before front s.0 refl s.1.tells;
      },
    )

-- ---- a byte that goes on with the gap

blank_gap : (shape : Shape) (byte : ℕ) → StaysGap shape byte
    → (shape ≡ shapes.Nothing) ⊎ (shape ≡ shapes.Blanks)
blank_gap shapes.Nothing byte h = inl refl
blank_gap shapes.Blanks byte h = inr refl
blank_gap shapes.One byte h = absurd h
blank_gap shapes.Torn byte h = absurd h

pub gap_blank : (tail : Tail) (reach byte : ℕ) (before front bytes : List ℕ)
    → StaysGap tail.shape byte → IsBlank byte → byte ≢ 91
    → StandsSomehow tail before front reach bytes
    → StandsSomehow (with_blank tail byte) before front reach (bytes ++ byte ∷ [])
gap_blank tail reach byte before front bytes stays blank other s =
    goes_on_blank tail reach byte before front bytes (blank_gap tail.shape byte stays) blank other s
