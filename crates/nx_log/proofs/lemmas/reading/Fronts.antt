-- Some first bytes of a log are those of one.
use Rattle.std.proofs.Common.{◌≡◌, ◌≢◌, ◌⊎◌, inl, inr, ℕ, ◌-◌, Bool, true, false, List, [], ◌∷◌, ◌++◌, get_or, drop, length, Option, Some, None, ap, sym, ◌∙◌, refl, subst, arith, append-nil, append_assoc, length-append}
use Rattle.std.specs.List.{All}
use Rattle.std.proofs.lemmas.List.Elements.{All-cons, All-head, All-nil, All-tail}
use Rattle.std.proofs.lemmas.Bool.{cases_eq}
use Rattle.nx_log.specs.Entries.{IsUnfinishedEntry}
use Rattle.nx_log.specs.Reading.{AreRead, Head, IsBlank, IsGap, IsHead, IsLongest, IsNoBracket, IsOfLog, IsPart, IsTail, LogRead, TornBegins, begun, entries_of, is_begun, is_first, nothing, reach_behind, torn_line, whole}
use Rattle.nx_log.proofs.lemmas.reader.Begun.{bracket_begins}
use Rattle.nx_log.proofs.lemmas.reader.Tails.{all_front}
use Rattle.nx_log.proofs.lemmas.reading.Brackets.{entry_bracket}
use Rattle.nx_log.proofs.lemmas.reading.Parts.{unfinished_front}
use Rattle.std.proofs.lemmas.List.{nil_from_length}

-- a list that is empty, or ends with an element
pub record Ended (xs : List ℕ) : Type 0 where
  pub front : List ℕ
  pub last : ℕ
  pub is : xs ≡ front ++ last ∷ []

pub ended : (xs : List ℕ) → (xs ≡ []) ⊎ Ended xs
ended [] = inl refl
ended (x ∷ xs) = inr (elim (ended xs) [
  | inl none ↦ record { front = []; last = x; is = ap (λ l. x ∷ l) none }
  | inr e ↦ record { front = x ∷ e.front; last = e.last; is = ap (λ l. x ∷ l) e.is }
])

pub same_end : (xs ys : List ℕ) (x y : ℕ) → xs ++ x ∷ [] ≡ ys ++ y ∷ [] → xs ≡ ys
same_end [] [] x y e = refl
same_end [] (b ∷ ys) x y e =
    absurd (omega (arith, ap length e, length-append ys (y ∷ [])))
same_end (a ∷ xs) [] x y e =
    absurd (omega (arith, ap length e, length-append xs (x ∷ [])))
same_end (a ∷ xs) (b ∷ ys) x y e =
    let here : a ≡ b = ap (λ (l : List ℕ). get_or l 0 0) e in
    ap (λ l. l ∷ xs) here ∙ ap (λ l. b ∷ l) (same_end xs ys x y (ap (drop 1) e))

-- ---- a tail without its last byte

pub record SomeTail (is_torn : Bool) (reach : ℕ) (tail : List ℕ) : Type 0 where
  pub torn : Option (List ℕ)
  pub left : ℕ
  pub is : IsTail is_torn reach tail torn left

gap_less : (front : List ℕ) (last : ℕ) → IsGap (front ++ last ∷ []) → IsGap front
gap_less front last (inl blank) = inl (all_front IsBlank front (last ∷ []) blank)
gap_less front last (inr one) =
    inl (subst (All IsBlank)
    (sym (nil_from_length front (omega (arith, one, length-append front (last ∷ [])))))
    (All-nil IsBlank))

begins_less : (is_torn : Bool) (blanks torn : List ℕ) (last : ℕ) → torn ≢ []
    → TornBegins is_torn blanks (torn ++ last ∷ []) → TornBegins is_torn blanks torn
begins_less true blanks torn last some h = h
begins_less false blanks [] last some h = absurd (some refl)
begins_less false blanks (x ∷ torn) last some h =
    let here : x ≡ h.1.0 = ap (λ (l : List ℕ). get_or l 0 0) h.1.2 in
    (h.0, (x, torn, refl, subst (λ b. ¬ IsBlank b) (sym here) h.1.3))

blanks_gap : (is_torn : Bool) (blanks : List ℕ) (last : ℕ) → TornBegins is_torn blanks (last ∷ [])
    → IsGap (blanks)
blanks_gap true blanks last h = inl (subst (All IsBlank) (sym h) (All-nil IsBlank))
blanks_gap false blanks last h = inl h.0

no_first : (is_torn : Bool) (blanks : List ℕ) → TornBegins is_torn blanks [] → IsGap blanks
no_first true blanks h = inl (subst (All IsBlank) (sym h) (All-nil IsBlank))
no_first false blanks h = inl h.0

-- with the decision whether a byte is a blank, and bytes a gap
pub is_blank : (byte : ℕ) → IsBlank byte ⊎ (¬ IsBlank byte)
is_blank byte = elim (cases_eq byte 10) [
  | inl e ↦ inl (inl e)
  | inr n ↦ elim (cases_eq byte 32) [
    | inl e ↦ inl (inr e)
    | inr m ↦ inr (λ b. elim b [ inl e ↦ n e | inr e ↦ m e ])
  ]
]

decided : (front : List ℕ) → IsGap front ⊎ (¬ IsGap front)
decided [] = inl (inl (All-nil IsBlank))
decided (x ∷ []) = inl (inr refl)
decided (x ∷ y ∷ xs) = elim (all_blank (x ∷ y ∷ xs)) [
  | inl blank ↦ inl (inl blank)
  | inr other ↦ inr (λ g. elim g [ inl blank ↦ other blank | inr one ↦ omega (arith, one) ])
]
  where
    all_blank : (xs : List ℕ) → All IsBlank xs ⊎ (¬ All IsBlank xs)
    all_blank [] = inl (All-nil IsBlank)
    all_blank (x ∷ xs) = elim (is_blank x) [
      | inr other ↦ inr (λ h. other (All-head IsBlank x xs h))
      | inl blank ↦ elim (all_blank xs) [
        | inl more ↦ inl (All-cons IsBlank x xs blank more)
        | inr other ↦ inr (λ h. other (All-tail IsBlank x xs h))
      ]
    ]

pub tail_less : (is_torn : Bool) (reach : ℕ) (front : List ℕ) (last : ℕ)
    → SomeTail is_torn reach (front ++ last ∷ []) → SomeTail is_torn reach front
tail_less is_torn reach front last t = elim (decided front) [
  | inl gap ↦ record { torn = None; left = reach_behind reach front; is = (gap, refl) }
  | inr no_gap ↦ torn_less t.torn t.left t.is no_gap
]
  where
    torn_less : (torn : Option (List ℕ)) (left : ℕ)
        → IsTail is_torn reach (front ++ last ∷ []) torn left → ¬ IsGap front
        → SomeTail is_torn reach front
    torn_less None left t no_gap = absurd (no_gap (gap_less front last t.0))
    torn_less (Some blanks) left t no_gap =
        let r = t.1 in
        elim (ended r.torn) [
          | inl none ↦
              absurd (no_gap (gap_less front last
              (subst IsGap
              (sym (append-nil blanks) ∙ ap (λ l. blanks ++ l) (sym none) ∙ sym r.split)
              (no_first is_torn blanks (subst (TornBegins is_torn blanks) none r.begins)))))
          | inr e ↦
              let same : front ≡ blanks ++ e.front =
              same_end front (blanks ++ e.front) last e.last
              (r.split ∙ ap (λ l. blanks ++ l) e.is
              ∙ sym (append_assoc blanks e.front (e.last ∷ []))) in
              let begins = subst (TornBegins is_torn blanks) e.is r.begins in
              let reached = r.reached in
              let size = ap length e.is ∙ length-append e.front (e.last ∷ []) in
              record {
                torn = Some blanks;
                left = reach_behind reach blanks - length e.front;
                is = (
                  no_gap,
                  record {
                    torn = e.front;
                    split = same;
                    begins = begins_less is_torn blanks e.front e.last
                        (λ none. no_gap (subst IsGap
                        (sym (append-nil blanks) ∙ ap (λ l. blanks ++ l) (sym none) ∙ sym same)
                        (blanks_gap is_torn blanks e.last
                        (subst (λ l. TornBegins is_torn blanks (l ++ e.last ∷ [])) none begins))))
                        begins;
                    reached = omega (arith, reached, size);
                    is_left = refl;
                  },
                );
              }
        ]

-- ---- a part without its last byte

longest_less : (front tail : List ℕ) (last : ℕ) → IsLongest front (tail ++ last ∷ [])
    → IsLongest front tail
longest_less front tail last longest =
    λ byte more e. longest byte (more ++ last ∷ []) (ap (λ l. l ++ last ∷ []) e)

head_less : (first : Bool) (head : Head) (front tail : List ℕ) (last : ℕ)
    → IsHead first head front (tail ++ last ∷ []) → IsHead first head front tail
head_less true nothing front tail last h = h
head_less true (whole one) front tail last h = h
head_less true begun front tail last h = h
head_less false nothing front tail last h = h
head_less false (whole one) front tail last h = h
head_less false begun front tail last h = (h.0, longest_less front tail last h.1)

part_less : (first : Bool) (front : List ℕ) (last : ℕ) → IsPart first (front ++ last ∷ [])
    → (first ≡ false → front ≢ []) → IsPart first front
part_less true front last h some = all_front IsNoBracket front (last ∷ []) h
part_less false [] last h some = absurd (some refl refl)
part_less false (x ∷ front) last h some =
    let here : x ≡ 91 = ap (λ (l : List ℕ). get_or l 0 0) h.1 in (
      front,
      ap (λ b. b ∷ front) here,
      all_front IsNoBracket front (last ∷ [])
          (subst (All IsNoBracket) (sym (ap (drop 1) h.1)) h.2),
    )

-- a part, read somehow behind what was read before
read_so : (earlier : List (List ℕ)) (before : LogRead) (head : Head) (front tail : List ℕ)
    → AreRead earlier before → IsPart (is_first earlier) (front ++ tail)
    → IsHead (is_first earlier) head front tail
    → SomeTail (is_begun head) (before.reach - length front) tail
    → IsOfLog (before.bytes ++ (front ++ tail))
read_so earlier before head front tail are part is_head t =
    let read : LogRead = record {
      bytes = before.bytes ++ (front ++ tail);
      entries = before.entries ++ entries_of head;
      told = before.told ++ before.last;
      last = torn_line head before.bytes front t.torn;
      reach = t.left;
    } in (
      read,
      record {
        part = front ++ tail;
        earlier = earlier;
        are = (
          before,
          are,
          record {
            is_part = part;
            head = head;
            front = front;
            tail = tail;
            torn = t.torn;
            split = refl;
            is_head = is_head;
            is_tail = t.is;
            bytes = refl;
            entries = refl;
            told = refl;
            last = refl;
          },
        );
        all = refl;
      },
    )

pub not_nil : (byte : ℕ) (more : List ℕ) → ◌≢◌ {A = List ℕ} [] (byte ∷ more)
not_nil byte more e = omega (arith, ap length e)

none_longest : (front : List ℕ) → IsLongest front []
none_longest front = λ byte more e. absurd (not_nil byte more e)

nothing_tail : (is_torn : Bool) (reach : ℕ) → SomeTail is_torn reach []
nothing_tail is_torn reach =
    record { torn = None; left = reach; is = (inl (All-nil IsBlank), refl) }

-- behind a bracket a part begins with some byte
front_some : (head : Head) (front tail : List ℕ) → IsHead false head front tail
    → IsPart false (front ++ tail) → front ≢ []
front_some nothing front tail h part e = absurd h
front_some (whole one) front tail h part e =
    let b = entry_bracket one front h in omega (arith, ap length e, ap length b.is)
front_some begun front tail h part e =
    let at : tail ≡ 91 ∷ part.0 = ap (λ l. l ++ tail) (sym e) ∙ part.1 in
    (h.1 91 part.0 at).1 (subst (λ l. IsUnfinishedEntry (l ++ 91 ∷ [])) (sym e) bracket_begins)

some_front : (front tail : List ℕ) → front ≢ [] → front ++ tail ≢ []
some_front [] tail some e = some refl
some_front (x ∷ front) tail some e = omega (arith, ap length e)

-- what begins an entry, and lacks its last byte, is the beginning of one
front_unfinished : (head : Head) (front tail : List ℕ) (last : ℕ)
    → IsHead false head (front ++ last ∷ []) tail → IsUnfinishedEntry front
front_unfinished nothing front tail last h = absurd h
front_unfinished (whole one) front tail last h =
    (last ∷ [], (one, h), λ e. omega (arith, ap length e))
front_unfinished begun front tail last h = unfinished_front front (last ∷ []) h.0

-- the front alone stood in the part
without_tail : (earlier : List (List ℕ)) (before : LogRead) (head : Head) (front x : List ℕ)
    (last byte : ℕ) → AreRead earlier before
    → IsPart (is_first earlier) ((front ++ last ∷ []) ++ [])
    → IsHead (is_first earlier) head (front ++ last ∷ []) []
    → x ++ byte ∷ [] ≡ before.bytes ++ (front ++ last ∷ []) → IsOfLog x
without_tail [] before nothing front x last byte are part h e =
    absurd (omega (arith, ap length h, length-append front (last ∷ [])))
without_tail [] before (whole one) front x last byte are part h e = absurd h
without_tail [] before begun front x last byte are part h e = absurd h
without_tail (p ∷ ps) before head [] x last byte are part h e =
    let same : before.bytes ≡ x = sym (same_end x before.bytes byte last e) in
    (before, record { part = p; earlier = ps; are = are; all = same })
without_tail (p ∷ ps) before head (f ∷ front) x last byte are part h e =
    let same : x ≡ before.bytes ++ (f ∷ front) =
    same_end x (before.bytes ++ (f ∷ front)) byte last
    (e ∙ sym (append_assoc before.bytes (f ∷ front) (last ∷ []))) in
    let lacks = front_unfinished head (f ∷ front) [] last h in
    let is_part : IsPart false ((f ∷ front) ++ []) =
    subst (IsPart false) (sym (append-nil (f ∷ front)))
    (part_less false (f ∷ front) last
    (subst (IsPart false) (append-nil ((f ∷ front) ++ last ∷ [])) part)
    (λ b none. omega (arith, ap length none))) in
    subst IsOfLog (ap (λ l. before.bytes ++ l) (append-nil (f ∷ front)) ∙ sym same)
    (read_so (p ∷ ps) before begun (f ∷ front) [] are is_part
    (lacks, none_longest (f ∷ front))
    (nothing_tail true (before.reach - length (f ∷ front))))

-- neither stood in it
nothing_read_yet : (earlier : List (List ℕ)) (before : LogRead) (x : List ℕ) (byte : ℕ)
    → AreRead earlier before → IsPart (is_first earlier) [] → x ++ byte ∷ [] ≡ before.bytes → ⊥
nothing_read_yet [] before x byte are part e =
    let none : before.bytes ≡ [] = ap (λ (r : LogRead). r.bytes) are in
    omega (arith, ap length e, ap length none, length-append x (byte ∷ []))
nothing_read_yet (p ∷ ps) before x byte are part e = not_nil 91 part.0 part.1

part_some : (earlier : List (List ℕ)) (head : Head) (front tail more : List ℕ)
    → IsHead (is_first earlier) head front more → IsPart (is_first earlier) (front ++ more)
    → is_first earlier ≡ false → front ++ tail ≢ []
part_some [] head front tail more h part e = cc
part_some (p ∷ ps) head front tail more h part e =
    some_front front tail (front_some head front more h part)

shorter : (x : List ℕ) (byte : ℕ) → IsOfLog (x ++ byte ∷ []) → IsOfLog x
shorter x byte is =
    let i = is.1 in
    let before = i.are.0 in
    let are = i.are.1 in
    let n = i.are.2 in
    let whole : x ++ byte ∷ [] ≡ before.bytes ++ (n.front ++ n.tail) =
    sym i.all ∙ n.bytes ∙ ap (λ l. before.bytes ++ l) n.split in
    let part = subst (IsPart (is_first i.earlier)) n.split n.is_part in
    elim (ended n.tail) [
      | inr e ↦
          let same : x ≡ before.bytes ++ (n.front ++ e.front) =
          same_end x (before.bytes ++ (n.front ++ e.front)) byte e.last
          (whole ∙ ap (λ l. before.bytes ++ (n.front ++ l)) e.is
          ∙ ap (λ l. before.bytes ++ l) (sym (append_assoc n.front e.front (e.last ∷ [])))
          ∙ sym (append_assoc before.bytes (n.front ++ e.front) (e.last ∷ []))) in
          let some = part_some i.earlier n.head n.front e.front n.tail n.is_head part in
          let is_part = part_less (is_first i.earlier) (n.front ++ e.front) e.last
          (subst (IsPart (is_first i.earlier))
          (ap (λ l. n.front ++ l) e.is ∙ sym (append_assoc n.front e.front (e.last ∷ []))) part)
          some in
          subst IsOfLog (sym same)
          (read_so i.earlier before n.head n.front e.front are is_part
          (head_less (is_first i.earlier) n.head n.front e.front e.last
          (subst (IsHead (is_first i.earlier) n.head n.front) e.is n.is_head))
          (tail_less (is_begun n.head) (before.reach - length n.front) e.front e.last
          (subst (SomeTail (is_begun n.head) (before.reach - length n.front)) e.is
          (record { torn = n.torn; left = is.0.reach; is = n.is_tail }))))
      | inl none ↦ elim (ended n.front) [
        | inl empty ↦
            let gone : n.front ++ n.tail ≡ [] = ap (λ l. l ++ n.tail) empty ∙ none in
            absurd (nothing_read_yet i.earlier before x byte are
            (subst (IsPart (is_first i.earlier)) gone part)
            (whole ∙ ap (λ l. before.bytes ++ l) gone ∙ append-nil before.bytes))
        | inr f ↦
            without_tail i.earlier before n.head f.front x f.last byte are
            (subst (IsPart (is_first i.earlier))
            (ap (λ l. l ++ n.tail) f.is ∙ ap (λ l. (f.front ++ f.last ∷ []) ++ l) none) part)
            (subst (λ l. IsHead (is_first i.earlier) n.head l []) f.is
            (subst (IsHead (is_first i.earlier) n.head n.front) none n.is_head))
            (whole ∙ ap (λ l. before.bytes ++ (n.front ++ l)) none
            ∙ ap (λ l. before.bytes ++ l) (append-nil n.front ∙ f.is))
      ]
    ]

pub front_is_log : (more front : List ℕ) → IsOfLog (front ++ more) → IsOfLog front
front_is_log [] front is = subst IsOfLog (append-nil front) is
front_is_log (byte ∷ more) front is =
    shorter front byte (front_is_log more (front ++ byte ∷ [])
    (subst IsOfLog (sym (append_assoc front (byte ∷ []) more)) is))
