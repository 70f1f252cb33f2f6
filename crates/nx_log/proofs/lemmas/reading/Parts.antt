-- A part of a log is read in one way.
use Rattle.std.proofs.Common.{◌≡◌, inl, inr, ℕ, ◌-◌, Bool, true, false, List, [], ◌∷◌, ◌++◌, get_or, drop, length, Option, Some, None, ap, sym, ◌∙◌, refl, subst, arith, append-nil, append_assoc, length-append}
use Rattle.std.specs.List.{All}
use Rattle.std.proofs.lemmas.List.Elements.{All-head, All-tail}
use Rattle.std.proofs.lemmas.List.{append_cancel_left, nil_from_length}
use Rattle.nx_copies.specs.copies.Shares.{MarkedCopy}
use Rattle.nx_log.specs.Entries.{IsUnfinishedEntry}
use Rattle.nx_log.specs.Logged.{IsLoggedAs}
use Rattle.nx_log.specs.Reading.{AreRead, Head, IsHead, IsLongest, IsNext, IsNoBracket, IsPart, IsTail, LogRead, begun, entries_of, is_begun, nothing, nothing_read, reach_behind, torn_line, whole}
use Rattle.nx_log.proofs.lemmas.beginnings.Lists.{one_extends, some_elements}
use Rattle.nx_log.proofs.lemmas.reader.Begun.{unfinished_begins_none, whole_or_more}
use Rattle.nx_log.proofs.lemmas.reader.Tails.{same_torn}
use Rattle.nx_log.proofs.lemmas.reading.Entries.{one_entry}

-- ---- what a part begins with

-- some first bytes of the beginning of an entry are the beginning of one
pub unfinished_front : (front more : List ℕ) → IsUnfinishedEntry (front ++ more)
    → IsUnfinishedEntry front
unfinished_front front more u =
    let some = some_elements u.0 u.2 in (
      more ++ u.0,
      (u.1.0, subst (IsLoggedAs u.1.0) (append_assoc front more u.0) u.1.1),
      λ e. omega (arith, ap length e, some, length-append more u.0),
    )

-- an entry isn't the longest beginning of one, nor begins it
not_both : (one : MarkedCopy) (f g t u : List ℕ) → IsLoggedAs one f → IsUnfinishedEntry g
    → IsLongest g u → f ++ t ≡ g ++ u → ⊥
not_both one f g t u is lacks longest e = elim (one_extends f g t u e) [
  | inl x ↦ unfinished_begins_none g lacks
      (record { one = one; entry = f; rest = x.more; is_entry = is; split = x.is })
  | inr x ↦ behind x.more x.is
]
  where
    behind : (more : List ℕ) → f ≡ g ++ more → ⊥
    behind [] x = unfinished_begins_none g lacks (record {
      one = one;
      entry = f;
      rest = [];
      is_entry = is;
      split = sym (append-nil g) ∙ sym x ∙ sym (append-nil f);
    })
    behind (byte ∷ more) x =
        let rest : u ≡ byte ∷ (more ++ t) =
        append_cancel_left g u (byte ∷ (more ++ t))
        (sym e ∙ ap (λ l. l ++ t) x ∙ append_assoc g (byte ∷ more) t) in
        let step : f ≡ (g ++ byte ∷ []) ++ more = x ∙ sym (append_assoc g (byte ∷ []) more) in
        elim (whole_or_more (g ++ byte ∷ []) more one (subst (IsLoggedAs one) step is)) [
          | inl is_whole ↦ (longest byte (more ++ t) rest).0 is_whole
          | inr is_part ↦ (longest byte (more ++ t) rest).1 is_part
        ]

-- of two longest beginnings none is longer
not_longer : (f g t u more : List ℕ) → IsLongest f t → IsUnfinishedEntry g → f ++ t ≡ g ++ u
    → g ≡ f ++ more → more ≡ []
not_longer f g t u [] longest lacks e x = refl
not_longer f g t u (byte ∷ more) longest lacks e x =
    let rest : t ≡ byte ∷ (more ++ u) =
    append_cancel_left f t (byte ∷ (more ++ u))
    (e ∙ ap (λ l. l ++ u) x ∙ append_assoc f (byte ∷ more) u) in
    let step : g ≡ (f ++ byte ∷ []) ++ more = x ∙ sym (append_assoc f (byte ∷ []) more) in
    absurd ((longest byte (more ++ u) rest).1
    (unfinished_front (f ++ byte ∷ []) more (subst IsUnfinishedEntry step lacks)))

pub record SameHead (a b : Head) (f g t u : List ℕ) : Type 0 where
  pub head : a ≡ b
  pub front : f ≡ g
  pub tail : t ≡ u

same_begun : (f g t u : List ℕ) → IsUnfinishedEntry f → IsLongest f t → IsUnfinishedEntry g
    → IsLongest g u → f ++ t ≡ g ++ u → SameHead begun begun f g t u
same_begun f g t u lf hf lg hg e =
    let same : f ≡ g = elim (one_extends f g t u e) [
      | inl x ↦
          sym (append-nil f) ∙ ap (λ l. f ++ l) (sym (not_longer f g t u x.more hf lg e x.is))
          ∙ sym x.is
      | inr x ↦
          x.is ∙ ap (λ l. g ++ l) (not_longer g f u t x.more hg lf (sym e) x.is) ∙ append-nil g
    ] in
    record {
      head = refl;
      front = same;
      tail = append_cancel_left g t u (ap (λ l. l ++ t) (sym same) ∙ e);
    }

pub same_head : (first : Bool) (a b : Head) (f g t u : List ℕ) → IsHead first a f t
    → IsHead first b g u → f ++ t ≡ g ++ u → SameHead a b f g t u
same_head true nothing nothing f g t u h k e = record {
  head = refl;
  front = h ∙ sym k;
  tail = ap (λ l. l ++ t) (sym h) ∙ e ∙ ap (λ l. l ++ u) k;
}
same_head true nothing (whole other) f g t u h k e = absurd k
same_head true nothing begun f g t u h k e = absurd k
same_head true (whole one) b f g t u h k e = absurd h
same_head true begun b f g t u h k e = absurd h
same_head false nothing b f g t u h k e = absurd h
same_head false (whole one) nothing f g t u h k e = absurd k
same_head false (whole one) (whole other) f g t u h k e =
    let same = one_entry one other f g t u h k e in
    let size : length f ≡ length g = omega (
      arith,
      ap length e,
      ap length same.rest,
      length-append f t,
      length-append g u,
    ) in
    record {
      head = ap whole same.entry;
      front = elim (one_extends f g t u e) [
        | inl x ↦
            let none : x.more ≡ [] =
            nil_from_length x.more (omega (arith, ap length x.is, size, length-append f x.more)) in
            sym (append-nil f) ∙ ap (λ l. f ++ l) (sym none) ∙ sym x.is
        | inr x ↦
            let none : x.more ≡ [] =
            nil_from_length x.more (omega (arith, ap length x.is, size, length-append g x.more)) in
            x.is ∙ ap (λ l. g ++ l) none ∙ append-nil g
      ];
      tail = same.rest;
    }
same_head false (whole one) begun f g t u h k e = absurd (not_both one f g t u h k.0 k.1 e)
same_head false begun nothing f g t u h k e = absurd k
same_head false begun (whole other) f g t u h k e =
    absurd (not_both other g f u t k h.0 h.1 (sym e))
same_head false begun begun f g t u h k e = same_begun f g t u h.0 h.1 k.0 k.1 e

-- ---- its tail

pub record SameTail (a b : Option (List ℕ)) (m n : ℕ) : Type 0 where
  pub torn : a ≡ b
  pub left : m ≡ n

pub same_tail : (is_torn : Bool) (reach : ℕ) (tail : List ℕ) (a b : Option (List ℕ)) (m n : ℕ)
    → IsTail is_torn reach tail a m → IsTail is_torn reach tail b n → SameTail a b m n
same_tail is_torn reach tail None None m n h k = record { torn = refl; left = h.1 ∙ sym k.1 }
same_tail is_torn reach tail None (Some y) m n h k = absurd (k.0 h.0)
same_tail is_torn reach tail (Some x) None m n h k = absurd (h.0 k.0)
same_tail is_torn reach tail (Some x) (Some y) m n h k =
    let r = h.1 in
    let s = k.1 in
    let same = same_torn is_torn x y r.torn s.torn r.begins s.begins (sym r.split ∙ s.split) in
    record {
      torn = ap Some same.blanks;
      left = r.is_left ∙ ap (λ l. reach_behind reach l - length r.torn) same.blanks
          ∙ ap (λ l. reach_behind reach y - length l) same.torn ∙ sym s.is_left;
    }

-- ---- the part

abbrev log_read : List ℕ → List MarkedCopy → List ℕ → List ℕ → ℕ → LogRead
log_read bytes entries told last reach =
    record { bytes = bytes; entries = entries; told = told; last = last; reach = reach }

pub same_next : (first : Bool) (before : LogRead) (part : List ℕ) (a b : LogRead)
    → IsNext first before part a → IsNext first before part b → a ≡ b
same_next first before part a b n m =
    let head = same_head first n.head m.head n.front m.front n.tail m.tail n.is_head m.is_head
    (sym n.split ∙ m.split) in
    let is_tail : IsTail (is_begun m.head) (before.reach - length m.front) m.tail n.torn a.reach =
    subst (λ t. IsTail (is_begun m.head) (before.reach - length m.front) t n.torn a.reach) head.tail
    (subst (λ f. IsTail (is_begun m.head) (before.reach - length f) n.tail n.torn a.reach)
    head.front
    (subst (λ h. IsTail (is_begun h) (before.reach - length n.front) n.tail n.torn a.reach)
    head.head n.is_tail)) in
    let tail = same_tail (is_begun m.head) (before.reach - length m.front) m.tail n.torn m.torn
    a.reach b.reach is_tail m.is_tail in
    let bytes : a.bytes ≡ b.bytes = n.bytes ∙ sym m.bytes in
    let entries : a.entries ≡ b.entries =
    n.entries ∙ ap (λ h. before.entries ++ entries_of h) head.head ∙ sym m.entries in
    let told : a.told ≡ b.told = n.told ∙ sym m.told in
    let last : a.last ≡ b.last =
    n.last ∙ ap (λ h. torn_line h before.bytes n.front n.torn) head.head
    ∙ ap (λ f. torn_line m.head before.bytes f n.torn) head.front
    ∙ ap (λ t. torn_line m.head before.bytes m.front t) tail.torn ∙ sym m.last in
    let reach : a.reach ≡ b.reach = tail.left in
    let same : log_read a.bytes a.entries a.told a.last a.reach
    ≡ log_read b.bytes b.entries b.told b.last b.reach =
    rw (bytes, entries, told, last, reach) refl in same

-- ---- the parts

-- a bracket stands where none does
pub none_there : (front more : List ℕ) → All IsNoBracket (front ++ (91 ∷ more)) → ⊥
none_there [] more h = All-head IsNoBracket 91 more h refl
none_there (x ∷ front) more h = none_there front more (All-tail IsNoBracket x _ h)

pub record SameSplit (x y m n : List ℕ) : Type 0 where
  pub front : x ≡ y
  pub back : m ≡ n

pub last_bracket : (x y m n : List ℕ) → All IsNoBracket m → All IsNoBracket n
    → x ++ (91 ∷ m) ≡ y ++ (91 ∷ n) → SameSplit x y m n
last_bracket [] [] m n h k e = record { front = refl; back = ap (drop 1) e }
last_bracket [] (c ∷ y) m n h k e =
    absurd (none_there y n (subst (All IsNoBracket) (ap (drop 1) e) h))
last_bracket (c ∷ x) [] m n h k e =
    absurd (none_there x m (subst (All IsNoBracket) (sym (ap (drop 1) e)) k))
last_bracket (c ∷ x) (d ∷ y) m n h k e =
    let here : c ≡ d = ap (λ (l : List ℕ). get_or l 0 0) e in
    let more = last_bracket x y m n h k (ap (drop 1) e) in
    record {
      front = ap (λ l. l ∷ x) here ∙ ap (λ l. d ∷ l) more.front;
      back = more.back;
    }

-- bytes without a bracket aren't read in two parts
pub not_in_two : (a b before : LogRead) (part other : List ℕ) → IsPart true part
    → a.bytes ≡ nothing_read.bytes ++ part → IsPart false other
    → b.bytes ≡ before.bytes ++ other → a.bytes ≡ b.bytes → ⊥
not_in_two a b before part other none is brackets are e =
    none_there before.bytes brackets.0
    (subst (All IsNoBracket)
    (sym is ∙ e ∙ are ∙ ap (λ l. before.bytes ++ l) brackets.1) none)

pub same_read : (part other : List ℕ) (ps qs : List (List ℕ)) (a b : LogRead)
    → AreRead (part ∷ ps) a → AreRead (other ∷ qs) b → a.bytes ≡ b.bytes → a ≡ b
same_read part other [] [] a b r s e =
    let n = subst (λ l. IsNext true l part a) r.1 r.2 in
    let m = subst (λ l. IsNext true l other b) s.1 s.2 in
    let same : part ≡ other = sym n.bytes ∙ e ∙ m.bytes in
    same_next true nothing_read part a b n (subst (λ p. IsNext true nothing_read p b) (sym same) m)
same_read part other [] (q ∷ qs) a b r s e =
    let n = subst (λ l. IsNext true l part a) r.1 r.2 in
    absurd (not_in_two a b s.0 part other n.is_part n.bytes s.2.is_part s.2.bytes e)
same_read part other (p ∷ ps) [] a b r s e =
    let m = subst (λ l. IsNext true l other b) s.1 s.2 in
    absurd (not_in_two b a r.0 other part m.is_part m.bytes r.2.is_part r.2.bytes (sym e))
same_read part other (p ∷ ps) (q ∷ qs) a b r s e =
    let n = r.2 in
    let m = s.2 in
    let split = last_bracket r.0.bytes s.0.bytes n.is_part.0 m.is_part.0 n.is_part.2
    m.is_part.2
    (ap (λ l. r.0.bytes ++ l) (sym n.is_part.1) ∙ sym n.bytes ∙ e ∙ m.bytes
    ∙ ap (λ l. s.0.bytes ++ l) m.is_part.1) in
    let earlier = same_read p q ps qs r.0 s.0 r.1 s.1 split.front in
    let same : other ≡ part =
    m.is_part.1 ∙ ap (λ l. 91 ∷ l) (sym split.back) ∙ sym n.is_part.1 in
    same_next false r.0 part a b n
    (subst (λ p. IsNext false r.0 p b) same (subst (λ l. IsNext false l other b) (sym earlier) m))
