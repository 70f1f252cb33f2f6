-- Logs at rest, one behind the other, are a log.
use Rattle.std.proofs.Common.{◌≡◌, ◌≢◌, ◌⊎◌, inl, inr, ℕ, ◌-◌, ◌≤◌, Bool, true, false, List, [], ◌∷◌, ◌++◌, length, Option, Some, None, ap, sym, ◌∙◌, refl, subst, arith, append-nil, append_assoc, length-append}
use Rattle.std.specs.Prelude.{◌==◌, if◌then◌else◌}
use Rattle.std.specs.List.{All, AllZip, concat}
use Rattle.std.proofs.lemmas.Bool.{cases_eq, true≢false}
use Rattle.std.proofs.lemmas.List.Elements.{All-append, All-cons, All-head, All-nil, All-tail}
use Rattle.nx_kept.specs.Kept.{IsBehindOpenGates}
use Rattle.nx_log.specs.Entries.{IsWholeEntry}
use Rattle.nx_log.specs.Logged.{IsLoggedAs}
use Rattle.nx_log.specs.Reading.{AreRead, Head, HoldEntriesToEnd, IsBlank, IsGap, IsHead, IsLogRead, IsNoBracket, IsPart, IsTail, LogRead, begun, entries_of, is_begun, is_first, nothing, nothing_read, reach_behind, whole}
use Rattle.nx_log.proofs.lemmas.reader.Begun.{bracket_begins}
use Rattle.nx_log.proofs.lemmas.reader.Steps.{are_read, with_part, part_more}
use Rattle.nx_log.proofs.lemmas.reader.Tails.{all_last, reach_append}
use Rattle.nx_log.proofs.lemmas.reading.Brackets.{entry_bracket}
use Rattle.nx_log.proofs.lemmas.reading.Fronts.{Ended, ended}
use Rattle.nx_copies.specs.copies.Shares.{MarkedCopy}
use Rattle.nx_watch.specs.Watch.{RestsWithEntries}
use Rattle.nx_left_on.specs.ReadBack.{all_of}

abbrev pub IsSpace : ℕ → Type 0
IsSpace byte = byte ≡ 32

-- ---- how far a space reaches

step_bounds : (byte reach : ℕ) → reach ≤ 4147
    → ((if byte == 32 then 4147 else reach - 1) ≤ 4147)
    × (reach - 1 ≤ (if byte == 32 then 4147 else reach - 1))
step_bounds byte reach h = elim (cases_eq byte 32) [
  | inl e ↦ rw e (omega arith, omega (arith, h))
  | inr n ↦ rw (other byte n) (omega (arith, h), omega arith)
]
  where
    other : (byte : ℕ) → byte ≢ 32 → (byte == 32) ≡ false
    other byte n = grind arith

-- it is 4,147 bytes at most, and each byte takes at most one
pub reach_most : (bytes : List ℕ) (reach : ℕ) → reach ≤ 4147 → reach_behind reach bytes ≤ 4147
reach_most [] reach h = h
reach_most (x ∷ xs) reach h =
    reach_most xs (if x == 32 then 4147 else reach - 1) (step_bounds x reach h).0

pub reach_least : (bytes : List ℕ) (reach : ℕ) → reach ≤ 4147
    → reach - length bytes ≤ reach_behind reach bytes
reach_least [] reach h = omega arith
reach_least (x ∷ xs) reach h =
    let s = step_bounds x reach h in
    let more = reach_least xs (if x == 32 then 4147 else reach - 1) s.0 in
    omega (arith, more, s.1)

-- behind a space it is all
pub reach_space : (bytes : List ℕ) (reach : ℕ) → reach_behind reach (bytes ++ 32 ∷ []) ≡ 4147
reach_space bytes reach = reach_append reach bytes (32 ∷ [])

-- ---- a part that is over

-- the bytes are read, and hold these entries
pub record Closed (bytes : List ℕ) (entries : List MarkedCopy) : Type 0 where
  pub read : LogRead
  pub is : IsLogRead bytes read
  pub are_entries : entries ≡ read.entries
  pub short : read.reach ≤ 4147

unfoldable pub close : (earlier : List (List ℕ)) (before : LogRead) (head : Head)
    (front tail : List ℕ) (torn : Option (List ℕ)) (left : ℕ) → AreRead earlier before
    → IsPart (is_first earlier) (front ++ tail) → IsHead (is_first earlier) head front tail
    → IsTail (is_begun head) (before.reach - length front) tail torn left → left ≤ 4147
    → Closed (before.bytes ++ (front ++ tail)) (before.entries ++ entries_of head)
close earlier before head front tail torn left are part is_head is_tail short = record {
  read = with_part before head front tail torn left;
  is = record {
    part = front ++ tail;
    earlier = earlier;
    are = are_read earlier before head front tail torn left are part is_head is_tail;
    all = refl;
  };
  are_entries = refl;
  short = short;
}

pub held_to_end : (bytes : List ℕ) (entries : List MarkedCopy) → Closed bytes entries
    → (torn : List ℕ) × HoldEntriesToEnd bytes entries torn
held_to_end bytes entries c = (
  c.read.told ++ c.read.last,
  record { read = c.read; is = c.is; are_entries = c.are_entries; are_torn = refl },
)

-- ---- a log at rest

-- Its last part has only spaces behind its entry, or before any.
pub record Rests (bytes : List ℕ) (entries : List MarkedCopy) : Type 0 where
  pub earlier : List (List ℕ)
  pub before : LogRead
  pub are : AreRead earlier before
  pub short : before.reach ≤ 4147
  pub head : Head
  pub front : List ℕ
  pub tail : List ℕ
  pub split : bytes ≡ before.bytes ++ (front ++ tail)
  pub is_part : IsPart (is_first earlier) (front ++ tail)
  pub is_head : IsHead (is_first earlier) head front tail
  pub not_begun : is_begun head ≡ false
  pub spaces : All IsSpace tail
  pub are_entries : entries ≡ before.entries ++ entries_of head

unfoldable pub rests_first : Rests [] []
rests_first = record {
  earlier = [];
  before = nothing_read;
  are = refl;
  short = omega arith;
  head = nothing;
  front = [];
  tail = [];
  split = refl;
  is_part = All-nil IsNoBracket;
  is_head = refl;
  not_begun = refl;
  spaces = All-nil IsSpace;
  are_entries = refl;
}

pub blanks_of : (bytes : List ℕ) → All IsSpace bytes → All IsBlank bytes
blanks_of [] h = All-nil IsBlank
blanks_of (x ∷ xs) h =
    All-cons IsBlank x xs (inr (All-head IsSpace x xs h))
    (blanks_of xs (All-tail IsSpace x xs h))

-- what stands behind an entry doesn't change it
pub head_more : (first : Bool) (head : Head) (front tail other : List ℕ) → is_begun head ≡ false
    → IsHead first head front tail → IsHead first head front other
head_more true nothing front tail other h k = k
head_more true (whole one) front tail other h k = absurd k
head_more true begun front tail other h k = absurd k
head_more false nothing front tail other h k = absurd k
head_more false (whole one) front tail other h k = k
head_more false begun front tail other h k = absurd (true≢false h)

-- with one byte more, no bracket, it is over
close_other : (bytes : List ℕ) (entries : List MarkedCopy) (byte : ℕ) (torn : Option (List ℕ))
    (left : ℕ) → byte ≢ 91 → (r : Rests bytes entries)
    → IsTail false (r.before.reach - length r.front) (r.tail ++ byte ∷ []) torn left
    → left ≤ 4147 → Closed (bytes ++ byte ∷ []) entries
close_other bytes entries byte torn left other r is_tail short =
    let tail = r.tail ++ byte ∷ [] in
    let part = subst (IsPart (is_first r.earlier)) (append_assoc r.front r.tail (byte ∷ []))
    (part_more (is_first r.earlier) (r.front ++ r.tail) (byte ∷ []) r.is_part
    (All-cons IsNoBracket byte [] other (All-nil IsNoBracket))) in
    let whole_of : r.before.bytes ++ (r.front ++ tail) ≡ bytes ++ byte ∷ [] =
    ap (λ l. r.before.bytes ++ l) (sym (append_assoc r.front r.tail (byte ∷ [])))
    ∙ sym (append_assoc r.before.bytes (r.front ++ r.tail) (byte ∷ []))
    ∙ ap (λ l. l ++ byte ∷ []) (sym r.split) in
    let is = subst (λ b. IsTail b (r.before.reach - length r.front) tail torn left)
    (sym r.not_begun) is_tail in
    subst (λ l. Closed l entries) whole_of
    (subst (Closed (r.before.bytes ++ (r.front ++ tail))) (sym r.are_entries)
    (close r.earlier r.before r.head r.front tail torn left r.are part
    (head_more (is_first r.earlier) r.head r.front r.tail tail r.not_begun r.is_head) is short))

-- as it stands it is over too
pub rest_closed : (bytes : List ℕ) (entries : List MarkedCopy) → Rests bytes entries
    → Closed bytes entries
rest_closed bytes entries r =
    let reach = r.before.reach - length r.front in
    let is : IsTail (is_begun r.head) reach r.tail None (reach_behind reach r.tail) =
    (inl (blanks_of r.tail r.spaces), refl) in
    subst (λ l. Closed l entries) (sym r.split)
    (subst (Closed (r.before.bytes ++ (r.front ++ r.tail))) (sym r.are_entries)
    (close r.earlier r.before r.head r.front r.tail None (reach_behind reach r.tail) r.are
    r.is_part r.is_head is
    (reach_most r.tail reach (omega (arith, r.short)))))

-- a bracket more, and nothing behind it
bracket_part : IsPart false (91 ∷ [])
bracket_part = ([], refl, All-nil IsNoBracket)

pub closed_bracket : (bytes : List ℕ) (entries : List MarkedCopy) → Closed bytes entries
    → Closed (bytes ++ 91 ∷ []) entries
closed_bracket bytes entries c =
    let all = close (c.is.part ∷ c.is.earlier) c.read begun (91 ∷ []) [] None (c.read.reach - 1)
    c.is.are bracket_part (
      bracket_begins,
      λ byte more e. absurd (omega (arith, ap length e)),
    ) (inl (All-nil IsBlank), refl) (omega (arith, c.short)) in
    subst (λ l. Closed (l ++ 91 ∷ []) entries) c.is.all
    (subst (Closed (c.read.bytes ++ 91 ∷ [])) (append-nil c.read.entries ∙ sym c.are_entries) all)

-- a gate may be any byte
pub rest_gate : (bytes : List ℕ) (entries : List MarkedCopy) (gate : ℕ) → Rests bytes entries
    → Closed (bytes ++ gate ∷ []) entries
rest_gate bytes entries gate r = elim (cases_eq gate 91) [
  | inl e ↦
      subst (λ g. Closed (bytes ++ g ∷ []) entries) (sym e)
      (closed_bracket bytes entries (rest_closed bytes entries r))
  | inr other ↦ elim (cases_eq gate 10) [
    | inl e ↦ blank other (inl e)
    | inr no_line ↦ elim (cases_eq gate 32) [
      | inl e ↦ blank other (inr e)
      | inr no_space ↦
          let no_blank : ¬ IsBlank gate = λ b. elim b [ inl e ↦ no_line e | inr e ↦ no_space e ] in
          behind other no_blank (ended r.tail)
    ]
  ]
]
  where
    reach : ℕ
    reach = r.before.reach - length r.front

    small : reach ≤ 4147
    small = omega (arith, r.short)

    blank : gate ≢ 91 → IsBlank gate → Closed (bytes ++ gate ∷ []) entries
    blank other is =
        let tail = r.tail ++ gate ∷ [] in
        let all : All IsBlank tail =
        All-append IsBlank r.tail (gate ∷ []) (blanks_of r.tail r.spaces)
        (All-cons IsBlank gate [] is (All-nil IsBlank)) in
        close_other bytes entries gate None (reach_behind reach tail) other r (inl all, refl)
        (reach_most tail reach small)

    behind : gate ≢ 91 → ¬ IsBlank gate → (r.tail ≡ []) ⊎ Ended r.tail
        → Closed (bytes ++ gate ∷ []) entries
    behind other no_blank (inl none) =
        let one : length (r.tail ++ gate ∷ []) ≡ 1 = ap (λ l. length (l ++ gate ∷ [])) none in
        close_other bytes entries gate None (reach_behind reach (r.tail ++ gate ∷ [])) other r
        (inr one, refl) (reach_most (r.tail ++ gate ∷ []) reach small)
    behind other no_blank (inr e) =
        let space : e.last ≡ 32 =
        all_last IsSpace e.front e.last (subst (All IsSpace) e.is r.spaces) in
        let at : reach_behind reach r.tail ≡ 4147 =
        ap (reach_behind reach) e.is ∙ ap (λ z. reach_behind reach (e.front ++ z ∷ [])) space
        ∙ reach_space e.front reach in
        let tail = r.tail ++ gate ∷ [] in
        let long : 2 ≤ length tail =
        omega (
          arith,
          length-append r.tail (gate ∷ []),
          ap length e.is,
          length-append e.front (e.last ∷ []),
        ) in
        let no_gap : ¬ IsGap tail =
        λ g. elim g [
          | inl all ↦ no_blank (all_last IsBlank r.tail gate all)
          | inr one ↦ omega (arith, one, long)
        ] in
        close_other bytes entries gate (Some r.tail) (reach_behind reach r.tail - 1) other r (
          no_gap,
          record {
            torn = gate ∷ [];
            split = refl;
            begins = (blanks_of r.tail r.spaces, (gate, [], refl, no_blank));
            reached = omega (arith, at);
            is_left = refl;
          },
        ) (omega (arith, at))

-- an entry behind what is read
pub then_entry : (bytes text : List ℕ) (entries : List MarkedCopy) (one : MarkedCopy)
    → Closed bytes entries → IsLoggedAs one text → Rests (bytes ++ text) (entries ++ one ∷ [])
then_entry bytes text entries one c l =
    let o = entry_bracket one text l in
    let same = sym (append-nil text) in
    record {
      earlier = c.is.part ∷ c.is.earlier;
      before = c.read;
      are = c.is.are;
      short = c.short;
      head = whole one;
      front = text;
      tail = [];
      split = ap (λ l. l ++ text) (sym c.is.all) ∙ ap (λ l. c.read.bytes ++ l) same;
      is_part = subst (IsPart false) same (o.more, o.is, o.none);
      is_head = l;
      not_begun = refl;
      spaces = All-nil IsSpace;
      are_entries = ap (λ l. l ++ one ∷ []) c.are_entries;
    }

-- a space more
unfoldable pub rest_space : (bytes : List ℕ) (entries : List MarkedCopy) → Rests bytes entries
    → Rests (bytes ++ 32 ∷ []) entries
rest_space bytes entries r = record {
  earlier = r.earlier;
  before = r.before;
  are = r.are;
  short = r.short;
  head = r.head;
  front = r.front;
  tail = r.tail ++ 32 ∷ [];
  split = ap (λ l. l ++ 32 ∷ []) r.split
      ∙ append_assoc r.before.bytes (r.front ++ r.tail) (32 ∷ [])
      ∙ ap (λ l. r.before.bytes ++ l) (append_assoc r.front r.tail (32 ∷ []));
  is_part = subst (IsPart (is_first r.earlier)) (append_assoc r.front r.tail (32 ∷ []))
      (part_more (is_first r.earlier) (r.front ++ r.tail) (32 ∷ []) r.is_part
      (All-cons IsNoBracket 32 [] (λ e. omega (arith, e)) (All-nil IsNoBracket)));
  is_head = head_more (is_first r.earlier) r.head r.front r.tail (r.tail ++ 32 ∷ [])
      r.not_begun r.is_head;
  not_begun = r.not_begun;
  spaces = All-append IsSpace r.tail (32 ∷ []) r.spaces
      (All-cons IsSpace 32 [] refl (All-nil IsSpace));
  are_entries = r.are_entries;
}

-- the entries of a kept log more
pub rest_kept : (entries : List MarkedCopy) (texts : List (List ℕ)) (front bytes : List ℕ)
    (so_far : List MarkedCopy) → AllZip IsLoggedAs entries texts
    → IsBehindOpenGates IsWholeEntry texts front → Rests bytes so_far
    → Rests (bytes ++ front) (so_far ++ entries)
rest_kept [] [] front bytes so_far each k r =
    let same : bytes ≡ bytes ++ front =
    sym (append-nil bytes) ∙ ap (λ l. bytes ++ l) (sym k) in
    subst (λ l. Rests l (so_far ++ [])) same
    (subst (Rests bytes) (sym (append-nil so_far)) r)
rest_kept [] (t ∷ ts) front bytes so_far each k r = absurd each
rest_kept (one ∷ entries) [] front bytes so_far each k r = absurd each
rest_kept (one ∷ entries) (t ∷ ts) front bytes so_far each k r =
    let gate = rest_gate bytes so_far k.0 r in
    let entry = then_entry (bytes ++ k.0 ∷ []) t so_far one gate each.0 in
    let all = rest_kept entries ts k.1 ((bytes ++ k.0 ∷ []) ++ t) (so_far ++ one ∷ []) each.1 k.5
    entry in
    let same : ((bytes ++ k.0 ∷ []) ++ t) ++ k.1 ≡ bytes ++ front =
    append_assoc (bytes ++ k.0 ∷ []) t k.1 ∙ append_assoc bytes (k.0 ∷ []) (t ++ k.1)
    ∙ ap (λ l. bytes ++ l) (sym k.4) in
    subst (λ l. Rests l (so_far ++ (one ∷ entries))) same
    (subst (Rests (((bytes ++ k.0 ∷ []) ++ t) ++ k.1))
    (append_assoc so_far (one ∷ []) entries) all)

-- a log at rest more, and several
pub rest_file : (entries so_far : List MarkedCopy) (file bytes : List ℕ)
    → RestsWithEntries entries file → Rests bytes so_far → Rests (bytes ++ file) (so_far ++ entries)
rest_file entries so_far file bytes w r =
    let kept = rest_kept entries w.texts w.front bytes so_far w.each w.kept r in
    subst (λ l. Rests l (so_far ++ entries))
    (append_assoc bytes w.front (32 ∷ []) ∙ ap (λ l. bytes ++ l) (sym w.whole))
    (rest_space (bytes ++ w.front) (so_far ++ entries) kept)

pub rest_files : (logs : List (List MarkedCopy)) (files : List (List ℕ))
    (so_far : List MarkedCopy) (bytes : List ℕ) → AllZip RestsWithEntries logs files
    → Rests bytes so_far → Rests (bytes ++ concat files) (so_far ++ all_of logs)
rest_files [] [] so_far bytes each r =
    subst (λ l. Rests l (so_far ++ [])) (sym (append-nil bytes))
    (subst (Rests bytes) (sym (append-nil so_far)) r)
rest_files [] (f ∷ files) so_far bytes each r = absurd each
rest_files (es ∷ logs) [] so_far bytes each r = absurd each
rest_files (es ∷ logs) (f ∷ files) so_far bytes each r =
    let first = rest_file es so_far f bytes each.0 r in
    let all = rest_files logs files (so_far ++ es) (bytes ++ f) each.1 first in
    subst (λ l. Rests l (so_far ++ all_of (es ∷ logs))) (append_assoc bytes f (concat files))
    (subst (Rests ((bytes ++ f) ++ concat files)) (append_assoc so_far es (all_of logs)) all)
