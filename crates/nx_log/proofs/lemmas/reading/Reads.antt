-- Bytes are read in one way.
use Rattle.std.proofs.Common.{◌≡◌, inl, inr, ℕ, ◌+◌, ◌≤◌, List, ◌++◌, take, drop, ap, sym, ◌∙◌, subst, arith}
use Rattle.std.proofs.lemmas.Bool.{cases_lt}
use Rattle.std.proofs.lemmas.List.{take-append-drop, take-take}
use Rattle.nx_copies.specs.copies.Shares.{MarkedCopy}
use Rattle.nx_log.specs.Reading.{HoldEntries, HoldEntriesToEnd, IsLogRead, IsOfLog, LogRead, StopAtLine, line_behind}
use Rattle.nx_log.proofs.lemmas.reading.Parts.{same_read}
use Rattle.nx_log.proofs.lemmas.reading.Fronts.{front_is_log}

pub one_log : (bytes : List ℕ) (a b : LogRead) → IsLogRead bytes a → IsLogRead bytes b → a ≡ b
one_log bytes a b h k =
    same_read h.part k.part h.earlier k.earlier a b h.are k.are (h.all ∙ sym k.all)

pub record SameHeld (entries others : List MarkedCopy) (torn lines : List ℕ) : Type 0 where
  pub entries_are : entries ≡ others
  pub torn_are : torn ≡ lines

pub same_held : (entries others : List MarkedCopy) (torn lines bytes : List ℕ)
    → HoldEntries bytes entries torn → HoldEntries bytes others lines
    → SameHeld entries others torn lines
same_held entries others torn lines bytes h k =
    let same = one_log bytes h.read k.read h.is k.is in
    record {
      entries_are = h.are_entries ∙ ap (λ (r : LogRead). r.entries) same ∙ sym k.are_entries;
      torn_are = h.are_torn ∙ ap (λ (r : LogRead). r.told) same ∙ sym k.are_torn;
    }

pub same_at_end : (entries others : List MarkedCopy) (torn lines bytes : List ℕ)
    → HoldEntriesToEnd bytes entries torn → HoldEntriesToEnd bytes others lines
    → SameHeld entries others torn lines
same_at_end entries others torn lines bytes h k =
    let same = one_log bytes h.read k.read h.is k.is in
    record {
      entries_are = h.are_entries ∙ ap (λ (r : LogRead). r.entries) same ∙ sym k.are_entries;
      torn_are = h.are_torn ∙ ap (λ (r : LogRead). r.told ++ r.last) same ∙ sym k.are_torn;
    }

-- ---- one line

pub hold_is_log : (bytes : List ℕ) (entries : List MarkedCopy) (torn : List ℕ)
    → HoldEntries bytes entries torn → IsOfLog bytes
hold_is_log bytes entries torn h = (h.read, h.is)

pub less_is_log : (bytes : List ℕ) (n : ℕ) → IsOfLog bytes → IsOfLog (take n bytes)
less_is_log bytes n is =
    front_is_log (drop n bytes) (take n bytes)
    (subst IsOfLog (sym (take-append-drop n bytes)) is)

-- a place with which bytes are no log isn't behind another
not_behind : (bytes : List ℕ) (p q : ℕ) → ¬ IsOfLog (take (p + 1) bytes) → IsOfLog (take q bytes)
    → q ≤ p
not_behind bytes p q bad good =
    elim (cases_lt p q) [
      | inr within ↦ within
      | inl behind ↦
          let less : p + 1 ≤ q = omega arith in
          absurd (bad (subst IsOfLog (take-take (p + 1) q bytes less)
          (less_is_log (take q bytes) (p + 1) good)))
    ]

pub one_line : (entries others : List MarkedCopy) (torn lines bytes : List ℕ) (line other : ℕ)
    → StopAtLine bytes entries torn line → StopAtLine bytes others lines other → line ≡ other
one_line entries others torn lines bytes line other s t =
    let first = not_behind bytes s.place t.place s.bad_with_it
    (hold_is_log _ others lines t.good_before) in
    let last = not_behind bytes t.place s.place t.bad_with_it
    (hold_is_log _ entries torn s.good_before) in
    let place : s.place ≡ t.place = omega arith in
    s.is_line ∙ ap (λ n. line_behind (take n bytes)) place ∙ sym t.is_line

pub stopped_once : (entries others : List MarkedCopy) (torn lines bytes : List ℕ) (line : ℕ)
    → StopAtLine bytes entries torn line → ¬ HoldEntries bytes others lines
stopped_once entries others torn lines bytes line s h =
    s.bad_with_it (less_is_log bytes (s.place + 1) (hold_is_log bytes others lines h))
