-- The lines of a message have one fault, or none.
use Rattle.std.proofs.Common.{◌≡◌, ℕ, ◌+◌, ◌<◌, ◌≤◌, List, [], length, take, get_or, inl, inr, ap}
use Rattle.std.proofs.Common.{sym, ◌∙◌, subst, refl, arith}
use Rattle.std.specs.Prelude.{All}
use Rattle.std.proofs.lemmas.List.{get_or-take, length-take}
use Rattle.std.proofs.lemmas.Bool.{cases_lt}
use Rattle.nx_envelope.specs.Message.{IsMessageLine, IsLineByte, IsFirstBadByte, IsLineFault}
use Rattle.nx_envelope.specs.Message.{IsFirstLineFault, IsMessageFault, AreLines}
use Rattle.nx_envelope.specs.declared.message.MessageFault.{MessageFault}
use Rattle.nx_envelope.specs.declared.message.MessageFault.TheVariants.{LongLine, BadCharacter}
use Rattle.nx_envelope.specs.declared.message.MessageFault.TheVariants.{Reserved, LongText, Memory}
use Rattle.nx_station.specs.MessageFile.{IsOfLines}

-- what holds of all before one place holds at a place before it
at_front : {X : Type 0} (P : X → Type 0) (xs : List X) (i j : ℕ) (d : X) → i < j → j ≤ length xs
    → All P (take j xs) → P (get_or xs i d)
at_front P xs i j d lt within h =
    subst P (get_or-take j xs i d lt) (h i d (omega (arith, length-take j xs)))

one_place : (a b : ℕ) → (a < b → ⊥) → (b < a → ⊥) → a ≡ b
one_place a b h k = elim (cases_lt a b) [
  | inl lt ↦ absurd (h lt)
  | inr ge ↦ elim (cases_lt b a) [
    | inl lt ↦ absurd (k lt)
    | inr other ↦ omega arith
  ]
]

-- a line with a fault is none of a message
good-none : (n : ℕ) (line : List ℕ) (fault : MessageFault) → IsLineFault n line fault
    → IsMessageLine line → ⊥
good-none n line (LongLine m) h good = absurd (omega (arith, h.1, good.fits))
good-none n line (BadCharacter m at) h good = h.2.bad (good.in_code at 0 h.2.within)
good-none n line (Reserved m) h good = good.unreserved h.3
good-none n line LongText h good = h
good-none n line (Memory e) h good = h

-- the first bad byte stands at one place
one_byte : (line : List ℕ) (a b : ℕ) → IsFirstBadByte line a → IsFirstBadByte line b → a ≡ b
one_byte line a b h k =
    let not_before : a < b → ⊥ =
    λ lt. h.bad (at_front IsLineByte line a b 0 lt (omega (arith, k.within)) k.good_before) in
    let not_behind : b < a → ⊥ =
    λ lt. k.bad (at_front IsLineByte line b a 0 lt (omega (arith, h.within)) h.good_before) in
    one_place a b not_before not_behind

-- a line has one fault
one_fault : (n : ℕ) (line : List ℕ) (a b : MessageFault) → IsLineFault n line a
    → IsLineFault n line b → a ≡ b
one_fault n line (LongLine i) (LongLine j) h k = ap LongLine (h.0 ∙ sym k.0)
one_fault n line (LongLine i) (BadCharacter j y) h k = absurd (omega (arith, h.1, k.1))
one_fault n line (LongLine i) (Reserved j) h k = absurd (omega (arith, h.1, k.1))
one_fault n line (BadCharacter i x) (LongLine j) h k = absurd (omega (arith, h.1, k.1))
one_fault n line (BadCharacter i x) (BadCharacter j y) h k = let p = h.0 ∙ sym k.0 in let q =
    one_byte line x y h.2 k.2 in cc
one_fault n line (BadCharacter i x) (Reserved j) h k = absurd (h.2.bad (k.2 x 0 h.2.within))
one_fault n line (Reserved i) (LongLine j) h k = absurd (omega (arith, h.1, k.1))
one_fault n line (Reserved i) (BadCharacter j y) h k = absurd (k.2.bad (h.2 y 0 k.2.within))
one_fault n line (Reserved i) (Reserved j) h k = ap Reserved (h.0 ∙ sym k.0)
one_fault n line LongText b h k = absurd h
one_fault n line (Memory e) b h k = absurd h
one_fault n line a LongText h k = absurd k
one_fault n line a (Memory e) h k = absurd k

-- of several lines the first that has a fault, and its fault, are one
one_line_fault : (lines : List (List ℕ)) (a b : MessageFault) → IsFirstLineFault lines a
    → IsFirstLineFault lines b → a ≡ b
one_line_fault lines a b h k =
    let not_before : h.at < k.at → ⊥ =
    λ lt. good-none (h.at + 1) (get_or lines h.at []) a h.here
    (at_front IsMessageLine lines h.at k.at [] lt (omega (arith, k.within)) k.good_before) in
    let not_behind : k.at < h.at → ⊥ =
    λ lt. good-none (k.at + 1) (get_or lines k.at []) b k.here
    (at_front IsMessageLine lines k.at h.at [] lt (omega (arith, h.within)) h.good_before) in
    let same : h.at ≡ k.at = one_place h.at k.at not_before not_behind in
    one_fault (k.at + 1) (get_or lines k.at []) a b
    (subst (λ i. IsLineFault (i + 1) (get_or lines i []) a) same h.here) k.here

-- lines that are all good have no fault of a line
none_of_good : (lines : List (List ℕ)) (a : MessageFault) → All IsMessageLine lines
    → IsFirstLineFault lines a → ⊥
none_of_good lines a good h =
    good-none (h.at + 1) (get_or lines h.at []) a h.here (good h.at [] h.within)

-- lines have one fault
pub one_of_lines : (lines : List (List ℕ)) (a b : MessageFault) → IsOfLines a → IsOfLines b
    → IsMessageFault lines a → IsMessageFault lines b → a ≡ b
one_of_lines lines (Memory e) b p q h k = absurd p
one_of_lines lines a (Memory e) p q h k = absurd q
one_of_lines lines LongText LongText p q h k = refl
one_of_lines lines LongText (LongLine j) p q h k = absurd (none_of_good lines (LongLine j) h.0 k)
one_of_lines lines LongText (BadCharacter j y) p q h k =
    absurd (none_of_good lines (BadCharacter j y) h.0 k)
one_of_lines lines LongText (Reserved j) p q h k = absurd (none_of_good lines (Reserved j) h.0 k)
one_of_lines lines (LongLine i) LongText p q h k = absurd (none_of_good lines (LongLine i) k.0 h)
one_of_lines lines (LongLine i) (LongLine j) p q h k =
    one_line_fault lines (LongLine i) (LongLine j) h k
one_of_lines lines (LongLine i) (BadCharacter j y) p q h k =
    one_line_fault lines (LongLine i) (BadCharacter j y) h k
one_of_lines lines (LongLine i) (Reserved j) p q h k =
    one_line_fault lines (LongLine i) (Reserved j) h k
one_of_lines lines (BadCharacter i x) LongText p q h k =
    absurd (none_of_good lines (BadCharacter i x) k.0 h)
one_of_lines lines (BadCharacter i x) (LongLine j) p q h k =
    one_line_fault lines (BadCharacter i x) (LongLine j) h k
one_of_lines lines (BadCharacter i x) (BadCharacter j y) p q h k =
    one_line_fault lines (BadCharacter i x) (BadCharacter j y) h k
one_of_lines lines (BadCharacter i x) (Reserved j) p q h k =
    one_line_fault lines (BadCharacter i x) (Reserved j) h k
one_of_lines lines (Reserved i) LongText p q h k = absurd (none_of_good lines (Reserved i) k.0 h)
one_of_lines lines (Reserved i) (LongLine j) p q h k =
    one_line_fault lines (Reserved i) (LongLine j) h k
one_of_lines lines (Reserved i) (BadCharacter j y) p q h k =
    one_line_fault lines (Reserved i) (BadCharacter j y) h k
one_of_lines lines (Reserved i) (Reserved j) p q h k =
    one_line_fault lines (Reserved i) (Reserved j) h k

-- and the lines of a message have none
pub none_of_message : (lines : List (List ℕ)) (a : MessageFault) → AreLines lines → IsOfLines a
    → IsMessageFault lines a → ⊥
none_of_message lines (LongLine i) good p h = none_of_good lines (LongLine i) good.each h
none_of_message lines (BadCharacter i x) good p h =
    none_of_good lines (BadCharacter i x) good.each h
none_of_message lines (Reserved i) good p h = none_of_good lines (Reserved i) good.each h
none_of_message lines LongText good p h = absurd (omega (arith, good.fits, h.1))
none_of_message lines (Memory e) good p h = p
