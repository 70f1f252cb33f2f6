use Rattle.std.proofs.Common.{◌≡◌, ◌≤◌, ◌+◌, List, [], ◌∷◌, ◌++◌, ℕ, Option, Some, None, true}
use Rattle.std.proofs.Common.{false, get_or, length, map, not, refl, sym, subst, ap, ◌∙◌, take}
use Rattle.std.proofs.Common.{arith}
use Rattle.std.specs.Option.{is_some}
use Rattle.std.specs.List.{list_all, position}
use Rattle.std.proofs.lemmas.Bool.{not-false, not-true, false≢true}
use Rattle.std.proofs.lemmas.List.{take_more, take_all}
use Rattle.std.proofs.lemmas.List.Quantifiers.{position-Some}
use Rattle.std.proofs.lemmas.List.Folds.{list_all_at}
use Rattle.nx_code.specs.Reading.{is_in_code, combination, shift_after_all}
use Rattle.nx_code.specs.private.Pieces.{numbers_of, numbers_of_piece}
use Rattle.nx_code.specs.declared.shifts.Shift.{Shift}
use Rattle.nx_code.specs.declared.signals.Comb.{Comb}
use Rattle.nx_code.proofs.lemmas.OneSpelling.{spelled-in_code, spelling-one}
use Rattle.nx_code.proofs.lemmas.Spelling.{Extends, Extends-push, position-None}
use Rattle.nx_code.proofs.spelling.extent_of.Goals as goal

-- where a byte is found that is not in the code, not all are
not_all : (bytes : List ℕ) (found : Option ℕ)
    → position (λ byte. not (is_in_code byte)) bytes ≡ found → is_some found ≡ true
    → list_all is_in_code bytes ≡ true → ⊥
not_all bytes None h some all = false≢true some
not_all bytes (Some at) h some all =
    let there = position-Some (λ byte. not (is_in_code byte)) bytes at 0 h in
    false≢true (sym (list_all_at is_in_code bytes at 0 there.0 (not-true _ there.1)) ∙ all)

pub returns-then-is_some-clause-in_code : goal.returns-then-is_some-clause-in_code
returns-then-is_some-clause-in_code c = (
  λ e. absurd (false≢true e),
  λ all. absurd
      (not_all c.args.text.now c.first_unknown.result (sym c.first_unknown.ensures)
      (sym c.if-is_some.ensures) all),
)

none_of : (found : Option ℕ) → is_some found ≡ false → found ≡ None
none_of None h = refl
none_of (Some at) h = absurd (false≢true (sym h))

-- a piece has one combination or two
at_most_two : (ahead : Option Comb) (n : ℕ) → length (numbers_of ahead ++ n ∷ []) ≤ 2
at_most_two None n = omega arith
at_most_two (Some comb) n = omega arith

pub piece_of-piece-requires : goal.piece_of-piece-requires
piece_of-piece-requires c =
    let none = none_of c.first_unknown.result (sym c.if-is_some.ensures) in
    not-false _ (position-None (λ byte. not (is_in_code byte)) c.args.text.now
    c.loop-character.character-index 0 (sym c.first_unknown.ensures ∙ none)
    c.loop-character-test.true)

pub loop-character-preserved : goal.loop-character-preserved
loop-character-preserved c =
    let text = c.args.text.now in
    let at = c.loop-character.character-index in
    let piece = c.piece_of-piece.result in
    let ys = numbers_of_piece piece in
    let more = Extends-push (take at text) (get_or text at 0) c.args.from
    c.loop-character.extent.shift piece.shift c.loop-character.extent.length ys
    c.loop-character.invariant.0 c.piece_of-piece.ensures.spells
    c.piece_of-piece.ensures.shift in
    let few = at_most_two piece.ahead piece.comb.number in (
      subst (λ l. Extends l c.args.from (c.loop-character.extent.length + c.length.result)
          piece.shift) (sym (take_more text at 0 c.loop-character-test.true))
          (rw c.length.ensures more),
      omega (arith, few, c.length.ensures, c.loop-character.invariant.1),
    )

-- after the loop the whole text has this extent
whole : (bytes : List ℕ) (index : ℕ) (from shift : Shift) (count : ℕ)
    → Extends (take index bytes) from count shift → length bytes ≤ index
    → Extends bytes from count shift
whole bytes index from shift count h k =
    subst (λ l. Extends l from count shift) (take_all index bytes k) h

pub returns-clause-in_code : goal.returns-clause-in_code
returns-clause-in_code c =
    let all = whole c.args.text.now c.loop-character.character-index c.args.from
    c.loop-character.extent.shift c.loop-character.extent.length c.loop-character.invariant.0
    (omega arith) in
    (λ _. spelled-in_code c.args.text.now c.args.from all.numbers all.spells, λ _. refl)

pub returns-clause-length : goal.returns-clause-length
returns-clause-length c numbers h =
    let all = whole c.args.text.now c.loop-character.character-index c.args.from
    c.loop-character.extent.shift c.loop-character.extent.length c.loop-character.invariant.0
    (omega arith) in
    all.long ∙ ap length (spelling-one c.args.text.now c.args.from all.numbers numbers all.spells h)

pub returns-clause-shift : goal.returns-clause-shift
returns-clause-shift c numbers h =
    let all = whole c.args.text.now c.loop-character.character-index c.args.from
    c.loop-character.extent.shift c.loop-character.extent.length c.loop-character.invariant.0
    (omega arith) in
    all.after ∙ ap (λ l. shift_after_all (map combination l) c.args.from)
    (spelling-one c.args.text.now c.args.from all.numbers numbers all.spells h)
