use Rattle.std.proofs.Common.{◌≡◌, ◌∷◌, ◌++◌, ◌≤◌, ◌+◌, ◌*◌, ◌/◌, ◌%◌, ◌<◌, ◌∙◌, [], ℕ, List, length, min, not, refl, sym, ap, ap₂, subst, slice_index, arith}
use Rattle.std.proofs.lemmas.Grind.{get_or_default_zero}
use Rattle.circular_buffer.specs.Buffer.{keep_last}
use Rattle.nx_code.specs.Word.{is_wrong}
use Rattle.nx_sync.specs.Words.{marked_words}
use Rattle.nx_sync.specs.private.Eight.{wrong_ones, marks_after_words}
use Rattle.nx_sync.specs.private.MarkBits.{marks_in}
use Rattle.nx_sync.proofs.lemmas.words.MarkBits.{Moved, moved_by_eight, marks_after, length-marks_in}
use Rattle.nx_sync.proofs.lemmas.words.WordsAtOnce.{marks_after_words-more, wrong_by}
use Rattle.nx_sync.proofs.mark_bits.Marks.push_words.Goals as goal

-- the number after the marks of eight words
abbrev eight_later : goal.After-self-then-words-eq-WORDS_AT_ONCE-1 → ℕ
eight_later c =
    c.self.inside.bits / 256
    + c.wrong_bits.result * 72057594037927936 % 18446744073709551616

-- it has these marks behind those before
moved : (c : goal.After-self-then-words-eq-WORDS_AT_ONCE-1)
    → Moved c.min-self-inside.result (eight_later c)
    (marks_in c.self.inside.count c.self.inside.bits) (wrong_ones c.args.words.now)
moved c =
    let bits : ℕ = c.self.inside.bits in
    let count : ℕ = c.self.inside.count in
    let words : List ℕ = c.args.words.now in
    let new : ℕ = c.wrong_bits.result in
    let low : new < 256 = c.wrong_bits.ensures.within in
    let eight : length words ≡ 8 = omega arith in
    subst (λ n. Moved n (eight_later c) (marks_in count bits) (wrong_ones words))
    (sym c.min-self-inside.ensures)
    (moved_by_eight count bits new (eight_later c) words c.self.invariant.0 (omega arith)
    c.self.invariant.2 eight c.wrong_bits.ensures.number (omega (arith, low))
    (omega (arith, low)))

pub invariant_of-self : goal.invariant_of-self
invariant_of-self c =
    let many : min (c.self.inside.count + 8) 64 ≡ c.min-self-inside.result =
    sym c.min-self-inside.ensures in (
      omega (arith, many),
      length-marks_in c.min-self-inside.result (eight_later c) (omega (arith, many)),
      (moved c).number,
    )

pub returns-then-words-eq-WORDS_AT_ONCE : goal.returns-then-words-eq-WORDS_AT_ONCE
returns-then-words-eq-WORDS_AT_ONCE c =
    let marks = marks_in c.self.inside.count c.self.inside.bits in
    let words : List ℕ = c.args.words.now in
    let few : length marks ≤ 64 = omega (arith, c.self.invariant.0, c.self.invariant.1) in
    (moved c).marks
    ∙ (sym (marks_after words marks few) ∙ ap (λ xs. marks_after_words xs words) c.self.view_is)

pub loop-place-init : goal.loop-place-init
unfolding marks_after_words
loop-place-init c = refl

pub loop-place-preserved : goal.loop-place-preserved
loop-place-preserved c =
    let xs : List ℕ = c.args.words.now in
    let place : ℕ = c.loop-place.place in
    let wrong : not c.check_bits.result ≡ is_wrong (slice_index xs place) =
    wrong_by _ c.check_bits.result c.check_bits.ensures
    ∙ ap is_wrong (c.index-words-place.is
    ∙ get_or_default_zero xs place _ (omega (arith, c.loop-place-test.true))) in
    c.push.ensures
    ∙ ap₂ (λ marks b. keep_last marked_words (marks ++ b ∷ [])) c.loop-place.invariant wrong
    ∙ sym (marks_after_words-more place xs c.args.self.now (omega (arith, c.loop-place-test.true)))
