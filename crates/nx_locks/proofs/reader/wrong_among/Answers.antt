use Rattle.std.proofs.Common.{◌≡◌, ◌+◌, ◌∙◌, ℕ, List, ap, ap₂, arith, refl, slice_index, sym}
use Rattle.std.proofs.lemmas.Grind.{get_or_default_zero}
use Rattle.nx_code.specs.Word.{is_wrong, wrong_in}
use Rattle.nx_code.proofs.lemmas.WordCounts.{one_if}
use Rattle.nx_locks.proofs.lemmas.PlainWords.{wrong_in-next}
use Rattle.nx_locks.proofs.reader.wrong_among.Goals as goal

pub loop-place-init : goal.loop-place-init
unfolding wrong_in
loop-place-init c = record { counted = refl; few = omega arith }

pub loop-place-preserved : goal.loop-place-preserved
loop-place-preserved c =
    let words : List ℕ = c.args.words.now in
    let place : ℕ = c.loop-place.place in
    let word : c.index-words-place.result ≡ slice_index words place =
    c.index-words-place.is
    ∙ get_or_default_zero words place _ (omega (arith, c.loop-place-test.true)) in
    let one : c.one_if_wrong-wrong.result ≡ one_if (is_wrong (slice_index words place)) =
    c.one_if_wrong-wrong.ensures.value ∙ ap (λ w. one_if (is_wrong w)) word in
    record {
      counted = ap₂ (λ n m. n + m) c.loop-place.invariant.counted one
          ∙ sym (wrong_in-next (slice_index words) place);
      few = omega (arith, c.loop-place.invariant.few, c.one_if_wrong-wrong.ensures.small);
    }
