use Rattle.std.proofs.Common.{◌≡◌, ◌<◌, ◌∙◌, ℕ, List, refl, sym, ap₂, subst, inl, inr, length, slice_index, arith}
use Rattle.std.proofs.lemmas.Bool.{cases_lt}
use Rattle.std.proofs.lemmas.Grind.{common_steps, get_or_default_zero}
use Rattle.nx_sync.specs.private.Eight.{window_after_words}
use Rattle.nx_sync.specs.private.Windows.{next_word_window}
use Rattle.nx_sync.proofs.lemmas.words.WordsAtOnce.{window_after_eight, window_after_words-more}
use Rattle.nx_sync.proofs.windows_after.window_after_words.Goals as goal

pub returns-then-words-eq-WORDS_AT_ONCE-clause-value :
    goal.returns-then-words-eq-WORDS_AT_ONCE-clause-value
returns-then-words-eq-WORDS_AT_ONCE-clause-value c =
    let words : List ℕ = c.args.words.now in
    let eight : length words ≡ 8 = omega arith in
    let small : (k : ℕ) → k < 8 → slice_index words k < 128 =
    λ k within. subst (λ xs. slice_index xs k < 128) c.numbers-words.ensures.value
    (c.numbers-words.ensures.small k within) in
    grind (arith, common_steps)
    ∙ sym (window_after_eight words c.args.window eight c.requires.window small)

pub loop-place-init : goal.loop-place-init
unfolding window_after_words
loop-place-init c =
    record { value = refl; within = c.requires.window; small = λ k none. absurd (omega arith) }

pub loop-place-preserved : goal.loop-place-preserved
loop-place-preserved c =
    let xs : List ℕ = c.args.words.now in
    let place : ℕ = c.loop-place.place in
    let next = c.next_word_window-last in
    let word : c.index-words-place.result ≡ slice_index xs place =
    c.index-words-place.is
    ∙ get_or_default_zero xs place _ (omega (arith, c.loop-place-test.true)) in
    record {
      value = next.ensures.value ∙ ap₂ next_word_window c.loop-place.invariant.value word
          ∙ sym (window_after_words-more place xs c.args.window
          (omega (arith, c.loop-place-test.true)));
      within = next.ensures.within;
      small = λ k before. elim (cases_lt k place) [
        | inl earlier ↦ c.loop-place.invariant.small k earlier
        | inr last ↦
            let e : place ≡ k = omega arith in
            subst (λ n. slice_index xs n < 128) e
            (omega (arith, next.ensures.value, next.ensures.within, word))
      ];
    }
