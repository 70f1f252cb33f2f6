-- What the last of some elements brings, and the elements of words.
use Rattle.std.proofs.Common.{◌≡◌, ℕ, zero, suc, ◌+◌, ◌-◌, ◌*◌, ◌<◌, ◌≤◌, Bool, List, [], ◌∷◌, ◌++◌}
use Rattle.std.proofs.Common.{length, take, None, refl, sym, ap, ◌∙◌, subst}
use Rattle.std.proofs.Common.{arith, length-append, take-take, take_all}
use Rattle.std.proofs.lemmas.List.{length-take-le}
use Rattle.std.proofs.Math.Seq.{take-append-add}
use Rattle.std.specs.List.{flat_map}
use Rattle.nx_code.specs.Word.{elements}
use Rattle.nx_code.proofs.lemmas.Packed.{length-elements}
use Rattle.nx_sync.specs.Steps.{HuntsThrough, IsLastStep, IsStep, IsWordStep, step}
use Rattle.nx_sync.specs.declared.step.Step.{Step}

-- a word brings its step with the last of its elements
pub word_last : (h bits : List Bool) (s : Step) → length bits ≡ 7 → IsWordStep h bits s
    → IsLastStep h bits s
word_last h bits s size is =
    record { quiet = λ k lt. is.inside k (omega (arith, lt, size)); last = is.last }

-- elements of a hunt bring nothing
pub hunt_last : (h bits : List Bool) → 0 < length bits → HuntsThrough h bits (length bits)
    → IsLastStep h bits (step None None)
hunt_last h bits some hunt = record {
  quiet = λ k lt. hunt.quiet k (omega (arith, lt));
  last =
      let n = length bits - 1 in
      let e : n + 1 ≡ length bits = omega arith in
      subst (λ l. IsStep (h ++ l) (step None None))
      (ap (λ k. take k bits) e ∙ take_all (length bits) bits (omega arith))
      (hunt.quiet n (omega arith));
}

-- the element behind those of a hunt brings its step, and they nothing
pub hunt_then : (h bits : List Bool) (n : ℕ) (s : Step) → n < length bits
    → HuntsThrough h bits n → IsStep (h ++ take (n + 1) bits) s
    → IsLastStep h (take (n + 1) bits) s
hunt_then h bits n s within hunt is = record {
  quiet = λ k lt.
      let size = length-take-le (n + 1) bits (omega arith) in
      subst (λ l. IsStep (h ++ l) (step None None))
      (sym (take-take (k + 1) (n + 1) bits (omega (arith, lt, size))))
      (hunt.quiet k (omega (arith, lt, size)));
  last = is;
}

-- a word has seven elements
pub length-of_words : (words : List ℕ) → length (flat_map elements words) ≡ 7 * length words
length-of_words [] = refl
length-of_words (w ∷ words) =
    omega (
      arith,
      length-append (elements w) (flat_map elements words),
      length-elements w,
      length-of_words words,
    )

-- the elements of the first of these words
pub first_words : (n : ℕ) (words : List ℕ) → n ≤ length words
    → flat_map elements (take n words) ≡ take (7 * n) (flat_map elements words)
first_words zero words h = refl
first_words (suc n) [] h = absurd (omega arith)
first_words (suc n) (word ∷ words) h =
    let e : length (elements word) + 7 * n ≡ 7 * suc n = omega (arith, length-elements word) in
    let all : List Bool = flat_map elements (word ∷ words) in
    ap (λ l. elements word ++ l) (first_words n words (omega arith))
    ∙ (sym (take-append-add (elements word) (flat_map elements words) (7 * n))
    ∙ ap (λ k. take k all) e)
