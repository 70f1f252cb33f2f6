use Rattle.std.proofs.Common.{◌≡◌, ◌≤◌, ◌*◌, ◌^◌, ◌∙◌, List, ℕ, ap, arith, length, rules, subst, take, take-take}
use Rattle.std.proofs.Math.Nat.{pow-le-pow_right}
use Rattle.std.proofs.lemmas.List.{length-take-le}
use Rattle.std.specs.Prelude.{IsTrue}
use Rattle.nx_code.proofs.lemmas.Packed.{elements_from-take}
use Rattle.nx_sync.specs.Synchroniser.{Held, keeps_lock}
use Rattle.nx_sync.proofs.lemmas.words.LastSteps.{first_words}
use Rattle.nx_sync.proofs.lemmas.words.WordsAtOnce.{keeps_first}
use Rattle.nx_sync.proofs.synchroniser.Synchroniser.words_if_kept.Goals as goal

pub words_of-words-requires : goal.words_of-words-requires
words_of-words-requires c =
    let le : 2 ^ (7 * c.args.count) ≤ 2 ^ 56 =
    let seven : 7 * c.args.count ≤ 56 = omega (arith, c.requires.few) in
    pow-le-pow_right (omega arith) seven in
    omega (arith, le, c.elements_at.ensures.within)

pub returns : goal.returns
returns c =
    let count : ℕ = c.args.count in
    let words : List ℕ = c.words_of-words.result in
    let eight : length words ≡ 8 = search rules in
    let size = length-take-le count words (omega (arith, eight, c.requires.few)) in
    let held : Held = c.args.self.now in
    let keeps : IsTrue (keeps_lock held (take count words)) = search rules in
    record {
      few = c.requires.few;
      even = c.requires.even;
      within = omega arith;
      are = first_words count words (omega (arith, eight, c.requires.few))
          ∙ (ap (take (7 * count)) c.words_of-words.ensures
          ∙ (elements_from-take (7 * count) 56 c.elements_at.result
          (omega (arith, c.requires.few))
          ∙ c.elements_at.ensures.elements));
      keeps = λ n some le. subst (λ (l : List ℕ). IsTrue (keeps_lock held l))
          (take-take n count words le)
          (keeps_first held (take count words) n (omega (arith, size, le)) keeps);
    }
