use Rattle.std.proofs.Common.{◌≡◌, ◌∷◌, [], ◌++◌, ◌<◌, ◌∙◌, ℕ, List, ap, ap₂, arith, length, slice_index, subst, sym, take}
use Rattle.std.proofs.lemmas.Grind.{get_or_default_zero}
use Rattle.std.proofs.lemmas.List.{take_more}
use Rattle.std.specs.List.{flat_map}
use Rattle.nx_code.specs.Word.{elements}
use Rattle.nx_sync.specs.Ahead.{BringsWords}
use Rattle.nx_locks.specs.private.Taker.{Hears}
use Rattle.nx_locks.proofs.taker.LockTakerWordTaker.take_pairs.Goals as goal

pub returns-clause-hears : goal.returns-clause-hears
returns-clause-hears c = λ before after brings.
    let words : List ℕ = c.args.words.now in
    let dx : ℕ = c.index-words-0.result in
    let rx : ℕ = c.index-words-1.result in
    let some : 1 < length words = omega (arith, c.requires.pairs.some, c.requires.pairs.even) in
    let dx_is : dx ≡ slice_index words 0 =
    c.index-words-0.is ∙ get_or_default_zero words 0 _ (omega (arith, some)) in
    let rx_is : rx ≡ slice_index words 1 =
    c.index-words-1.is ∙ get_or_default_zero words 1 _ some in
    let is : take 2 words ≡ dx ∷ rx ∷ [] =
    take_more words 1 0 some
    ∙ ap (λ l. l ++ slice_index words 1 ∷ []) (take_more words 0 0 (omega (arith, some)))
    ∙ ap₂ (λ x y. x ∷ y ∷ []) (sym dx_is) (sym rx_is) in
    subst (λ ws. Hears before c.args.self.now (flat_map elements ws) after c.take_pair.new.self)
    (sym is) (c.take_pair.ensures before after (subst (BringsWords before after) is brings))
