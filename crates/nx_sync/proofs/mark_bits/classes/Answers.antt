use Rattle.std.proofs.Common.{ℕ, List, ◌<◌, slice_index, subst, arith}
use Rattle.nx_sync.proofs.lemmas.words.WordsAtOnce.{judged, wrong_ones-eight}
use Rattle.nx_sync.proofs.mark_bits.classes.Goals as goal

pub returns : goal.returns
returns c =
    let xs : List ℕ = c.args.words.now in
    let l = c.requires in
    let small : (k : ℕ) → k < 8 → slice_index xs k < 128 =
    λ k few. subst (λ ys. slice_index ys k < 128) c.numbers-words.ensures.value
    (c.numbers-words.ensures.small k few) in
    wrong_ones-eight xs _ _ _ _ _ _ _ _ l
    (judged xs 0 c.index-words-0.result _ l (omega arith) (small 0 (omega arith))
    c.index-words-0.is c.class_of.ensures.class)
    (judged xs 1 c.index-words-1.result _ l (omega arith) (small 1 (omega arith))
    c.index-words-1.is c.class_of-2.ensures.class)
    (judged xs 2 c.index-words-2.result _ l (omega arith) (small 2 (omega arith))
    c.index-words-2.is c.class_of-3.ensures.class)
    (judged xs 3 c.index-words-3.result _ l (omega arith) (small 3 (omega arith))
    c.index-words-3.is c.class_of-4.ensures.class)
    (judged xs 4 c.index-words-4.result _ l (omega arith) (small 4 (omega arith))
    c.index-words-4.is c.class_of-5.ensures.class)
    (judged xs 5 c.index-words-5.result _ l (omega arith) (small 5 (omega arith))
    c.index-words-5.is c.class_of-6.ensures.class)
    (judged xs 6 c.index-words-6.result _ l (omega arith) (small 6 (omega arith))
    c.index-words-6.is c.class_of-7.ensures.class)
    (judged xs 7 c.index-words-7.result _ l (omega arith) (small 7 (omega arith))
    c.index-words-7.is c.class_of-8.ensures.class)
