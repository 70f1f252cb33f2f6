use Rattle.std.proofs.Common.{◌≡◌, ◌<◌, ◌+◌, ◌*◌, ◌==◌, ◌||◌, ◌∙◌, ℕ, List, length, refl, sym, ap₂, slice_index, arith}
use Rattle.std.proofs.lemmas.Grind.{get_or_default_zero}
use Rattle.nx_code.specs.Table.{phasing_1}
use Rattle.nx_sync.specs.Synchroniser.{has_dx_phasing_1}
use Rattle.nx_sync.proofs.lemmas.words.WordsAtOnce.{dx_phasing_1-more}
use Rattle.nx_sync.proofs.ahead.has_dx_phasing_1.Goals as goal

pub loop-pair-init : goal.loop-pair-init
unfolding has_dx_phasing_1
loop-pair-init c = refl

pub loop-pair-preserved : goal.loop-pair-preserved
loop-pair-preserved c =
    let xs : List ℕ = c.args.words.now in
    let pair : ℕ = c.loop-pair.pair in
    let both : 2 * pair + 1 < length xs = omega (arith, c.loop-pair-test.true, c.requires.even) in
    let dx : c.number.result ≡ slice_index xs (2 * pair) =
    c.number.ensures.number ∙ c.index-words-pair.is
    ∙ get_or_default_zero xs (2 * pair) _ (omega (arith, both)) in
    ap₂ (λ found n. found || (n == phasing_1)) c.loop-pair.invariant dx
    ∙ sym (dx_phasing_1-more pair xs both)
