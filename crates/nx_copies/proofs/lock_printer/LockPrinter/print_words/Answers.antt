use Rattle.std.proofs.Common.{◌≡◌, ◌<◌, ◌+◌, ◌*◌, ◌∙◌, ℕ, List, ap, arith, length, slice_index, subst, sym, take}
use Rattle.std.proofs.lemmas.Grind.{get_or_default_zero}
use Rattle.nx_copies.specs.private.LockPrinter.{HasPrintedWords}
use Rattle.nx_copies.proofs.lemmas.locks.ReaderWords.{dx_of_pair}
use Rattle.nx_copies.proofs.lock_printer.LockPrinter.print_words.Goals as goal

pub loop-pair-preserved : goal.loop-pair-preserved
loop-pair-preserved c =
    let words : List ℕ = c.args.words.now in
    let pair : ℕ = c.loop-pair.pair in
    let both : 2 * pair + 1 < length words = omega (arith, c.loop-pair-test.true, c.requires.even) in
    let dx : c.index-words-pair.result ≡ slice_index words (2 * pair) =
    c.index-words-pair.is ∙ get_or_default_zero words (2 * pair) _ (omega (arith, both)) in
    let rx : c.index-words-pair-in-loop-pair.result ≡ slice_index words (2 * pair + 1) =
    c.index-words-pair-in-loop-pair.is ∙ get_or_default_zero words (2 * pair + 1) _ both in
    let next : 2 * pair + 2 ≡ 2 * (pair + 1) = omega arith in
    record {
      printed = λ first before n stands all.
          let later : n + 2 * pair + 1 ≡ n + (2 * pair + 1) = omega arith in
          subst (λ count. HasPrintedWords c.print_pair.new.self first before n count
          (take c.print_pair.new.printed.count c.print_pair.new.printed.bytes)) next
          (c.print_pair.ensures.printed first before n (2 * pair)
          (c.loop-pair.invariant.printed first before n stands all)
          (dx_of_pair first n pair all.dx) (all.are (2 * pair) (omega (arith, both)) ∙ sym dx)
          (ap before later ∙ (all.are (2 * pair + 1) both ∙ sym rx)));
      count = omega (arith, c.loop-pair.invariant.count, c.print_pair.ensures.count);
    }
