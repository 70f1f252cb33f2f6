-- What a taker of copies and of their positions took of no elements, and of elements after others.
use Rattle.std.proofs.Common.{Bool, List, [], ◌++◌, Option, None, sym, subst}
use Rattle.std.proofs.Common.{append_assoc, append-nil}
use Rattle.nx_sync.specs.Synchroniser.{Held}
use Rattle.nx_copies.specs.declared.copy_taker.Over.{Over}
use Rattle.nx_copies.specs.hearing.CopyTakerLaws as copies
use Rattle.nx_combine.specs.CombinedTaker.{Hears, TakerOver, TakerStands}
use Rattle.nx_combine.specs.declared.taker.CombinedTaker.{CombinedTaker}

-- no elements bring nothing
pub heard-none : (held : Held) (taker : CombinedTaker) → Hears held taker [] held taker None
heard-none held taker = record {
  copies = copies.heard-none held taker.copies;
  takes = λ bits stands. subst (TakerStands held taker) (sym (append-nil bits)) stands;
}

-- elements after others bring what both do
pub heard-both : (old mid new : Held) (first between last : CombinedTaker) (xs ys : List Bool)
    (answer : Option Over) → Hears old first xs mid between None
    → Hears mid between ys new last answer → Hears old first (xs ++ ys) new last answer
heard-both old mid new first between last xs ys answer f g = record {
  copies = copies.heard-both old mid new first.copies between.copies last.copies xs ys answer
      f.copies g.copies;
  takes = λ bits stands.
      subst (λ l. TakerOver new last l answer) (append_assoc bits xs ys)
      (g.takes (bits ++ xs) (f.takes bits stands));
}
