-- What only private contracts and proofs cite, beside CombinedReceiver (this profile).
use Rattle.std.specs.Prelude.{◌≡◌, ℕ, List}
use Rattle.nx_code.specs.Lists.{last_of}
use Rattle.nx_memory.specs.Memory.{most_entries}
use Rattle.nx_memory.specs.declared.memories.entry.MemoryEntry.{MemoryEntry}
use Rattle.nx_copies.specs.copies.FoundCopies.{TaggedCopy}
use Rattle.nx_combine.specs.CopyPositions.{HeardCopy}
use Rattle.nx_combine.specs.Judging.{CombinerView, Judged, StandsHolding, all_copies}
use Rattle.nx_combine.specs.Judging.{judged_after_holding, printed_by_holding, sendings_of_last}

-- what a call that judges a copy says, by what other copies left: it judged one more, and the last
-- that was printed is of so many sendings
pub record JudgesNext (held : ℕ) {M : Type 0} (content : M → List MemoryEntry) (memory : M)
    (combiner : CombinerView) (sendings : ℕ) (so_far : Judged) (heard : HeardCopy)
    (printed : List TaggedCopy)
    : Type 0 where
  pub stands : StandsHolding held combiner (judged_after_holding held so_far heard).families
      (judged_after_holding held so_far heard).printed
  pub entered : content memory
      ≡ last_of most_entries (judged_after_holding held so_far heard).entries
  pub printed_is : all_copies (printed_by_holding held so_far heard) ≡ printed
  pub counted : sendings ≡ sendings_of_last (judged_after_holding held so_far heard).printed
