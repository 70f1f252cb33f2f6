-- What only private contracts and proofs cite, beside ChannelReceiver (this profile).
use Rattle.std.specs.Prelude.{ℕ, ◌<◌, Bool, List, ◌++◌, Some, take}
use Rattle.nx_copies.specs.Events.{Event, Start, elements}
use Rattle.nx_copies.specs.copies.FoundCopies.{TaggedCopy}
use Rattle.nx_receiver.specs.ChannelReceiver.{ReceiverKind, AwaitsFinish}

-- Whatever a receiver was given before, what awaited to be finished was. Where that brought
-- nothing, it heard so many of these elements. With the last of them it handed out these copies,
-- and none before.
pub record FinishesNextBy {R Over : Type 0} (kind : ReceiverKind R) (awaits : AwaitsFinish R Over)
    (old new : R) (over : Over) (bits : List Bool) (count : ℕ) (copies : List TaggedCopy)
    : Type 0 where
  pub stands : (start : Start) (history : List Event) (log : List TaggedCopy)
      → awaits start old history log (Some over)
      → kind.stands start new (history ++ elements (take count bits)) (log ++ copies)
  pub first : (start : Start) (history : List Event) (log : List TaggedCopy)
      → awaits start old history log (Some over)
      → (k : ℕ) → k < count
      → kind.printing.so_far start (history ++ elements (take k bits)) log
