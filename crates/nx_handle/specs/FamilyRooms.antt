-- What a room for the families of a channel does with a receiver whose families lie in it (this
-- profile).
use Rattle.std.specs.Prelude.{◌≡◌, List, ◌++◌, length, IfSome, Option, Some}
use Rattle.nx_memory.specs.declared.memories.entry.MemoryEntry.{MemoryEntry}
use Rattle.nx_copies.specs.Events.{Event, Start}
use Rattle.nx_copies.specs.copies.FoundCopies.{TaggedCopy}
use Rattle.nx_copies.specs.declared.copy_taker.Over.{Over}
use Rattle.nx_copies.specs.declared.entry.EntryHead.{EntryHead}
use Rattle.nx_receiver.specs.Receiver.{HeadsText, headed_list}
use Rattle.nx_combine.specs.CombinedPrinting.{PrintsHoldingToEnd}
use Rattle.nx_combine.specs.CombinedReceiver.{AwaitsAfterAllHolding, ReceiverOver}
use Rattle.nx_combine.specs.CombinedReceiver.{StandsAfterAllHolding, receiver_in, text_over}
use Rattle.nx_combine.specs.FamilyPlaces.{BelongsTo, LentFamily, held_in}
use Rattle.nx_combine.specs.declared.family_ring.FamilyRing.{FamilyRing}
use Rattle.nx_handle.specs.PlainPlaces.{content}

-- what contracts see of a receiver whose families lie in room that is lent
abbrev pub OneCombining : Type 0
OneCombining = ReceiverOver FamilyRing (List MemoryEntry)

-- The receiver finished what was over, with the families in this room: it hands out an entry with
-- this head, or none. The room goes on to be its room, and has as many places.
pub record FinishesIn (old new : List LentFamily) (before after : OneCombining) (over : Over)
    (answer : Option EntryHead) : Type 0 where
  pub fits : BelongsTo after.store new
  pub room : length new ≡ length old
  pub stands : (start : Start) (history : List Event) (log : List TaggedCopy)
      → AwaitsAfterAllHolding (length old) content start (receiver_in held_in before old) history
      log (Some over)
      → StandsAfterAllHolding (length old) content start (receiver_in held_in after new) history
      (log ++ headed_list answer (text_over after))
  pub head : IfSome answer (λ head. HeadsText head (text_over after))

-- The receiver ended its elements, with the families in this room: it hands out an entry with this
-- head, or none. The room goes on to be its room, and has as many places.
pub record EndsIn (old new : List LentFamily) (before after : OneCombining)
    (answer : Option EntryHead) : Type 0 where
  pub fits : BelongsTo after.store new
  pub room : length new ≡ length old
  pub stands : (start : Start) (history : List Event) (log : List TaggedCopy)
      → StandsAfterAllHolding (length old) content start (receiver_in held_in before old) history
      log
      → PrintsHoldingToEnd (length old) start history
      (log ++ headed_list answer (text_over after))
  pub head : IfSome answer (λ head. HeadsText head (text_over after))
