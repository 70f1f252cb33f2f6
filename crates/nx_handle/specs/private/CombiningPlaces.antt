-- What only private contracts and proofs cite, beside CombiningPlaces (this profile).
use Rattle.std.specs.Prelude.{ℕ, ◌<◌, Bool, List, ◌++◌, length, take}
use Rattle.nx_copies.specs.Events.{Event, Start, elements}
use Rattle.nx_copies.specs.copies.FoundCopies.{TaggedCopy}
use Rattle.nx_receiver.specs.ChannelReceiver.{HandsOutNoneBeforeBy}
use Rattle.nx_combine.specs.CombinedReceiver.{StandsAfterAllHolding, combined_kind_holding}
use Rattle.nx_combine.specs.CombinedReceiver.{receiver_in}
use Rattle.nx_combine.specs.FamilyPlaces.{BelongsTo, LentFamily, held_in}
use Rattle.nx_handle.specs.FamilyRooms.{OneCombining}
use Rattle.nx_handle.specs.PlainPlaces.{content}
use Rattle.nx_handle.specs.declared.combining_place.CombiningState.{CombiningState}
use Rattle.nx_handle.specs.declared.combining_place.CombiningState.TheVariants.{Closed, Hears, Ended}

-- the room has a place, and is that of the receiver which hears
abbrev pub FitsRoom : List LentFamily → CombiningState → Type 0
FitsRoom lent Closed = 0 < length lent
FitsRoom lent (Hears receiver) = (0 < length lent) × BelongsTo receiver.store lent
FitsRoom lent Ended = 0 < length lent

-- Whatever it was given before, a receiver hears the first `count` of these elements, with the
-- families in this room. With the last of them it hands out these copies, and none before.
pub record HearsInRoom (old new : List LentFamily) (before after : OneCombining)
    (bits : List Bool) (count : ℕ) (next : List TaggedCopy) : Type 0 where
  pub stands : (start : Start) (history : List Event) (log : List TaggedCopy)
      → StandsAfterAllHolding (length old) content start (receiver_in held_in before old) history
      log
      → StandsAfterAllHolding (length old) content start (receiver_in held_in after new)
      (history ++ elements (take count bits)) (log ++ next)
  pub first : HandsOutNoneBeforeBy (combined_kind_holding (length old) content)
      (receiver_in held_in before old) bits count
