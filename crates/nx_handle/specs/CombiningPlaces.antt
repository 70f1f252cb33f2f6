-- A place in which several sendings of a message are taken together, with room for their families
-- (this profile).
use Rattle.std.specs.Prelude.{◌≡◌, ℕ, Bool, true, false, List, [], ◌∷◌, ◌++◌, length}
use Rattle.nx_copies.specs.Events.{Event, Start}
use Rattle.nx_copies.specs.copies.FoundCopies.{TaggedCopy}
use Rattle.nx_combine.specs.CombinedPrinting.{HasPrintedLastHolding, combined_holding}
use Rattle.nx_combine.specs.CombinedReceiver.{LeavesHolding, StandsAfterAllHolding, receiver_in}
use Rattle.nx_combine.specs.CombinedReceiver.{text_over}
use Rattle.nx_combine.specs.FamilyPlaces.{LentFamily, held_in}
use Rattle.nx_handle.specs.PlaceKinds.{PlaceKind}
use Rattle.nx_handle.specs.PlainPlaces.{content, no_start}
use Rattle.nx_handle.specs.declared.combining_place.CombiningState.{CombiningState}
use Rattle.nx_handle.specs.declared.combining_place.CombiningState.TheVariants.{Closed, Hears, Ended}

-- what contracts see of such a place: its receiver, where it has one, and its room
pub record CombiningPlaceView (F : Type 0) : Type 0 where
  pub state : CombiningState
  pub families : F

abbrev pub combining_closed : {F : Type 0} → F → CombiningPlaceView F
combining_closed families = record { state = Closed; families = families }

-- the place of a channel that hears
abbrev pub state_hears : CombiningState → Bool
state_hears Closed = false
state_hears (Hears receiver) = true
state_hears Ended = false

-- a place of a receiver that is closed
abbrev pub state_closed : CombiningState → Bool
state_closed Closed = true
state_closed (Hears receiver) = false
state_closed Ended = false

-- the receiver in it stands so, with the families in this room
abbrev pub StandsLent : ℕ → Start → List LentFamily → CombiningState → List Event
    → List TaggedCopy → Type 0
StandsLent held start lent Closed events log = ⊥
StandsLent held start lent (Hears receiver) events log =
    (length lent ≡ held)
    × StandsAfterAllHolding held content start (receiver_in held_in receiver lent) events log
StandsLent held start lent Ended events log = ⊥

abbrev pub combining_start : CombiningState → Start
combining_start Closed = no_start
combining_start (Hears receiver) = record {
  entries = receiver.memory;
  moment = receiver.taker.copies.moment;
  refused = receiver.taker.copies.selection;
}
combining_start Ended = no_start

abbrev pub combining_text : CombiningState → List ℕ
combining_text Closed = []
combining_text (Hears receiver) = text_over receiver
combining_text Ended = []

-- the last copy of this log is put together from so many sendings
abbrev pub CombinesSendings : ℕ → Start → List Event → List TaggedCopy → ℕ → Type 0
CombinesSendings held start events log n =
    (earlier : List TaggedCopy) (copy : TaggedCopy) → log ≡ earlier ++ copy ∷ []
    → HasPrintedLastHolding held start events copy n

-- such places, where these tell what lies in a room, and which room it is
abbrev pub combining_place : {F : Type 0} → (F → List LentFamily) → (F → F)
    → PlaceKind (CombiningPlaceView F)
combining_place places vacant = record {
  is_hearing = λ place. state_hears place.state;
  is_closed = λ place. state_closed place.state;
  shut = λ place. combining_closed place.families;
  families = λ place. length (places place.families);
  vacant = λ place. combining_closed (vacant place.families);
  printing = combined_holding;
  stands = λ held start place events log.
      StandsLent held start (places place.families) place.state events log;
  start_of = λ place. combining_start place.state;
  text_of = λ place. combining_text place.state;
  leaves = LeavesHolding;
  sendings = CombinesSendings;
}
