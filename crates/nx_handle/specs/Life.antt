-- The life of a receiver between calls: it is closed; it is opened, and hears; its channels end one
-- by one, and what their ends print is handed out; then it is closed again (this profile).
use Rattle.std.specs.Prelude.{◌≡◌, ℕ, ◌≤◌, Bool, true, false, List, [], ◌∷◌, ◌++◌, length, map, Option}
use Rattle.std.specs.Prelude.{Some, None}
use Rattle.std.specs.List.{flat_map}
use Rattle.nx_fec.specs.air_files.Channels.{channel_number}
use Rattle.nx_fec.specs.declared.air_files.channel.Channel.{Channel}
use Rattle.nx_fec.specs.declared.air_files.channel.Channel.TheVariants.{Zero, One, Two}
use Rattle.nx_copies.specs.Events.{Event, Start, elements_among}
use Rattle.nx_copies.specs.copies.FoundCopies.{TaggedCopy}
use Rattle.nx_copies.specs.copies.Shares.{Given, MarkedCopy, Starts, marked, share}
use Rattle.nx_handle.specs.PlaceKinds.{PlaceKind}
use Rattle.nx_handle.specs.Places.{HasChannel, place_on}
use Rattle.nx_handle.specs.Receivers.{HearsGiven, Listening, one_on}

-- The receiver hears, and stands after this was given to it, with what it started; it holds so many
-- families a channel, and these are the copies that it printed. Of three receivers that stand so,
-- those of the channels that it has hear in their places. A channel that it doesn't have was given
-- no elements.
pub record HasHeard {P : Type 0} (kind : PlaceKind P) (held : ℕ) (starts : Starts)
    (places : List P) (given : List Given) (copies : List MarkedCopy)
    : Type 0 where
  pub listener : Listening P
  pub hears : (channel : Channel) → HasChannel places channel
      → place_on places channel ≡ Some (one_on listener channel)
  pub no_elements : (channel : Channel) → length places ≤ channel_number channel
      → elements_among (share channel given) ≡ []
  pub heard : HearsGiven kind held starts listener given copies

-- The end of a channel prints these copies behind all that its receiver has printed, whatever that
-- was given; it prints none where it has come already, or the receiver is closed.
abbrev pub EndPrintsWhere : {P : Type 0} → PlaceKind P → P → List TaggedCopy → Bool → Type 0
EndPrintsWhere kind place last false = last ≡ []
EndPrintsWhere kind place last true =
    (held : ℕ) (start : Start) (history : List Event) (log : List TaggedCopy)
    → kind.stands held start place history log
    → (kind.printing held).to_end start history (log ++ last)

abbrev pub EndPrints : {P : Type 0} → PlaceKind P → P → List TaggedCopy → Type 0
EndPrints kind place last = EndPrintsWhere kind place last (kind.is_hearing place)

-- the same of a channel that the receiver may not have: then nothing is printed
abbrev pub EndPrintsOn : {P : Type 0} → PlaceKind P → Option P → List TaggedCopy → Type 0
EndPrintsOn kind None last = last ≡ []
EndPrintsOn kind (Some place) last = EndPrints kind place last

-- the ends that are still to come print these copies, by channel
pub record EndsWith {P : Type 0} (kind : PlaceKind P) (places : List P) (left : List MarkedCopy)
    : Type 0 where
  pub last : Channel → List TaggedCopy
  pub prints : (channel : Channel) → EndPrintsOn kind (place_on places channel) (last channel)
  pub by_channel :
      left ≡ flat_map (λ channel. map (marked channel) (last channel)) (Zero ∷ One ∷ Two ∷ [])
