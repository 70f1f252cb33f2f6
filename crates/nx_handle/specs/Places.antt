-- The places of a receiver's channels, one to three of them: those of channel 0, 1 and 2 (this
-- profile).
use Rattle.std.specs.Prelude.{◌≡◌, ℕ, ◌<◌, Bool, List, length, map, Option, Some, slice_get}
use Rattle.std.specs.List.{list_all}
use Rattle.nx_fec.specs.air_files.Channels.{channel_number}
use Rattle.nx_fec.specs.declared.air_files.channel.Channel.{Channel}
use Rattle.nx_handle.specs.PlaceKinds.{PlaceKind}

-- the receiver hears
abbrev pub all_hear : {P : Type 0} → PlaceKind P → List P → Bool
all_hear kind places = list_all kind.is_hearing places

-- the receiver is closed
abbrev pub all_closed : {P : Type 0} → PlaceKind P → List P → Bool
all_closed kind places = list_all kind.is_closed places

-- the receiver has the channel
abbrev pub HasChannel : {P : Type 0} → List P → Channel → Type 0
HasChannel places channel = channel_number channel < length places

-- the place of a channel, where the receiver has the channel
abbrev pub place_on : {P : Type 0} → List P → Channel → Option P
place_on places channel = slice_get places (channel_number channel)

-- each place has room for so many families
abbrev pub HaveRoom : {P : Type 0} → PlaceKind P → ℕ → List P → Type 0
HaveRoom {P} kind held places =
    (channel : Channel) (place : P) → place_on places channel ≡ Some place
    → kind.families place ≡ held

-- each place has the same room as before, for as many families
pub record KeepsRoom {P : Type 0} (kind : PlaceKind P) (old new : List P) : Type 0 where
  pub families : map kind.families new ≡ map kind.families old
  pub vacant : map kind.vacant new ≡ map kind.vacant old
