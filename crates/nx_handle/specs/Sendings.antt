-- What a receiver answers that is asked from how many sendings an entry is put together (this
-- profile).
use Rattle.std.specs.Prelude.{◌≡◌, ◌≢◌, ℕ, ◌<◌, nat_lt, Bool, true, false, List, length}
use Rattle.std.specs.Prelude.{if◌then◌else◌}
use Rattle.nx_fec.specs.air_files.Channels.{channel_number}
use Rattle.nx_fec.specs.declared.air_files.channel.Channel.{Channel}
use Rattle.nx_copies.specs.copies.Shares.{Given, MarkedCopy, Starts, copies_on, share, start_on}
use Rattle.nx_handle.specs.Life.{HasHeard}
use Rattle.nx_handle.specs.PlaceKinds.{PlaceKind}
use Rattle.nx_handle.specs.Places.{all_hear}
use Rattle.nx_handle.specs.Status.{number_of}
use Rattle.nx_handle.specs.declared.status.Status.{Status}
use Rattle.nx_handle.specs.declared.status.Status.TheVariants as status

-- the status of asking a receiver, which hears or doesn't, of a channel, of so many
abbrev pub sendings_status : Bool → ℕ → ℕ → Status
sendings_status false channel count = status.Closed
sendings_status true channel count =
    if nat_lt channel count then status.Done else status.NoChannel

-- The receiver has the channel of this number, and the entry that was handed out last on it is put
-- together from so many sendings, whatever was given.
pub record TellsSendings {P : Type 0} (kind : PlaceKind P) (channel : ℕ) (places : List P)
    (sendings : ℕ) : Type 0 where
  pub on : Channel
  pub is : channel_number on ≡ channel
  pub has_channel : channel < length places
  pub tells : (held : ℕ) (starts : Starts) (given : List Given) (copies : List MarkedCopy)
      → HasHeard kind held starts places given copies
      → kind.sendings held (start_on starts on) (share on given) (copies_on on copies) sendings

-- Asking from how many sendings: the status has its cause. Where it isn't done, 0 is told.
pub record AnswersSendings {P : Type 0} (kind : PlaceKind P) (channel : ℕ) (places : List P)
    (sendings answer : ℕ) : Type 0 where
  pub cause : answer
      ≡ number_of (sendings_status (all_hear kind places) channel (length places))
  pub done : answer ≡ 0 → TellsSendings kind channel places sendings
  pub refused : answer ≢ 0 → sendings ≡ 0
