-- What the calls answer that select what a receiver prints (this profile).
use Rattle.std.specs.Prelude.{◌≡◌, ◌≢◌, ℕ, ◌<◌, nat_lt, nat_le, ◌&&◌, Bool, true, false, not, List}
use Rattle.std.specs.Prelude.{if◌then◌else◌, length}
use Rattle.nx_code.specs.Reading.{capital_a, capital_z}
use Rattle.nx_fec.specs.air_files.Channels.{channel_number}
use Rattle.nx_fec.specs.declared.air_files.channel.Channel.{Channel}
use Rattle.nx_memory.specs.Selection.{is_vital}
use Rattle.nx_copies.specs.Events.{Command}
use Rattle.nx_receiver.specs.Listener.{then_command}
use Rattle.nx_receiver.specs.declared.command.Command.{Command as TheCommand}
use Rattle.nx_receiver.specs.declared.command.Command.TheVariants.{RefuseStation, AcceptStation, RefuseSubject, AcceptSubject}
use Rattle.nx_copies.specs.copies.Shares.{Given, MarkedCopy, Starts}
use Rattle.nx_handle.specs.Life.{HasHeard}
use Rattle.nx_handle.specs.Places.{KeepsRoom, all_hear}
use Rattle.nx_handle.specs.Status.{number_of}
use Rattle.nx_handle.specs.PlaceKinds.{PlaceKind}
use Rattle.nx_handle.specs.declared.status.Status.{Status}
use Rattle.nx_handle.specs.declared.status.Status.TheVariants as status

-- a letter, A to Z
abbrev pub is_letter : ℕ → Bool
is_letter byte = nat_le capital_a byte && nat_le byte capital_z

-- the status of a command for the letter of a byte, on a channel that there is
abbrev pub byte_status : TheCommand ℕ → Status
byte_status (RefuseStation byte) = if is_letter byte then status.Done else status.NoStation
byte_status (AcceptStation byte) = if is_letter byte then status.Done else status.NoStation
byte_status (RefuseSubject byte) =
    if not (is_letter byte) then status.NoSubject
    else if is_vital byte then status.Vital
    else status.Done
byte_status (AcceptSubject byte) = if is_letter byte then status.Done else status.NoSubject

-- the same on the channel of a number, of so many
abbrev pub command_status : ℕ → ℕ → TheCommand ℕ → Status
command_status channel count command =
    if not (nat_lt channel count) then status.NoChannel else byte_status command

-- the same, of a receiver that hears, or doesn't
abbrev pub selecting_status : Status → Bool → Status
selecting_status asked false = status.Closed
selecting_status asked true = asked

-- A command is given to a channel that the receiver has. It hears, and goes on to hear: whatever
-- was given before, it stands after the command too.
pub record TakesCommand {P : Type 0} (kind : PlaceKind P) (command : Command) (channel : ℕ)
    (old new : List P) : Type 0 where
  pub on : Channel
  pub is : channel_number on ≡ channel
  pub has_channel : channel < length old
  pub was : all_hear kind old ≡ true
  pub now : all_hear kind new ≡ true
  pub heard : (held : ℕ) (starts : Starts) (given : List Given) (copies : List MarkedCopy)
      → HasHeard kind held starts old given copies
      → HasHeard kind held starts new (then_command given on command) copies

-- Selecting: the status has its cause; where all is done, the command is given to the channel; else
-- the receiver stays as it was. Its channels stay, and so does the room for their families.
pub record AnswersSelecting {P : Type 0} (kind : PlaceKind P) (asked : Status) (command : Command)
    (channel : ℕ) (old new : List P) (answer : ℕ)
    : Type 0 where
  pub cause : answer ≡ number_of (selecting_status asked (all_hear kind old))
  pub done : answer ≡ 0 → TakesCommand kind command channel old new
  pub refused : answer ≢ 0 → new ≡ old
  pub channels : length new ≡ length old
  pub rooms : KeepsRoom kind old new
