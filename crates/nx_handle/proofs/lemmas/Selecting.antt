-- What selecting answers.
use Rattle.std.proofs.Common.{◌≡◌, ◌<◌, ℕ, Bool, true, false, IsTrue, if◌then◌else◌, List, length, slice_set, refl, sym, ap, ◌∙◌, subst, Some, arith}
use Rattle.std.proofs.lemmas.Grind.{common_steps}
use Rattle.nx_fec.specs.air_files.Channels.{channel_number}
use Rattle.nx_fec.specs.declared.air_files.channel.Channel.{Channel}
use Rattle.nx_copies.specs.Events as events
use Rattle.nx_copies.specs.Events.{Command}
use Rattle.nx_receiver.specs.declared.command.Command.{Command as TheCommand}
use Rattle.nx_receiver.specs.Listener.{then_command}
use Rattle.nx_handle.specs.Life.{HasHeard}
use Rattle.nx_handle.specs.PlaceKinds.{IsPlaceKind, PlaceKind, SameRoom, TakesEventIn}
use Rattle.nx_handle.specs.Places.{KeepsRoom, all_hear, place_on}
use Rattle.nx_handle.specs.Selecting.{AnswersSelecting, byte_status, command_status, selecting_status}
use Rattle.nx_handle.specs.Status.{number_of}
use Rattle.nx_handle.specs.declared.status.Status.{Status}
use Rattle.nx_handle.specs.declared.status.Status.TheVariants.{Done, Vital}
use Rattle.nx_handle.proofs.lemmas.Heard.{command-in}
use Rattle.nx_handle.proofs.lemmas.Places.{all-set, room-set, set-long, within}

pub selecting-done : {P : Type 0} (kind : PlaceKind P) → IsPlaceKind kind → (asked : Status)
    (c : Command) (channel : Channel) (old new : List P) (r after : P)
    → all_hear kind old ≡ true → place_on old channel ≡ Some r
    → new ≡ slice_set old (channel_number channel) after → asked ≡ Done
    → TakesEventIn kind r after (events.command c) → kind.is_hearing after ≡ true
    → SameRoom kind r after
    → AnswersSelecting kind asked c (channel_number channel) old new 0
selecting-done kind laws asked c channel old new r after hear at is done takes now room =
    let n = channel_number channel in record {
      cause = sym (ap (λ b. number_of (selecting_status asked b)) hear ∙ ap number_of done);
      done = λ _. record {
        on = channel;
        is = refl;
        has_channel = within old n r at;
        was = hear;
        now = ap (all_hear kind) is ∙ all-set kind.is_hearing old n after hear now;
        heard = λ held starts given copies h.
            subst (λ places. HasHeard kind held starts places (then_command given channel c)
            copies) (sym is)
            (command-in kind laws old channel r after c at takes held starts given copies h);
      };
      refused = λ no. absurd (no refl);
      channels = ap length is ∙ set-long old n after;
      rooms = subst (KeepsRoom kind old) (sym is) (room-set kind old n after r at room);
    }

not-vital : (vital : Bool) → (IsTrue vital → IsTrue false)
    → (if vital then Vital else Done) ≡ Done
not-vital true spared = let bad = spared refl in cc
not-vital false spared = refl

-- on a channel that there is
pub on-channel : (channel count : ℕ) (command : TheCommand ℕ) → channel < count
    → command_status channel count command ≡ byte_status command
on-channel channel count command lt = grind (arith, common_steps)

-- a command for a letter, on a channel that there is, which refuses no vital subject; or does
pub command-done : (channel count : ℕ) (command : TheCommand ℕ) (vital : Bool) → channel < count
    → byte_status command ≡ (if vital then Vital else Done)
    → (IsTrue vital → IsTrue false) → command_status channel count command ≡ Done
command-done channel count command vital lt asked spared =
    on-channel channel count command lt ∙ asked ∙ not-vital vital spared
