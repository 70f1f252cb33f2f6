use Rattle.std.proofs.Common.{◌≡◌, ◌∙◌, ap, ap₂, length, refl, sym, subst, true}
use Rattle.nx_fec.specs.air_files.Channels.{channel_number}
use Rattle.nx_copies.specs.copies.Shares.{copies_on, share, start_on}
use Rattle.nx_receiver.specs.air_file_runs.State.{state_bytes}
use Rattle.nx_handle.specs.CallerRoom.{after_copying_out}
use Rattle.nx_handle.specs.Places.{all_hear}
use Rattle.nx_handle.specs.Receivers.{one_on}
use Rattle.nx_handle.specs.Saving.{SavesBy}
use Rattle.nx_handle.specs.Status.{number_of}
use Rattle.nx_handle.specs.declared.status.Status.TheVariants.{Done}
use Rattle.nx_handle.proofs.lemmas.Closing.{stands-on}
use Rattle.nx_handle.proofs.lemmas.Places.{past}
use Rattle.nx_handle.proofs.lemmas.Room.{same-length}
use Rattle.nx_handle.proofs.lemmas.State.{few-bytes}
use Rattle.nx_handle.proofs.saving.save.Goals as goal

pub returns : goal.returns
returns g c =
    let kind = g.P.KeptPlace.kind in
    let places = c.args.places.now in
    let left = c.left_by.result in
    let text = state_bytes left in
    let was = c.args.state.now in
    let copied = c.copy_state_out.ensures.copied in
    let long : length c.copy_state_out.new.space ≡ length was =
    ap length copied.copied ∙ same-length was text in
    let hear : all_hear kind places ≡ true = sym c.all_hear.ensures ∙ c.if-not-all_hear.false in
    record {
      text = text;
      copied = copied;
      saves = subst (λ b. SavesBy kind b places text (length was) c.number-2.result) (sym hear) (
        record {
          left = left;
          sound = c.copy_state_out.ensures.sound;
          leaves = λ held starts given copies h channel has.
              c.left_by.ensures.leaves channel (one_on h.listener channel) (h.hears channel has)
              held (start_on starts channel) (share channel given) (copies_on channel copies)
              (stands-on kind held starts places given copies h channel);
          others = λ channel le. c.left_by.ensures.others channel
              (past places (channel_number channel) le);
          spelled = refl;
          fits = few-bytes left c.copy_state_out.ensures.sound;
        },
        c.number-2.ensures ∙ ap number_of (c.after_copying_out.ensures
            ∙ ap₂ (λ n m. after_copying_out n m Done) copied.counted long),
      );
      unchanged = refl;
    }
