use Rattle.std.proofs.Common.{inl, refl}
use Rattle.nx_handle.proofs.entries.log_entry.Goals as goal

pub returns : goal.returns
returns c =
    let view = c.in-Some.view in record {
      text = view.text.now;
      copied = c.copy_whole_out.ensures.copied;
      reads = inl (
        record {
          view = view;
          is = c.in-Some.ensures.found;
          said = c.told_of.ensures;
          text_is = refl;
        },
        c.copy_whole_out.ensures.status,
      );
    }
