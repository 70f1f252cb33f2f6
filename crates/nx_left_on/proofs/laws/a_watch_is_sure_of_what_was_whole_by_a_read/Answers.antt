use Rattle.std.proofs.Common.{◌∙◌, ap, sym}
use Rattle.nx_left_on.specs.Chain.{acting_at}
use Rattle.nx_left_on.proofs.laws.a_watch_is_sure_of_what_was_whole_by_a_read.Goals as goal

pub returns : goal.returns
returns g c = record {
  all_kept = λ a now log file watch called.
      called.read_on ∙ ap (acting_at now log) called.are_sure ∙ sym called.took;
  behind_a_read = λ a now log file watch read called.
      let sure = called.are_sure in
      (sure.0, sure.1, sure.2, called.read_on ∙ ap (acting_at now log) sure.3);
  at_any_moment = λ a now log file watch called.
      called.read_on ∙ ap (acting_at now log) called.are_sure;
}
