use Rattle.nx_left_on.proofs.lemmas.shortened.Bounds as shortened
use Rattle.nx_left_on.proofs.bounds.a_log_out_of_order_is_not_shortened_so.Goals as goal

pub returns : goal.returns
returns c = record {
  chosen = shortened.chosen-is;
  not_old = shortened.not-old;
  whole = shortened.whole-starts;
  shorter = shortened.shorter-starts;
}
