use Rattle.nx_left_on.proofs.lemmas.shortened.Bounds as shortened
use Rattle.nx_left_on.proofs.bounds.a_shortened_log_leaves_out_what_is_66_hours_old.Goals as goal

pub returns : goal.returns
returns c = record {
  old = shortened.old-out;
  young = shortened.young-stays;
  kept_out = shortened.kept-out;
  let_in = shortened.let-in;
  heard = shortened.heard;
  not_heard = shortened.not-heard;
  idle = shortened.idle;
  acts = shortened.acts;
}
