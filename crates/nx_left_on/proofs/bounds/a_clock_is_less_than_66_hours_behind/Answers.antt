use Rattle.nx_left_on.proofs.lemmas.Bounds.{clock-far, clock-near, other-near, put-far, put-near}
use Rattle.nx_left_on.proofs.bounds.a_clock_is_less_than_66_hours_behind.Goals as goal

pub returns : goal.returns
returns c = record {
  near = clock-near;
  far = clock-far;
  put_near = put-near;
  put_far = put-far;
  other_channel = other-near;
}
