use Rattle.nx_left_on.proofs.lemmas.Bounds.{few-at-first, many-at-first, old-at-first, young-at-first}
use Rattle.nx_left_on.proofs.bounds.one_receiver_has_the_same_bounds.Goals as goal

pub returns : goal.returns
returns c = record {
  unknown = old-at-first;
  known = young-at-first;
  few = few-at-first;
  many = many-at-first;
}
