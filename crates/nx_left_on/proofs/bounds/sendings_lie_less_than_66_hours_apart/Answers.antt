use Rattle.nx_left_on.proofs.lemmas.Bounds.{not-heard}
use Rattle.nx_left_on.proofs.lemmas.Example.{almost-66-hours, heard-in-time, is-chain}
use Rattle.nx_left_on.proofs.bounds.sendings_lie_less_than_66_hours_apart.Goals as goal

pub returns : goal.returns
returns c = record {
  chain = is-chain 1735929599 almost-66-hours;
  heard = heard-in-time 1735929599 almost-66-hours;
  not_heard = not-heard;
}
