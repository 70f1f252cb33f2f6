use Rattle.std.proofs.Common.{refl}
use Rattle.nx_left_on.proofs.lemmas.Example.{clocks-near, first-is, first-left, four-hours, heard-in-time}
use Rattle.nx_left_on.proofs.lemmas.Example.{is-chain, one-stands, second-is, second-left}
use Rattle.nx_left_on.proofs.laws.there_is_a_chain_of_watches_with_a_message_heard_in_time.Goals as goal

pub returns : goal.returns
returns c = record {
  chain = is-chain 1735706400 four-hours;
  clocks = clocks-near 1735706400 four-hours;
  heard = heard-in-time 1735706400 four-hours;
  put = refl;
  bytes = (one-stands, refl);
  first = (first-left, first-is);
  second = (second-left 1735706400 four-hours, second-is 1735706400 four-hours);
}
