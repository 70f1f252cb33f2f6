use Rattle.nx_copies.proofs.lemmas.channels.Shares.{to_end-on}
use Rattle.nx_copies.proofs.lemmas.channels.One.{one-in_turn, one-to_end}
use Rattle.nx_copies.proofs.lemmas.channels.Some.{some-in_turn, some-to_end}
use Rattle.nx_promises.proofs.channels.each_channel_has_its_log.Goals as goal

pub returns : goal.returns
returns c = record {
  share = to_end-on;
  some = some-to_end;
  one = one-to_end;
  some_open = some-in_turn;
  one_open = one-in_turn;
}
