use Rattle.nx_watch.proofs.lemmas.log.Stamps.{each-stamped}
use Rattle.nx_watch.proofs.laws.each_byte_comes_by_a_read_with_a_stamp.Goals as goal

pub returns : goal.returns
returns g c = each-stamped
