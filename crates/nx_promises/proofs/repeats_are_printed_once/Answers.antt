use Rattle.nx_copies.proofs.lemmas.once.Repeats.{none_live, once}
use Rattle.nx_promises.proofs.repeats_are_printed_once.Goals as goal

pub returns : goal.returns
returns c = record { once = once; unknown = none_live }
