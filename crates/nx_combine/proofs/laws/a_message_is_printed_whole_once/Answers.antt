use Rattle.nx_combine.proofs.lemmas.Once.{once_all}
use Rattle.nx_combine.proofs.laws.a_message_is_printed_whole_once.Goals as goal

pub returns : goal.returns
returns c = once_all
