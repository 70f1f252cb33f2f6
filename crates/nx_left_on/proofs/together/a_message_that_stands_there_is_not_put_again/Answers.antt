use Rattle.nx_left_on.proofs.lemmas.combined.Chains.{chain-over}
use Rattle.nx_left_on.proofs.together.a_message_that_stands_there_is_not_put_again.Goals as goal

pub returns : goal.returns
returns c log watches channel identity entry earlier later copy numbered named chain near stands
    e is first =
    chain-over channel identity entry numbered named log watches chain near stands earlier later
    copy e is first
