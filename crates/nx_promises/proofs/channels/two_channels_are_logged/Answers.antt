use Rattle.nx_promises.proofs.lemmas.examples.Channels.{logged}
use Rattle.nx_promises.proofs.channels.two_channels_are_logged.Goals as goal

pub returns : goal.returns
returns c = logged
