use Rattle.nx_receiver.proofs.lemmas.listening.Listener.{in_force-lines}
use Rattle.nx_promises.proofs.listening.lines_tell_the_moment_in_force.Goals as goal

pub returns : goal.returns
returns c = in_force-lines
