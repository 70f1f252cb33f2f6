use Rattle.std.proofs.Common.{arith}
use Rattle.std.proofs.lemmas.Grind.{common_steps}
use Rattle.nx_c.proofs.receiving.hand_out.Goals as goal

pub returns-clause-done : goal.returns-clause-done
returns-clause-done c = grind (arith, common_steps)

pub returns-clause-handed : goal.returns-clause-handed
returns-clause-handed c = grind (arith, common_steps)

pub returns-clause-status : goal.returns-clause-status
returns-clause-status c = grind (arith, common_steps)

pub returns-then-left-new_state-clause-done : goal.returns-then-left-new_state-clause-done
returns-then-left-new_state-clause-done c = grind (arith, common_steps)

pub returns-then-left-new_state-clause-handed : goal.returns-then-left-new_state-clause-handed
returns-then-left-new_state-clause-handed c = grind (arith, common_steps)

pub returns-then-left-new_state-clause-status : goal.returns-then-left-new_state-clause-status
returns-then-left-new_state-clause-status c = grind (arith, common_steps)
