use Rattle.nx_program.proofs.lemmas.arguments.Arguments.{damage-bounds, send-bound, slots-bound, watch-bound}
use Rattle.nx_program.proofs.laws.numbers_are_in_range.Goals as goal

pub returns : goal.returns
returns c = record {
  send = send-bound;
  slots = slots-bound;
  watch = watch-bound;
  from = λ arguments kind from count named. (damage-bounds arguments kind from count named).0;
  count = λ arguments kind from count named. (damage-bounds arguments kind from count named).1;
}
