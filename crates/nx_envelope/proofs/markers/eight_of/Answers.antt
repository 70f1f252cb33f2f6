use Rattle.std.proofs.Common.{arith, rules}
use Rattle.nx_envelope.proofs.lemmas.finder.EightBytes.{four_of, is_eight}
use Rattle.nx_envelope.proofs.markers.eight_of.Goals as goal

pub returns : goal.returns
returns c = λ back is. is_eight c.args.recent back c.args.bytes _
    (four_of c.args.recent (search rules) (search rules))
    (four_of c.args.bytes (search rules) (search rules)) (grind arith) is
