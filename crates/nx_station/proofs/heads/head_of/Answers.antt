use Rattle.std.proofs.Common.{refl}
use Rattle.nx_station.specs.Broadcast.{head}
use Rattle.nx_station.proofs.heads.head_of.Goals as goal

pub returns : goal.returns
unfolding head
returns c =
    rw (
      c.letter_comb.ensures,
      c.letter_comb-2.ensures,
      c.digit_comb.ensures,
      c.digit_comb-2.ensures,
      c.b1.ensures,
      c.b2.ensures,
      c.number-number.ensures.value,
    ) refl
