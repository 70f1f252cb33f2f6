-- The words of a position that is in the code have the right weight.
use Rattle.std.proofs.Common.{◌≡◌, ℕ, ◌-◌, ◌≤◌, refl, ap, ◌∙◌, arith}
use Rattle.nx_code.specs.Table.{phasing_1, phasing_2}
use Rattle.nx_code.specs.Word.{weight, elements, elements_from}
use Rattle.nx_code.proofs.lemmas.Table.{traffic_word-is}
use Rattle.nx_fec.specs.emissions.Emission.{SentPosition, IsInCode, dx_word, rx_word, phasing_position}
use Rattle.nx_fec.specs.emissions.Emission.{traffic_position, end_position}
use Rattle.nx_fec.proofs.lemmas.emissions.Pairing.{weight-words}

pub phasing_1-weight : weight phasing_1 ≡ 4
unfolding weight elements elements_from
phasing_1-weight = refl

phasing_2-weight : weight phasing_2 ≡ 4
unfolding weight elements elements_from
phasing_2-weight = refl

traffic-weight : (number : ℕ) → 1 ≤ number → number ≤ 32
    → weight (dx_word (traffic_position number)) ≡ 4
traffic-weight number low high =
    ap weight (traffic_word-is number low high)
    ∙ weight-words (number - 1) (omega (arith, low, high))

pub dx-weight : (position : SentPosition) → IsInCode position → weight (dx_word position) ≡ 4
dx-weight phasing_position h = phasing_2-weight
dx-weight (traffic_position number) h = traffic-weight number h.0 h.1
dx-weight end_position h = phasing_1-weight

pub rx-weight : (position : SentPosition) → IsInCode position → weight (rx_word position) ≡ 4
rx-weight phasing_position h = phasing_1-weight
rx-weight (traffic_position number) h = traffic-weight number h.0 h.1
rx-weight end_position h = phasing_1-weight
