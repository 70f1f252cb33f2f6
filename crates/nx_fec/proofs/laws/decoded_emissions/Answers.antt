use Rattle.nx_fec.proofs.lemmas.emissions.RoundTrip.{aligned_text-framed_positions}
use Rattle.nx_fec.proofs.laws.decoded_emissions.Goals as goal

pub returns : goal.returns
returns c = aligned_text-framed_positions
