use Rattle.nx_fec.specs.emissions.Emission.{emission}
use Rattle.nx_fec.proofs.lemmas.emissions.Emission.{IsEmission-emission}
use Rattle.nx_fec.proofs.lemmas.emissions.RoundTrip.{receptions-IsEmission}
use Rattle.nx_fec.proofs.laws.receptions_of_emissions.Goals as goal

pub returns : goal.returns
returns c positions code h =
    receptions-IsEmission positions (emission positions) (IsEmission-emission positions) code h
