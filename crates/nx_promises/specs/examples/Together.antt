-- A worked emission in which one message is sent twice, and each time another letter of it is lost
-- (the words are those of ITU-R M.625's mode B for the positions of this profile's emissions).
use Rattle.std.specs.Prelude.{ℕ, ◌==◌, ◌||◌, Bool, List, [], ◌∷◌, drop}
use Rattle.nx_fec.specs.emissions.Emission.{dx_slot, emission, rx_slot}
use Rattle.nx_station.specs.Broadcast.{layout}
use Rattle.nx_station.specs.reception.Path.{first_slot}
use Rattle.nx_station.specs.reception.PathExample.{damaged_in, example_message, example_numbers}
use Rattle.nx_station.specs.reception.Sendings.{Part, ReceivedEmission, received}

-- the combinations of EA01 with the one line TEST, twice
abbrev pub twice_spelled : List (List ℕ)
twice_spelled = example_numbers ∷ example_numbers ∷ []

-- both words of the T that comes first are lost in the first sending, and both words of the E in
-- the second
abbrev pub is_lost_once : ℕ → Bool
is_lost_once slot =
    slot == dx_slot 86 || slot == rx_slot 86 || slot == dx_slot 150 || slot == rx_slot 150

-- what is heard of the emission from slot 96 on
unfoldable pub twice_heard : List ℕ
twice_heard = damaged_in is_lost_once first_slot (drop first_slot (emission (layout twice_spelled)))

abbrev pub twice_emission : ReceivedEmission
twice_emission = record {
  messages = example_message ∷ example_message ∷ [];
  spellings = twice_spelled;
  heard = twice_heard;
}

-- it is all that is heard
abbrev pub twice_parts : List Part
twice_parts = received twice_emission ∷ []
