use Rattle.std.proofs.Common.{◌≡◌, ◌+◌, ◌*◌, length, map, take}
use Rattle.std.specs.Int.{to_le_bytes, w64}
use Rattle.nx_code.specs.Word.{elements}
use Rattle.nx_fec.specs.air_files.AirFile.{element_digit}
use Rattle.nx_fec.specs.emissions.Emission.{sent_position, word_sent}
use Rattle.nx_fec.proofs.lemmas.emissions.EmissionLine.{slot_digits}
use Rattle.nx_fec.proofs.emissions.emission_lines.push_slots.Given as goal

-- the digits of the positions so far, and those of the next two RX words
abbrev pub invariant-loop-place : goal.invariant-loop-place
invariant-loop-place l =
    let f = word_sent (map sent_position l.positions) in record {
      size : length l.digits ≡ 491;
      same : take (14 * l.place) l.digits ≡ slot_digits f (70 * l.index) (2 * l.place);
      behind : take 7 (to_le_bytes w64 l.behind)
          ≡ map element_digit (elements (f (70 * l.index + 2 * l.place + 1)));
      behind_next : take 7 (to_le_bytes w64 l.behind_next)
          ≡ map element_digit (elements (f (70 * l.index + 2 * (l.place + 1) + 1)));
    }
