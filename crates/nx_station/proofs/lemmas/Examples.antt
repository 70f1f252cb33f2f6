-- The definitions at worked examples.
use Rattle.std.proofs.Common.{◌≡◌, ◌∷◌, [], ◌++◌, codes, length, refl, arith}
use Rattle.nx_envelope.specs.declared.identity.Identity.{Identity}
use Rattle.nx_station.specs.Broadcast.{head, layout}
use Rattle.nx_station.specs.MessageFile.{message_file_bytes}
use Rattle.nx_station.specs.Slots.{IsSlot}

-- EA01
abbrev pub ea01 : Identity
ea01 = record {
  b1 = record { byte = 69; in_range = (omega arith, omega arith) };
  b2 = record { byte = 65; in_range = (omega arith, omega arith) };
  number = 1;
  two_digits = omega arith;
}

-- letter shift, ZCZC, space, E, A, figure shift, 0, 1, carriage return, line feed
pub head_of_ea01 : head ea01 ≡ 29 ∷ 26 ∷ 3 ∷ 26 ∷ 3 ∷ 31 ∷ 5 ∷ 1 ∷ 30 ∷ 16 ∷ 17 ∷ 27 ∷ 28 ∷ []
unfolding head
head_of_ea01 = refl

-- two messages, of 2 combinations and of 1
pub positions_of_two : length (layout ((1 ∷ 2 ∷ []) ∷ (3 ∷ []) ∷ [])) ≡ 114
unfolding layout
positions_of_two = refl

pub file_of_ea01 : message_file_bytes
    (record { subject = 65; number = 1; lines = codes "TEST" ∷ [] } ∷ [])
    ≡ codes "#A01" ++ 10 ∷ (codes "TEST" ++ 10 ∷ (codes ";" ++ 10 ∷ []))
file_of_ea01 = refl

-- 2025-01-01 00:40:00
pub slot_of_e : IsSlot 69 1735692000
slot_of_e = record { has_slots = omega arith; round = 120534; begins = refl }
