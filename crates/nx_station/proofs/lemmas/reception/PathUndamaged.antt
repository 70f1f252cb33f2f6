-- An emission that arrives as it is sent is received.
use Rattle.std.proofs.Common.{◌≡◌, ◌≢◌, ℕ, ◌+◌, ◌-◌, ◌*◌, ◌<◌, ◌≤◌, List, [], ◌++◌, length, get_or}
use Rattle.std.proofs.Common.{take, drop, sym, ap, ◌∙◌, subst, arith, inl, inr, length-drop}
use Rattle.std.specs.List.{flat_map}
use Rattle.std.proofs.lemmas.Bool.{cases_lt}
use Rattle.std.proofs.lemmas.List.{get_or-drop, take-append-drop}
use Rattle.std.proofs.lemmas.List.Concat.{flat_map-append}
use Rattle.nx_code.specs.Word.{elements}
use Rattle.nx_envelope.specs.Message.{MessageView}
use Rattle.nx_fec.specs.emissions.Emission.{SentPosition, AreInCode, AreWords, IsInCode, bits_of, emission, slots_of, end_positions}
use Rattle.nx_fec.specs.emissions.Emission.{position_at}
use Rattle.nx_fec.proofs.lemmas.emissions.Emission.{AreWords-emission, get_or-emission, length-emission}
use Rattle.nx_station.specs.Broadcast.{IsBroadcast, layout}
use Rattle.nx_station.specs.reception.Path.{PassesPath, IsAsSent, first_slot}
use Rattle.nx_station.proofs.lemmas.broadcasts.Broadcast.{spelled-some}
use Rattle.nx_station.proofs.lemmas.reception.PathLaws.{inner-in_code}
use Rattle.nx_station.proofs.lemmas.reception.PathPhasing.{fewest_positions, received-long}
use Rattle.nx_station.proofs.lemmas.reception.PathPositions.{HasInner, layout-inner, position-end, position-inner}

inner-all_in_code : (positions : List SentPosition) → HasInner positions → AreInCode positions
inner-all_in_code positions has i h = elim (cases_lt (i + end_positions) (length positions)) [
  | inl inside ↦ inner-in_code (position_at positions i) (position-inner positions has i inside)
  | inr outside ↦ subst IsInCode (sym (position-end positions has i outside)) tt
]

module _ (positions : List SentPosition) (has : HasInner positions)
    (long : fewest_positions ≤ length positions) where
  all_as_sent : (slot : ℕ) → first_slot ≤ slot → slot < slots_of positions
      → IsAsSent positions (drop first_slot (emission positions)) slot
  all_as_sent slot from to =
      let e : first_slot + (slot - first_slot) ≡ slot = omega arith in
      get_or-drop first_slot (emission positions) (slot - first_slot) 0
      ∙ ap (λ k. get_or (emission positions) k 0) e ∙ get_or-emission positions slot 0 to

  all_words : AreWords (drop first_slot (emission positions))
  all_words k h =
      let n = length-drop first_slot (emission positions) in
      subst (λ w. w < 128) (sym (get_or-drop first_slot (emission positions) k 0))
      (AreWords-emission positions (inner-all_in_code positions has) (first_slot + k)
      (omega arith))

  pub undamaged-passes : PassesPath positions (drop first_slot (emission positions))
  undamaged-passes = record {
    words = all_words;
    whole = let n = length-drop first_slot (emission positions) in let m =
        length-emission positions in omega arith;
    phasing = λ slot from to. all_as_sent slot from (omega arith);
    later = λ slot from to. inl (all_as_sent slot (omega arith) to);
    one_of_two = λ i from to not_end. inl (all_as_sent (2 * i) (omega arith) (omega arith));
  }

pub undamaged-received : (messages : List MessageView) (positions : List SentPosition)
    → messages ≢ [] → IsBroadcast messages positions
    → PassesPath positions (drop first_slot (emission positions))
undamaged-received messages positions some h =
    let spelled = spelled-some messages h.spellings some h.each in
    subst (λ p. PassesPath p (drop first_slot (emission p))) (sym h.whole)
    (undamaged-passes (layout h.spellings) (layout-inner messages h.spellings spelled h.each)
    (received-long messages h.spellings h.each spelled))

pub undamaged-cut : (positions : List SentPosition)
    → bits_of (emission positions)
    ≡ bits_of (take first_slot (emission positions))
    ++ bits_of (drop first_slot (emission positions))
unfolding bits_of
undamaged-cut positions =
    ap (flat_map elements) (sym (take-append-drop first_slot (emission positions)))
    ∙ flat_map-append elements (take first_slot (emission positions))
    (drop first_slot (emission positions))
