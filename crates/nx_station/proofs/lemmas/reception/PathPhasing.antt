-- What is heard begins with phasing.
use Rattle.std.proofs.Common.{◌≡◌, ◌≢◌, ℕ, zero, suc, ◌+◌, ◌-◌, ◌*◌, ◌/◌, ◌%◌, ◌<◌, ◌≤◌, ◌==◌, cond}
use Rattle.std.proofs.Common.{true, List, [], ◌∷◌, ◌++◌, length, map, replicate, get_or, take, refl}
use Rattle.std.proofs.Common.{sym, ap, ◌∙◌, subst, arith, inl, inr, eqb}
use Rattle.std.specs.List.{flat_map}
use Rattle.std.proofs.lemmas.Bool.{agree_below_at, cases_eq, cond-true, cond-false, eq-eqb}
use Rattle.std.proofs.lemmas.Bool.{eqb-true, ne_eqb}
use Rattle.std.proofs.lemmas.List.{ext_get_or, get_or-take, get_or_append_left, length-append}
use Rattle.std.proofs.lemmas.List.{length-replicate, length-take-le}
use Rattle.nx_code.specs.Table.{phasing_1, phasing_2}
use Rattle.nx_fec.specs.emissions.Emission.{SentPosition, phasing_position, traffic_position, end_position, end_positions}
use Rattle.nx_fec.specs.emissions.Emission.{dx_word, rx_word, position_at, word_sent}
use Rattle.nx_fec.proofs.lemmas.emissions.Emission.{word_sent-dx, word_sent-rx}
use Rattle.nx_envelope.specs.Message.{MessageView}
use Rattle.nx_station.specs.Broadcast.{AreSpelled, IsBroadcast, IsSpelled, ending, head, layout}
use Rattle.nx_station.specs.Broadcast.{phasing_and_message, first_phasing, further_phasing}
use Rattle.nx_code.specs.Reading.{combination, shift_after_all}
use Rattle.nx_code.specs.declared.shifts.Shift.{Shift}
use Rattle.nx_code.specs.declared.shifts.Shift.TheVariants.{Letters, Figures}
use Rattle.nx_station.proofs.lemmas.broadcasts.Broadcast.{length-head, length-layout}
use Rattle.nx_station.proofs.lemmas.reception.PathWords.{not-empty}
use Rattle.nx_station.specs.reception.Path.{PassesPath, first_slot, phasing_words, phasing_received}

get_or-phasing : (count i : ℕ) → i < count
    → get_or (replicate count phasing_position) i end_position ≡ phasing_position
get_or-phasing zero i h = absurd (omega (arith, h))
get_or-phasing (suc count) zero h = refl
get_or-phasing (suc count) (suc i) h = get_or-phasing count i (omega (arith, h))

-- the shortest message has 20 combinations
length-ending : (shift : Shift) → 7 ≤ length (ending shift)
unfolding ending
length-ending Letters = omega arith
length-ending Figures = omega arith

pub length-spelled : (message : MessageView) (numbers : List ℕ) → IsSpelled message numbers
    → 20 ≤ length numbers
length-spelled message numbers h =
    let shift = shift_after_all (map combination h.text) Figures in
    omega (
      arith,
      ap length h.whole,
      length-append (head message.identity) (h.text ++ ending shift),
      length-append h.text (ending shift),
      length-head message.identity,
      length-ending shift,
    )

-- how many positions the shortest emission has
abbrev pub fewest_positions : ℕ
fewest_positions = first_phasing + 20 + end_positions

pub received-long : (messages : List MessageView) (spellings : List (List ℕ))
    → AreSpelled messages spellings → spellings ≢ [] → fewest_positions ≤ length (layout spellings)
received-long messages [] h some = absurd (some refl)
received-long [] (s ∷ ss) h some = absurd h
received-long (m ∷ ms) (s ∷ ss) h some =
    omega (arith, length-layout (s ∷ ss) some, length-spelled m s h.0)

-- the first positions of an emission that is sent are phasing
layout-phasing : (spellings : List (List ℕ)) (i : ℕ) → fewest_positions ≤ length (layout spellings)
    → i < first_phasing → position_at (layout spellings) i ≡ phasing_position
unfolding layout
layout-phasing [] i long h = absurd (omega (arith, long))
layout-phasing (s ∷ ss) i long h =
    let front = replicate first_phasing phasing_position in
    let rest = flat_map (phasing_and_message further_phasing) ss
    ++ replicate end_positions end_position in
    let n = length-replicate first_phasing phasing_position in
    let m = length-append (replicate first_phasing phasing_position) (map traffic_position s) in
    get_or_append_left (phasing_and_message first_phasing s) rest end_position i (omega arith)
    ∙ get_or_append_left front (map traffic_position s) end_position i (omega arith)
    ∙ get_or-phasing first_phasing i h

phasing_words-at : (j : ℕ) → j < 2 * phasing_received
    → get_or (phasing_words phasing_received) j 0 ≡ cond (j % 2 == 0) phasing_2 phasing_1
unfolding phasing_words
phasing_words-at j h =
    eqb-true (get_or (phasing_words phasing_received) j 0) (cond (j % 2 == 0) phasing_2 phasing_1)
    (agree_below_at (λ k. eqb (get_or (phasing_words phasing_received) k 0)
    (cond (k % 2 == 0) phasing_2 phasing_1)) (λ _. true) (2 * phasing_received) j refl h)

length-phasing_words : length (phasing_words phasing_received) ≡ 2 * phasing_received
unfolding phasing_words
length-phasing_words = refl

-- the first position whose words are received
abbrev first_position : ℕ
first_position = first_phasing - phasing_received

module _ (positions : List SentPosition) (heard : List ℕ) (passes : PassesPath positions heard)
    (enough : fewest_positions ≤ length positions)
    (phased : (i : ℕ) → i < first_phasing → position_at positions i ≡ phasing_position) where
  sent : (j : ℕ) → j < 2 * phasing_received
      → word_sent positions (first_slot + j) ≡ cond (j % 2 == 0) phasing_2 phasing_1
  sent j h = elim (cases_eq (j % 2) 0) [
    | inl even ↦
        let e : first_slot + j ≡ 2 * (first_position + j / 2) = omega arith in
        ap (word_sent positions) e ∙ word_sent-dx positions (first_position + j / 2)
        ∙ ap dx_word (phased (first_position + j / 2) (omega arith))
        ∙ sym (cond-true (j % 2 == 0) phasing_2 phasing_1 (eq-eqb (j % 2) 0 even))
    | inr odd ↦
        let e : first_slot + j ≡ 2 * (first_position - 3 + (j + 1) / 2) + 5 = omega arith in
        ap (word_sent positions) e ∙ word_sent-rx positions (first_position - 3 + (j + 1) / 2)
        ∙ ap rx_word (phased (first_position - 3 + (j + 1) / 2) (omega arith))
        ∙ sym (cond-false (j % 2 == 0) phasing_2 phasing_1 (ne_eqb (j % 2) 0 odd))
  ]

  pub begins_with_phasing : take (2 * phasing_received) heard ≡ phasing_words phasing_received
  begins_with_phasing =
      let long : 2 * phasing_received ≤ length heard = omega (arith, passes.whole, enough) in
      let n : length (take (2 * phasing_received) heard) ≡ 2 * phasing_received =
      length-take-le (2 * phasing_received) heard long in
      ext_get_or 0 (take (2 * phasing_received) heard) (phasing_words phasing_received)
      (n ∙ sym length-phasing_words)
      (λ j h. get_or-take (2 * phasing_received) heard j 0 (omega arith) ∙ at j (omega arith)
      ∙ sent j (omega arith) ∙ sym (phasing_words-at j (omega arith)))
    where
      at : (j : ℕ) → j < 2 * phasing_received
          → get_or heard j 0 ≡ word_sent positions (first_slot + j)
      at j h = let e : first_slot + j - first_slot ≡ j = omega arith in
          ap (λ k. get_or heard k 0) (sym e)
          ∙ passes.phasing (first_slot + j) (omega arith) (omega arith)

-- what is received is long enough, and begins with phasing
pub heard-phasing : (messages : List MessageView) (positions : List SentPosition) (heard : List ℕ)
    → IsBroadcast messages positions → PassesPath positions heard
    → take (2 * phasing_received) heard ≡ phasing_words phasing_received
heard-phasing messages positions heard h passes =
    let long : fewest_positions ≤ length (layout h.spellings) =
    received-long messages h.spellings h.each
    (not-empty h.spellings heard (subst (λ p. PassesPath p heard) h.whole passes)) in
    begins_with_phasing positions heard passes
    (subst (λ p. fewest_positions ≤ length p) (sym h.whole) long)
    (λ i lt. ap (λ p. position_at p i) h.whole ∙ layout-phasing h.spellings i long lt)
