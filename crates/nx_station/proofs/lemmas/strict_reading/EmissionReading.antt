-- What is read of the emission of messages: right words, pairs, and their text; so the emission is
-- of one list.
use Rattle.std.proofs.Common.{◌≡◌, ◌≢◌, ℕ, ◌+◌, ◌-◌, ◌*◌, ◌/◌, ◌%◌, ◌<◌, ◌≤◌, zero, suc, Bool, List}
use Rattle.std.proofs.Common.{[], ◌∷◌, ◌++◌, length, get_or, take, map, replicate, inl, inr, refl}
use Rattle.std.proofs.Common.{sym, ap, ◌∙◌, subst, append_assoc, arith, append-nil, length-append}
use Rattle.std.specs.List.{flat_map, AllByRecursion}
use Rattle.std.proofs.lemmas.Bool.{cases_lt, cases_eq}
use Rattle.std.proofs.lemmas.List.{map-append, take_at}
use Rattle.std.proofs.lemmas.List.Elements.{All-from_recursion}
use Rattle.nx_code.specs.Reading.{idle, text}
use Rattle.nx_code.specs.Word.{weight}
use Rattle.nx_code.specs.declared.shifts.Shift.TheVariants.{Letters}
use Rattle.nx_code.proofs.lemmas.Reading.{text-append}
use Rattle.nx_code.proofs.lemmas.Each.{each_append}
use Rattle.nx_envelope.specs.Message.{MessageView}
use Rattle.nx_fec.specs.emissions.Aligned.{AreWhole, aligned_text, words_of}
use Rattle.nx_fec.specs.emissions.Emission.{SentPosition, AreInCode, IsInCode, bits_of, emission, end_positions}
use Rattle.nx_fec.specs.emissions.Emission.{end_position, phasing_position, position_at, reception}
use Rattle.nx_fec.specs.emissions.Emission.{traffic_position, word_sent}
use Rattle.nx_fec.proofs.lemmas.emissions.Emission.{AreWords-emission, IsEmission-emission, get_or-emission}
use Rattle.nx_fec.proofs.lemmas.emissions.Emission.{length-emission, word_sent-dx, word_sent-rx}
use Rattle.nx_fec.proofs.lemmas.emissions.RoundTrip.{length-bits_of, receptions-IsEmission, words_of-bits_of}
use Rattle.nx_station.specs.Broadcast.{AreSpelled, IsBroadcast, IsSpelled, layout}
use Rattle.nx_station.specs.Broadcast.{phasing_and_message, printed_text, first_phasing}
use Rattle.nx_station.specs.Broadcast.{further_phasing}
use Rattle.nx_station.specs.StrictReading.{IsEmissionOf, AreRight, ArePaired, IsPair}
use Rattle.nx_station.proofs.lemmas.reception.PathPositions.{IsCombination, spelled-combinations}
use Rattle.nx_station.proofs.lemmas.strict_reading.PrintedText.{printed-one}
use Rattle.nx_station.proofs.lemmas.strict_reading.ReadingBack.{broadcast-prints}
use Rattle.nx_station.proofs.lemmas.reception.WordWeights.{phasing_1-weight, dx-weight, rx-weight}

-- ---- the positions of messages are in the code

traffic-code : (numbers : List ℕ) → AllByRecursion IsCombination numbers
    → AllByRecursion IsInCode (map traffic_position numbers)
traffic-code [] h = tt
traffic-code (n ∷ numbers) h = (h.0, traffic-code numbers h.1)

phasing-code : (count : ℕ) → AllByRecursion IsInCode (replicate count phasing_position)
phasing-code zero = tt
phasing-code (suc count) = (tt, phasing-code count)

one-code : (count : ℕ) (message : MessageView) (numbers : List ℕ) → IsSpelled message numbers
    → AllByRecursion IsInCode (phasing_and_message count numbers)
one-code count message numbers h =
    each_append IsInCode (replicate count phasing_position) (map traffic_position numbers)
    (phasing-code count) (traffic-code numbers (spelled-combinations message numbers h))

others-code : (messages : List MessageView) (spellings : List (List ℕ))
    → AreSpelled messages spellings
    → AllByRecursion IsInCode (flat_map (phasing_and_message further_phasing) spellings)
others-code [] [] h = tt
others-code [] (s ∷ ss) h = absurd h
others-code (m ∷ ms) [] h = absurd h
others-code (m ∷ ms) (s ∷ ss) h =
    each_append IsInCode (phasing_and_message further_phasing s)
    (flat_map (phasing_and_message further_phasing) ss) (one-code further_phasing m s h.0)
    (others-code ms ss h.1)

layout-code : (messages : List MessageView) (spellings : List (List ℕ))
    → AreSpelled messages spellings → AllByRecursion IsInCode (layout spellings)
unfolding layout
layout-code [] [] h = tt
layout-code [] (s ∷ ss) h = absurd h
layout-code (m ∷ ms) [] h = absurd h
layout-code (m ∷ ms) (s ∷ ss) h =
    let others = flat_map (phasing_and_message further_phasing) ss in
    each_append IsInCode (phasing_and_message first_phasing s)
    (others ++ replicate end_positions end_position) (one-code first_phasing m s h.0)
    (each_append IsInCode others (replicate end_positions end_position) (others-code ms ss h.1)
    (tt, (tt, (tt, tt))))

pub broadcast-code : (messages : List MessageView) (positions : List SentPosition)
    → IsBroadcast messages positions → AreInCode positions
broadcast-code messages positions h i lt =
    All-from_recursion IsInCode positions
    (subst (AllByRecursion IsInCode) (sym h.whole) (layout-code messages h.spellings h.each)) i
    end_position lt

-- ---- the text of an emission

-- positions that end with three of the end
record Ends (positions : List SentPosition) : Type 0 where
  front : List SentPosition
  whole : positions ≡ front ++ replicate end_positions end_position

layout-ends : (messages : List MessageView) (spellings : List (List ℕ)) → messages ≢ []
    → AreSpelled messages spellings → Ends (layout spellings)
unfolding layout
layout-ends [] ss some h = absurd (some refl)
layout-ends (m ∷ ms) [] some h = absurd h
layout-ends (m ∷ ms) (s ∷ ss) some h =
    let others = flat_map (phasing_and_message further_phasing) ss in
    record {
      front = phasing_and_message first_phasing s ++ others;
      whole =
          sym (append_assoc (phasing_and_message first_phasing s) others
          (replicate end_positions end_position));
    }

ends-text : (front : List SentPosition)
    → text (map reception (front ++ replicate end_positions end_position)) Letters
    ≡ text (map reception front) Letters
ends-text front =
    let ends = map reception (replicate end_positions end_position) in
    ap (λ l. text l Letters) (map-append reception front (replicate end_positions end_position))
    ∙ text-append (map reception front) ends Letters
    ∙ append-nil (text (map reception front) Letters)

front-text : (positions front : List SentPosition)
    → positions ≡ front ++ replicate end_positions end_position → AreInCode positions
    → aligned_text (words_of (bits_of (emission positions)))
    ≡ text (map reception positions) Letters
front-text positions front whole code =
    let count = ap length whole in
    let long = length-append front (replicate end_positions end_position) in
    let three : end_positions ≤ length positions = omega (arith, count, long) in
    let n : length front ≡ length positions - end_positions = omega (arith, count, long) in
    let taken : take (length positions - end_positions) positions ≡ front =
    ap (take (length positions - end_positions)) whole
    ∙ take_at front (replicate end_positions end_position) (length positions - end_positions)
    n in
    ap aligned_text (words_of-bits_of (emission positions) (AreWords-emission positions code))
    ∙ ap (λ l. text l Letters)
    (receptions-IsEmission positions (emission positions) (IsEmission-emission positions) code
    three)
    ∙ ap (λ l. text (idle ∷ idle ∷ map reception l) Letters) taken
    ∙ sym (ends-text front)
    ∙ ap (λ l. text (map reception l) Letters) (sym whole)

pub broadcast-text : (messages : List MessageView) (positions : List SentPosition) → messages ≢ []
    → IsBroadcast messages positions
    → aligned_text (words_of (bits_of (emission positions))) ≡ flat_map printed_text messages
broadcast-text messages positions some h =
    let ends = layout-ends messages h.spellings some h.each in
    front-text positions ends.front (h.whole ∙ ends.whole) (broadcast-code messages positions h)
    ∙ broadcast-prints messages positions Letters h

-- the text of the elements is what is printed of the messages
pub emission-text : (messages : List MessageView) (bits : List Bool) → IsEmissionOf messages bits
    → aligned_text (words_of bits) ≡ flat_map printed_text messages
emission-text messages bits h =
    ap (λ b. aligned_text (words_of b)) h.whole
    ∙ broadcast-text messages h.positions h.sendable.of_one.some h.broadcast

-- so they are those of one list
pub emission-one : (one other : List MessageView) (bits : List Bool) → IsEmissionOf one bits
    → IsEmissionOf other bits → one ≡ other
emission-one one other bits h k =
    printed-one one other h.sendable.sound k.sendable.sound
    (sym (emission-text one bits h) ∙ emission-text other bits k)

-- ---- the words of an emission

slot-even : (positions : List SentPosition) (slot : ℕ) → AreInCode positions
    → slot < 2 * length positions - 1 → slot % 2 ≡ 0
    → weight (get_or (emission positions) slot 0) ≡ 4
slot-even positions slot code lt even =
    let place : 2 * (slot / 2) ≡ slot = omega (arith, even) in
    ap weight (get_or-emission positions slot 0 lt ∙ ap (word_sent positions) (sym place)
    ∙ word_sent-dx positions (slot / 2))
    ∙ dx-weight (position_at positions (slot / 2)) (code (slot / 2) (omega (arith, lt, even)))

slot-late : (positions : List SentPosition) (slot : ℕ) → AreInCode positions
    → slot < 2 * length positions - 1 → slot % 2 ≡ 1 → 5 ≤ slot
    → weight (get_or (emission positions) slot 0) ≡ 4
slot-late positions slot code lt odd late =
    let i = (slot - 5) / 2 in
    let place : 2 * i + 5 ≡ slot = omega (arith, odd, late) in
    ap weight (get_or-emission positions slot 0 lt ∙ ap (word_sent positions) (sym place)
    ∙ word_sent-rx positions i)
    ∙ rx-weight (position_at positions i) (code i (omega (arith, lt, odd, late)))

slot-early : (positions : List SentPosition) (slot : ℕ) → slot < 2 * length positions - 1
    → slot % 2 ≡ 1 → slot < 5 → weight (get_or (emission positions) slot 0) ≡ 4
slot-early positions slot lt odd early =
    let sent = IsEmission-emission positions in
    let long = length-emission positions in
    elim (cases_eq slot 1) [
      | inl e ↦ ap (λ s. weight (get_or (emission positions) s 0)) e
          ∙ ap weight (sent.first_rx (omega (arith, long, lt, e))) ∙ phasing_1-weight
      | inr other ↦
          let e : slot ≡ 3 = omega (arith, odd, early, other) in
          ap (λ s. weight (get_or (emission positions) s 0)) e
          ∙ ap weight (sent.second_rx (omega (arith, long, lt, e))) ∙ phasing_1-weight
    ]

slot-right : (positions : List SentPosition) (slot : ℕ) → AreInCode positions
    → slot < 2 * length positions - 1 → weight (get_or (emission positions) slot 0) ≡ 4
slot-right positions slot code lt =
    elim (cases_eq (slot % 2) 0) [
      | inl even ↦ slot-even positions slot code lt even
      | inr odd ↦ elim (cases_lt slot 5) [
        | inl early ↦ slot-early positions slot lt (omega (arith, odd)) early
        | inr late ↦ slot-late positions slot code lt (omega (arith, odd)) late
      ]
    ]

position-pair : (positions : List SentPosition) (i : ℕ) → AreInCode positions
    → 2 * i + 5 < 2 * length positions - 1
    → IsPair (get_or (emission positions) (2 * i) 0) (get_or (emission positions) (2 * i + 5) 0)
position-pair positions i code lt = record {
  position = position_at positions i;
  in_code = code i (omega (arith, lt));
  first = get_or-emission positions (2 * i) 0 (omega (arith, lt)) ∙ word_sent-dx positions i;
  second = get_or-emission positions (2 * i + 5) 0 lt ∙ word_sent-rx positions i;
}

-- the words of the elements are those of the positions
emission-words : (messages : List MessageView) (bits : List Bool) (h : IsEmissionOf messages bits)
    → words_of bits ≡ emission h.positions
emission-words messages bits h =
    ap words_of h.whole ∙ words_of-bits_of (emission h.positions)
    (AreWords-emission h.positions (broadcast-code messages h.positions h.broadcast))

pub emission-whole : (messages : List MessageView) (bits : List Bool) → IsEmissionOf messages bits
    → AreWhole bits
emission-whole messages bits h =
    omega (arith, ap length h.whole, length-bits_of (emission h.positions))

pub emission-right : (messages : List MessageView) (bits : List Bool) → IsEmissionOf messages bits
    → AreRight bits
emission-right messages bits h slot wrong =
    let same = emission-words messages bits h in
    let code = broadcast-code messages h.positions h.broadcast in
    wrong.wrong (ap (λ l. weight (get_or l slot 0)) same
    ∙ slot-right h.positions slot code
    (omega (arith, wrong.within, ap length same, length-emission h.positions)))

pub emission-paired : (messages : List MessageView) (bits : List Bool) → IsEmissionOf messages bits
    → ArePaired bits
emission-paired messages bits h position unpaired =
    let same = emission-words messages bits h in
    let code = broadcast-code messages h.positions h.broadcast in
    unpaired.no_pair (subst (λ l. IsPair (get_or l (2 * position) 0)
    (get_or l (2 * position + 5) 0)) (sym same)
    (position-pair h.positions position code
    (omega (arith, unpaired.within, ap length same, length-emission h.positions))))
