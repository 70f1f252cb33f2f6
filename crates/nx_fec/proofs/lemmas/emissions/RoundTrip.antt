-- What is decoded of the elements of an emission.
use Rattle.std.proofs.Common.{◌≡◌, ℕ, suc, zero, ◌+◌, ◌-◌, ◌*◌, ◌/◌, ◌%◌, ◌^◌, ◌<◌, ◌≤◌, refl, sym}
use Rattle.std.proofs.Common.{ap, subst, ◌∙◌, Bool, true, eqb, cond, List, [], ◌∷◌, ◌++◌, length}
use Rattle.std.proofs.Common.{map, replicate, get_or, take, drop, arith, eq-eqb, length-append}
use Rattle.std.proofs.Common.{length-take, length-drop}
use Rattle.std.specs.List.{flat_map, range_with_len}
use Rattle.std.proofs.lemmas.List.{drop-drop, flat_map_more, get_or-take, get_or-map, length-map}
use Rattle.std.proofs.lemmas.List.{length-take-le, map-append, take_all, take_at}
use Rattle.std.proofs.lemmas.List.FromFn.{fill_by_all, map-range_with_len_more}
use Rattle.std.proofs.lemmas.Nat.{pow_pos}
use Rattle.std.proofs.Math.Nat.{pow-succ'}
use Rattle.std.proofs.Math.Seq.{take-add}
use Rattle.nx_code.specs.declared.signals.Comb.{Comb}
use Rattle.nx_code.specs.declared.shifts.Shift.TheVariants.{Letters}
use Rattle.nx_code.specs.Word.{elements, elements_from, number_of}
use Rattle.nx_code.specs.Reading.{Reception, combination, idle, lost, text}
use Rattle.nx_code.proofs.lemmas.Packed.{length-elements}
use Rattle.nx_code.proofs.lemmas.Word.{value_of-le, number_of-elements, elements-number_of}
use Rattle.nx_fec.specs.declared.emissions.positions.Position.TheVariants.{Phasing, Traffic, End}
use Rattle.nx_fec.specs.emissions.Pairing.{traffic, idle_signal, nothing, counts_as, pairing}
use Rattle.nx_fec.specs.emissions.Aligned.{word_in, words_of, taken_at, receptions, aligned_text}
use Rattle.nx_code.specs.Table.{phasing_1, phasing_2}
use Rattle.nx_code.proofs.lemmas.Table.{traffic_word-is}
use Rattle.nx_fec.specs.emissions.Emission.{SentPosition, sent_position, phasing_position, traffic_position}
use Rattle.nx_fec.specs.emissions.Emission.{end_position, dx_word, rx_word, position_at, emission, IsEmission}
use Rattle.nx_fec.specs.emissions.Emission.{bits_of, AreWords, AreCombinations, IsInCode, AreInCode}
use Rattle.nx_fec.specs.emissions.Emission.{reception, framed_positions}
use Rattle.nx_fec.proofs.lemmas.emissions.Pairing.{counts_as-words, counts_as-combination}
use Rattle.nx_fec.proofs.lemmas.emissions.Aligned.{length-words_of, get_or-words_of, five_before-early}
use Rattle.nx_fec.proofs.lemmas.emissions.Aligned.{five_before-late, taken_at-pairing}
use Rattle.nx_fec.proofs.lemmas.emissions.Emission.{phasing_1-words, phasing_2-words, IsEmission-emission}
use Rattle.nx_fec.proofs.lemmas.emissions.Emission.{AreWords-emission}

-- a word has seven elements
take-elements : (word : ℕ) (rest : List Bool) → take 7 (elements word ++ rest) ≡ elements word
unfolding elements elements_from
take-elements word rest = refl

drop-elements : (word : ℕ) (rest : List Bool) → drop 7 (elements word ++ rest) ≡ rest
unfolding elements elements_from
drop-elements word rest = refl

pub length-bits_of : (sent : List ℕ) → length (bits_of sent) ≡ 7 * length sent
unfolding bits_of
length-bits_of [] = refl
length-bits_of (word ∷ sent) =
    length-append (elements word) (bits_of sent)
    ∙ omega (arith, length-elements word, length-bits_of sent)

word_in-bits_of : (sent : List ℕ) (slot : ℕ) → AreWords sent → slot < length sent
    → word_in (bits_of sent) slot ≡ get_or sent slot 0
unfolding bits_of word_in
word_in-bits_of [] slot h k = absurd (omega arith)
word_in-bits_of (word ∷ sent) zero h k =
    ap number_of (take-elements word (bits_of sent)) ∙ number_of-elements word (h 0 (omega arith))
word_in-bits_of (word ∷ sent) (suc slot) h k =
    let e : 7 * suc slot ≡ 7 + 7 * slot = omega arith in
    ap (λ n. number_of (take 7 (drop n (elements word ++ bits_of sent)))) e
    ∙ ap (λ l. number_of (take 7 l)) (sym (drop-drop (7 * slot) 7 (elements word ++ bits_of sent)))
    ∙ ap (λ l. number_of (take 7 (drop (7 * slot) l))) (drop-elements word (bits_of sent))
    ∙ word_in-bits_of sent slot (λ j l. h (suc j) (omega arith)) (omega arith)

-- the elements of words give the words back
pub words_of-bits_of : (sent : List ℕ) → AreWords sent → words_of (bits_of sent) ≡ sent
unfolding words_of
words_of-bits_of sent h =
    let n = length-bits_of sent in
    let e : length sent ≡ length (bits_of sent) / 7 = omega arith in
    sym (fill_by_all (word_in (bits_of sent)) sent (length (bits_of sent) / 7) 0 e
    (λ k l. sym (word_in-bits_of sent k h (omega arith))))

-- seven elements from a slot on
word-elements : (bits : List Bool) (slot : ℕ) → 7 * slot + 7 ≤ length bits
    → elements (word_in bits slot) ≡ take 7 (drop (7 * slot) bits)
unfolding word_in
word-elements bits slot h =
    elements-number_of (take 7 (drop (7 * slot) bits))
    (length-take-le 7 (drop (7 * slot) bits) (omega (arith, length-drop (7 * slot) bits)))

bits_of-first : (bits : List Bool) (count : ℕ) → 7 * count ≤ length bits
    → bits_of (map (word_in bits) (range_with_len 0 count)) ≡ take (7 * count) bits
unfolding bits_of
bits_of-first bits zero h = refl
bits_of-first bits (suc count) h =
    let more : count + 1 ≡ suc count = omega arith in
    let seven : 7 * count + 7 ≡ 7 * suc count = omega arith in
    ap (λ n. flat_map elements (map (word_in bits) (range_with_len 0 n))) (sym more)
    ∙ ap (flat_map elements) (map-range_with_len_more (word_in bits) 0 count count (omega arith))
    ∙ sym (flat_map_more elements [] (map (word_in bits) (range_with_len 0 count))
    (word_in bits count))
    ∙ ap (λ l. l ++ elements (word_in bits count)) (bits_of-first bits count (omega arith))
    ∙ ap (λ l. take (7 * count) bits ++ l) (word-elements bits count (omega arith))
    ∙ sym (take-add (7 * count) 7 bits)
    ∙ ap (λ n. take n bits) seven

-- the words of elements give the elements back
pub bits_of-words_of : (bits : List Bool) → length bits % 7 ≡ 0 → bits_of (words_of bits) ≡ bits
unfolding words_of
bits_of-words_of bits h =
    bits_of-first bits (length bits / 7) (omega arith)
    ∙ take_all (7 * (length bits / 7)) bits (omega arith)

number_of-lt : (bits : List Bool) (count : ℕ) → length bits ≤ count → number_of bits < 2 ^ count
unfolding number_of
number_of-lt [] count h = pow_pos count
number_of-lt (bit ∷ bits) zero h = absurd (omega arith)
number_of-lt (bit ∷ bits) (suc count) h =
    let b = value_of-le bit in
    let rest = number_of-lt bits count (omega arith) in
    rw pow-succ' (omega arith)

pub AreWords-words_of : (bits : List Bool) → AreWords (words_of bits)
unfolding word_in
AreWords-words_of bits slot h =
    let n = length-words_of bits in
    subst (λ w. w < 128) (sym (get_or-words_of bits slot (omega arith)))
    (number_of-lt (take 7 (drop (7 * slot) bits)) 7
    (omega (arith, length-take 7 (drop (7 * slot) bits))))

-- the words of a position count as what is taken of it
pub counts_as-phasing_1 : counts_as phasing_1 ≡ idle_signal
counts_as-phasing_1 = ap counts_as (sym phasing_1-words) ∙ counts_as-words 32 (omega arith)

pub counts_as-phasing_2 : counts_as phasing_2 ≡ idle_signal
counts_as-phasing_2 = ap counts_as (sym phasing_2-words) ∙ counts_as-words 34 (omega arith)

eqb-refl : (n : ℕ) → eqb n n ≡ true
eqb-refl n = eq-eqb n n refl

pairing-same : (number : ℕ) → pairing (traffic number) (traffic number) ≡ combination number
pairing-same number = ap (λ b. cond b (combination number) lost) (eqb-refl number)

pairing-sent : (position : SentPosition) → IsInCode position
    → pairing (counts_as (dx_word position)) (counts_as (rx_word position)) ≡ reception position
pairing-sent phasing_position h =
    ap (λ c. pairing c (counts_as phasing_1)) counts_as-phasing_2
    ∙ ap (pairing idle_signal) counts_as-phasing_1
pairing-sent (traffic_position number) h =
    let e = ap counts_as (traffic_word-is number h.0 h.1) ∙ counts_as-combination number h.0 h.1 in
    ap (λ c. pairing c c) e ∙ pairing-same number
pairing-sent end_position h = ap (λ c. pairing c c) counts_as-phasing_1

-- what is taken of an emission's slots
taken_at-early : (sent : List ℕ) (n : ℕ) → n < 2 → get_or sent (2 * n + 1) 0 ≡ phasing_1
    → taken_at sent (2 * n + 1) ≡ idle
taken_at-early sent n h p =
    taken_at-pairing sent n
    ∙ ap (λ c. pairing c (counts_as (get_or sent (2 * n + 1) 0)))
    (five_before-early sent (2 * n + 1) (omega arith))
    ∙ ap (λ w. pairing nothing (counts_as w)) p
    ∙ ap (pairing nothing) counts_as-phasing_1

taken_at-late : (positions : List SentPosition) (sent : List ℕ) (i : ℕ) → IsEmission positions sent
    → AreInCode positions → i + 3 < length positions
    → taken_at sent (2 * (i + 2) + 1) ≡ reception (position_at positions i)
taken_at-late positions sent i e code h =
    let slot : 2 * (i + 2) + 1 ≡ 2 * i + 5 = omega arith in
    let five : 2 * (i + 2) + 1 - 5 ≡ 2 * i = omega arith in
    taken_at-pairing sent (i + 2)
    ∙ ap (λ c. pairing c (counts_as (get_or sent (2 * (i + 2) + 1) 0)))
    (five_before-late sent (2 * (i + 2) + 1) (omega arith)
    ∙ ap (λ k. counts_as (get_or sent k 0)) five ∙ ap counts_as (e.dx i (omega arith)))
    ∙ ap (λ k. pairing (counts_as (dx_word (position_at positions i)))
    (counts_as (get_or sent k 0))) slot
    ∙ ap (λ w. pairing (counts_as (dx_word (position_at positions i))) (counts_as w))
    (e.rx i (omega arith))
    ∙ pairing-sent (position_at positions i) (code i (omega arith))

-- the positions that are taken of an emission
abbrev expected : List SentPosition → List Reception
expected positions = idle ∷ idle ∷ map reception (take (length positions - 3) positions)

length-front : (positions : List SentPosition) → 3 ≤ length positions
    → length (map reception (take (length positions - 3) positions)) ≡ length positions - 3
length-front positions h =
    length-map (take (length positions - 3) positions) reception
    ∙ length-take (length positions - 3) positions ∙ omega arith

at-expected : (positions : List SentPosition) (sent : List ℕ) (k : ℕ) → IsEmission positions sent
    → AreInCode positions → 3 ≤ length positions → k < length positions - 1
    → get_or (expected positions) k idle ≡ taken_at sent (2 * k + 1)
at-expected positions sent zero e code h lt = let n = e.slots in
    sym (taken_at-early sent 0 (omega arith) (e.first_rx (omega arith)))
at-expected positions sent (suc zero) e code h lt = let n = e.slots in
    sym (taken_at-early sent 1 (omega arith) (e.second_rx (omega arith)))
at-expected positions sent (suc (suc i)) e code h lt =
    let k : i + 2 ≡ suc (suc i) = omega arith in
    let l = length-take (length positions - 3) positions in
    get_or-map reception (take (length positions - 3) positions) i end_position idle (omega arith)
    ∙ ap reception (get_or-take (length positions - 3) positions i end_position (omega arith))
    ∙ sym (taken_at-late positions sent i e code (omega arith))
    ∙ ap (λ j. taken_at sent (2 * j + 1)) k

pub receptions-IsEmission : (positions : List SentPosition) (sent : List ℕ)
    → IsEmission positions sent → AreInCode positions → 3 ≤ length positions
    → receptions sent ≡ expected positions
unfolding receptions
receptions-IsEmission positions sent e code h =
    let n = e.slots in
    let count : length sent / 2 ≡ length positions - 1 = omega arith in
    let f = length-front positions h in
    ap (λ m. map (λ i. taken_at sent (2 * i + 1)) (range_with_len 0 m)) count
    ∙ sym (fill_by_all (λ i. taken_at sent (2 * i + 1)) (expected positions) (length positions - 1)
    idle (omega arith) (λ k lt. at-expected positions sent k e code h lt))

-- combinations that are sent alone
length-framed_positions : (numbers : List ℕ)
    → length (framed_positions numbers) ≡ length numbers + 7
unfolding framed_positions
length-framed_positions numbers = simp (length-append, length-map) (omega arith)

code-rest : (numbers : List ℕ) → AreCombinations numbers → (i : ℕ)
    → IsInCode (position_at (map traffic_position numbers ++ replicate 3 end_position) i)
code-rest [] h zero = tt
code-rest [] h (suc zero) = tt
code-rest [] h (suc (suc zero)) = tt
code-rest [] h (suc (suc (suc i))) = tt
code-rest (number ∷ numbers) h zero = h 0 (omega arith)
code-rest (number ∷ numbers) h (suc i) = code-rest numbers (λ j k. h (suc j) (omega arith)) i

AreInCode-framed_positions : (numbers : List ℕ) → AreCombinations numbers
    → AreInCode (framed_positions numbers)
unfolding framed_positions
AreInCode-framed_positions numbers h zero lt = tt
AreInCode-framed_positions numbers h (suc zero) lt = tt
AreInCode-framed_positions numbers h (suc (suc zero)) lt = tt
AreInCode-framed_positions numbers h (suc (suc (suc zero))) lt = tt
AreInCode-framed_positions numbers h (suc (suc (suc (suc i)))) lt = code-rest numbers h i

take-framed_positions : (numbers : List ℕ)
    → take (length (framed_positions numbers) - 3) (framed_positions numbers)
    ≡ replicate 4 phasing_position ++ map traffic_position numbers
unfolding framed_positions
take-framed_positions numbers =
    let front = replicate 4 phasing_position ++ map traffic_position numbers in
    let n : length front ≡ length (framed_positions numbers) - 3 =
    simp (length-append, length-map) (omega (arith, length-framed_positions numbers)) in
    take_at front (replicate 3 end_position) (length (framed_positions numbers) - 3) n

map-reception : (numbers : List ℕ)
    → map reception (map traffic_position numbers) ≡ map (λ n. combination n) numbers
map-reception [] = refl
map-reception (number ∷ numbers) = ap (λ l. combination number ∷ l) (map-reception numbers)

-- the text of the emission of combinations that are sent alone
pub aligned_text-framed_positions : (numbers : List ℕ) → AreCombinations numbers
    → aligned_text (words_of (bits_of (emission (framed_positions numbers))))
    ≡ text (map (λ n. combination n) numbers) Letters
aligned_text-framed_positions numbers h =
    let n = length-framed_positions numbers in
    let words = words_of-bits_of (emission (framed_positions numbers))
    (AreWords-emission (framed_positions numbers) (AreInCode-framed_positions numbers h)) in
    let taken = receptions-IsEmission (framed_positions numbers)
    (emission (framed_positions numbers)) (IsEmission-emission (framed_positions numbers))
    (AreInCode-framed_positions numbers h) (omega arith) in
    ap aligned_text words
    ∙ ap (λ l. text l Letters) taken
    ∙ ap (λ l. text (idle ∷ idle ∷ map reception l) Letters) (take-framed_positions numbers)
    ∙ ap (λ l. text l Letters) (map-reception numbers)

sent_position-traffic : (combs : List Comb)
    → map sent_position (map (λ (comb : Comb). Traffic comb) combs)
    ≡ map traffic_position (map (λ (comb : Comb). comb.number) combs)
sent_position-traffic [] = refl
sent_position-traffic (comb ∷ combs) =
    ap (λ l. traffic_position comb.number ∷ l) (sent_position-traffic combs)

-- the positions by which the code sends combinations alone
pub sent_position-framed_positions : (combs : List Comb)
    → map sent_position (replicate 4 Phasing ++ map (λ (comb : Comb). Traffic comb) combs
    ++ replicate 3 End) ≡ framed_positions (map (λ (comb : Comb). comb.number) combs)
unfolding framed_positions
sent_position-framed_positions combs =
    let front = replicate 4 Phasing ++ map (λ (comb : Comb). Traffic comb) combs in
    map-append sent_position front (replicate 3 End)
    ∙ ap (λ l. phasing_position ∷ phasing_position ∷ phasing_position ∷ phasing_position ∷ l
    ++ replicate 3 end_position) (sent_position-traffic combs)
