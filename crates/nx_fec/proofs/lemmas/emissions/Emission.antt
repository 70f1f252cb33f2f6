-- Emissions slot by slot, and their elements.
use Rattle.std.proofs.Common.{◌≡◌, ℕ, ◌+◌, ◌-◌, ◌*◌, ◌/◌, ◌%◌, ◌<◌, ◌≤◌, refl, sym, ap, ◌∙◌, subst}
use Rattle.std.proofs.Common.{Some, None, List, [], ◌∷◌, ◌++◌, length, map, get_or, take, arith}
use Rattle.std.proofs.Common.{inl, inr, lit<}
use Rattle.std.specs.List.{flat_map, slice_get}
use Rattle.std.proofs.lemmas.List.{ext_get_or, get_or_past, get_or-map, take_more, flat_map_more}
use Rattle.nx_fec.specs.declared.emissions.positions.Position.{Position}
use Rattle.std.proofs.lemmas.List.FromFn.{length-map-range_with_len, get_or-map-range_with_len}
use Rattle.std.proofs.lemmas.Option.{slice_get-get_or, slice_get_past, slice_get_within}
use Rattle.std.proofs.lemmas.Option.{get_or_from_slice_get}
use Rattle.nx_code.specs.Word.{elements}
use Rattle.std.proofs.lemmas.Bool.{cases_lt, cases_eq}
use Rattle.std.proofs.lemmas.Bool.Decides.{nat_tests}
use Rattle.nx_code.specs.Table.{table, words, phasing_1, phasing_2}
use Rattle.nx_code.proofs.lemmas.Table.{traffic_word-is, words-lt}
use Rattle.nx_fec.specs.emissions.Emission.{SentPosition, sent_position, phasing_position, traffic_position}
use Rattle.nx_fec.specs.emissions.Emission.{end_position, dx_word, rx_word, position_at, word_sent, emission}
use Rattle.nx_fec.specs.emissions.Emission.{bits_of, IsEmission, AreWords, IsInCode, AreInCode}

-- the service signals' words stand in the table
pub phasing_1-words : get_or words 32 0 ≡ phasing_1
unfolding table words
phasing_1-words = refl

pub phasing_2-words : get_or words 34 0 ≡ phasing_2
unfolding table words
phasing_2-words = refl

pub dx_word-lt : (position : SentPosition) → IsInCode position → dx_word position < 128
dx_word-lt phasing_position h = lit< tt
dx_word-lt (traffic_position number) h =
    subst (λ w. w < 128) (sym (traffic_word-is number h.0 h.1))
    (words-lt (number - 1) (omega (arith, h.0, h.1)))
dx_word-lt end_position h = lit< tt

pub rx_word-lt : (position : SentPosition) → IsInCode position → rx_word position < 128
rx_word-lt phasing_position h = lit< tt
rx_word-lt (traffic_position number) h =
    subst (λ w. w < 128) (sym (traffic_word-is number h.0 h.1))
    (words-lt (number - 1) (omega (arith, h.0, h.1)))
rx_word-lt end_position h = lit< tt

-- past the last position stands one of the end
position_at-IsInCode : (positions : List SentPosition) → AreInCode positions → (i : ℕ)
    → IsInCode (position_at positions i)
position_at-IsInCode positions h i =
    elim (cases_lt i (length positions)) [
      | inl below ↦ h i below
      | inr past ↦ subst IsInCode (sym (get_or_past positions i end_position past)) tt
    ]

-- what stands in a slot
word_sent-even : (positions : List SentPosition) (slot : ℕ) → slot % 2 ≡ 0
    → word_sent positions slot ≡ dx_word (position_at positions (slot / 2))
unfolding word_sent
word_sent-even positions slot h = grind (arith, nat_tests)

pub word_sent-early : (positions : List SentPosition) (slot : ℕ) → slot % 2 ≡ 1 → slot < 5
    → word_sent positions slot ≡ phasing_1
unfolding word_sent
word_sent-early positions slot h k = grind (arith, nat_tests)

word_sent-late : (positions : List SentPosition) (slot : ℕ) → slot % 2 ≡ 1 → 5 ≤ slot
    → word_sent positions slot ≡ rx_word (position_at positions ((slot - 5) / 2))
unfolding word_sent
word_sent-late positions slot h k = grind (arith, nat_tests)

pub word_sent-dx : (positions : List SentPosition) (i : ℕ)
    → word_sent positions (2 * i) ≡ dx_word (position_at positions i)
word_sent-dx positions i =
    let e : 2 * i / 2 ≡ i = omega arith in
    word_sent-even positions (2 * i) (omega arith) ∙ ap (λ k. dx_word (position_at positions k)) e

pub word_sent-rx : (positions : List SentPosition) (i : ℕ)
    → word_sent positions (2 * i + 5) ≡ rx_word (position_at positions i)
word_sent-rx positions i =
    let e : (2 * i + 5 - 5) / 2 ≡ i = omega arith in
    word_sent-late positions (2 * i + 5) (omega arith) (omega arith)
    ∙ ap (λ k. rx_word (position_at positions k)) e

word_sent-lt : (positions : List SentPosition) → AreInCode positions → (slot : ℕ)
    → word_sent positions slot < 128
word_sent-lt positions code slot =
    elim (cases_eq (slot % 2) 0) [
      | inl even ↦ subst (λ n. n < 128) (sym (word_sent-even positions slot even))
          (dx_word-lt (position_at positions (slot / 2))
          (position_at-IsInCode positions code (slot / 2)))
      | inr odd ↦ elim (cases_lt slot 5) [
        | inl early ↦ subst (λ n. n < 128)
            (sym (word_sent-early positions slot (omega arith) early)) (lit< tt)
        | inr late ↦ subst (λ n. n < 128) (sym (word_sent-late positions slot (omega arith) late))
            (rx_word-lt (position_at positions ((slot - 5) / 2))
            (position_at-IsInCode positions code ((slot - 5) / 2)))
      ]
    ]

pub length-emission : (positions : List SentPosition)
    → length (emission positions) ≡ 2 * length positions - 1
unfolding emission
length-emission positions =
    length-map-range_with_len (word_sent positions) 0 (2 * length positions - 1)

pub get_or-emission : (positions : List SentPosition) (slot d : ℕ) → slot < 2 * length positions - 1
    → get_or (emission positions) slot d ≡ word_sent positions slot
unfolding emission
get_or-emission positions slot d h =
    get_or-map-range_with_len (word_sent positions) 0 (2 * length positions - 1) slot slot d h
    (omega arith)

-- the emission is one by slots
pub IsEmission-emission : (positions : List SentPosition)
    → IsEmission positions (emission positions)
IsEmission-emission positions =
    let n = length-emission positions in
    record {
      slots = n;
      dx = λ i h. get_or-emission positions (2 * i) 0 (omega arith) ∙ word_sent-dx positions i;
      rx = λ i h. get_or-emission positions (2 * i + 5) 0 (omega arith) ∙ word_sent-rx positions i;
      first_rx = λ h. get_or-emission positions 1 0 (omega arith)
          ∙ word_sent-early positions 1 (omega arith) (omega arith);
      second_rx = λ h. get_or-emission positions 3 0 (omega arith)
          ∙ word_sent-early positions 3 (omega arith) (omega arith);
    }

-- the words of a slot are those of the function
get_or-IsEmission : (positions : List SentPosition) (sent : List ℕ) (slot : ℕ)
    → IsEmission positions sent → slot < length sent → get_or sent slot 0 ≡ word_sent positions slot
get_or-IsEmission positions sent slot h k =
    let n = h.slots in
    elim (cases_eq (slot % 2) 0) [
      | inl even ↦
          let e : 2 * (slot / 2) ≡ slot = omega arith in
          subst (λ s. get_or sent s 0 ≡ word_sent positions s) e
          (h.dx (slot / 2) (omega arith) ∙ sym (word_sent-dx positions (slot / 2)))
      | inr odd ↦ elim (cases_lt slot 5) [
        | inl early ↦ elim (cases_eq slot 1) [
          | inl one ↦ subst (λ s. get_or sent s 0 ≡ word_sent positions s) (sym one)
              (h.first_rx (omega arith)
              ∙ sym (word_sent-early positions 1 (omega arith) (omega arith)))
          | inr other ↦
              let e : 3 ≡ slot = omega arith in
              subst (λ s. get_or sent s 0 ≡ word_sent positions s) e
              (h.second_rx (omega arith)
              ∙ sym (word_sent-early positions 3 (omega arith) (omega arith)))
        ]
        | inr late ↦
            let e : 2 * ((slot - 5) / 2) + 5 ≡ slot = omega arith in
            subst (λ s. get_or sent s 0 ≡ word_sent positions s) e
            (h.rx ((slot - 5) / 2) (omega arith)
            ∙ sym (word_sent-rx positions ((slot - 5) / 2)))
      ]
    ]

-- no other list is one
pub IsEmission-only : (positions : List SentPosition) (sent : List ℕ) → IsEmission positions sent
    → sent ≡ emission positions
IsEmission-only positions sent h =
    let n = h.slots in
    let m = length-emission positions in
    ext_get_or 0 sent (emission positions) (n ∙ sym m)
    (λ slot k. get_or-IsEmission positions sent slot h k
    ∙ sym (get_or-emission positions slot 0 (omega arith)))

pub AreWords-emission : (positions : List SentPosition) → AreInCode positions
    → AreWords (emission positions)
AreWords-emission positions code slot h =
    let n = length-emission positions in
    subst (λ w. w < 128) (sym (get_or-emission positions slot 0 (omega arith)))
    (word_sent-lt positions code slot)

-- the emission slot by slot
pub slice_get-emission_even : (positions : List SentPosition) (slot : ℕ) → slot % 2 ≡ 0
    → slot / 2 < length positions
    → slice_get (emission positions) slot ≡ Some (dx_word (position_at positions (slot / 2)))
slice_get-emission_even positions slot even h =
    let n = length-emission positions in
    slice_get-get_or (emission positions) slot 0 (omega arith)
    ∙ ap Some (get_or-emission positions slot 0 (omega arith)
    ∙ word_sent-even positions slot even)

pub slice_get-emission_early : (positions : List SentPosition) (slot : ℕ) → slot % 2 ≡ 1 → slot < 5
    → slot / 2 + 1 < length positions → slice_get (emission positions) slot ≡ Some phasing_1
slice_get-emission_early positions slot odd early h =
    let n = length-emission positions in
    slice_get-get_or (emission positions) slot 0 (omega arith)
    ∙ ap Some (get_or-emission positions slot 0 (omega arith)
    ∙ word_sent-early positions slot odd early)

pub slice_get-emission_late : (positions : List SentPosition) (slot : ℕ) → slot % 2 ≡ 1 → 5 ≤ slot
    → slot / 2 + 1 < length positions
    → slice_get (emission positions) slot ≡ Some (rx_word (position_at positions ((slot - 5) / 2)))
slice_get-emission_late positions slot odd late h =
    let n = length-emission positions in
    slice_get-get_or (emission positions) slot 0 (omega arith)
    ∙ ap Some (get_or-emission positions slot 0 (omega arith)
    ∙ word_sent-late positions slot odd late)

pub slice_get-emission_none : (positions : List SentPosition) (slot : ℕ)
    → 2 * length positions ≤ slot + 1 → slice_get (emission positions) slot ≡ None
slice_get-emission_none positions slot h =
    let n = length-emission positions in
    slice_get_past (emission positions) slot (omega arith)

-- what the code reads at an index is the position there
pub sent_position-at : (positions : List Position) (i : ℕ) (position : Position)
    → i < length positions → position ≡ get_or positions i position
    → sent_position position ≡ position_at (map sent_position positions) i
sent_position-at positions i position h e =
    ap sent_position e ∙ sym (get_or-map sent_position positions i position end_position h)

-- the words slot by slot, and their elements
pub slice_get-within : (sent : List ℕ) (slot word : ℕ) → slice_get sent slot ≡ Some word
    → slot < length sent
slice_get-within sent slot word h = slice_get_within sent slot word h

pub slice_get-past : (sent : List ℕ) (slot : ℕ) → slice_get sent slot ≡ None → length sent ≤ slot
slice_get-past sent slot h =
    elim (cases_lt slot (length sent)) [
      | inl within ↦ let e = slice_get-get_or sent slot 0 within in
          absurd (let bad : Some (get_or sent slot 0) ≡ None = sym e ∙ h in cc)
      | inr past ↦ past
    ]

pub bits_of-more : (sent : List ℕ) (slot word : ℕ) → slice_get sent slot ≡ Some word
    → bits_of (take (slot + 1) sent) ≡ bits_of (take slot sent) ++ elements word
unfolding bits_of
bits_of-more sent slot word h =
    ap (flat_map elements) (take_more sent slot 0 (slice_get_within sent slot word h)
    ∙ ap (λ w. take slot sent ++ w ∷ []) (get_or_from_slice_get sent slot word 0 h))
    ∙ sym (flat_map_more elements [] (take slot sent) word)
