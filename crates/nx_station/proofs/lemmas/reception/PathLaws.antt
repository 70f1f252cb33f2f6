-- Of what is received few words are wrong, no DX word before the end is phasing signal 1, and each
-- position is taken as it was sent.
use Rattle.std.proofs.Common.{◌≡◌, ◌≢◌, ℕ, zero, suc, ◌+◌, ◌-◌, ◌*◌, ◌/◌, ◌%◌, ◌<◌, ◌≤◌, ◌⊎◌, cond}
use Rattle.std.proofs.Common.{List, length, refl, sym, ap, ◌∙◌, subst, arith, inl, inr}
use Rattle.std.proofs.lemmas.Bool.{cases_lt, cases_eq, eq-eqb}
use Rattle.nx_code.specs.Table.{phasing_1, phasing_2, traffic_word}
use Rattle.nx_code.specs.Word.{weight, wrong_in}
use Rattle.nx_code.specs.Reading.{combination, lost}
use Rattle.nx_code.proofs.lemmas.Table.{traffic_word-is}
use Rattle.nx_fec.specs.emissions.Emission.{SentPosition, phasing_position, traffic_position, end_position, end_positions}
use Rattle.nx_fec.specs.emissions.Emission.{dx_word, rx_word, position_at, slots_of, word_sent, reception, IsInCode}
use Rattle.nx_fec.specs.emissions.Pairing.{Counted, traffic, idle_signal, nothing, counts_as, pairing}
use Rattle.nx_fec.proofs.lemmas.emissions.Emission.{word_sent-dx, word_sent-rx}
use Rattle.nx_fec.proofs.lemmas.emissions.Pairing.{counts_as-combination, counts_as-wrong}
use Rattle.nx_fec.proofs.lemmas.emissions.RoundTrip.{counts_as-phasing_1, counts_as-phasing_2}
use Rattle.nx_station.specs.reception.Path.{PassesPath, IsAsSent, heard_in, first_slot, message_slot}
use Rattle.nx_station.specs.reception.Path.{word_span, most_wrong}
use Rattle.nx_station.proofs.lemmas.reception.PathCounts.{one_if_wrong, right-counts_none, one_if_wrong-le}
use Rattle.nx_station.proofs.lemmas.reception.PathCounts.{wrong_in-right, wrong_in-one}
use Rattle.nx_code.proofs.lemmas.WordCounts.{wrong_in-add, wrong_in-le}
use Rattle.nx_station.proofs.lemmas.reception.PathPositions.{HasInner, IsInner, inner-no_end, position-end}
use Rattle.nx_station.proofs.lemmas.reception.PathPositions.{position-inner}
use Rattle.nx_station.proofs.lemmas.reception.WordWeights.{phasing_1-weight, dx-weight, rx-weight}
use Rattle.nx_station.specs.Broadcast.{first_phasing}

-- ---- the words that are sent

pub traffic-counts : (number : ℕ) → 1 ≤ number → number ≤ 32
    → counts_as (traffic_word number) ≡ traffic number
traffic-counts number low high =
    ap counts_as (traffic_word-is number low high) ∙ counts_as-combination number low high

-- a combination's word isn't phasing signal 1
traffic-no_phasing_1 : (number : ℕ) → 1 ≤ number → number ≤ 32 → traffic_word number ≢ phasing_1
traffic-no_phasing_1 number low high h =
    let clash : traffic number ≡ idle_signal =
    sym (traffic-counts number low high) ∙ ap counts_as h ∙ counts_as-phasing_1 in
    cc

phasing_2-no_phasing_1 : phasing_2 ≢ phasing_1
phasing_2-no_phasing_1 h = absurd (omega (arith, h))

pub inner-no_phasing_1 : (position : SentPosition) → IsInner position → dx_word position ≢ phasing_1
inner-no_phasing_1 phasing_position h e = phasing_2-no_phasing_1 e
inner-no_phasing_1 (traffic_position number) h e = traffic-no_phasing_1 number h.0 h.1 e
inner-no_phasing_1 end_position h e = absurd h

pub inner-in_code : (position : SentPosition) → IsInner position → IsInCode position
inner-in_code phasing_position h = tt
inner-in_code (traffic_position number) h = h
inner-in_code end_position h = tt

-- what a position counts as, and what is taken of it where one of its words or both count
abbrev pub counted : SentPosition → Counted
counted phasing_position = idle_signal
counted (traffic_position number) = traffic number
counted end_position = idle_signal

pub dx-counts : (position : SentPosition) → IsInner position
    → counts_as (dx_word position) ≡ counted position
dx-counts phasing_position h = counts_as-phasing_2
dx-counts (traffic_position number) h = traffic-counts number h.0 h.1
dx-counts end_position h = absurd h

pub rx-counts : (position : SentPosition) → IsInner position
    → counts_as (rx_word position) ≡ counted position
rx-counts phasing_position h = counts_as-phasing_1
rx-counts (traffic_position number) h = traffic-counts number h.0 h.1
rx-counts end_position h = absurd h

pub taken-both : (position : SentPosition)
    → pairing (counted position) (counted position) ≡ reception position
taken-both phasing_position = refl
taken-both (traffic_position number) =
    ap (λ b. cond b (combination number) lost) (eq-eqb number number refl)
taken-both end_position = refl

pub taken-dx : (position : SentPosition) → pairing (counted position) nothing ≡ reception position
taken-dx phasing_position = refl
taken-dx (traffic_position number) = refl
taken-dx end_position = refl

pub taken-rx : (position : SentPosition) → pairing nothing (counted position) ≡ reception position
taken-rx phasing_position = refl
taken-rx (traffic_position number) = refl
taken-rx end_position = refl

-- ---- the words that are heard

module _ (positions : List SentPosition) (heard : List ℕ) (has : HasInner positions)
    (passes : PassesPath positions heard) where
  in_code : (i : ℕ) → IsInCode (position_at positions i)
  in_code i = elim (cases_lt (i + end_positions) (length positions)) [
    | inl inside ↦ inner-in_code (position_at positions i) (position-inner positions has i inside)
    | inr outside ↦ subst IsInCode (sym (position-end positions has i outside)) tt
  ]

  -- each slot is 2i or 2i + 5
  pub sent-weight : (slot : ℕ) → first_slot ≤ slot → weight (word_sent positions slot) ≡ 4
  sent-weight slot from =
      elim (cases_eq (slot % 2) 0) [
        | inl even ↦
            let e : 2 * (slot / 2) ≡ slot = omega arith in
            subst (λ s. weight (word_sent positions s) ≡ 4) e
            (ap weight (word_sent-dx positions (slot / 2))
            ∙ dx-weight (position_at positions (slot / 2)) (in_code (slot / 2)))
        | inr odd ↦
            let e : 2 * ((slot - 5) / 2) + 5 ≡ slot = omega arith in
            subst (λ s. weight (word_sent positions s) ≡ 4) e
            (ap weight (word_sent-rx positions ((slot - 5) / 2))
            ∙ rx-weight (position_at positions ((slot - 5) / 2)) (in_code ((slot - 5) / 2)))
      ]

  heard-or_wrong : (slot : ℕ) → first_slot ≤ slot → slot < slots_of positions
      → IsAsSent positions heard slot ⊎ (weight (heard_in heard slot) ≢ 4)
  heard-or_wrong slot from to = elim (cases_lt slot message_slot) [
    | inl early ↦ inl (passes.phasing slot from early)
    | inr late ↦ passes.later slot late to
  ]

  -- of each position but those of the end at least one word is as sent
  one-as_sent : (i : ℕ) → first_slot ≤ 2 * i → i + end_positions < length positions
      → IsAsSent positions heard (2 * i) ⊎ IsAsSent positions heard (2 * i + 5)
  one-as_sent i from to = elim (cases_lt i first_phasing) [
    | inl early ↦ inl (passes.phasing (2 * i) (omega arith) (omega arith))
    | inr late ↦ passes.one_of_two i late (omega arith)
        (inner-no_end (position_at positions i) (position-inner positions has i to))
  ]

  as_sent-counts_none : (slot : ℕ) → first_slot ≤ slot → IsAsSent positions heard slot
      → one_if_wrong (heard_in heard slot) ≡ 0
  as_sent-counts_none slot from h =
      right-counts_none (heard_in heard slot) (ap weight h ∙ sent-weight slot from)

  -- so at most one of its two words is wrong
  pair-le : (i : ℕ) → first_slot ≤ 2 * i → i + end_positions < length positions
      → one_if_wrong (heard_in heard (2 * i)) + one_if_wrong (heard_in heard (2 * i + 5)) ≤ 1
  pair-le i from to = elim (one-as_sent i from to) [
    | inl dx ↦ omega (
      arith,
      as_sent-counts_none (2 * i) (omega arith) dx,
      one_if_wrong-le
          (heard_in heard (2 * i + 5)),
    )
    | inr rx ↦ omega (
      arith,
      as_sent-counts_none (2 * i + 5) (omega arith) rx,
      one_if_wrong-le
          (heard_in heard (2 * i)),
    )
  ]

  -- two more words
  wrong-two : (slot n : ℕ) → wrong_in (heard_in heard) slot (n + 2)
      ≡ wrong_in (heard_in heard) slot n + one_if_wrong (heard_in heard (slot + n)) + one_if_wrong
      (heard_in heard (slot + n + 1))
  wrong-two slot n =
      let e : n + 2 ≡ (n + 1) + 1 = omega arith in
      let g : slot + (n + 1) ≡ slot + n + 1 = omega arith in
      ap (wrong_in (heard_in heard) slot) e
      ∙ omega (
        arith,
        wrong_in-one (heard_in heard) slot (n + 1),
        wrong_in-one (heard_in heard) slot
            n,
        ap (λ s. one_if_wrong (heard_in heard s)) g,
      )

  at-slot : (a b : ℕ) → a ≡ b → one_if_wrong (heard_in heard a) ≡ one_if_wrong (heard_in heard b)
  at-slot a b e = ap (λ s. one_if_wrong (heard_in heard s)) e

  -- From an even slot on, of so many pairs of words at most one each is wrong, besides the last two
  -- DX words: the RX words
  -- of these two positions come later.
  pairs-le : (a m : ℕ) → first_slot ≤ 2 * a → 2 * a + 2 * m + 4 ≤ slots_of positions
      → wrong_in (heard_in heard) (2 * a) (2 * m + 4) ≤ m + 2 + one_if_wrong
      (heard_in heard (2 * (a + m))) + one_if_wrong (heard_in heard (2 * (a + m + 1)))
  pairs-le a zero from to =
      let e : 2 * 0 + 4 ≡ (0 + 2) + 2 = omega arith in
      let none : wrong_in (heard_in heard) (2 * a) 0 ≡ 0 =
      wrong_in-right (heard_in heard) (2 * a) 0 (λ j lt. absurd (omega (arith, lt))) in
      let d0 = at-slot (2 * a + 0) (2 * (a + 0)) (omega arith) in
      let d1 = at-slot (2 * a + (0 + 2)) (2 * (a + 0 + 1)) (omega arith) in
      let r0 = one_if_wrong-le (heard_in heard (2 * a + 0 + 1)) in
      let r1 = one_if_wrong-le (heard_in heard (2 * a + (0 + 2) + 1)) in
      let whole = ap (wrong_in (heard_in heard) (2 * a)) e in
      omega (arith, wrong-two (2 * a) (0 + 2), wrong-two (2 * a) 0)
  pairs-le a (suc m) from to =
      let e : 2 * suc m + 4 ≡ (2 * m + 4) + 2 = omega arith in
      let before = pairs-le a m from (omega arith) in
      let whole = ap (wrong_in (heard_in heard) (2 * a)) e in
      let pair = pair-le (a + m) (omega arith) (omega arith) in
      let rx = at-slot (2 * a + (2 * m + 4) + 1) (2 * (a + m) + 5) (omega arith) in
      let dx = at-slot (2 * a + (2 * m + 4)) (2 * (a + suc m + 1)) (omega arith) in
      let last = at-slot (2 * (a + m + 1)) (2 * (a + suc m)) (omega arith) in
      omega (arith, wrong-two (2 * a) (2 * m + 4))

  -- from an even slot on, at most half of the words and two more are wrong; of an odd number of
  -- words, one more
  even-le : (a n : ℕ) → first_slot ≤ 2 * a → 2 * a + n ≤ slots_of positions
      → wrong_in (heard_in heard) (2 * a) n ≤ n / 2 + n % 2 + 2
  even-le a n from to = elim (cases_lt n 4) [
    | inl few ↦ omega (arith, wrong_in-le (heard_in heard) (2 * a) n)
    | inr more ↦
        let pairs = pairs-le a (n / 2 - 2) from (omega arith) in
        let d0 = one_if_wrong-le (heard_in heard (2 * (a + (n / 2 - 2)))) in
        let d1 = one_if_wrong-le (heard_in heard (2 * (a + (n / 2 - 2) + 1))) in
        let e : n ≡ (2 * (n / 2 - 2) + 4) + n % 2 = omega arith in
        let rest = wrong_in-le (heard_in heard) (2 * a + (2 * (n / 2 - 2) + 4)) (n % 2) in
        let whole = ap (wrong_in (heard_in heard) (2 * a)) e in
        omega (arith, wrong_in-add (heard_in heard) (2 * a) (2 * (n / 2 - 2) + 4) (n % 2))
  ]

  -- of so many successive words as are looked at together, or of fewer, few are wrong
  pub few-wrong : (slot n : ℕ) → first_slot ≤ slot → n ≤ word_span → slot + n ≤ slots_of positions
      → wrong_in (heard_in heard) slot n ≤ most_wrong
  few-wrong slot n from some to = elim (cases_eq (slot % 2) 0) [
    | inl even ↦
        let e : 2 * (slot / 2) ≡ slot = omega arith in
        let bound = even-le (slot / 2) n (omega arith) (omega arith) in
        let whole = ap (λ s. wrong_in (heard_in heard) s n) e in
        omega arith
    | inr odd ↦ elim (cases_lt 0 n) [
      | inl more ↦
          let a : slot + 1 ≡ 2 * ((slot + 1) / 2) = omega arith in
          let one : n ≡ 1 + (n - 1) = omega arith in
          let bound = even-le ((slot + 1) / 2) (n - 1) (omega arith) (omega arith) in
          let first = wrong_in-le (heard_in heard) slot 1 in
          let whole = ap (wrong_in (heard_in heard) slot) one in
          let rest = ap (λ s. wrong_in (heard_in heard) s (n - 1)) a in
          omega (arith, wrong_in-add (heard_in heard) slot 1 (n - 1))
      | inr none ↦ omega (arith, wrong_in-le (heard_in heard) slot n)
    ]
  ]

  -- no DX word before the end is phasing signal 1: a word that is damaged has the wrong weight
  pub no-phasing_1 : (i : ℕ) → first_slot ≤ 2 * i → i + end_positions < length positions
      → heard_in heard (2 * i) ≢ phasing_1
  no-phasing_1 i from to h = elim (heard-or_wrong (2 * i) (omega arith) (omega arith)) [
    | inl sent ↦ inner-no_phasing_1 (position_at positions i) (position-inner positions has i to)
        (sym (word_sent-dx positions i) ∙ sym sent ∙ h)
    | inr damaged ↦ damaged (ap weight h ∙ phasing_1-weight)
  ]

  -- each position but those of the end is taken as it was sent
  dx-as_sent : (i : ℕ) → i + end_positions < length positions → IsAsSent positions heard (2 * i)
      → counts_as (heard_in heard (2 * i)) ≡ counted (position_at positions i)
  dx-as_sent i to h = ap counts_as (h ∙ word_sent-dx positions i)
      ∙ dx-counts (position_at positions i) (position-inner positions has i to)

  rx-as_sent : (i : ℕ) → i + end_positions < length positions → IsAsSent positions heard (2 * i + 5)
      → counts_as (heard_in heard (2 * i + 5)) ≡ counted (position_at positions i)
  rx-as_sent i to h = ap counts_as (h ∙ word_sent-rx positions i)
      ∙ rx-counts (position_at positions i) (position-inner positions has i to)

  taken : (i : ℕ) (a b c d : Counted) → a ≡ c → b ≡ d
      → pairing c d ≡ reception (position_at positions i)
      → pairing a b ≡ reception (position_at positions i)
  taken i a b c d e g h = ap (λ x. pairing x b) e ∙ ap (pairing c) g ∙ h

  pub taken-as_sent : (i : ℕ) → first_slot ≤ 2 * i → i + end_positions < length positions
      → pairing (counts_as (heard_in heard (2 * i))) (counts_as (heard_in heard (2 * i + 5)))
      ≡ reception (position_at positions i)
  taken-as_sent i from to =
      let p = position_at positions i in
      elim (one-as_sent i from to) [
        | inl dx ↦ elim (heard-or_wrong (2 * i + 5) (omega arith) (omega arith)) [
          | inl rx ↦ taken i _ _ (counted p) (counted p) (dx-as_sent i to dx) (rx-as_sent i to rx)
              (taken-both p)
          | inr damaged ↦ taken i _ _ (counted p) nothing (dx-as_sent i to dx)
              (counts_as-wrong (heard_in heard (2 * i + 5)) damaged) (taken-dx p)
        ]
        | inr rx ↦ elim (heard-or_wrong (2 * i) (omega arith) (omega arith)) [
          | inl dx ↦ taken i _ _ (counted p) (counted p) (dx-as_sent i to dx) (rx-as_sent i to rx)
              (taken-both p)
          | inr damaged ↦ taken i _ _ nothing (counted p)
              (counts_as-wrong (heard_in heard (2 * i)) damaged) (rx-as_sent i to rx) (taken-rx p)
        ]
      ]
