-- The wrong words of a lock that goes on from the phasing into the emission; the list of them; the
-- phasing that is heard.
use Rattle.std.proofs.Common.{◌≡◌, ◌≢◌, ℕ, ◌+◌, ◌-◌, ◌*◌, ◌<◌, ◌≤◌, Bool, List, [], ◌++◌, length}
use Rattle.std.proofs.Common.{get_or, take, drop, sym, ap, ◌∙◌, subst, arith, inl, inr, length-drop}
use Rattle.std.specs.List.{count_by}
use Rattle.std.proofs.lemmas.Bool.{cases_lt}
use Rattle.std.proofs.lemmas.List.{take_all, drop-append-le, take-append-le}
use Rattle.std.proofs.Math.Seq.{drop-append-add}
use Rattle.nx_code.specs.Word.{is_wrong, number_of, word_from, weight, wrong_in}
use Rattle.nx_fec.specs.emissions.Aligned.{word_in}
use Rattle.nx_fec.specs.emissions.Emission.{SentPosition, bits_of, AreWords, slots_of}
use Rattle.nx_fec.proofs.lemmas.emissions.RoundTrip.{length-bits_of, words_of-bits_of}
use Rattle.nx_fec.proofs.lemmas.emissions.Aligned.{get_or-words_of}
use Rattle.nx_station.specs.Broadcast.{IsBroadcast, layout}
use Rattle.nx_envelope.specs.Message.{MessageView}
use Rattle.nx_station.specs.reception.Path.{PassesPath, heard_in, first_slot, message_slot}
use Rattle.nx_station.specs.reception.Path.{phasing_received, word_span, most_wrong}
use Rattle.nx_station.proofs.lemmas.reception.PathCounts.{wrong_in-count}
use Rattle.nx_code.proofs.lemmas.WordCounts.{wrong_in-add, wrong_in-le}
use Rattle.nx_station.proofs.lemmas.reception.PathCounts.{wrong_in-right}
use Rattle.nx_code.proofs.lemmas.WordCounts.{wrong_in-same}
use Rattle.nx_station.proofs.lemmas.reception.PathLaws.{few-wrong, sent-weight}
use Rattle.nx_station.proofs.lemmas.reception.PathPositions.{HasInner, layout-inner}

-- an emission that passes has positions
pub not-empty : (spellings : List (List ℕ)) (heard : List ℕ)
    → PassesPath (layout spellings) heard → spellings ≢ []
unfolding layout
not-empty spellings heard passes e =
    let n = ap (λ s. length (layout s)) e in
    absurd (omega (arith, passes.whole, n))

pub received-inner : (messages : List MessageView) (positions : List SentPosition) (heard : List ℕ)
    → IsBroadcast messages positions → PassesPath positions heard → HasInner positions
received-inner messages positions heard h passes =
    subst HasInner (sym h.whole)
    (layout-inner messages h.spellings
    (not-empty h.spellings heard (subst (λ p. PassesPath p heard) h.whole passes)) h.each)

module _ (positions : List SentPosition) (heard : List ℕ) (has : HasInner positions)
    (passes : PassesPath positions heard) where
  -- the count of a part of what is heard
  pub few-listed : (first n : ℕ) → n ≤ word_span
      → count_by is_wrong (take n (drop first heard)) ≤ most_wrong
  few-listed first n some = elim (cases_lt (first + n) (length heard + 1)) [
    | inl inside ↦
        let counted = wrong_in-count heard (heard_in heard) (first + first_slot) first n
        (omega arith) (λ j. ap (λ s. get_or heard s 0) (index first j)) in
        let few = few-wrong positions heard has passes (first + first_slot) n (omega arith) some
        (omega (arith, passes.whole)) in
        omega (arith, counted, few)
    | inr outside ↦
        let m : ℕ = length heard - first in
        elim (cases_lt first (length heard)) [
          | inl some_left ↦
              let counted = wrong_in-count heard (heard_in heard) (first + first_slot) first
              (length heard - first) (omega arith)
              (λ j. ap (λ s. get_or heard s 0) (index first j)) in
              let few = few-wrong positions heard has passes (first + first_slot)
              (length heard - first) (omega arith) (omega arith)
              (omega (arith, passes.whole)) in
              let left = length-drop first heard in
              let all = take_all n (drop first heard) (omega arith) in
              let same = take_all (length heard - first) (drop first heard) (omega arith) in
              let e = ap (count_by is_wrong) (all ∙ sym same) in
              omega (arith, counted, few, e)
          | inr none_left ↦
              let left = length-drop first heard in
              let all = take_all n (drop first heard) (omega arith) in
              let same = take_all 0 (drop first heard) (omega arith) in
              let e = ap (count_by is_wrong) (all ∙ sym same) in
              omega (arith, e)
        ]
  ]
    where
      index : (first j : ℕ) → first + first_slot + j - first_slot ≡ first + j
      index first j = omega arith

  -- The successive words up to a word of the emission, as many as are looked at together, in a lock
  -- whose word `whole` is the first of the first message; all up to it where they are fewer. Where
  -- they reach further back than the first slot, they hold all words of the phasing that is
  -- received.
  pub few-in_lock : (words : ℕ → ℕ) (whole : ℕ)
      → ((k slot : ℕ) → k + message_slot ≡ slot + whole → first_slot ≤ slot
      → slot < slots_of positions → words k ≡ heard_in heard slot)
      → (k slot : ℕ) → k + message_slot ≡ slot + whole → message_slot ≤ slot
      → slot < slots_of positions
      → wrong_in words (k + 1 - word_span) (k + 1 - (k + 1 - word_span)) ≤ most_wrong
  few-in_lock words whole same k slot here from to =
      let f : ℕ = k + 1 - word_span in
      let n : ℕ = k + 1 - (k + 1 - word_span) in
      elim (cases_lt (slot + 1 - first_slot) (k + 1 - (k + 1 - word_span))) [
        | inl back ↦
            let c : ℕ = slot + 1 - first_slot in
            let before = wrong_in-le words (k + 1 - word_span)
            (k + 1 - (k + 1 - word_span) - (slot + 1 - first_slot)) in
            let split : k + 1 - (k + 1 - word_span)
            ≡ (k + 1 - (k + 1 - word_span) - (slot + 1 - first_slot)) + (slot + 1 - first_slot) =
            omega arith in
            let both = ap (wrong_in words (k + 1 - word_span)) split in
            let sum = wrong_in-add words (k + 1 - word_span)
            (k + 1 - (k + 1 - word_span) - (slot + 1 - first_slot)) (slot + 1 - first_slot) in
            let heard_part = wrong_in-same words (heard_in heard)
            ((k + 1 - word_span) + (k + 1 - (k + 1 - word_span) - (slot + 1 - first_slot)))
            first_slot (slot + 1 - first_slot) (λ j lt. same
            (k + 1 - word_span + (k + 1 - (k + 1 - word_span) - (slot + 1 - first_slot)) + j)
            (first_slot + j) (omega arith) (omega arith) (omega arith)) in
            let parts : slot + 1 - first_slot ≡ 2 * phasing_received + (slot + 1 - message_slot) =
            omega arith in
            let two = ap (wrong_in (heard_in heard) first_slot) parts in
            let added = wrong_in-add (heard_in heard) first_slot (2 * phasing_received)
            (slot + 1 - message_slot) in
            let right = wrong_in-right (heard_in heard) first_slot (2 * phasing_received)
            (λ j lt. ap weight (passes.phasing (first_slot + j) (omega arith) (omega arith))
            ∙ sent-weight positions heard has passes (first_slot + j) (omega arith)) in
            let later = wrong_in-le (heard_in heard) (first_slot + 2 * phasing_received)
            (slot + 1 - message_slot) in
            omega arith
        | inr inside ↦
            let heard_part = wrong_in-same words (heard_in heard) (k + 1 - word_span)
            (slot + 1 - (k + 1 - (k + 1 - word_span))) (k + 1 - (k + 1 - word_span))
            (λ j lt. same (k + 1 - word_span + j) (slot + 1 - (k + 1 - (k + 1 - word_span)) + j)
            (omega arith) (omega arith) (omega arith)) in
            let few = few-wrong positions heard has passes
            (slot + 1 - (k + 1 - (k + 1 - word_span))) (k + 1 - (k + 1 - word_span))
            (omega arith) (omega arith) (omega arith) in
            omega arith
      ]

-- each word that is heard stands in the bits
pub word-in_bits : (before after : List Bool) (heard : List ℕ) (i : ℕ) → AreWords heard
    → i < length heard
    → word_from (before ++ (bits_of heard ++ after)) (length before + 7 * i) ≡ get_or heard i 0
unfolding word_in
word-in_bits before after heard i are lt =
    let n = length-bits_of heard in
    let left = length-drop (7 * i) (bits_of heard) in
    ap (λ l. number_of (take 7 l))
    (drop-append-add before (bits_of heard ++ after) (7 * i)
    ∙ drop-append-le (7 * i) (bits_of heard) after (omega arith))
    ∙ ap number_of (take-append-le 7 (drop (7 * i) (bits_of heard)) after (omega arith))
    ∙ sym (get_or-words_of (bits_of heard) i (omega arith))
    ∙ ap (λ ws. get_or ws i 0) (words_of-bits_of heard are)
