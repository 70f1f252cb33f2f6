-- A visible emission keeps the lock that its phasing leaves.
use Rattle.std.proofs.Common.{◌≡◌, ◌≢◌, ℕ, ◌+◌, ◌-◌, ◌*◌, ◌/◌, ◌<◌, ◌≤◌, Bool, false, List}
use Rattle.std.proofs.Common.{[], ◌∷◌, ◌++◌, length, take, drop, replicate, get_or, refl, sym, ap}
use Rattle.std.proofs.Common.{◌∙◌, subst, arith, inl, inr, append_assoc}
use Rattle.std.proofs.lemmas.Bool.{cases_lt}
use Rattle.std.proofs.lemmas.List.{length-append, length-replicate, get_or-replicate, take-take}
use Rattle.std.proofs.lemmas.List.{get_or_append_left, get_or-append_right, take-append-drop}
use Rattle.nx_code.specs.Table.{phasing_1, phasing_2}
use Rattle.nx_code.specs.Word.{is_wrong, weight, wrong_in}
use Rattle.nx_code.proofs.lemmas.WordCounts.{wrong_in-add, wrong_in-none, wrong_in-same}
use Rattle.nx_fec.specs.emissions.Emission.{SentPosition, phasing_position, end_position}
use Rattle.nx_fec.specs.emissions.Emission.{bits_of, dx_word, position_at, rx_word}
use Rattle.nx_fec.proofs.lemmas.emissions.Emission.{word_sent-dx, word_sent-rx}
use Rattle.nx_station.specs.Broadcast.{layout}
use Rattle.nx_station.specs.reception.Path.{heard_in}
use Rattle.nx_station.specs.reception.Sendings.{IsReceived, ReceivedEmission}
use Rattle.nx_station.proofs.lemmas.reception.PathLaws.{few-wrong}
use Rattle.nx_station.proofs.lemmas.reception.PathPositions.{HasInner, position-inner}
use Rattle.nx_station.proofs.lemmas.reception.PathPositions.{told-inner}
use Rattle.nx_station.proofs.lemmas.reception.PathWords.{not-empty}
use Rattle.nx_station.proofs.lemmas.reception.WordWeights.{phasing_1-weight}
use Rattle.nx_sync.specs.Laws.{phasing}
use Rattle.nx_sync.specs.Locks.{IsLocked}
use Rattle.nx_sync.specs.Words.{losing_count}
use Rattle.nx_copies.specs.laws.Emissions.{HoldsThrough}
use Rattle.nx_copies.proofs.lemmas.emissions.Locks.{KeepsLock, LockedThrough, locked_through, right_1}
use Rattle.nx_copies.proofs.lemmas.emissions.Locks.{right_2, word_of}
use Rattle.nx_copies.proofs.lemmas.emissions.Texts.{layout-parts, on_air}
use Rattle.nx_promises.specs.laws.Together.{IsSeen, IsVisible}
use Rattle.nx_copies.proofs.lemmas.emissions.Found.{stands_between}
use Rattle.nx_station.proofs.lemmas.reception.PathLaws.{inner-no_phasing_1}
use Rattle.nx_copies.proofs.lemmas.emissions.Emissions.{long_sent, phasing_at, word_of-heard_in}

module _ (numbers : List ℕ) (spellings : List (List ℕ)) (heard : List ℕ)
    (has : HasInner (layout (numbers ∷ spellings)))
    (visible : IsVisible (layout (numbers ∷ spellings)) heard) where
  abbrev sent : List SentPosition
  sent = layout (numbers ∷ spellings)

  abbrev air : List SentPosition
  air = on_air 36 (numbers ∷ spellings)

  pub long_heard : length heard ≡ 53 + 2 * length air
  long_heard = omega (arith, long_sent numbers spellings, visible.whole)

  second_at : (j : ℕ) → j < 24 → word_of heard (2 * j) ≡ phasing_2
  second_at j lt =
      let slot : 96 + 2 * j ≡ 2 * (48 + j) = omega arith in
      word_of-heard_in heard (2 * j) ∙ ap (heard_in heard) slot
      ∙ visible.phasing (2 * (48 + j)) (omega arith) (omega arith)
      ∙ word_sent-dx sent (48 + j)
      ∙ ap dx_word (phasing_at numbers spellings (48 + j) (omega arith))

  first_at : (j : ℕ) → j < 24 → word_of heard (2 * j + 1) ≡ phasing_1
  first_at j lt =
      let slot : 96 + (2 * j + 1) ≡ 2 * (46 + j) + 5 = omega arith in
      word_of-heard_in heard (2 * j + 1) ∙ ap (heard_in heard) slot
      ∙ visible.phasing (2 * (46 + j) + 5) (omega arith) (omega arith)
      ∙ word_sent-rx sent (46 + j)
      ∙ ap rx_word (phasing_at numbers spellings (46 + j) (omega arith))

  right_before : (j : ℕ) → j < 48 → is_wrong (word_of heard j) ≡ false
  right_before j lt =
      elim (cases_lt (j - 2 * (j / 2)) 1) [
        | inl even ↦ let e : 2 * (j / 2) ≡ j = omega arith in
            ap (λ i. is_wrong (word_of heard i)) (sym e)
            ∙ ap is_wrong (second_at (j / 2) (omega arith)) ∙ right_2
        | inr odd ↦ let e : 2 * (j / 2) + 1 ≡ j = omega arith in
            ap (λ i. is_wrong (word_of heard i)) (sym e)
            ∙ ap is_wrong (first_at (j / 2) (omega arith)) ∙ right_1
      ]

  few_later : (a n : ℕ) → 48 ≤ a → n ≤ 64 → a + n ≤ length heard
      → wrong_in (word_of heard) a n < losing_count
  few_later a n from some to =
      let few = visible.few (96 + a) n (omega arith) some (omega (arith, visible.whole)) in
      let same : wrong_in (word_of heard) a n ≡ wrong_in (heard_in heard) (96 + a) n =
      wrong_in-same (word_of heard) (heard_in heard) a (96 + a) n
      (λ j lt. let e : 96 + (a + j) ≡ 96 + a + j = omega arith in
      word_of-heard_in heard (a + j) ∙ ap (heard_in heard) e) in
      omega arith

  few_at : (a n : ℕ) → n ≤ 64 → a + n ≤ length heard → wrong_in (word_of heard) a n < losing_count
  few_at a n some to = elim (cases_lt a 48) [
    | inr late ↦ few_later a n late some to
    | inl early ↦ elim (cases_lt (48 - a) n) [
      | inl over ↦
          let parts : n ≡ (48 - a) + (n - (48 - a)) = omega arith in
          let at : a + (48 - a) ≡ 48 = omega arith in
          let split = ap (wrong_in (word_of heard) a) parts
          ∙ wrong_in-add (word_of heard) a (48 - a) (n - (48 - a)) in
          let none = wrong_in-none (word_of heard) a (48 - a)
          (λ j lt. right_before (a + j) (omega arith)) in
          let there = ap (λ s. wrong_in (word_of heard) s (n - (48 - a))) at in
          let few = few_later 48 (n - (48 - a)) (omega arith) (omega arith) (omega arith) in
          omega arith
      | inr within ↦
          let none = wrong_in-none (word_of heard) a n
          (λ j lt. right_before (a + j) (omega arith)) in
          omega arith
    ]
  ]

  apart_at : (a : ℕ) → 2 * a + 5 < length heard → word_of heard (2 * a) ≡ phasing_1
      → word_of heard (2 * a + 2) ≡ phasing_1 → ⊥
  apart_at a lt one two =
      let slot : 96 + 2 * a ≡ 2 * (48 + a) = omega arith in
      let here : heard_in heard (2 * (48 + a)) ≡ phasing_1 =
      ap (heard_in heard) (sym slot) ∙ sym (word_of-heard_in heard (2 * a)) ∙ one in
      let inner = position-inner sent has (48 + a)
      (omega (arith, long_heard, long_sent numbers spellings)) in
      let not_sent : heard_in heard (2 * (48 + a)) ≡ dx_word (position_at sent (48 + a)) → ⊥ =
      λ e. inner-no_phasing_1 (position_at sent (48 + a)) inner (sym e ∙ here) in
      elim (cases_lt (2 * (48 + a)) 144) [
        | inl early ↦ not_sent (visible.phasing (2 * (48 + a)) (omega arith) early
            ∙ word_sent-dx sent (48 + a))
        | inr late ↦ elim (visible.later (2 * (48 + a)) late
            (omega (arith, long_heard, long_sent numbers spellings))) [
              | inl as_sent ↦ not_sent (as_sent ∙ word_sent-dx sent (48 + a))
              | inr damaged ↦ damaged (ap weight here ∙ phasing_1-weight)
            ]
      ]

  pub keeps : KeepsLock heard
  keeps = record {
    words = visible.words;
    long = omega (arith, long_heard);
    second = second_at;
    first = first_at;
    few = few_at;
    apart = apart_at;
  }

-- a visible emission has messages
pub seen-some : (spellings : List (List ℕ)) (heard : List ℕ) → IsVisible (layout spellings) heard
    → spellings ≢ []
unfolding layout
seen-some spellings heard visible e =
    let n = ap (λ s. length (layout s)) e in
    absurd (omega (arith, visible.whole, n))

-- the lock that its phasing leaves goes through it
pub seen-locked : (earlier : List Bool) (emission : ReceivedEmission) → IsSeen emission
    → LockedThrough earlier emission.heard
seen-locked earlier emission seen =
    locked emission.spellings emission.heard seen.visible
    (told-inner emission.messages emission.spellings
    (seen-some emission.spellings emission.heard seen.visible) seen.told)
  where
    locked : (spellings : List (List ℕ)) (heard : List ℕ) → IsVisible (layout spellings) heard
        → HasInner (layout spellings) → LockedThrough earlier heard
    locked [] heard visible has = absurd (seen-some [] heard visible refl)
    locked (numbers ∷ spellings) heard visible has =
        locked_through earlier heard (keeps numbers spellings heard has visible)

-- ---- the lock holds

-- a lock that goes through words holds after each of their bits
pub holds-through : (earlier : List Bool) (words : List ℕ) → LockedThrough earlier words
    → HoldsThrough earlier words
holds-through earlier words l =
    let heard = bits_of words in
    record {
      begins = l.begins;
      locks = l.locks;
      p = l.p;
      t = l.t;
      whole = l.whole;
      limit = l.limit;
      dx = l.dx;
      stands = λ n low high.
          let front : take 336 (take n heard) ≡ phasing 24 = take-take 336 n heard low ∙ l.begins in
          let parts : take n heard ≡ phasing 24 ++ drop 336 (take n heard) =
          sym (take-append-drop 336 (take n heard))
          ∙ ap (λ b. b ++ drop 336 (take n heard)) front in
          let first : earlier ++ take n heard ≡ (earlier ++ phasing 24) ++ drop 336 (take n heard) =
          ap (λ b. earlier ++ b) parts
          ∙ sym (append_assoc earlier (phasing 24) (drop 336 (take n heard))) in
          let all : earlier ++ heard
          ≡ ((earlier ++ phasing 24) ++ drop 336 (take n heard)) ++ drop n heard =
          ap (λ b. earlier ++ b) (sym (take-append-drop n heard))
          ∙ sym (append_assoc earlier (take n heard) (drop n heard))
          ∙ ap (λ b. b ++ drop n heard) first in
          subst (λ (b : List Bool). IsLocked b l.locks l.p l.t) (sym first)
          (stands_between (earlier ++ phasing 24) (drop 336 (take n heard)) (drop n heard) l.locks
          l.p l.t l.before (subst (λ (b : List Bool). IsLocked b l.locks l.p l.t) all
          l.stands));
    }

pub seen-holds : (earlier : List Bool) (emission : ReceivedEmission) → IsSeen emission
    → HoldsThrough earlier emission.heard
seen-holds earlier emission seen =
    holds-through earlier emission.heard (seen-locked earlier emission seen)

-- what passes the path is visible
pub received-seen : (emission : ReceivedEmission) → IsReceived emission → IsSeen emission
received-seen emission is =
    let has = told-inner emission.messages emission.spellings
    (not-empty emission.spellings emission.heard is.passes) is.told in
    let passes = is.passes in
    record {
      sound = is.sound;
      told = is.told;
      visible = record {
        words = passes.words;
        whole = passes.whole;
        phasing = passes.phasing;
        later = passes.later;
        few = λ slot n from some to.
            let few = few-wrong (layout emission.spellings) emission.heard has passes slot n
            (omega arith) some to in
            omega arith;
      };
    }
