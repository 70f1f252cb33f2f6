-- The worked emission is received; without both words of a position it isn't.
use Rattle.std.proofs.Common.{◌≡◌, ◌≢◌, ℕ, ◌+◌, ◌-◌, ◌*◌, ◌<◌, ◌≤◌, ◌⊎◌, Bool, true, false, not}
use Rattle.std.proofs.Common.{◌||◌, eqb, ltb, List, [], ◌∷◌, ◌++◌, codes, length, get_or, drop}
use Rattle.std.proofs.Common.{append-nil, refl, sym, ap, ◌∙◌, subst, arith, inl, inr, lit≤, lit<}
use Rattle.std.specs.List.{AllByRecursion, starts_with}
use Rattle.std.proofs.lemmas.Bool.{agree_below, agree_below_at, eq-eqb, eqb-true, ltb-true}
use Rattle.std.proofs.lemmas.Bool.{false≢true, not-true}
use Rattle.std.proofs.lemmas.List.Elements.{All-from_recursion}
use Rattle.nx_code.specs.Reading.{characters, is_in_code, character_of}
use Rattle.nx_code.specs.Spelling.{Spells}
use Rattle.nx_code.specs.Table.{row_of, table, traffic_word}
use Rattle.nx_code.specs.Word.{elements, elements_from, weight}
use Rattle.nx_code.specs.declared.shifts.Shift.TheVariants.{Letters, Figures}
use Rattle.nx_code.proofs.lemmas.Spelling.{Spells-push, spells_here, spells_newline, spells_there}
use Rattle.nx_envelope.specs.Message.{AreLines, IsMessageLine, IsLineByte}
use Rattle.nx_envelope.proofs.lemmas.messages.WordsInTexts.{holds_none}
use Rattle.nx_fec.specs.emissions.Emission.{SentPosition, phasing_position, traffic_position, end_position}
use Rattle.nx_fec.specs.emissions.Emission.{bits_of, position_at, slots_of, word_sent}
use Rattle.nx_station.specs.Broadcast.{IsSpelled, ending, first_phasing, head, layout}
use Rattle.nx_station.specs.reception.Path.{PassesPath, IsAsSent, first_slot, heard_in, message_slot}
use Rattle.nx_station.specs.reception.Path.{phasing_received, phasing_words}
use Rattle.nx_station.specs.reception.PathExample.{damaged_in, example_emission, example_parts}
use Rattle.nx_station.specs.reception.PathExample.{example_sending, example_message, example_numbers}
use Rattle.nx_station.specs.reception.PathExample.{example_words, heard_half, heard_without_75}
use Rattle.nx_station.specs.Sendable.{IsSendable}
use Rattle.nx_station.specs.reception.Sendings.{IsCut, IsReceived, IsSending, gap}
use Rattle.nx_station.proofs.lemmas.reception.PathPositions.{spelled-tells}
use Rattle.nx_station.proofs.lemmas.reception.Sendings.{each_received}

-- ---- whether an emission is received, computed

is_end : SentPosition → Bool
is_end phasing_position = false
is_end (traffic_position number) = false
is_end end_position = true

abbrev is_as_sent : List SentPosition → List ℕ → ℕ → Bool
is_as_sent positions heard slot = eqb (heard_in heard slot) (word_sent positions slot)

-- a test of each number below a bound
abbrev each_below : (ℕ → Bool) → ℕ → Bool
each_below test n = agree_below test (λ _. true) n

record Computed (positions : List SentPosition) (heard : List ℕ) : Type 0 where
  words : each_below (λ k. ltb (get_or heard k 0) 128) (length heard) ≡ true
  whole : first_slot + length heard ≡ slots_of positions
  phasing : each_below (λ k. is_as_sent positions heard (first_slot + k)) (2 * phasing_received)
      ≡ true
  later : each_below (λ k. is_as_sent positions heard (message_slot + k)
      || not (eqb (weight (heard_in heard (message_slot + k))) 4))
      (slots_of positions - message_slot) ≡ true
  one_of_two : each_below (λ k. is_end (position_at positions (first_phasing + k))
      || is_as_sent positions heard (2 * (first_phasing + k))
      || is_as_sent positions heard (2 * (first_phasing + k) + 5))
      (length positions - first_phasing) ≡ true

example_computed : Computed (layout (example_numbers ∷ [])) heard_half
unfolding layout example_numbers heard_half damaged_in example_words phasing_words word_sent
    traffic_word row_of table weight elements elements_from is_end
example_computed = record
    { words = refl; whole = refl; phasing = refl; later = refl; one_of_two = refl }

is_end-true : (position : SentPosition) → is_end position ≡ true → position ≡ end_position
unfolding is_end
is_end-true phasing_position h = cc
is_end-true (traffic_position number) h = cc
is_end-true end_position h = refl

below : (test : ℕ → Bool) (n k : ℕ) → each_below test n ≡ true → k < n → test k ≡ true
below test n k h lt = agree_below_at test (λ _. true) n k h lt

sent_or_wrong : (a b : ℕ) (wrong : Bool) → (wrong ≡ true → weight a ≢ 4) → (b1 : Bool)
    → (b1 ≡ true → a ≡ b) → (b1 || wrong) ≡ true → (a ≡ b) ⊎ (weight a ≢ 4)
sent_or_wrong a b wrong w true s h = inl (s refl)
sent_or_wrong a b wrong w false s h = inr (w h)

not_four : (w : ℕ) → not (eqb w 4) ≡ true → w ≢ 4
not_four w h e = false≢true (sym (ap (λ b. not b) (eq-eqb w 4 e)) ∙ h)

one_or_other : (end one two : Bool) → (end || one || two) ≡ true
    → (end ≡ true) ⊎ ((one ≡ true) ⊎ (two ≡ true))
one_or_other true one two h = inl refl
one_or_other false true two h = inr (inl refl)
one_or_other false false two h = inr (inr h)

passes-computed : (positions : List SentPosition) (heard : List ℕ)
    → first_phasing ≤ length positions → Computed positions heard → PassesPath positions heard
passes-computed positions heard long is = record {
  words = λ k h. ltb-true (get_or heard k 0) 128
      (below (λ k. ltb (get_or heard k 0) 128) (length heard) k is.words h);
  whole = is.whole;
  phasing = λ slot from to. subst (IsAsSent positions heard) (from_first slot from)
      (eqb-true (heard_in heard (first_slot + (slot - first_slot)))
      (word_sent positions (first_slot + (slot - first_slot)))
      (below (λ k. is_as_sent positions heard (first_slot + k)) (2 * phasing_received)
      (slot - first_slot) is.phasing (omega arith)));
  later = λ slot from to. subst (λ s. IsAsSent positions heard s ⊎ (weight (heard_in heard s) ≢ 4))
      (from_message slot from)
      (sent_or_wrong (heard_in heard (message_slot + (slot - message_slot)))
      (word_sent positions (message_slot + (slot - message_slot))) _
      (not_four (weight (heard_in heard (message_slot + (slot - message_slot))))) _
      (eqb-true (heard_in heard (message_slot + (slot - message_slot)))
      (word_sent positions (message_slot + (slot - message_slot))))
      (below (λ k. is_as_sent positions heard (message_slot + k)
      || not (eqb (weight (heard_in heard (message_slot + k))) 4))
      (slots_of positions - message_slot) (slot - message_slot) is.later (omega arith)));
  one_of_two = λ i from to not_end. subst
      (λ j. IsAsSent positions heard (2 * j) ⊎ IsAsSent positions heard (2 * j + 5))
      (from_phasing i from)
      (elim (one_or_other _ _ _
      (below (λ k. is_end (position_at positions (first_phasing + k))
      || is_as_sent positions heard (2 * (first_phasing + k))
      || is_as_sent positions heard (2 * (first_phasing + k) + 5))
      (length positions - first_phasing) (i - first_phasing) is.one_of_two (omega arith))) [
        | inl end ↦ absurd (not_end
            (is_end-true (position_at positions i)
            (ap (λ j. is_end (position_at positions j)) (sym (from_phasing i from)) ∙ end)))
        | inr one ↦ elim one [
          | inl dx ↦ inl (eqb-true _ _ dx)
          | inr rx ↦ inr (eqb-true _ _ rx)
        ]
      ]);
}
  where
    from_first : (slot : ℕ) → first_slot ≤ slot → first_slot + (slot - first_slot) ≡ slot
    from_first slot h = omega arith

    from_message : (slot : ℕ) → message_slot ≤ slot → message_slot + (slot - message_slot) ≡ slot
    from_message slot h = omega arith

    from_phasing : (i : ℕ) → first_phasing ≤ i → first_phasing + (i - first_phasing) ≡ i
    from_phasing i h = omega arith

-- ---- the message may be sent, and is spelled so

spelled_t : Spells (codes "T") Figures (29 ∷ 20 ∷ [])
unfolding character_of row_of table
spelled_t = spells_there Letters Figures 29 20 84 refl refl (lit≤ tt) (lit≤ tt) refl (λ e. cc)
    (λ e. omega arith)

spelled_te : Spells (codes "TE") Figures (29 ∷ 20 ∷ 5 ∷ [])
unfolding character_of row_of table
spelled_te =
    Spells-push (codes "T") 69 Figures Letters (29 ∷ 20 ∷ []) (5 ∷ []) (29 ∷ 20 ∷ 5 ∷ []) spelled_t
    refl
    (spells_here Letters 5 69 (lit≤ tt) (lit≤ tt) refl (λ e. omega arith)) refl

spelled_tes : Spells (codes "TES") Figures (29 ∷ 20 ∷ 5 ∷ 19 ∷ [])
unfolding character_of row_of table
spelled_tes =
    Spells-push (codes "TE") 83 Figures Letters (29 ∷ 20 ∷ 5 ∷ []) (19 ∷ []) (29 ∷ 20 ∷ 5 ∷ 19 ∷ [])
    spelled_te refl
    (spells_here Letters 19 83 (lit≤ tt) (lit≤ tt) refl (λ e. omega arith)) refl

spelled_test : Spells (codes "TEST") Figures (29 ∷ 20 ∷ 5 ∷ 19 ∷ 20 ∷ [])
unfolding character_of row_of table
spelled_test =
    Spells-push (codes "TES") 84 Figures Letters (29 ∷ 20 ∷ 5 ∷ 19 ∷ []) (20 ∷ [])
    (29 ∷ 20 ∷ 5 ∷ 19 ∷ 20 ∷ []) spelled_tes refl
    (spells_here Letters 20 84 (lit≤ tt) (lit≤ tt) refl (λ e. omega arith)) refl

spelled_text : Spells (codes "TEST" ++ 10 ∷ []) Figures (29 ∷ 20 ∷ 5 ∷ 19 ∷ 20 ∷ 27 ∷ 28 ∷ [])
spelled_text =
    Spells-push (codes "TEST") 10 Figures Letters (29 ∷ 20 ∷ 5 ∷ 19 ∷ 20 ∷ []) (27 ∷ 28 ∷ [])
    (29 ∷ 20 ∷ 5 ∷ 19 ∷ 20 ∷ 27 ∷ 28 ∷ []) spelled_test refl
    (spells_newline Letters) refl

example_spelled : IsSpelled example_message example_numbers
unfolding head ending example_numbers
example_spelled = record {
  text = 29 ∷ 20 ∷ 5 ∷ 19 ∷ 20 ∷ 27 ∷ 28 ∷ [];
  spells =
      spelled_text;
  whole = refl;
}

test_bytes : AllByRecursion IsLineByte (codes "TEST")
unfolding is_in_code characters
test_bytes = (
  (refl, λ e. omega arith),
  ((refl, λ e. omega arith), ((refl, λ e. omega arith), ((refl, λ e. omega arith), tt))),
)

no_marker : (word : List ℕ) → 0 < length word
    → each_below (λ k. not (starts_with eqb (drop k (codes "TEST")) word)) 4 ≡ true → (k : ℕ)
    → k < 4 → starts_with eqb (drop k (codes "TEST")) word ≡ false
no_marker word some h k lt =
    not-true _ (below (λ k. not (starts_with eqb (drop k (codes "TEST")) word)) 4 k h lt)

example_line : IsMessageLine (codes "TEST")
example_line = record {
  fits = lit≤ tt;
  in_code = All-from_recursion IsLineByte (codes "TEST") test_bytes;
  unreserved = λ h. elim h [
    | inl start ↦ holds_none (codes "TEST") (codes "ZCZC") (lit< tt)
        (no_marker (codes "ZCZC") (lit< tt) refl) start
    | inr end ↦ holds_none (codes "TEST") (codes "NNNN") (lit< tt)
        (no_marker (codes "NNNN") (lit< tt) refl) end
  ];
}

example_lines : AreLines (codes "TEST" ∷ [])
example_lines = record {
  each =
      All-from_recursion IsMessageLine (codes "TEST" ∷ []) (example_line, tt);
  fits = lit≤ tt;
}

positions-example : length (layout (example_numbers ∷ [])) ≡ 102
unfolding layout example_numbers
positions-example = refl

pub example_sendable : IsSendable (example_message ∷ [])
example_sendable = record {
  station = 69;
  of_one = record { some = λ e. cc; each = (refl, tt) };
  has_slots = lit≤ tt;
  sound = (example_lines, tt);
  positions = layout (example_numbers ∷ []);
  broadcast = record {
    spellings = example_numbers ∷ [];
    each = (example_spelled, tt);
    whole =
        refl;
  };
  fits = omega (arith, positions-example);
}

pub example_received : IsReceived example_emission
example_received = record {
  sound = example_sendable.sound;
  told = (spelled-tells example_message example_numbers example_spelled, tt);
  passes = passes-computed (layout (example_numbers ∷ [])) heard_half
      (omega (arith, positions-example)) example_computed;
}

-- ---- without both words of position 75

example-75 : position_at (layout (example_numbers ∷ [])) 75 ≡ traffic_position 26
unfolding layout example_numbers
example-75 = refl

lost-150 : eqb (heard_in heard_without_75 150) (word_sent (layout (example_numbers ∷ [])) 150)
    ≡ false
unfolding layout example_numbers heard_without_75 damaged_in example_words phasing_words word_sent
    traffic_word row_of table
lost-150 = refl

lost-155 : eqb (heard_in heard_without_75 155) (word_sent (layout (example_numbers ∷ [])) 155)
    ≡ false
unfolding layout example_numbers heard_without_75 damaged_in example_words phasing_words word_sent
    traffic_word row_of table
lost-155 = refl

pub not_received : PassesPath (layout (example_numbers ∷ [])) heard_without_75 → ⊥
not_received h =
    elim (h.one_of_two 75 (lit≤ tt) (omega (arith, positions-example))
    (λ e. let clash : traffic_position 26 ≡ end_position = sym example-75 ∙ e in cc)) [
      | inl dx ↦ false≢true (sym lost-150
          ∙ eq-eqb (heard_in heard_without_75 150) (word_sent (layout (example_numbers ∷ [])) 150)
          dx)
      | inr rx ↦ false≢true (sym lost-155
          ∙ eq-eqb (heard_in heard_without_75 155) (word_sent (layout (example_numbers ∷ [])) 155)
          rx)
    ]

-- ---- the bits in which it is received

pub example_cut : (before after : List Bool)
    → IsCut (before ++ (bits_of heard_half ++ after)) (example_parts before after)
example_cut before after = record {
  whole = ap (λ l. before ++ (bits_of heard_half ++ l)) (sym (append-nil after));
  each = each_received (example_parts before after) (tt, (example_received, (tt, tt)));
}

pub example_sent : (before after : List Bool)
    → IsSending (example_parts before after) (example_sending before)
example_sent before after = record {
  before = gap before ∷ [];
  emission = example_emission;
  after = gap after ∷ [];
  among = refl;
  index = 0;
  message = refl;
  place = ap (λ n. n + 517) (sym (ap length (append-nil before))) ∙ omega arith;
}
