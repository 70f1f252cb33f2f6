-- The words of an emission that arrives as it is sent: they keep the lock that its first four words
-- give, and the text of that lock is what its messages print.
use Rattle.std.proofs.Common.{◌≡◌, ℕ, zero, suc, ◌+◌, ◌-◌, ◌*◌, ◌/◌, ◌<◌, ◌≤◌, Bool, false, not}
use Rattle.std.proofs.Common.{eqb, List, [], ◌∷◌, ◌++◌, map, length, take, drop, replicate, get_or}
use Rattle.std.proofs.Common.{refl, sym, ap, ap₂, ◌∙◌, subst, arith, inl, inr, lit≤, lit<}
use Rattle.std.proofs.Common.{append_assoc, append-nil, take_all}
use Rattle.std.specs.List.{flat_map}
use Rattle.std.proofs.lemmas.Bool.{cases_lt}
use Rattle.std.proofs.lemmas.List.{length-append, length-replicate, map-append, get_or-drop}
use Rattle.std.proofs.lemmas.List.{get_or_append_left}
use Rattle.nx_code.specs.Table.{phasing_1, phasing_2}
use Rattle.nx_code.specs.Reading.{idle, text}
use Rattle.nx_code.specs.Word.{elements, elements_from, is_wrong, wrong_in}
use Rattle.nx_code.specs.declared.shifts.Shift.TheVariants.{Letters}
use Rattle.nx_code.proofs.lemmas.Reading.{text-append}
use Rattle.nx_envelope.specs.Message.{MessageView}
use Rattle.nx_fec.specs.emissions.Emission.{SentPosition, phasing_position, end_position, AreInCode, IsInCode}
use Rattle.nx_fec.specs.emissions.Emission.{bits_of, dx_word, emission, position_at, reception, rx_word}
use Rattle.nx_fec.specs.emissions.Pairing.{nothing, counts_as, pairing}
use Rattle.nx_fec.proofs.lemmas.emissions.Emission.{AreWords-emission, IsEmission-emission, get_or-emission}
use Rattle.nx_fec.proofs.lemmas.emissions.Emission.{length-emission}
use Rattle.nx_fec.proofs.lemmas.emissions.RoundTrip.{counts_as-phasing_1, counts_as-phasing_2, length-bits_of}
use Rattle.nx_station.specs.Broadcast.{AreSpelled, IsBroadcast, layout, printed_text}
use Rattle.nx_station.specs.reception.Path.{PassesPath, heard_in}
use Rattle.nx_station.proofs.lemmas.reception.PathLaws.{inner-in_code, no-phasing_1, sent-weight, taken-as_sent}
use Rattle.nx_station.proofs.lemmas.reception.PathPositions.{HasInner, layout-inner, position-end, position-inner}
use Rattle.nx_station.proofs.lemmas.reception.PathUndamaged.{undamaged-received}
use Rattle.nx_station.proofs.lemmas.strict_reading.ReadingBack.{broadcast-prints}
use Rattle.nx_sync.specs.Laws.{IsOnPhasing, LockedBeforeDx, phasing}
use Rattle.nx_sync.specs.Locks.{IsLocked, Past, before_dx, last_elements}
use Rattle.nx_sync.specs.Words.{first_role, losing_count, role_of, whole_words, word_of_lock}
use Rattle.nx_sync.specs.declared.step.Role.TheVariants.{Dx}
use Rattle.nx_sync.proofs.lemmas.words.Roles.{role_of-even}
use Rattle.nx_code.proofs.lemmas.WordCounts.{wrong_in-none}
use Rattle.nx_sync.proofs.lemmas.hunting.Patterns.{first_role-dx}
use Rattle.nx_sync.proofs.lemmas.hunting.Phasing.{length-phasing}
use Rattle.nx_sync.proofs.lemmas.hunting.PhasingStates.{right_stays}
use Rattle.nx_copies.specs.copies.LockText.{bytes_of, lock_text, positions, taken_at}
use Rattle.nx_copies.proofs.lemmas.locks.Texts.{bytes_are_reading}
use Rattle.nx_copies.proofs.lemmas.emissions.Emissions.{long_sent, phasing_at}
use Rattle.nx_copies.proofs.lemmas.emissions.Locks.{KeepsLock, dx_through, right_1, right_2}
use Rattle.nx_copies.proofs.lemmas.emissions.Locks.{same_through, stands_through, word_of}
use Rattle.nx_copies.proofs.lemmas.emissions.Positions.{AreTaken, positions-taken}
use Rattle.nx_copies.proofs.lemmas.emissions.Texts.{layout-parts, on_air}

-- ---- the first 48 words, which are phasing

first_28 : last_elements (phasing 24) 28 ≡ before_dx
unfolding phasing before_dx elements elements_from
first_28 = refl

first_dx : first_role (phasing 24) 28 ≡ Dx
first_dx = first_role-dx (phasing 24) 28 (lit≤ tt) (omega (arith, length-phasing 24)) first_28

length_28 : length (take 28 (phasing 24)) ≡ 28
unfolding phasing
length_28 = refl

pattern_28 : last_elements (take 28 (phasing 24)) 28 ≡ before_dx
unfolding phasing before_dx elements elements_from
pattern_28 = refl

-- four words of phasing give a lock behind them
four_lock : IsLocked (take 28 (phasing 24)) [] 0 28
unfolding Past
four_lock = record {
  past = refl;
  found = record {
    after = lit< tt;
    here = record { enough = lit≤ tt; heard = omega (arith, length_28); pattern = inl pattern_28 };
    least = λ s after before here. absurd (omega (arith, before, here.enough));
  };
  holds = λ w how r. absurd (omega (arith, r.heard, length_28));
}

is_on_phasing : IsOnPhasing (phasing 24) 0 28
unfolding role_of
is_on_phasing = record { g = 0; a = 2; place = refl; dx = first_dx }

-- which stands after all 48
first_lock : LockedBeforeDx (phasing 24)
unfolding role_of
first_lock = record {
  locks = [];
  p = 0;
  t = 28;
  stands = right_stays [] 28 (lit≤ tt) (lit≤ tt) 28 is_on_phasing [] 0 four_lock;
  whole = 44;
  limit = length-phasing 24;
  dx = role_of-even (first_role (phasing 24) 28) 0 22 ∙ first_dx;
}

-- ---- all words

module _ (messages : List MessageView) (numbers : List ℕ) (spellings : List (List ℕ))
    (spelled : AreSpelled messages (numbers ∷ spellings)) where
  abbrev pub sent : List SentPosition
  sent = layout (numbers ∷ spellings)

  abbrev pub heard : List ℕ
  heard = emission sent

  abbrev late : List ℕ
  late = drop 96 heard

  abbrev air : List SentPosition
  air = on_air 36 (numbers ∷ spellings)

  is_broadcast : IsBroadcast messages sent
  is_broadcast = record { spellings = numbers ∷ spellings; each = spelled; whole = refl }

  has_inner : HasInner sent
  has_inner = layout-inner messages (numbers ∷ spellings) (λ e. cc) spelled

  pub passes : PassesPath sent late
  passes =
      undamaged-received messages sent
      (λ e. subst (λ (m : List MessageView). AreSpelled m (numbers ∷ spellings)) e spelled)
      is_broadcast

  long : length heard ≡ 149 + 2 * length air
  long = omega (arith, length-emission sent, long_sent numbers spellings)

  in_code : AreInCode sent
  in_code i h = elim (cases_lt (i + 3) (length sent)) [
    | inl inside ↦ inner-in_code (position_at sent i) (position-inner sent has_inner i inside)
    | inr outside ↦ subst IsInCode (sym (position-end sent has_inner i outside)) tt
  ]

  -- the phasing before the first message
  second_at : (j : ℕ) → j < 72 → word_of heard (2 * j) ≡ phasing_2
  second_at j lt = (IsEmission-emission sent).dx j (omega (arith, long_sent numbers spellings))
      ∙ ap dx_word (phasing_at numbers spellings j lt)

  first_at : (j : ℕ) → j < 74 → word_of heard (2 * j + 1) ≡ phasing_1
  first_at zero lt = (IsEmission-emission sent).first_rx (omega (arith, long))
  first_at (suc zero) lt = (IsEmission-emission sent).second_rx (omega (arith, long))
  first_at (suc (suc i)) lt =
      let at : 2 * suc (suc i) + 1 ≡ 2 * i + 5 = omega arith in
      ap (word_of heard) at
      ∙ (IsEmission-emission sent).rx i (omega (arith, long_sent numbers spellings))
      ∙ ap rx_word (phasing_at numbers spellings i (omega arith))

  -- from slot 96 on the words are those of the channel
  heard_is : (slot : ℕ) → 96 ≤ slot → heard_in late slot ≡ word_of heard slot
  heard_is slot from =
      let e : 96 + (slot - 96) ≡ slot = omega arith in
      get_or-drop 96 heard (slot - 96) 0 ∙ ap (word_of heard) e

  right_at : (slot : ℕ) → slot < length heard → is_wrong (word_of heard slot) ≡ false
  right_at slot lt = elim (cases_lt slot 96) [
    | inl early ↦ elim (cases_lt (slot - 2 * (slot / 2)) 1) [
      | inl even ↦ let e : 2 * (slot / 2) ≡ slot = omega arith in
          ap (λ i. is_wrong (word_of heard i)) (sym e)
          ∙ ap is_wrong (second_at (slot / 2) (omega arith)) ∙ right_2
      | inr odd ↦ let e : 2 * (slot / 2) + 1 ≡ slot = omega arith in
          ap (λ i. is_wrong (word_of heard i)) (sym e)
          ∙ ap is_wrong (first_at (slot / 2) (omega arith)) ∙ right_1
    ]
    | inr from ↦ ap is_wrong (get_or-emission sent slot 0 (omega (arith, length-emission sent)))
        ∙ ap (λ (w : ℕ). not (eqb w 4)) (sent-weight sent late has_inner passes slot from)
  ]

  few : (a n : ℕ) → n ≤ 64 → a + n ≤ length heard → wrong_in (word_of heard) a n < losing_count
  few a n some to =
      let none = wrong_in-none (word_of heard) a n (λ j lt. right_at (a + j) (omega arith)) in
      omega (arith, none)

  apart : (a : ℕ) → 2 * a + 5 < length heard → word_of heard (2 * a) ≡ phasing_1
      → word_of heard (2 * a + 2) ≡ phasing_1 → ⊥
  apart a lt one two = elim (cases_lt a 72) [
    | inl early ↦ let clash : phasing_2 ≡ phasing_1 = sym (second_at a early) ∙ one in
        omega (arith, clash)
    | inr from ↦
        no-phasing_1 sent late has_inner passes a (omega arith)
        (omega (arith, length-emission sent)) (heard_is (2 * a) (omega arith) ∙ one)
  ]

  keeps : KeepsLock heard
  keeps = record {
    words = AreWords-emission sent in_code;
    long = omega (arith, long);
    second = λ j lt. second_at j (omega arith);
    first = λ j lt. first_at j (omega arith);
    few = few;
    apart = apart;
  }

  abbrev pub bits : List Bool
  bits = bits_of heard

  -- the lock that the first four words give stands to the end
  pub lock_stands : IsLocked bits [] 0 28
  unfolding first_lock
  lock_stands = stands_through [] heard keeps first_lock

  word_is : (k : ℕ) → k + 4 < length heard → word_of_lock bits 28 k ≡ word_of heard (k + 4)
  unfolding first_lock
  word_is k lt = same_through [] heard keeps first_lock k (k + 4) (omega arith) lt

  role_is : first_role bits 28 ≡ Dx
  unfolding first_lock role_of
  role_is = sym (role_of-even (first_role bits 28) 0 22) ∙ dx_through [] heard keeps first_lock

  -- ---- the positions that its words complete

  -- what is taken of the two words of a position
  pair_is : (i : ℕ) → i + 3 < length sent
      → pairing (counts_as (word_of heard (2 * i))) (counts_as (word_of heard (2 * i + 5)))
      ≡ reception (position_at sent i)
  pair_is i lt = elim (cases_lt i 72) [
    | inl early ↦
        let at : 2 * i + 5 ≡ 2 * (i + 2) + 1 = omega arith in
        let dx = ap counts_as (second_at i early) ∙ counts_as-phasing_2 in
        let rx = ap counts_as (ap (word_of heard) at ∙ first_at (i + 2) (omega arith))
        ∙ counts_as-phasing_1 in
        ap₂ pairing dx rx ∙ ap reception (sym (phasing_at numbers spellings i early))
    | inr from ↦
        ap₂ (λ a b. pairing (counts_as a) (counts_as b)) (sym (heard_is (2 * i) (omega arith)))
        (sym (heard_is (2 * i + 5) (omega arith)))
        ∙ taken-as_sent sent late has_inner passes i (omega arith) lt
  ]

  -- the positions behind the first two, without those of the end
  abbrev taken : List SentPosition
  taken = replicate 70 phasing_position ++ air

  abbrev ends : List SentPosition
  ends = replicate 3 end_position

  long_taken : length taken ≡ 70 + length air
  long_taken = length-append (replicate 70 phasing_position) air
      ∙ omega (arith, length-replicate 70 phasing_position)

  sent_is : sent ≡ phasing_position ∷ (phasing_position ∷ (taken ++ ends))
  sent_is =
      layout-parts numbers spellings
      ∙ ap (λ l. phasing_position ∷ (phasing_position ∷ l))
      (sym (append_assoc (replicate 70 phasing_position) air ends))

  position_is : (i : ℕ) → i < length taken → position_at sent (i + 2) ≡ position_at taken i
  position_is i lt =
      let e : i + 2 ≡ suc (suc i) = omega arith in
      ap (λ l. get_or l (i + 2) end_position) sent_is
      ∙ ap (λ n. get_or (phasing_position ∷ (phasing_position ∷ (taken ++ ends))) n end_position) e
      ∙ get_or_append_left taken ends end_position i lt

  abbrev lock_word : ℕ → ℕ
  lock_word = word_of_lock bits 28

  are_taken : AreTaken lock_word 0 taken
  are_taken i lt =
      let dx : 0 + 2 * i + 4 ≡ 2 * (i + 2) = omega arith in
      let rx : 0 + 2 * i + 5 + 4 ≡ 2 * (i + 2) + 5 = omega arith in
      let first = word_is (0 + 2 * i) (omega (arith, long, long_taken)) ∙ ap (word_of heard) dx in
      let second = word_is (0 + 2 * i + 5) (omega (arith, long, long_taken))
      ∙ ap (word_of heard) rx in
      ap₂ (λ a b. pairing (counts_as a) (counts_as b)) first second
      ∙ pair_is (i + 2) (omega (arith, long_sent numbers spellings, long_taken))
      ∙ ap reception (position_is i lt)

  first_five : positions Dx lock_word 5 ≡ idle ∷ (idle ∷ [])
  unfolding positions taken_at role_of
  first_five =
      let one = ap counts_as (word_is 1 (omega (arith, long)) ∙ first_at 2 (lit< tt))
      ∙ counts_as-phasing_1 in
      let three = ap counts_as (word_is 3 (omega (arith, long)) ∙ first_at 3 (lit< tt))
      ∙ counts_as-phasing_1 in
      ap₂ (λ a b. pairing nothing a ∷ (pairing nothing b ∷ [])) one three

  dx_first : role_of Dx 0 ≡ Dx
  unfolding role_of
  dx_first = refl

  all_positions : positions Dx lock_word (5 + 2 * length taken)
      ≡ idle ∷ (idle ∷ map reception taken)
  all_positions =
      positions-taken Dx lock_word 0 taken (length taken) dx_first are_taken (omega arith)
      ∙ ap (λ l. positions Dx lock_word 5 ++ map reception l)
      (take_all (length taken) taken (omega arith))
      ∙ ap (λ l. l ++ map reception taken) first_five

  -- what they print
  receptions_are : map reception sent
      ≡ (idle ∷ (idle ∷ map reception taken)) ++ (idle ∷ (idle ∷ (idle ∷ [])))
  receptions_are =
      ap (map reception) sent_is ∙ ap (λ l. idle ∷ (idle ∷ l)) (map-append reception taken ends)

  prints : text (idle ∷ (idle ∷ map reception taken)) Letters ≡ flat_map printed_text messages
  prints =
      sym (append-nil (text (idle ∷ (idle ∷ map reception taken)) Letters))
      ∙ sym (text-append (idle ∷ (idle ∷ map reception taken)) (idle ∷ (idle ∷ (idle ∷ [])))
      Letters)
      ∙ ap (λ l. text l Letters) (sym receptions_are)
      ∙ broadcast-prints messages sent Letters is_broadcast

  count_is : whole_words bits 28 ≡ 5 + 2 * length taken
  count_is =
      let size : length bits ≡ 7 * length heard = length-bits_of heard in
      let e : length bits - 28 ≡ 7 * (5 + 2 * length taken) = omega (arith, long, long_taken) in
      omega arith

  -- the text of the lock
  pub text_is : bytes_of (lock_text bits 28 (whole_words bits 28)) ≡ flat_map printed_text messages
  text_is =
      ap (λ n. bytes_of (lock_text bits 28 n)) count_is
      ∙ bytes_are_reading (first_role bits 28) lock_word 28 (5 + 2 * length taken)
      ∙ ap (λ r. text (positions r lock_word (5 + 2 * length taken)) Letters) role_is
      ∙ ap (λ l. text l Letters) all_positions
      ∙ prints
