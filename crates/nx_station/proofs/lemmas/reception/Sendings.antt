-- Where a message stands in the positions of its broadcast; and the emissions among parts.
use Rattle.std.proofs.Common.{◌≡◌, ℕ, zero, suc, ◌+◌, ◌-◌, ◌≤◌, Some, None, List, [], ◌∷◌, ◌++◌}
use Rattle.std.proofs.Common.{map, replicate, length, take, sym, ap, ◌∙◌, subst, arith}
use Rattle.std.proofs.Common.{append_assoc, ◌%◌, get_or, ◌<◌}
use Rattle.std.specs.List.{AllByRecursion, flat_map, slice_get}
use Rattle.std.proofs.lemmas.List.{get_or-append-add, length-append, length-map, length-replicate}
use Rattle.nx_envelope.specs.Message.{MessageView}
use Rattle.nx_fec.specs.emissions.Emission.{SentPosition, phasing_position, traffic_position, end_position, end_positions}
use Rattle.nx_fec.specs.emissions.Emission.{position_at, rx_word, slots_of, word_sent}
use Rattle.nx_station.specs.Broadcast.{IsSpelled, AreSpelled, digit_combination, head, layout}
use Rattle.nx_station.specs.Broadcast.{phasing_and_message, first_phasing, further_phasing}
use Rattle.nx_station.proofs.lemmas.reception.PathPhasing.{length-spelled}
use Rattle.nx_code.specs.Table.{traffic_word}
use Rattle.nx_fec.proofs.lemmas.emissions.Emission.{word_sent-rx}
use Rattle.nx_station.specs.reception.Sendings.{IsReceived, Part, ReceivedEmission, StandsFrom, digit_slot}
use Rattle.nx_station.specs.reception.Sendings.{gap, positions_before, received}

-- a part that is an emission is received
abbrev IsGood : Part → Type 0
IsGood (gap bits) = Unit {0}
IsGood (received emission) = IsReceived emission

received_at : (before : List Part) (emission : ReceivedEmission) (after : List Part)
    → AllByRecursion IsGood (before ++ received emission ∷ after) → IsReceived emission
received_at [] emission after h = h.0
received_at (part ∷ before) emission after h = received_at before emission after h.1

pub each_received : (parts : List Part) → AllByRecursion IsGood parts
    → (before : List Part) (emission : ReceivedEmission) (after : List Part)
    → parts ≡ before ++ received emission ∷ after → IsReceived emission
each_received parts h before emission after same =
    received_at before emission after (subst (AllByRecursion IsGood) same h)

pub at_least_phasing : (spellings : List (List ℕ)) → first_phasing ≤ positions_before spellings
at_least_phasing [] = omega arith
at_least_phasing (s ∷ ss) = omega (arith, at_least_phasing ss)

-- a message of those that follow so many positions of phasing and a first one
stands : (count : ℕ) (m : MessageView) (messages : List MessageView) (s : List ℕ)
    (spellings : List (List ℕ)) (i : ℕ) (message : MessageView)
    → IsSpelled m s → AreSpelled messages spellings → slice_get (m ∷ messages) i ≡ Some message
    → StandsFrom (phasing_and_message count s
    ++ (flat_map (phasing_and_message further_phasing) spellings
    ++ replicate end_positions end_position)) message
    (count + (positions_before (take i (s ∷ spellings)) - first_phasing))
stands count m messages s spellings zero message h k e = record {
  numbers = s;
  spelled = let same : m ≡ message = cc in subst (λ x. IsSpelled x s) same h;
  front = replicate count phasing_position;
  back = flat_map (phasing_and_message further_phasing) spellings
      ++ replicate end_positions end_position;
  whole = append_assoc (replicate count phasing_position) (map traffic_position s)
      (flat_map (phasing_and_message further_phasing) spellings
      ++ replicate end_positions end_position);
  place = length-replicate count phasing_position ∙ omega arith;
  ended = omega (
    arith,
    length-append (flat_map (phasing_and_message further_phasing) spellings)
        (replicate end_positions end_position),
    length-replicate end_positions end_position,
  );
}
stands count m [] s spellings (suc i) message h k e = let clash : None ≡ Some message = e in cc
stands count m (n ∷ messages) s [] (suc i) message h k e = absurd k
stands count m (n ∷ messages) s (t ∷ spellings) (suc i) message h k e =
    let rest = stands further_phasing n messages t spellings i message k.0 k.1 e in
    let others = flat_map (phasing_and_message further_phasing) spellings in
    let ends = replicate end_positions end_position in
    let least = at_least_phasing (take i (t ∷ spellings)) in
    record {
      numbers = rest.numbers;
      spelled = rest.spelled;
      front = phasing_and_message count s ++ rest.front;
      back = rest.back;
      whole = ap (λ l. phasing_and_message count s ++ l)
          (append_assoc (phasing_and_message further_phasing t) others ends ∙ rest.whole)
          ∙ sym (append_assoc (phasing_and_message count s) rest.front
          (map traffic_position rest.numbers ++ rest.back));
      place = omega (
        arith,
        rest.place,
        length-append (phasing_and_message count s) rest.front,
        length-append (replicate count phasing_position) (map traffic_position s),
        length-replicate count phasing_position,
        length-map s traffic_position,
      );
      ended = rest.ended;
    }

pub message-stands : (messages : List MessageView) (spellings : List (List ℕ)) (i : ℕ)
    (message : MessageView) → AreSpelled messages spellings → slice_get messages i ≡ Some message
    → StandsFrom (layout spellings) message (positions_before (take i spellings))
unfolding layout
message-stands [] spellings i message h e = let clash : None ≡ Some message = e in cc
message-stands (m ∷ messages) [] i message h e = absurd h
message-stands (m ∷ messages) (s ∷ spellings) i message h e =
    let least = at_least_phasing (take i (s ∷ spellings)) in
    let same : first_phasing + (positions_before (take i (s ∷ spellings)) - first_phasing)
    ≡ positions_before (take i (s ∷ spellings)) = omega arith in
    subst (StandsFrom (phasing_and_message first_phasing s
    ++ (flat_map (phasing_and_message further_phasing) spellings
    ++ replicate end_positions end_position)) message) same
    (stands first_phasing m messages s spellings i message h.0 h.1 e)

-- position 10 of a message is the second digit of its number
digit-in : (message : MessageView) (numbers : List ℕ) (back : List SentPosition)
    → IsSpelled message numbers
    → get_or (map traffic_position numbers ++ back) 10 end_position
    ≡ traffic_position (digit_combination (message.identity.number % 10))
unfolding head
digit-in message numbers back h =
    ap (λ l. get_or (map traffic_position l ++ back) 10 end_position) h.whole

pub digit-sent : (messages : List MessageView) (spellings : List (List ℕ)) (i : ℕ)
    (message : MessageView) → AreSpelled messages spellings → slice_get messages i ≡ Some message
    → word_sent (layout spellings) (digit_slot spellings i)
    ≡ traffic_word (digit_combination (message.identity.number % 10))
digit-sent messages spellings i message h e =
    let stands = message-stands messages spellings i message h e in
    let place : positions_before (take i spellings) + 10 ≡ length stands.front + 10 =
    ap (λ n. n + 10) (sym stands.place) in
    word_sent-rx (layout spellings) (positions_before (take i spellings) + 10)
    ∙ ap rx_word (ap (position_at (layout spellings)) place
    ∙ ap (λ l. get_or l (length stands.front + 10) end_position) stands.whole
    ∙ get_or-append-add stands.front (map traffic_position stands.numbers ++ stands.back) 10
    end_position ∙ digit-in message stands.numbers stands.back stands.spelled)

pub digit-within : (messages : List MessageView) (spellings : List (List ℕ)) (i : ℕ)
    (message : MessageView) → AreSpelled messages spellings → slice_get messages i ≡ Some message
    → digit_slot spellings i < slots_of (layout spellings)
digit-within messages spellings i message h e =
    let stands = message-stands messages spellings i message h e in
    omega (
      arith,
      stands.place,
      stands.ended,
      length-spelled message stands.numbers stands.spelled,
      ap length stands.whole,
      length-append stands.front
          (map traffic_position stands.numbers ++ stands.back),
      length-append
          (map traffic_position stands.numbers) stands.back,
      length-map stands.numbers
          traffic_position,
    )
