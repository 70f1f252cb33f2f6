-- The text of a lock that hears the words of an emission, and the copy of one of its messages in
-- it.
use Rattle.std.proofs.Common.{◌≡◌, ℕ, suc, ◌+◌, ◌-◌, ◌*◌, ◌/◌, ◌%◌, ◌<◌, List, [], ◌∷◌, ◌++◌, map}
use Rattle.std.proofs.Common.{length, take, get_or, refl, sym, ap, ◌∙◌, subst, arith, append_assoc}
use Rattle.std.proofs.Common.{append-nil}
use Rattle.std.specs.List.{Contains}
use Rattle.std.specs.Option.{option_to_list}
use Rattle.std.proofs.lemmas.List.{length-append, map-append, take_at, get_or_at}
use Rattle.nx_code.specs.Reading.{Reception, combination, byte_of, shift_after_all, text}
use Rattle.nx_code.specs.declared.shifts.Shift.TheVariants.{Letters, Figures}
use Rattle.nx_code.proofs.lemmas.Reading.{text-append, shift_after_all-append}
use Rattle.nx_envelope.specs.Copies.{ended_copies}
use Rattle.nx_envelope.specs.Message.{AreLines, text_of, MessageView}
use Rattle.nx_envelope.specs.declared.found.How.TheVariants.{Full}
use Rattle.nx_fec.specs.emissions.Emission.{SentPosition, traffic_position, end_position, position_at}
use Rattle.nx_fec.specs.emissions.Emission.{reception}
use Rattle.nx_station.specs.Broadcast.{ending, printed_text}
use Rattle.nx_station.specs.reception.Sendings.{TellsMessage}
use Rattle.nx_station.proofs.lemmas.strict_reading.ReadingBack.{told-prints, traffic-receptions}
use Rattle.nx_sync.specs.Words.{role_of}
use Rattle.nx_sync.specs.declared.step.Role.{Role}
use Rattle.nx_sync.specs.declared.step.Role.TheVariants.{Dx}
use Rattle.nx_copies.specs.copies.FoundCopies.{place_in, found_copy, ended_in}
use Rattle.nx_copies.specs.private.ReaderWords.{word_place}
use Rattle.nx_copies.specs.copies.LockText.{PlacedByte, positions, taken_at, printed_by, text_by}
use Rattle.nx_copies.specs.copies.LockText.{bytes_of}
use Rattle.nx_copies.proofs.lemmas.locks.Found.{place_in-get_or, length-bytes_of}
use Rattle.nx_copies.proofs.lemmas.locks.Texts.{text_by-grows, bytes_are_reading}
use Rattle.nx_copies.proofs.lemmas.once.Rising.{contains_map}
use Rattle.nx_copies.proofs.lemmas.emissions.Copies.{sent_copy, ended_there}
use Rattle.nx_copies.proofs.lemmas.emissions.Positions.{AreTaken, positions-taken, taken_at-sent}
use Rattle.nx_copies.proofs.lemmas.emissions.Texts.{head_front, second_digit, head-parts}
use Rattle.nx_copies.proofs.lemmas.emissions.Texts.{head_front-prints, digit-prints}

-- A lock hears positions from its DX word w on, and among them those of a message: so many stand
-- before it.
pub record HearsMessage (first : Role) (words : ℕ → ℕ) (w : ℕ) (sent : List SentPosition)
    (message : MessageView) : Type 0 where
  pub dx : role_of first w ≡ Dx
  pub taken : AreTaken words w sent
  pub numbers : List ℕ
  pub told : TellsMessage message numbers
  pub before : List SentPosition
  pub behind : List SentPosition
  pub parts : sent ≡ before ++ (map traffic_position numbers ++ behind)

-- the word that completes the second digit of its header
abbrev pub digit_word : ℕ → List SentPosition → ℕ
digit_word w before = w + 5 + 2 * (length before + 10)

module _ (first : Role) (words : ℕ → ℕ) (t w : ℕ) (sent : List SentPosition) (message : MessageView)
    (h : HearsMessage first words w sent message) (good : AreLines message.lines) where
  -- what is taken before the message
  abbrev taken_before : List Reception
  taken_before = positions first words (w + 5) ++ map reception h.before

  -- the bytes before the message
  abbrev front : List ℕ
  front = text taken_before Letters

  -- what is taken of beginnings of the positions
  taken_of : (some rest : List SentPosition) → sent ≡ some ++ rest
      → positions first words (w + 5 + 2 * length some)
      ≡ positions first words (w + 5) ++ map reception some
  taken_of some rest e =
      let long : length sent ≡ length some + length rest = ap length e ∙ length-append some rest in
      positions-taken first words w sent (length some) h.dx h.taken (omega arith)
      ∙ ap (λ l. positions first words (w + 5) ++ map reception l)
      (ap (take (length some)) e ∙ take_at some rest (length some) refl)

  bytes_at : (n : ℕ) → bytes_of (text_by first words t n) ≡ text (positions first words n) Letters
  bytes_at n = bytes_are_reading first words t n

  abbrev all : ℕ
  all = w + 5 + 2 * length sent

  -- after all of them the message is printed whole
  abbrev behind_bytes : List ℕ
  behind_bytes =
      text (map reception h.behind)
      (shift_after_all (map combination h.numbers) (shift_after_all taken_before Letters))

  whole_bytes : bytes_of (text_by first words t all)
      ≡ front ++ (printed_text message ++ behind_bytes)
  whole_bytes =
      let shift = shift_after_all taken_before Letters in
      let of_message = told-prints message h.numbers shift h.told in
      let receptions : positions first words all
      ≡ taken_before ++ (map combination h.numbers ++ map reception h.behind) =
      taken_of sent [] (sym (append-nil sent))
      ∙ ap (λ l. positions first words (w + 5) ++ map reception l) h.parts
      ∙ ap (λ l. positions first words (w + 5) ++ l)
      (map-append reception h.before (map traffic_position h.numbers ++ h.behind)
      ∙ ap (λ l. map reception h.before ++ l)
      (map-append reception (map traffic_position h.numbers) h.behind
      ∙ ap (λ l. l ++ map reception h.behind) (traffic-receptions h.numbers)))
      ∙ sym (append_assoc (positions first words (w + 5)) (map reception h.before)
      (map combination h.numbers ++ map reception h.behind)) in
      bytes_at all
      ∙ ap (λ l. text l Letters) receptions
      ∙ text-append taken_before (map combination h.numbers ++ map reception h.behind) Letters
      ∙ ap (λ l. front ++ l) (text-append (map combination h.numbers) (map reception h.behind)
      shift)
      ∙ ap (λ l. front ++ (l ++ text (map reception h.behind)
      (shift_after_all (map combination h.numbers) shift))) of_message.reads

  -- the positions up to the second digit, and it
  abbrev up_to_digit : List SentPosition
  up_to_digit = h.before ++ map traffic_position (head_front message.identity)

  digit_parts : (rest : List SentPosition)
      × (sent ≡ up_to_digit ++ traffic_position (second_digit message.identity) ∷ rest)
  digit_parts =
      let shown = ending (shift_after_all (map combination h.told.body) Figures) in
      let behind_head = h.told.body ++ shown in
      let tail = second_digit message.identity ∷ (27 ∷ (28 ∷ behind_head)) in
      let spelled : h.numbers ≡ head_front message.identity ++ tail =
      h.told.whole ∙ ap (λ l. l ++ behind_head) (head-parts message.identity)
      ∙ append_assoc (head_front message.identity)
      (second_digit message.identity ∷ (27 ∷ (28 ∷ []))) behind_head in (
        map traffic_position (27 ∷ (28 ∷ behind_head)) ++ h.behind,
        h.parts
            ∙ ap (λ l. h.before ++ (map traffic_position l ++ h.behind)) spelled
            ∙ ap (λ l. h.before ++ (l ++ h.behind))
            (map-append traffic_position (head_front message.identity) tail)
            ∙ ap (λ l. h.before ++ l)
            (append_assoc (map traffic_position (head_front message.identity))
            (map traffic_position tail) h.behind)
            ∙ sym (append_assoc h.before (map traffic_position (head_front message.identity))
            (map traffic_position tail ++ h.behind)),
      )

  long_up_to : length up_to_digit ≡ length h.before + 10
  long_up_to = length-append h.before (map traffic_position (head_front message.identity))

  abbrev here : ℕ
  here = digit_word w h.before

  at_here : w + 5 + 2 * length up_to_digit ≡ here
  at_here = omega (arith, long_up_to)

  positions_here : positions first words here
      ≡ taken_before ++ map combination (head_front message.identity)
  positions_here =
      ap (positions first words) (sym at_here)
      ∙ taken_of up_to_digit (traffic_position (second_digit message.identity) ∷ digit_parts.0)
      digit_parts.1
      ∙ ap (λ l. positions first words (w + 5) ++ l)
      (map-append reception h.before (map traffic_position (head_front message.identity))
      ∙ ap (λ l. map reception h.before ++ l)
      (traffic-receptions (head_front message.identity)))
      ∙ sym (append_assoc (positions first words (w + 5)) (map reception h.before)
      (map combination (head_front message.identity)))

  head_is : text (positions first words here) Letters
      ≡ front ++ (90 ∷ 67 ∷ 90 ∷ 67 ∷ 32 ∷ message.identity.b1.byte ∷ message.identity.b2.byte
      ∷ (48 + message.identity.number / 10) ∷ [])
  head_is =
      let shift = shift_after_all taken_before Letters in
      ap (λ l. text l Letters) positions_here
      ∙ text-append taken_before (map combination (head_front message.identity)) Letters
      ∙ ap (λ l. front ++ l) (head_front-prints message.identity shift).reads

  shift_is : shift_after_all (positions first words here) Letters ≡ Figures
  shift_is =
      let shift = shift_after_all taken_before Letters in
      ap (λ l. shift_after_all l Letters) positions_here
      ∙ shift_after_all-append taken_before (map combination (head_front message.identity)) Letters
      ∙ (head_front-prints message.identity shift).after

  digit_index : length up_to_digit < length sent
  digit_index =
      let e : length sent ≡ length up_to_digit + suc (length digit_parts.0) =
      ap length digit_parts.1
      ∙ length-append up_to_digit
      (traffic_position (second_digit message.identity) ∷ digit_parts.0) in omega arith

  taken_here : taken_at first words here ≡ combination (second_digit message.identity) ∷ []
  taken_here =
      ap (taken_at first words) (sym at_here)
      ∙ taken_at-sent first words w sent (length up_to_digit) h.dx h.taken digit_index
      ∙ ap (λ l. reception (position_at l (length up_to_digit)) ∷ []) digit_parts.1
      ∙ ap (λ p. reception p ∷ [])
      (get_or_at up_to_digit (traffic_position (second_digit message.identity)) digit_parts.0
      end_position (length up_to_digit) refl)

  abbrev digit_byte : PlacedByte
  digit_byte = record { byte = 48 + message.identity.number % 10; place = word_place t here }

  printed_here : printed_by first words t here ≡ digit_byte ∷ []
  unfolding printed_by
  printed_here =
      ap (λ l. map (λ b. record { byte = b; place = word_place t here })
      (text l (shift_after_all (positions first words here) Letters))) taken_here
      ∙ ap (λ s. map (λ b. record { byte = b; place = word_place t here })
      (option_to_list (byte_of (combination (second_digit message.identity)) s) ++ [])) shift_is
      ∙ ap (λ o. map (λ b. record { byte = b; place = word_place t here }) (option_to_list o ++ []))
      (digit-prints message.identity)

  long_here : length (text_by first words t here) ≡ length front + 8
  long_here =
      sym (length-bytes_of (text_by first words t here)) ∙ ap length (bytes_at here ∙ head_is)
      ∙ length-append front (90 ∷ 67 ∷ 90 ∷ 67 ∷ 32 ∷ message.identity.b1.byte
      ∷ message.identity.b2.byte ∷ (48 + message.identity.number / 10) ∷ [])

  next_text : text_by first words t (here + 1) ≡ text_by first words t here ++ digit_byte ∷ []
  unfolding text_by
  next_text =
      let e : here + 1 ≡ suc here = omega arith in
      ap (text_by first words t) e ∙ ap (λ l. text_by first words t here ++ l) printed_here

  digit_place : place_in (text_by first words t all) (length front + 8) ≡ word_place t here
  digit_place =
      let g = text_by-grows first words t (here + 1) all (omega (arith, digit_index, long_up_to)) in
      let whole : text_by first words t all ≡ text_by first words t here ++ digit_byte ∷ g.rest =
      g.whole ∙ ap (λ l. l ++ g.rest) next_text
      ∙ append_assoc (text_by first words t here) (digit_byte ∷ []) g.rest in
      let long : length (text_by first words t all)
      ≡ length (text_by first words t here) + suc (length g.rest) = ap length whole
      ∙ length-append (text_by first words t here) (digit_byte ∷ g.rest) in
      let d : PlacedByte = record { byte = 0; place = 0 } in
      place_in-get_or (text_by first words t all) (length front + 8) d (omega (arith, long_here))
      ∙ ap (λ l. (get_or l (length front + 8) d).place) whole
      ∙ ap (λ b. b.place) (get_or_at (text_by first words t here) digit_byte g.rest d
      (length front + 8) long_here)

  -- the copy of the message, at the place of its second digit
  pub message_found : Contains (ended_in (text_by first words t all))
      (record {
        identity = message.identity;
        how = Full;
        text = text_of message.lines;
        place =
            word_place t here;
      })
  unfolding found_copy
  message_found =
      let ended : Contains (ended_copies (bytes_of (text_by first words t all)))
      (sent_copy (length front) message) =
      subst (λ l. Contains (ended_copies l) (sent_copy (length front) message)) (sym whole_bytes)
      (ended_there front behind_bytes message good) in
      let at : length front + 9 - 1 ≡ length front + 8 = omega arith in
      let place : place_in (text_by first words t all) (length front + 9 - 1) ≡ word_place t here =
      ap (place_in (text_by first words t all)) at
      ∙ digit_place in
      subst (λ (p : ℕ). Contains (ended_in (text_by first words t all))
      (record {
        identity = message.identity;
        how = Full;
        text = text_of message.lines;
        place =
            p;
      })) place
      (contains_map (found_copy (text_by first words t all))
      (ended_copies (bytes_of (text_by first words t all))) (sent_copy (length front) message)
      ended)
