-- What the words of an emission print of one of its messages, and where.
use Rattle.std.proofs.Common.{◌≡◌, ℕ, zero, suc, ◌+◌, ◌/◌, ◌%◌, ◌<◌, List, [], ◌∷◌, ◌++◌, map}
use Rattle.std.proofs.Common.{length, take, replicate, Some, slice_get, refl, sym, ap, ◌∙◌, subst}
use Rattle.std.proofs.Common.{arith, append_assoc}
use Rattle.std.specs.List.{flat_map, AllByRecursion, AllZip}
use Rattle.std.proofs.lemmas.List.{length-append, length-map, length-replicate}
use Rattle.nx_code.specs.Reading.{combination, byte_of}
use Rattle.nx_code.specs.declared.shifts.Shift.{Shift}
use Rattle.nx_code.specs.declared.shifts.Shift.TheVariants.{Letters, Figures}
use Rattle.nx_envelope.specs.Message.{AreLines, MessageView}
use Rattle.nx_envelope.specs.declared.identity.Identity.{Identity}
use Rattle.nx_fec.specs.emissions.Emission.{SentPosition, phasing_position, traffic_position, end_position}
use Rattle.nx_station.specs.Broadcast.{head, phasing_and_message, layout, digit_combination}
use Rattle.nx_station.specs.Broadcast.{letter_combination}
use Rattle.nx_station.specs.reception.Sendings.{TellsMessage, positions_before}
use Rattle.nx_station.proofs.lemmas.broadcasts.Head.{letter_combination-prints, digit_combination-prints}
use Rattle.nx_station.proofs.lemmas.broadcasts.Head.{digit_combination-range}
use Rattle.nx_station.proofs.lemmas.strict_reading.ReadingBack.{Prints, Prints-nil, Prints-character, Prints-shift}
use Rattle.nx_station.proofs.lemmas.strict_reading.ReadingBack.{z-prints, c-prints, space-prints}

-- ---- the positions behind the phasing before the first message, without those of the end

-- the positions of these messages, each further one with so many of phasing before it
abbrev pub on_air : ℕ → List (List ℕ) → List SentPosition
on_air count [] = []
on_air count (numbers ∷ spellings) =
    map traffic_position numbers ++ flat_map (phasing_and_message count) spellings

-- those before the message that follows these
abbrev pub on_air_before : ℕ → List (List ℕ) → List SentPosition
on_air_before count [] = []
on_air_before count (numbers ∷ spellings) =
    map traffic_position numbers
    ++ (replicate count phasing_position ++ on_air_before count spellings)

further-parts : (count : ℕ) (front : List (List ℕ)) (numbers : List ℕ) (back : List (List ℕ))
    → flat_map (phasing_and_message count) (front ++ numbers ∷ back)
    ≡ replicate count phasing_position
    ++ (on_air_before count front
    ++ (map traffic_position numbers ++ flat_map (phasing_and_message count) back))
further-parts count [] numbers back =
    append_assoc (replicate count phasing_position) (map traffic_position numbers)
    (flat_map (phasing_and_message count) back)
further-parts count (x ∷ front) numbers back =
    let phasing = replicate count phasing_position in
    let sent = map traffic_position x in
    let rest = map traffic_position numbers ++ flat_map (phasing_and_message count) back in
    ap (λ l. (phasing ++ sent) ++ l) (further-parts count front numbers back)
    ∙ append_assoc phasing sent (phasing ++ (on_air_before count front ++ rest))
    ∙ ap (λ l. phasing ++ (sent ++ l)) (sym (append_assoc phasing (on_air_before count front) rest))
    ∙ ap (λ l. phasing ++ l) (sym (append_assoc sent (phasing ++ on_air_before count front) rest))

-- the positions up to a message, of it, and behind it
pub on_air-parts : (count : ℕ) (front : List (List ℕ)) (numbers : List ℕ) (back : List (List ℕ))
    → on_air count (front ++ numbers ∷ back)
    ≡ on_air_before count front
    ++ (map traffic_position numbers ++ flat_map (phasing_and_message count) back)
on_air-parts count [] numbers back = refl
on_air-parts count (x ∷ front) numbers back =
    let phasing = replicate count phasing_position in
    let sent = map traffic_position x in
    let rest = map traffic_position numbers ++ flat_map (phasing_and_message count) back in
    ap (λ l. sent ++ l) (further-parts count front numbers back)
    ∙ ap (λ l. sent ++ l) (sym (append_assoc phasing (on_air_before count front) rest))
    ∙ sym (append_assoc sent (phasing ++ on_air_before count front) rest)

pub layout-parts : (numbers : List ℕ) (spellings : List (List ℕ))
    → layout (numbers ∷ spellings)
    ≡ replicate 72 phasing_position
    ++ (on_air 36 (numbers ∷ spellings) ++ replicate 3 end_position)
unfolding layout
layout-parts numbers spellings =
    append_assoc (replicate 72 phasing_position) (map traffic_position numbers)
    (flat_map (phasing_and_message 36) spellings ++ replicate 3 end_position)
    ∙ ap (λ l. replicate 72 phasing_position ++ l)
    (sym (append_assoc (map traffic_position numbers)
    (flat_map (phasing_and_message 36) spellings) (replicate 3 end_position)))

before-count : (count : ℕ) (s : List ℕ) (spellings : List (List ℕ))
    → length (on_air_before count (s ∷ spellings))
    ≡ length s + count + length (on_air_before count spellings)
before-count count s spellings =
    length-append (map traffic_position s)
    (replicate count phasing_position ++ on_air_before count spellings)
    ∙ omega (
      arith,
      length-map s traffic_position,
      length-append (replicate count phasing_position)
          (on_air_before count spellings),
      length-replicate count phasing_position,
    )

pub positions-before : (spellings : List (List ℕ))
    → positions_before spellings ≡ 72 + length (on_air_before 36 spellings)
positions-before [] = refl
positions-before (s ∷ spellings) =
    omega (arith, positions-before spellings, before-count 36 s spellings)

-- ---- a message among the messages

-- the combinations of the message of an index, and those behind it
pub record SpelledAt (spellings : List (List ℕ)) (index : ℕ) (message : MessageView) : Type 0 where
  pub numbers : List ℕ
  pub back : List (List ℕ)
  pub whole : spellings ≡ take index spellings ++ numbers ∷ back
  pub told : TellsMessage message numbers

pub spelled_at : (messages : List MessageView) (spellings : List (List ℕ)) (index : ℕ)
    (message : MessageView)
    → AllZip TellsMessage messages spellings → slice_get messages index ≡ Some message
    → SpelledAt spellings index message
spelled_at [] spellings index message h e = cc
spelled_at (m ∷ messages) [] index message h e = absurd h
spelled_at (m ∷ messages) (s ∷ spellings) zero message h e =
    let same : m ≡ message = cc in
    record {
      numbers = s;
      back = spellings;
      whole = refl;
      told = subst (λ (m : MessageView). TellsMessage m s) same h.0;
    }
spelled_at (m ∷ messages) (s ∷ spellings) (suc index) message h e =
    let rest = spelled_at messages spellings index message h.1 e in
    record {
      numbers = rest.numbers;
      back = rest.back;
      whole = ap (λ l. s ∷ l) rest.whole;
      told = rest.told;
    }

pub lines_at : (messages : List MessageView) (index : ℕ) (message : MessageView)
    → AllByRecursion (λ (message : MessageView). AreLines message.lines) messages
    → slice_get messages index ≡ Some message → AreLines message.lines
lines_at [] index message h e = cc
lines_at (m ∷ messages) zero message h e =
    let same : m ≡ message = cc in subst (λ (m : MessageView). AreLines m.lines) same h.0
lines_at (m ∷ messages) (suc index) message h e = lines_at messages index message h.1 e

-- ---- the head of a message, up to its second digit

abbrev pub head_front : Identity → List ℕ
head_front identity =
    29 ∷ 26 ∷ 3 ∷ 26 ∷ 3 ∷ 31
    ∷ letter_combination identity.b1.byte ∷ letter_combination identity.b2.byte
    ∷ 30 ∷ digit_combination (identity.number / 10) ∷ []

abbrev pub second_digit : Identity → ℕ
second_digit identity = digit_combination (identity.number % 10)

pub head-parts : (identity : Identity)
    → head identity ≡ head_front identity ++ second_digit identity ∷ 27 ∷ 28 ∷ []
unfolding head
head-parts identity = refl

pub head_front-prints : (identity : Identity) (shift : Shift)
    → Prints shift (map combination (head_front identity))
    (90 ∷ 67 ∷ 90 ∷ 67 ∷ 32 ∷ identity.b1.byte ∷ identity.b2.byte ∷ (48 + identity.number / 10)
    ∷ []) Figures
head_front-prints identity shift =
    let tens : identity.number / 10 < 10 = omega (arith, identity.two_digits) in
    let tens_high = digit_combination-range (identity.number / 10) tens in
    let station = identity.b1.in_range in
    let subject = identity.b2.in_range in
    let digit =
    Prints-character (digit_combination (identity.number / 10)) _ Figures _ _ Figures
    (omega (arith, tens_high.1)) (digit_combination-prints (identity.number / 10) tens)
    (Prints-nil Figures) in
    let letters = Prints-character (letter_combination identity.b1.byte) _ Letters _ _ Figures
    (omega (arith, station.1)) (letter_combination-prints identity.b1.byte station.0 station.1)
    (Prints-character (letter_combination identity.b2.byte) _ Letters _ _ Figures
    (omega (arith, subject.1)) (letter_combination-prints identity.b2.byte subject.0 subject.1)
    (Prints-shift Figures Letters _ _ Figures digit)) in
    let marker = Prints-character 26 90 Letters _ _ Figures (omega arith) z-prints
    (Prints-character 3 67 Letters _ _ Figures (omega arith) c-prints
    (Prints-character 26 90 Letters _ _ Figures (omega arith) z-prints
    (Prints-character 3 67 Letters _ _ Figures (omega arith) c-prints
    (Prints-character 31 32 Letters _ _ Figures (omega arith) space-prints letters)))) in
    Prints-shift Letters shift _ _ Figures marker

pub digit-prints : (identity : Identity)
    → byte_of (combination (second_digit identity)) Figures ≡ Some (48 + identity.number % 10)
digit-prints identity = digit_combination-prints (identity.number % 10) (omega arith)
