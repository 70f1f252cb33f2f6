-- What a receiver prints of messages.
use Rattle.std.proofs.Common.{◌≡◌, ℕ, ◌/◌, ◌%◌, ◌<◌, ◌≤◌, zero, suc, List, [], ◌∷◌, ◌++◌, map}
use Rattle.std.proofs.Common.{replicate, Some, refl, sym, ap, ◌∙◌, subst, arith, append_assoc}
use Rattle.std.proofs.Common.{append-nil, codes}
use Rattle.std.specs.List.{flat_map}
use Rattle.std.specs.Option.{option_to_list}
use Rattle.std.proofs.lemmas.List.{map-append}
use Rattle.nx_code.specs.Table.{table, row_of}
use Rattle.nx_code.specs.Reading.{Reception, combination, idle, character_of, shift_after}
use Rattle.nx_code.specs.Reading.{shift_after_all, text}
use Rattle.nx_code.specs.declared.shifts.Shift.{Shift}
use Rattle.nx_code.specs.declared.shifts.Shift.TheVariants.{Letters, Figures}
use Rattle.nx_code.proofs.lemmas.Reading.{text-append, shift_after_all-append}
use Rattle.nx_code.proofs.lemmas.Spelling.{number_of_shift, after_character, after_shift}
use Rattle.nx_code.proofs.lemmas.Spelling.{printed-shift, printed-return, printed-line_feed}
use Rattle.nx_envelope.specs.Message.{text_of, MessageView}
use Rattle.nx_envelope.specs.declared.identity.Identity.{Identity}
use Rattle.nx_fec.specs.emissions.Emission.{SentPosition, phasing_position, traffic_position, end_position, end_positions}
use Rattle.nx_fec.specs.emissions.Emission.{reception}
use Rattle.nx_station.specs.Broadcast.{IsSpelled, AreSpelled, IsBroadcast, head, ending}
use Rattle.nx_station.specs.Broadcast.{phasing_and_message, layout, header, printed_text}
use Rattle.nx_station.specs.Broadcast.{digit_combination, first_phasing, further_phasing}
use Rattle.nx_station.specs.Broadcast.{letter_combination}
use Rattle.nx_station.specs.reception.Sendings.{TellsMessage}
use Rattle.nx_station.proofs.lemmas.reception.PathPositions.{spelled-tells}
use Rattle.nx_station.proofs.lemmas.broadcasts.Head.{letter_combination-prints, digit_combination-prints}
use Rattle.nx_station.proofs.lemmas.broadcasts.Head.{digit_combination-range}

-- these positions print these bytes from a shift, and leave another
pub record Prints (first : Shift) (positions : List Reception) (bytes : List ℕ)
    (last : Shift) : Type 0 where
  pub reads : text positions first ≡ bytes
  pub after : shift_after_all positions first ≡ last

pub Prints-nil : (shift : Shift) → Prints shift [] [] shift
Prints-nil shift = record { reads = refl; after = refl }

-- a combination that prints
pub Prints-character : (n c : ℕ) (shift : Shift) (positions : List Reception) (bytes : List ℕ)
    (last : Shift) → n ≤ 32 → character_of n shift ≡ Some c
    → Prints shift positions bytes last → Prints shift (combination n ∷ positions) (c ∷ bytes) last
Prints-character n c shift positions bytes last high h k =
    let same : shift_after (combination n) shift ≡ shift = after_character shift n c high h in
    record {
      reads = ap (λ o. option_to_list o ++ text positions (shift_after (combination n) shift)) h
          ∙ ap (λ s. c ∷ text positions s) same ∙ ap (λ l. c ∷ l) k.reads;
      after = ap (shift_after_all positions) same ∙ k.after;
    }

-- a shift
pub Prints-shift : (s shift : Shift) (positions : List Reception) (bytes : List ℕ) (last : Shift)
    → Prints s positions bytes last
    → Prints shift (combination (number_of_shift s) ∷ positions) bytes last
Prints-shift s shift positions bytes last k = record {
  reads = ap (λ o. option_to_list o
      ++ text positions (shift_after (combination (number_of_shift s)) shift))
      (printed-shift s shift) ∙ ap (text positions) (after_shift s shift) ∙ k.reads;
  after = ap (shift_after_all positions) (after_shift s shift) ∙ k.after;
}

-- a carriage return
pub Prints-return : (shift : Shift) (positions : List Reception) (bytes : List ℕ) (last : Shift)
    → Prints shift positions bytes last → Prints shift (combination 27 ∷ positions) bytes last
Prints-return shift positions bytes last k = record {
  reads = ap (λ o. option_to_list o ++ text positions shift) (printed-return shift) ∙ k.reads;
  after = k.after;
}

-- an idle position
pub Prints-idle : (shift : Shift) (positions : List Reception) (bytes : List ℕ) (last : Shift)
    → Prints shift positions bytes last → Prints shift (idle ∷ positions) bytes last
Prints-idle shift positions bytes last k = record { reads = k.reads; after = k.after }

pub Prints-append : (first middle last : Shift) (xs ys : List Reception) (a b : List ℕ)
    → Prints first xs a middle → Prints middle ys b last → Prints first (xs ++ ys) (a ++ b) last
Prints-append first middle last xs ys a b h k = record {
  reads = text-append xs ys first ∙ ap (λ s. text xs first ++ text ys s) h.after
      ∙ ap (λ l. l ++ text ys middle) h.reads ∙ ap (λ l. a ++ l) k.reads;
  after = shift_after_all-append xs ys first ∙ ap (shift_after_all ys) h.after ∙ k.after;
}

-- ---- the letters of a head and of an end

pub z-prints : character_of 26 Letters ≡ Some 90
unfolding character_of row_of table
z-prints = refl

pub c-prints : character_of 3 Letters ≡ Some 67
unfolding character_of row_of table
c-prints = refl

pub n-prints : character_of 14 Letters ≡ Some 78
unfolding character_of row_of table
n-prints = refl

pub space-prints : character_of 31 Letters ≡ Some 32
unfolding character_of
space-prints = refl

line-prints : (shift last : Shift) (positions : List Reception) (bytes : List ℕ)
    → Prints shift positions bytes last
    → Prints shift (combination 27 ∷ (combination 28 ∷ positions)) (10 ∷ bytes) last
line-prints shift last positions bytes k =
    Prints-return shift _ _ last
    (Prints-character 28 10 shift positions bytes last (omega arith) (printed-line_feed shift)
    k)

pub head-prints : (identity : Identity) (shift : Shift)
    → Prints shift (map combination (head identity)) (header identity ++ (10 ∷ [])) Figures
unfolding head
head-prints identity shift =
    let tens : identity.number / 10 < 10 = omega (arith, identity.two_digits) in
    let units : identity.number % 10 < 10 = omega arith in
    let tens_high = digit_combination-range (identity.number / 10) tens in
    let units_high = digit_combination-range (identity.number % 10) units in
    let station = identity.b1.in_range in
    let subject = identity.b2.in_range in
    let digits = Prints-character (digit_combination (identity.number / 10)) _ Figures _ _ Figures
    (omega (arith, tens_high.1)) (digit_combination-prints (identity.number / 10) tens)
    (Prints-character (digit_combination (identity.number % 10)) _ Figures _ _ Figures
    (omega (arith, units_high.1)) (digit_combination-prints (identity.number % 10) units)
    (line-prints Figures Figures [] [] (Prints-nil Figures))) in
    let letters = Prints-character (letter_combination identity.b1.byte) _ Letters _ _ Figures
    (omega (arith, station.1)) (letter_combination-prints identity.b1.byte station.0 station.1)
    (Prints-character (letter_combination identity.b2.byte) _ Letters _ _ Figures
    (omega (arith, subject.1)) (letter_combination-prints identity.b2.byte subject.0 subject.1)
    (Prints-shift Figures Letters _ _ Figures digits)) in
    let marker = Prints-character 26 90 Letters _ _ Figures (omega arith) z-prints
    (Prints-character 3 67 Letters _ _ Figures (omega arith) c-prints
    (Prints-character 26 90 Letters _ _ Figures (omega arith) z-prints
    (Prints-character 3 67 Letters _ _ Figures (omega arith) c-prints
    (Prints-character 31 32 Letters _ _ Figures (omega arith) space-prints letters)))) in
    Prints-shift Letters shift _ _ Figures marker

end-prints : Prints Letters (map combination (14 ∷ 14 ∷ 14 ∷ 14 ∷ 27 ∷ 28 ∷ 28 ∷ []))
    (codes "NNNN" ++ (10 ∷ 10 ∷ [])) Letters
end-prints =
    Prints-character 14 78 Letters _ _ Letters (omega arith) n-prints
    (Prints-character 14 78 Letters _ _ Letters (omega arith) n-prints
    (Prints-character 14 78 Letters _ _ Letters (omega arith) n-prints
    (Prints-character 14 78 Letters _ _ Letters (omega arith) n-prints
    (line-prints Letters Letters _ _
    (Prints-character 28 10 Letters [] [] Letters (omega arith) (printed-line_feed Letters)
    (Prints-nil Letters))))))

ending-prints : (shift : Shift)
    → Prints shift (map combination (ending shift)) (codes "NNNN" ++ (10 ∷ 10 ∷ [])) Letters
unfolding ending
ending-prints Letters = end-prints
ending-prints Figures = Prints-shift Letters Figures _ _ Letters end-prints

-- ---- a message, and a list of messages

pub told-prints : (message : MessageView) (numbers : List ℕ) (first : Shift)
    → TellsMessage message numbers
    → Prints first (map combination numbers) (printed_text message) Letters
told-prints message numbers first h =
    let last = shift_after_all (map combination h.body) Figures in
    let body : Prints Figures (map combination h.body) (text_of message.lines) last =
    record { reads = h.reads; after = refl } in
    let tail = Prints-append Figures last Letters _ _ _ _ body (ending-prints last) in
    let all = Prints-append first Figures Letters _ _ _ _ (head-prints message.identity first)
    tail in
    let bytes = append_assoc (header message.identity) (10 ∷ [])
    (text_of message.lines ++ (codes "NNNN" ++ (10 ∷ 10 ∷ []))) in
    let positions : map combination numbers
    ≡ map combination (head message.identity)
    ++ (map combination h.body ++ map combination (ending last)) =
    ap (map combination) h.whole
    ∙ map-append combination (head message.identity) (h.body ++ ending last)
    ∙ ap (λ l. map combination (head message.identity) ++ l)
    (map-append combination h.body (ending last)) in
    subst (λ l. Prints first l (printed_text message) Letters) (sym positions)
    (subst (λ l. Prints first
    (map combination (head message.identity)
    ++ (map combination h.body ++ map combination (ending last))) l Letters) bytes all)

pub message-prints : (message : MessageView) (numbers : List ℕ) (first : Shift)
    → IsSpelled message numbers
    → Prints first (map combination numbers) (printed_text message) Letters
message-prints message numbers first h =
    told-prints message numbers first (spelled-tells message numbers h)

pub traffic-receptions : (numbers : List ℕ)
    → map reception (map traffic_position numbers) ≡ map combination numbers
traffic-receptions [] = refl
traffic-receptions (n ∷ numbers) = ap (λ l. combination n ∷ l) (traffic-receptions numbers)

phasing-prints : (count : ℕ) (shift : Shift)
    → Prints shift (map reception (replicate count phasing_position)) [] shift
phasing-prints zero shift = Prints-nil shift
phasing-prints (suc count) shift =
    Prints-idle shift (map reception (replicate count phasing_position)) [] shift
    (phasing-prints count shift)

ends-print : (count : ℕ) (shift : Shift)
    → Prints shift (map reception (replicate count end_position)) [] shift
ends-print zero shift = Prints-nil shift
ends-print (suc count) shift =
    Prints-idle shift (map reception (replicate count end_position)) [] shift
    (ends-print count shift)

phasing_and_message-prints : (count : ℕ) (message : MessageView) (numbers : List ℕ) (first : Shift)
    → IsSpelled message numbers
    → Prints first (map reception (phasing_and_message count numbers)) (printed_text message)
    Letters
phasing_and_message-prints count message numbers first h =
    let parts : map reception (phasing_and_message count numbers)
    ≡ map reception (replicate count phasing_position) ++ map combination numbers =
    map-append reception (replicate count phasing_position) (map traffic_position numbers)
    ∙ ap (λ l. map reception (replicate count phasing_position) ++ l)
    (traffic-receptions numbers) in
    subst (λ l. Prints first l (printed_text message) Letters) (sym parts)
    (Prints-append first first Letters _ _ _ _ (phasing-prints count first)
    (message-prints message numbers first h))

others-print : (messages : List MessageView) (spellings : List (List ℕ))
    → AreSpelled messages spellings
    → Prints Letters (map reception (flat_map (phasing_and_message further_phasing) spellings))
    (flat_map printed_text messages) Letters
others-print [] [] h = Prints-nil Letters
others-print [] (s ∷ ss) h = absurd h
others-print (m ∷ ms) [] h = absurd h
others-print (m ∷ ms) (s ∷ ss) h =
    subst (λ l. Prints Letters l (flat_map printed_text (m ∷ ms)) Letters)
    (sym (map-append reception (phasing_and_message further_phasing s)
    (flat_map (phasing_and_message further_phasing) ss)))
    (Prints-append Letters Letters Letters _ _ _ _
    (phasing_and_message-prints further_phasing m s Letters h.0) (others-print ms ss h.1))

layout-prints : (messages : List MessageView) (spellings : List (List ℕ)) (first : Shift)
    → AreSpelled messages spellings
    → text (map reception (layout spellings)) first ≡ flat_map printed_text messages
unfolding layout
layout-prints [] [] first h = refl
layout-prints [] (s ∷ ss) first h = absurd h
layout-prints (m ∷ ms) [] first h = absurd h
layout-prints (m ∷ ms) (s ∷ ss) first h =
    let others = flat_map (phasing_and_message further_phasing) ss in
    let ends = replicate end_positions end_position in
    let tail = Prints-append Letters Letters Letters _ _ _ _ (others-print ms ss h.1)
    (ends-print 3 Letters) in
    let all = Prints-append first Letters Letters _ _ _ _
    (phasing_and_message-prints first_phasing m s first h.0) tail in
    ap (λ l. text l first) (map-append reception (phasing_and_message first_phasing s)
    (others ++ ends) ∙ ap (λ l. map reception (phasing_and_message first_phasing s) ++ l)
    (map-append reception others ends))
    ∙ all.reads ∙ ap (λ l. printed_text m ++ l) (append-nil (flat_map printed_text ms))

pub broadcast-prints : (messages : List MessageView) (positions : List SentPosition) (first : Shift)
    → IsBroadcast messages positions
    → text (map reception positions) first ≡ flat_map printed_text messages
broadcast-prints messages positions first h =
    ap (λ l. text (map reception l) first) h.whole ∙ layout-prints messages h.spellings first h.each
