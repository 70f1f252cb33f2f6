-- A sending is found where each position of its header has one word as sent.
use Rattle.std.proofs.Common.{◌≡◌, ℕ, suc, ◌+◌, ◌-◌, ◌*◌, ◌/◌, ◌<◌, ◌≤◌, List}
use Rattle.std.proofs.Common.{[], ◌∷◌, ◌++◌, length, map, take}
use Rattle.std.proofs.Common.{sym, ap, ◌∙◌, subst, arith, append_assoc}
use Rattle.std.specs.List.{Contains}
use Rattle.std.specs.Option.{option_to_list}
use Rattle.std.proofs.lemmas.List.{length-append, map-append, take-map, take_at}
use Rattle.nx_code.specs.Reading.{Reception, byte_of, combination, shift_after_all, text}
use Rattle.nx_code.specs.declared.shifts.Shift.{Shift}
use Rattle.nx_code.specs.declared.shifts.Shift.TheVariants.{Letters}
use Rattle.nx_code.proofs.lemmas.Reading.{text-append}
use Rattle.nx_envelope.specs.Copies.{Copy, copies, headers}
use Rattle.nx_envelope.specs.Header.{Header, StandsIn, start_marker}
use Rattle.nx_envelope.specs.Identity.{identity_bytes}
use Rattle.nx_envelope.specs.declared.identity.Identity.{Identity}
use Rattle.nx_envelope.proofs.lemmas.headers.Anywhere.{anywhere_both}
use Rattle.nx_fec.specs.emissions.Emission.{reception, traffic_position}
use Rattle.nx_station.specs.Broadcast.{header}
use Rattle.nx_station.proofs.lemmas.strict_reading.ReadingBack.{traffic-receptions}
use Rattle.nx_sync.specs.Words.{role_of}
use Rattle.nx_sync.specs.declared.step.Role.{Role}
use Rattle.nx_sync.specs.declared.step.Role.TheVariants.{Dx}
use Rattle.nx_copies.specs.copies.FoundCopies.{place_in}
use Rattle.nx_copies.specs.copies.LockText.{positions, text_by}
use Rattle.nx_copies.proofs.lemmas.emissions.Copies.{copy_at, header_of}
use Rattle.nx_copies.proofs.lemmas.emissions.Positions.{AreTaken, positions-taken}
use Rattle.nx_copies.proofs.lemmas.emissions.Texts.{digit-prints, head_front, head_front-prints}
use Rattle.nx_copies.proofs.lemmas.emissions.Texts.{second_digit}
use Rattle.nx_copies.proofs.lemmas.once.Rising.{contains_map}
use Rattle.nx_promises.proofs.lemmas.together.Digit.{dx_takes, long_text, more, place_at_word}
use Rattle.nx_promises.proofs.lemmas.together.Digit.{same_positions}

-- the combinations of a header, from the letter shift to the second digit
abbrev pub header_numbers : Identity → List ℕ
header_numbers identity = head_front identity ++ second_digit identity ∷ []

-- they print it
header_text : (identity : Identity) (shift : Shift)
    → text (map combination (header_numbers identity)) shift ≡ header identity
header_text identity shift =
    let front = head_front-prints identity shift in
    ap (λ l. text l shift)
    (map-append combination (head_front identity) (second_digit identity ∷ []))
    ∙ text-append (map combination (head_front identity)) (combination (second_digit identity) ∷ [])
    shift
    ∙ ap (λ l. l ++ text (combination (second_digit identity) ∷ [])
    (shift_after_all (map combination (head_front identity)) shift)) front.reads
    ∙ ap (λ s. (90 ∷ 67 ∷ 90 ∷ 67 ∷ 32 ∷ identity.b1.byte ∷ identity.b2.byte
    ∷ (48 + identity.number / 10) ∷ [])
    ++ (option_to_list (byte_of (combination (second_digit identity)) s) ++ [])) front.after
    ∙ ap (λ o. (90 ∷ 67 ∷ 90 ∷ 67 ∷ 32 ∷ identity.b1.byte ∷ identity.b2.byte
    ∷ (48 + identity.number / 10) ∷ []) ++ (option_to_list o ++ [])) (digit-prints identity)

-- and those before the digit print all but that
front_text : (identity : Identity) (shift : Shift)
    → length (text (map combination (head_front identity)) shift) ≡ 8
front_text identity shift = ap length (head_front-prints identity shift).reads

-- a header that stands behind a text
stands_behind : (front more : List ℕ) (identity : Identity)
    → StandsIn ((front ++ header identity) ++ more)
    (record { identity = identity; behind = length front + 9 })
stands_behind front more identity =
    let long : length (front ++ header identity) ≡ length front + 9 =
    length-append front (header identity) in
    let size = length-append (front ++ header identity) more in
    record {
      within = omega (arith, long, size);
      spelled = record {
        front = front;
        more_spaces = 0;
        spelled = take_at (front ++ header identity) more (length front + 9) long
            ∙ (sym (append_assoc front start_marker (32 ∷ identity_bytes identity))
            ∙ sym (append_assoc (front ++ start_marker) (32 ∷ []) (identity_bytes identity)));
      };
    }

-- The text of a lock has this header, and its digit stands at this place.
pub record HasHeader (bytes : List ℕ) (place : ℕ → ℕ) (identity : Identity) (at : ℕ) : Type 0 where
  pub behind : ℕ
  pub copy : Copy
  pub is_header : copy.header ≡ record { identity = identity; behind = behind }
  pub there : Contains (copies bytes) copy
  pub digit_at : place (behind - 1) ≡ at

module _ (first : Role) (words : ℕ → ℕ) (t w n : ℕ) (identity : Identity)
    (dx : role_of first w ≡ Dx)
    (taken : AreTaken words w (map traffic_position (header_numbers identity)))
    (heard : w + 25 < n) where
  abbrev before : List Reception
  before = positions first words (w + 5)

  abbrev front : List ℕ
  front = text before Letters

  abbrev shift : Shift
  shift = shift_after_all before Letters

  up_to : (k : ℕ) → k ≤ 11 → positions first words (w + 5 + 2 * k)
      ≡ before ++ map combination (take k (header_numbers identity))
  up_to k le =
      positions-taken first words w (map traffic_position (header_numbers identity)) k dx taken le
      ∙ ap (λ l. before ++ l) (of k)
    where
      of : (k : ℕ) → map reception (take k (map traffic_position (header_numbers identity)))
          ≡ map combination (take k (header_numbers identity))
      of k = ap (map reception) (take-map traffic_position k (header_numbers identity))
          ∙ traffic-receptions (take k (header_numbers identity))

  abbrev word : ℕ
  word = w + 5 + 2 * 10

  here : positions first words (w + 5 + 2 * 11)
      ≡ before ++ map combination (header_numbers identity)
  here = up_to 11 (omega arith)

  text_here : text (positions first words (w + 5 + 2 * 11)) Letters ≡ front ++ header identity
  text_here = ap (λ l. text l Letters) here
      ∙ text-append before (map combination (header_numbers identity)) Letters
      ∙ ap (λ l. front ++ l) (header_text identity shift)

  text_before : length (text (positions first words word) Letters) ≡ length front + 8
  text_before = ap (λ l. length (text l Letters)) (up_to 10 (omega arith))
      ∙ ap length (text-append before (map combination (head_front identity)) Letters)
      ∙ length-append front (text (map combination (head_front identity)) shift)
      ∙ ap (λ n. length front + n) (front_text identity shift)

  -- the digit word completes the last of them
  last_is : positions first words (suc word) ≡ positions first words (w + 5 + 2 * 11)
  last_is =
      let e : w + 5 + 2 * 11 ≡ suc (suc (w + 5 + 2 * 10)) = omega arith in
      sym (ap (positions first words) e
      ∙ same_positions first words (suc (w + 5 + 2 * 10)) (dx_takes first words w 10 dx))

  abbrev bytes : List ℕ
  bytes = text (positions first words n) Letters

  parts : (rest : List ℕ) × (bytes ≡ (front ++ header identity) ++ rest)
  parts =
      let on = more first words (suc word) n (omega (arith, heard)) in
      let own = positions first words (suc word) in (
        text on.rest (shift_after_all own Letters),
        ap (λ l. text l Letters) on.whole ∙ text-append own on.rest Letters
            ∙ ap (λ l. l ++ text on.rest (shift_after_all own Letters))
            (ap (λ l. text l Letters) last_is ∙ text_here),
      )

  abbrev header_is : Header
  header_is = record { identity = identity; behind = length front + 9 }

  pub header_found : HasHeader bytes (place_in (text_by first words t n)) identity
      (t + 7 * word + 6)
  unfolding copies
  header_found =
      let all = parts in
      let stands : StandsIn bytes header_is =
      subst (λ b. StandsIn b header_is) (sym all.1) (stands_behind front all.0 identity) in
      let index : length front + 9 - 1 ≡ length front + 8 = omega arith in
      let before_word = long_text first words t word ∙ text_before in
      let at_word = long_text first words t (suc word)
      ∙ ap (λ l. length (text l Letters)) last_is ∙ ap length text_here
      ∙ length-append front (header identity) in
      record {
        behind = length front + 9;
        copy = copy_at bytes header_is;
        is_header = header_of bytes header_is;
        there = contains_map (copy_at bytes) (headers bytes) header_is
            ((anywhere_both bytes header_is).1 stands);
        digit_at = ap (place_in (text_by first words t n)) index
            ∙ place_at_word first words t n word (length front + 8) (omega (arith, heard))
            (omega (arith, before_word)) (omega (arith, at_word));
      }
