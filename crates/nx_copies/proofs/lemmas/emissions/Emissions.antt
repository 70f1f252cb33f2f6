-- A received emission: its words keep a lock, and each of its messages gives a copy.
use Rattle.std.proofs.Common.{◌≡◌, ℕ, ◌+◌, ◌-◌, ◌*◌, ◌<◌, ◌≤◌, Bool, List, [], ◌∷◌, ◌++◌, length}
use Rattle.std.proofs.Common.{take, replicate, get_or, Some, slice_get, refl, sym, ap, ap₂, ◌∙◌}
use Rattle.std.proofs.Common.{subst, arith}
use Rattle.std.specs.List.{Contains, flat_map}
use Rattle.std.proofs.lemmas.List.{length-append, length-replicate, get_or-replicate}
use Rattle.std.proofs.lemmas.List.{get_or_append_left, get_or-append_right}
use Rattle.std.proofs.lemmas.List.Elements.{Contains-append_left, Contains-append_right}
use Rattle.nx_code.specs.Table.{phasing_1, phasing_2}
use Rattle.nx_code.specs.Word.{wrong_in}
use Rattle.nx_envelope.specs.Message.{text_of, MessageView}
use Rattle.nx_envelope.specs.declared.found.How.TheVariants.{Full}
use Rattle.nx_fec.specs.emissions.Emission.{SentPosition, phasing_position, end_position, dx_word, rx_word}
use Rattle.nx_fec.specs.emissions.Emission.{position_at, bits_of, reception}
use Rattle.nx_fec.specs.emissions.Pairing.{counts_as, pairing}
use Rattle.nx_fec.proofs.lemmas.emissions.Emission.{word_sent-dx, word_sent-rx}
use Rattle.nx_fec.proofs.lemmas.emissions.RoundTrip.{length-bits_of}
use Rattle.nx_station.specs.Broadcast.{layout, phasing_and_message}
use Rattle.nx_station.specs.reception.Path.{PassesPath, heard_in, first_slot}
use Rattle.nx_station.specs.reception.Sendings.{IsReceived, digit_slot}
use Rattle.nx_code.proofs.lemmas.WordCounts.{wrong_in-same}
use Rattle.nx_station.proofs.lemmas.reception.PathLaws.{few-wrong, no-phasing_1, taken-as_sent}
use Rattle.nx_station.proofs.lemmas.reception.PathPositions.{HasInner, told-inner}
use Rattle.nx_station.proofs.lemmas.reception.PathWords.{not-empty}
use Rattle.nx_sync.specs.Words.{word_of_lock, first_role, whole_words, losing_count}
use Rattle.nx_sync.specs.Locks.{Lock, Now, locked, IsNow}
use Rattle.nx_copies.specs.copies.FoundCopies.{FoundCopy, ended_in, past_copies, ended_so_far}
use Rattle.nx_copies.specs.private.ReaderWords.{word_place}
use Rattle.nx_copies.specs.copies.LockText.{lock_text}
use Rattle.nx_copies.proofs.lemmas.locks.Growing.{ended_go_on}
use Rattle.nx_copies.proofs.lemmas.emissions.Locks.{KeepsLock, LockedThrough, word_of, locked_through}
use Rattle.nx_copies.proofs.lemmas.emissions.Positions.{AreTaken}
use Rattle.nx_copies.proofs.lemmas.emissions.Printed.{HearsMessage, digit_word, message_found}
use Rattle.nx_copies.proofs.lemmas.emissions.Texts.{on_air, on_air_before, on_air-parts, layout-parts}
use Rattle.nx_copies.proofs.lemmas.emissions.Texts.{positions-before, SpelledAt, spelled_at, lines_at}

-- the word of a slot
pub word_of-heard_in : (heard : List ℕ) (i : ℕ) → word_of heard i ≡ heard_in heard (96 + i)
word_of-heard_in heard i = let e : 96 + i - 96 ≡ i = omega arith in
    ap (λ n. get_or heard n 0) (sym e)

-- the positions that are sent: those of the phasing, those on the air, and those of the end
pub long_sent : (numbers : List ℕ) (spellings : List (List ℕ))
    → length (layout (numbers ∷ spellings)) ≡ 75 + length (on_air 36 (numbers ∷ spellings))
long_sent numbers spellings =
    let air = on_air 36 (numbers ∷ spellings) in
    ap length (layout-parts numbers spellings)
    ∙ length-append (replicate 72 phasing_position) (air ++ replicate 3 end_position)
    ∙ omega (
      arith,
      length-replicate 72 phasing_position,
      length-append air (replicate 3 end_position),
      length-replicate 3 end_position,
    )

pub phasing_at : (numbers : List ℕ) (spellings : List (List ℕ)) (i : ℕ) → i < 72
    → position_at (layout (numbers ∷ spellings)) i ≡ phasing_position
phasing_at numbers spellings i lt =
    let air = on_air 36 (numbers ∷ spellings) in
    ap (λ l. get_or l i end_position) (layout-parts numbers spellings)
    ∙ get_or_append_left (replicate 72 phasing_position) (air ++ replicate 3 end_position)
    end_position i (omega (arith, length-replicate 72 phasing_position))
    ∙ get_or-replicate 72 i phasing_position end_position lt

pub air_at : (numbers : List ℕ) (spellings : List (List ℕ)) (i : ℕ)
    → i < length (on_air 36 (numbers ∷ spellings))
    → position_at (layout (numbers ∷ spellings)) (72 + i)
    ≡ position_at (on_air 36 (numbers ∷ spellings)) i
air_at numbers spellings i lt =
    let air = on_air 36 (numbers ∷ spellings) in
    let e : 72 + i - 72 ≡ i = omega arith in
    ap (λ l. get_or l (72 + i) end_position) (layout-parts numbers spellings)
    ∙ get_or-append_right (replicate 72 phasing_position) (air ++ replicate 3 end_position) 72
    (72 + i) end_position (length-replicate 72 phasing_position) (omega arith)
    ∙ ap (λ n. get_or (air ++ replicate 3 end_position) n end_position) e
    ∙ get_or_append_left air (replicate 3 end_position) end_position i lt

module _ (numbers : List ℕ) (spellings : List (List ℕ)) (heard : List ℕ)
    (has : HasInner (layout (numbers ∷ spellings)))
    (passes : PassesPath (layout (numbers ∷ spellings)) heard) where
  abbrev sent : List SentPosition
  sent = layout (numbers ∷ spellings)

  abbrev air : List SentPosition
  air = on_air 36 (numbers ∷ spellings)

  pub long_heard : length heard ≡ 53 + 2 * length air
  long_heard = omega (arith, long_sent numbers spellings, passes.whole)

  second_at : (j : ℕ) → j < 24 → word_of heard (2 * j) ≡ phasing_2
  second_at j lt =
      let slot : 96 + 2 * j ≡ 2 * (48 + j) = omega arith in
      word_of-heard_in heard (2 * j) ∙ ap (heard_in heard) slot
      ∙ passes.phasing (2 * (48 + j)) (omega arith) (omega arith)
      ∙ word_sent-dx sent (48 + j)
      ∙ ap dx_word (phasing_at numbers spellings (48 + j) (omega arith))

  first_at : (j : ℕ) → j < 24 → word_of heard (2 * j + 1) ≡ phasing_1
  first_at j lt =
      let slot : 96 + (2 * j + 1) ≡ 2 * (46 + j) + 5 = omega arith in
      word_of-heard_in heard (2 * j + 1) ∙ ap (heard_in heard) slot
      ∙ passes.phasing (2 * (46 + j) + 5) (omega arith) (omega arith)
      ∙ word_sent-rx sent (46 + j)
      ∙ ap rx_word (phasing_at numbers spellings (46 + j) (omega arith))

  few_at : (a n : ℕ) → n ≤ 64 → a + n ≤ length heard → wrong_in (word_of heard) a n < losing_count
  few_at a n some to =
      let few = few-wrong sent heard has passes (96 + a) n (omega arith) some
      (omega (arith, passes.whole)) in
      let same : wrong_in (word_of heard) a n ≡ wrong_in (heard_in heard) (96 + a) n =
      wrong_in-same (word_of heard) (heard_in heard) a (96 + a) n
      (λ j lt. let e : 96 + (a + j) ≡ 96 + a + j = omega arith in
      word_of-heard_in heard (a + j) ∙ ap (heard_in heard) e) in
      omega arith

  apart_at : (a : ℕ) → 2 * a + 5 < length heard → word_of heard (2 * a) ≡ phasing_1
      → word_of heard (2 * a + 2) ≡ phasing_1 → ⊥
  apart_at a lt one two =
      let slot : 96 + 2 * a ≡ 2 * (48 + a) = omega arith in
      no-phasing_1 sent heard has passes (48 + a) (omega arith)
      (omega (arith, long_heard, long_sent numbers spellings))
      (ap (heard_in heard) (sym slot) ∙ sym (word_of-heard_in heard (2 * a)) ∙ one)

  pub keeps : KeepsLock heard
  keeps =
      record {
        words = passes.words;
        long = omega (arith, long_heard);
        second = second_at;
        first =
            first_at;
        few = few_at;
        apart = apart_at;
      }

  -- the words of a lock on the emission take its positions
  pub taken_of_lock : (words : ℕ → ℕ) (w : ℕ)
      → ((j i : ℕ) → j + 48 ≡ i + w → i < length heard → words j ≡ word_of heard i)
      → AreTaken words w air
  taken_of_lock words w same i lt =
      let dx : 96 + (48 + 2 * i) ≡ 2 * (72 + i) = omega arith in
      let rx : 96 + (53 + 2 * i) ≡ 2 * (72 + i) + 5 = omega arith in
      let first = same (w + 2 * i) (48 + 2 * i) (omega arith) (omega (arith, long_heard))
      ∙ word_of-heard_in heard (48 + 2 * i) ∙ ap (heard_in heard) dx in
      let second = same (w + 2 * i + 5) (53 + 2 * i) (omega arith) (omega (arith, long_heard))
      ∙ word_of-heard_in heard (53 + 2 * i) ∙ ap (heard_in heard) rx in
      ap₂ (λ a b. pairing (counts_as a) (counts_as b)) first second
      ∙ taken-as_sent sent heard has passes (72 + i) (omega arith)
      (omega (arith, long_sent numbers spellings))
      ∙ ap reception (air_at numbers spellings i lt)

-- the copy that a message of the emission gives, where so many bits stand before the emission
abbrev pub emission_copy : ℕ → List (List ℕ) → ℕ → MessageView → FoundCopy
emission_copy bits_before spellings index message = record {
  identity = message.identity;
  how = Full;
  text = text_of message.lines;
  place = bits_before + 7 * (digit_slot spellings index - first_slot) + 6;
}

module _ (gap : List Bool) (messages : List MessageView) (numbers : List ℕ)
    (spellings : List (List ℕ)) (heard : List ℕ)
    (is : IsReceived (record {
      messages = messages;
      spellings = numbers ∷ spellings;
      heard =
          heard;
    })) where
  abbrev all_bits : List Bool
  all_bits = gap ++ bits_of heard

  has_inner : HasInner (layout (numbers ∷ spellings))
  has_inner = told-inner messages (numbers ∷ spellings) (λ e. cc) is.told

  abbrev air_of : List SentPosition
  air_of = on_air 36 (numbers ∷ spellings)

  pub lock_on : LockedThrough gap heard
  lock_on = locked_through gap heard (keeps numbers spellings heard has_inner is.passes)

  module _ (l : LockedThrough gap heard) (index : ℕ) (message : MessageView)
      (at : slice_get messages index ≡ Some message) where
    among : SpelledAt (numbers ∷ spellings) index message
    among = spelled_at messages (numbers ∷ spellings) index message is.told at

    abbrev before : List SentPosition
    before = on_air_before 36 (take index (numbers ∷ spellings))

    hears : HearsMessage (first_role all_bits l.t) (word_of_lock all_bits l.t) l.whole air_of
        message
    hears = record {
      dx = l.dx;
      taken = taken_of_lock numbers spellings heard has_inner is.passes (word_of_lock all_bits l.t)
          l.whole l.same;
      numbers = among.numbers;
      told = among.told;
      before = before;
      behind = flat_map (phasing_and_message 36) among.back;
      parts = ap (on_air 36) among.whole
          ∙ on_air-parts 36 (take index (numbers ∷ spellings)) among.numbers among.back;
    }

    count_is : whole_words all_bits l.t ≡ l.whole + 5 + 2 * length air_of
    count_is =
        let bits : length all_bits ≡ length gap + 7 * length heard =
        length-append gap (bits_of heard)
        ∙ ap (λ n. length gap + n) (length-bits_of heard) in
        let long : length heard ≡ 53 + 2 * length air_of =
        long_heard numbers spellings heard has_inner is.passes in
        let e : length all_bits - l.t ≡ 7 * (l.whole + 5 + 2 * length air_of) =
        omega (arith, l.limit) in
        omega arith

    place_is : word_place l.t (digit_word l.whole before)
        ≡ length gap + 7 * (digit_slot (numbers ∷ spellings) index - first_slot) + 6
    place_is = omega (arith, l.limit, positions-before (take index (numbers ∷ spellings)))

    copy_in_lock : Contains (ended_in (lock_text all_bits l.t (whole_words all_bits l.t)))
        (emission_copy (length gap) (numbers ∷ spellings) index message)
    unfolding hears
    copy_in_lock =
        subst (λ n. Contains (ended_in (lock_text all_bits l.t n))
        (emission_copy (length gap) (numbers ∷ spellings) index message)) (sym count_is)
        (subst (λ p. Contains (ended_in (lock_text all_bits l.t (l.whole + 5 + 2 * length air_of)))
        (record {
          identity = message.identity;
          how = Full;
          text = text_of message.lines;
          place =
              p;
        })) place_is
        (message_found (first_role all_bits l.t) (word_of_lock all_bits l.t) l.t l.whole air_of
        message hears (lines_at messages index message is.sound at)))

    copy_ended : Contains (ended_so_far all_bits l.locks (locked l.p l.t))
        (emission_copy (length gap) (numbers ∷ spellings) index message)
    unfolding ended_so_far
    copy_ended = Contains-append_right (past_copies all_bits l.locks)
        (ended_in (lock_text all_bits l.t (whole_words all_bits l.t))) _ copy_in_lock

    -- and whatever bits follow
    copy_stays : (more : List Bool) (locks : List Lock) (now : Now)
        → IsNow (all_bits ++ more) locks now
        → Contains (ended_so_far (all_bits ++ more) locks now)
        (emission_copy (length gap) (numbers ∷ spellings) index message)
    copy_stays more locks now stands =
        let g = ended_go_on all_bits more l.locks locks (locked l.p l.t) now l.stands stands in
        subst (λ (cs : List FoundCopy). Contains cs
        (emission_copy (length gap) (numbers ∷ spellings) index message)) (sym g.whole)
        (Contains-append_left (ended_so_far all_bits l.locks (locked l.p l.t)) g.rest _ copy_ended)

-- Each of its messages gives a copy, whatever bits came before it and whatever follow.
pub message_copied : (gap more : List Bool) (messages : List MessageView)
    (spellings : List (List ℕ)) (heard : List ℕ)
    → IsReceived (record { messages = messages; spellings = spellings; heard = heard })
    → (index : ℕ) (message : MessageView) → slice_get messages index ≡ Some message
    → (locks : List Lock) (now : Now) → IsNow ((gap ++ bits_of heard) ++ more) locks now
    → Contains (ended_so_far ((gap ++ bits_of heard) ++ more) locks now)
    (emission_copy (length gap) spellings index message)
message_copied gap more messages [] heard is index message at locks now stands =
    absurd (not-empty [] heard is.passes refl)
message_copied gap more messages (numbers ∷ spellings) heard is index message at locks now stands =
    copy_stays gap messages numbers spellings heard is
    (lock_on gap messages numbers spellings heard is) index message at more locks now stands
