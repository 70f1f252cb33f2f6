-- A sending is found where its header is heard, and its copy arrives as what its positions give.
use Rattle.std.proofs.Common.{◌≡◌, ℕ, ◌+◌, ◌-◌, ◌*◌, ◌<◌, ◌≤◌, ◌⊎◌, Bool, List, []}
use Rattle.std.proofs.Common.{◌∷◌, ◌++◌, length, map, take, get_or, Some, slice_get, refl}
use Rattle.std.proofs.Common.{sym, ap, ap₂, ◌∙◌, subst, arith, append_assoc}
use Rattle.std.specs.List.{AllZip, Contains, flat_map}
use Rattle.std.proofs.lemmas.List.{get_or-map, get_or_append_left, length-append}
use Rattle.std.proofs.lemmas.Option.{slice_get-get_or}
use Rattle.nx_code.specs.Reading.{Reception, combination, shift_after_all, text}
use Rattle.nx_code.specs.declared.shifts.Shift.TheVariants.{Figures, Letters}
use Rattle.nx_envelope.specs.Copies.{copies}
use Rattle.nx_envelope.specs.Header.{Header}
use Rattle.nx_envelope.specs.Message.{MessageView}
use Rattle.nx_envelope.specs.declared.found.How.TheVariants.{Full}
use Rattle.nx_fec.specs.emissions.Emission.{traffic_position, end_position, bits_of}
use Rattle.nx_fec.specs.emissions.Emission.{position_at, reception}
use Rattle.nx_fec.specs.emissions.Pairing.{counts_as, pairing}
use Rattle.nx_memory.specs.Selection.{admits}
use Rattle.nx_station.specs.Broadcast.{ending, layout}
use Rattle.nx_station.specs.reception.Path.{IsAsSent, heard_in}
use Rattle.nx_station.specs.reception.Sendings.{Part, TellsMessage, digit_slot, part_bits}
use Rattle.nx_station.specs.reception.Sendings.{positions_before}
use Rattle.nx_sync.specs.Locks.{IsNow, Lock, Now}
use Rattle.nx_sync.specs.Words.{first_role, role_of, word_of_lock}
use Rattle.nx_sync.specs.declared.step.Role.TheVariants.{Dx}
use Rattle.nx_sync.proofs.lemmas.words.Roles.{role_of-even}
use Rattle.nx_copies.specs.Events.{Setting}
use Rattle.nx_copies.specs.copies.FoundCopies.{FoundCopy, found_copy, place_in, tag}
use Rattle.nx_copies.specs.copies.LockText.{lock_text, positions}
use Rattle.nx_copies.proofs.lemmas.emissions.Locks.{LockedThrough}
use Rattle.nx_copies.proofs.lemmas.emissions.Positions.{AreTaken}
use Rattle.nx_copies.proofs.lemmas.emissions.Texts.{head-parts, head_front, on_air_before, positions-before}
use Rattle.nx_copies.proofs.lemmas.emissions.Texts.{second_digit}
use Rattle.nx_copies.proofs.lemmas.locks.Texts.{bytes_are_reading}
use Rattle.nx_combine.specs.CopyPositions.{PlacedCopy, lock_bytes, lock_positions, placed_to_end}
use Rattle.nx_combine.specs.Families.{given_by}
use Rattle.nx_combine.specs.Laws.{Arrives}
use Rattle.nx_combine.specs.PositionEnds.{ending_by}
use Rattle.nx_promises.specs.laws.Together.{IsCopyOf, IsFoundAt, IsHeaderHeard, IsSeen, IsSeenCut, IsSentIn}
use Rattle.nx_promises.specs.laws.Together.{IsVisible, behind_digit, heard_with}
use Rattle.nx_promises.proofs.lemmas.together.Arrived.{HasEnding, IsCopyAt, copy_is, full_gives, read_gives}
use Rattle.nx_promises.proofs.lemmas.together.Found.{IsOfLock, lock_among}
use Rattle.nx_promises.proofs.lemmas.together.Headed.{header_found, header_numbers}
use Rattle.nx_promises.proofs.lemmas.together.Heard.{are_not_idle, count_is, cut_around, dx_all, has_inner}
use Rattle.nx_promises.proofs.lemmas.together.Heard.{long_air, of_lock, one_taken, sent_at, told_one, word_is}
use Rattle.nx_promises.proofs.lemmas.together.Visible.{seen-locked, seen-some}
use Rattle.nx_copies.proofs.lemmas.emissions.Emissions.{long_sent}

-- ---- a copy arrives

arrives_as : (setting : Setting) (found : FoundCopy) (positions : List Reception)
    → HasEnding found.how found.text positions
    → tag setting found ≡ given_by positions (tag setting found)
unfolding tag given_by
arrives_as setting found positions has =
    ap₂ (λ how text. record {
      identity = found.identity;
      how = how;
      text = text;
      moment = setting.moment;
      selected = admits setting.refused found.identity;
    }) has.same_how has.same_text

-- what its positions give is what the copy is, if the one of them is full
of_lock_gives : (bits : List Bool) (locks : List Lock) (t words : ℕ) (copy : PlacedCopy)
    → (of : IsOfLock bits locks t words copy)
    → (IsCopyAt (text (lock_positions bits t of.n).taken Letters) of.one)
of_lock_gives bits locks t words copy of =
    subst (λ bytes. IsCopyAt bytes of.one)
    (bytes_are_reading (first_role bits t) (word_of_lock bits t) t of.n)
    (copy_is (lock_bytes bits t of.n) of.one of.there)

full_ending : (bits : List Bool) (locks : List Lock) (t words : ℕ) (copy : PlacedCopy)
    → IsOfLock bits locks t words copy
    → copy.found.how ≡ Full → HasEnding copy.found.how copy.found.text copy.positions
unfolding found_copy
full_ending bits locks t words copy of full =
    let how = ap (λ (f : FoundCopy). f.how) of.found in
    let found = ap (λ (f : FoundCopy). f.text) of.found in
    let has = full_gives of.how (lock_positions bits t of.n) of.one
    (of_lock_gives bits locks t words copy of) (sym how ∙ full) in
    record {
      same_how = how ∙ has.same_how ∙ ap (λ p. (ending_by p).how) (sym of.positions);
      same_text = found ∙ has.same_text ∙ ap (λ p. (ending_by p).text) (sym of.positions);
    }

read_ending : (bits : List Bool) (locks : List Lock) (t words : ℕ) (copy : PlacedCopy)
    → IsOfLock bits locks t words copy
    → (ending_by copy.positions).how ≡ Full
    → HasEnding copy.found.how copy.found.text copy.positions
unfolding found_copy
read_ending bits locks t words copy of full =
    let how = ap (λ (f : FoundCopy). f.how) of.found in
    let found = ap (λ (f : FoundCopy). f.text) of.found in
    let has = read_gives of.how (lock_positions bits t of.n) of.one
    (of_lock_gives bits locks t words copy of)
    (ap (λ p. (ending_by p).how) (sym of.positions) ∙ full) in
    record {
      same_how = how ∙ has.same_how ∙ ap (λ p. (ending_by p).how) (sym of.positions);
      same_text = found ∙ has.same_text ∙ ap (λ p. (ending_by p).text) (sym of.positions);
    }

pub copy_arrives : (bits : List Bool) (parts : List Part) (message : MessageView)
    (numbers : List ℕ) (copy : PlacedCopy) → IsCopyOf bits parts message numbers copy
    → (setting : Setting) → Arrives (behind_digit numbers) (heard_with setting copy)
unfolding tag
copy_arrives bits parts message numbers copy is setting =
    let of = of_lock bits parts message numbers copy is in
    record {
      never_idle = are_not_idle bits parts message numbers copy is;
      full = λ full. arrives_as setting copy.found copy.positions
          (full_ending of.bits is.locks of.t of.words copy of.is full);
      read = λ full. arrives_as setting copy.found copy.positions
          (read_ending of.bits is.locks of.t of.words copy of.is full);
    }

-- ---- a sending is found

-- the combinations of a message begin with those of its header
header_first : (message : MessageView) (numbers : List ℕ) → TellsMessage message numbers
    → (rest : List ℕ) × (numbers ≡ header_numbers message.identity ++ rest)
header_first message numbers told =
    let identity = message.identity in
    let shown = ending (shift_after_all (map combination told.body) Figures) in
    let behind = told.body ++ shown in (
      27 ∷ 28 ∷ behind,
      told.whole ∙ ap (λ l. l ++ behind) (head-parts identity)
          ∙ append_assoc (head_front identity) (second_digit identity ∷ 27 ∷ 28 ∷ []) behind
          ∙ sym (append_assoc (head_front identity) (second_digit identity ∷ [])
          (27 ∷ 28 ∷ behind)),
    )

module _ (before after : List Bool) (messages : List MessageView) (zeroth : List ℕ)
    (spellings : List (List ℕ)) (heard : List ℕ)
    (told : AllZip TellsMessage messages (zeroth ∷ spellings))
    (visible : IsVisible (layout (zeroth ∷ spellings)) heard) (l : LockedThrough before heard)
    (index : ℕ) (message : MessageView) (numbers : List ℕ)
    (at : slice_get messages index ≡ Some message)
    (spelled : slice_get (zeroth ∷ spellings) index ≡ Some numbers)
    (clear : IsHeaderHeard (record {
      messages = messages;
      spellings = zeroth ∷ spellings;
      heard = heard;
    }) index) where
  abbrev all : List Bool
  all = (before ++ bits_of heard) ++ after

  abbrev count : ℕ
  count = length (on_air_before 36 (take index (zeroth ∷ spellings)))

  abbrev w : ℕ
  w = l.whole + 2 * count

  first_of : (rest : List ℕ) × (numbers ≡ header_numbers message.identity ++ rest)
  first_of = header_first message numbers
      (told_one messages (zeroth ∷ spellings) index message numbers told at spelled)

  enough : 11 ≤ length numbers
  enough = let e = ap length first_of.1
      ∙ length-append (header_numbers message.identity) first_of.0 in omega arith

  dx_first : role_of (first_role all l.t) w ≡ Dx
  dx_first = role_of-even (first_role all l.t) l.whole count
      ∙ dx_all before after messages zeroth spellings heard told visible l index numbers spelled

  number_at : (i : ℕ) → i < 11
      → slice_get numbers i ≡ Some (get_or (header_numbers message.identity) i 0)
  number_at i lt =
      slice_get-get_or numbers i 0 (omega (arith, enough))
      ∙ ap (λ l. Some (get_or l i 0)) first_of.1
      ∙ ap Some (get_or_append_left (header_numbers message.identity) first_of.0 0 i lt)

  sent_there : (i : ℕ) → i < 11
      → position_at (layout (zeroth ∷ spellings)) (72 + (count + i))
      ≡ position_at (map traffic_position (header_numbers message.identity)) i
  sent_there i lt =
      sent_at before after messages zeroth spellings heard told visible l index numbers spelled i
      (get_or (header_numbers message.identity) i 0) (number_at i lt)
      ∙ sym (get_or-map traffic_position (header_numbers message.identity) i 0 end_position lt)

  header_taken : AreTaken (word_of_lock all l.t) w
      (map traffic_position (header_numbers message.identity))
  header_taken i lt =
      let before_is = positions-before (take index (zeroth ∷ spellings)) in
      let has = has_inner before after messages zeroth spellings heard told visible l index numbers
      spelled in
      let air = long_air before after messages zeroth spellings heard told visible l index numbers
      spelled in
      let some = enough in
      let long = long_sent zeroth spellings in
      let place : positions_before (take index (zeroth ∷ spellings)) + i ≡ 72 + (count + i) =
      omega (arith, before_is) in
      let dx_word : w + 2 * i ≡ l.whole + (2 * count + 2 * i) = omega arith in
      let rx_word : w + 2 * i + 5 ≡ l.whole + (2 * count + 2 * i + 5) = omega arith in
      let dx_slot : 144 + (2 * count + 2 * i) ≡ 2 * (72 + (count + i)) = omega arith in
      let rx_slot : 144 + (2 * count + 2 * i + 5) ≡ 2 * (72 + (count + i)) + 5 = omega arith in
      let word = word_is before after messages zeroth spellings heard told visible l index numbers
      spelled in
      let dx = ap (word_of_lock all l.t) dx_word
      ∙ word (2 * count + 2 * i) (omega (arith, air, some, lt)) ∙ ap (heard_in heard) dx_slot in
      let rx = ap (word_of_lock all l.t) rx_word
      ∙ word (2 * count + 2 * i + 5) (omega (arith, air, some, lt)) ∙ ap (heard_in heard) rx_slot
      in
      ap₂ (λ a b. pairing (counts_as a) (counts_as b)) dx rx
      ∙ one_taken (layout (zeroth ∷ spellings)) heard has visible (72 + (count + i)) (omega arith)
      (omega (arith, long, air, some, lt))
      (subst (λ j. IsAsSent (layout (zeroth ∷ spellings)) heard (2 * j)
      ⊎ IsAsSent (layout (zeroth ∷ spellings)) heard (2 * j + 5)) place (clear i lt))
      ∙ ap reception (sent_there i lt)

  pub found_by : (locks : List Lock) (now : Now) → IsNow all locks now
      → IsFoundAt message.identity
      (length before + 7 * (digit_slot (zeroth ∷ spellings) index - 96) + 6)
      (placed_to_end all locks now)
  unfolding found_copy
  found_by locks now stands =
      let before_is = positions-before (take index (zeroth ∷ spellings)) in
      let a = lock_among (before ++ bits_of heard) after l.locks locks l.p l.t now l.stands stands
      in
      let air = long_air before after messages zeroth spellings heard told visible l index numbers
      spelled in
      let total = count_is before after messages zeroth spellings heard told visible l index numbers
      spelled in
      let has = header_found (first_role all l.t) (word_of_lock all l.t) l.t w a.n message.identity
      dx_first header_taken (omega (arith, a.long, total, air, enough)) in
      let bytes = bytes_are_reading (first_role all l.t) (word_of_lock all l.t) l.t a.n in
      let there = subst (λ bs. Contains (copies bs) has.copy) (sym bytes) has.there in
      record {
        copy = _;
        there = a.each has.copy there;
        named = ap (λ (h : Header). h.identity) has.is_header;
        at = ap (λ (h : Header). place_in (lock_text all l.t a.n) (h.behind - 1)) has.is_header
            ∙ has.digit_at ∙ omega (arith, l.limit, before_is);
      }

found_of : (before after : List Bool) (messages : List MessageView) (spellings : List (List ℕ))
    (heard : List ℕ)
    → IsSeen (record { messages = messages; spellings = spellings; heard = heard })
    → LockedThrough before heard → (index : ℕ) (message : MessageView) (numbers : List ℕ)
    → slice_get messages index ≡ Some message → slice_get spellings index ≡ Some numbers
    → IsHeaderHeard (record { messages = messages; spellings = spellings; heard = heard }) index
    → (locks : List Lock) (now : Now) → IsNow ((before ++ bits_of heard) ++ after) locks now
    → IsFoundAt message.identity (length before + 7 * (digit_slot spellings index - 96) + 6)
    (placed_to_end ((before ++ bits_of heard) ++ after) locks now)
found_of before after messages [] heard seen l index message numbers at spelled clear locks now
    stands = absurd (seen-some [] heard seen.visible refl)
found_of before after messages (zeroth ∷ spellings) heard seen l index message numbers at spelled
    clear locks now stands =
    found_by before after messages zeroth spellings heard seen.told seen.visible l index message
    numbers at spelled clear locks now stands

pub sending_found : (bits : List Bool) (parts : List Part) (message : MessageView)
    (numbers : List ℕ) (place : ℕ) (locks : List Lock) (now : Now) → IsSeenCut bits parts
    → (sending : IsSentIn parts message numbers place)
    → IsHeaderHeard sending.sent.emission sending.sent.index → IsNow bits locks now
    → IsFoundAt message.identity place (placed_to_end bits locks now)
sending_found bits parts message numbers place locks now cut sending clear stands =
    let s = sending.sent in
    let e = s.emission in
    let seen = cut.each s.before e s.after s.among in
    let before = flat_map part_bits s.before in
    let whole = cut_around bits parts s.before e s.after cut.whole s.among in
    subst (λ (p : ℕ). IsFoundAt message.identity p (placed_to_end bits locks now)) (sym s.place)
    (subst (λ (b : List Bool). IsFoundAt message.identity
    (length before + 7 * (digit_slot e.spellings s.index - 96) + 6) (placed_to_end b locks now))
    (sym whole)
    (found_of before (flat_map part_bits s.after) e.messages e.spellings e.heard seen
    (seen-locked before e seen) s.index message numbers s.message sending.spelled clear locks now
    (subst (λ (b : List Bool). IsNow b locks now) whole stands)))
