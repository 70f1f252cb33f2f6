-- Each position of a copy of a visible sending is taken as it was sent, or lost.
use Rattle.std.proofs.Common.{◌≡◌, ℕ, zero, suc, ◌+◌, ◌-◌, ◌*◌, ◌<◌, ◌≤◌, ◌⊎◌, Bool, List}
use Rattle.std.proofs.Common.{[], ◌∷◌, ◌++◌, length, map, take, drop, get_or, Some, slice_get}
use Rattle.std.proofs.Common.{refl, sym, ap, ap₂, ◌∙◌, subst, arith, inl, inr, append_assoc}
use Rattle.std.specs.List.{AllZip, Contains, flat_map}
use Rattle.std.proofs.lemmas.List.{get_or-append-add, get_or-map, get_or_append_left, length-append}
use Rattle.std.proofs.lemmas.List.{length-map, length-take}
use Rattle.std.proofs.lemmas.List.Concat.{flat_map-append}
use Rattle.std.proofs.lemmas.List.Elements.{All-contains}
use Rattle.std.proofs.lemmas.Option.{get_or_from_slice_get, slice_get_within}
use Rattle.nx_code.specs.Reading.{Reception, combination, idle, lost, text}
use Rattle.nx_code.specs.declared.shifts.Shift.TheVariants.{Figures, Letters}
use Rattle.nx_envelope.specs.Message.{MessageView}
use Rattle.nx_fec.specs.emissions.Emission.{SentPosition, traffic_position, end_position}
use Rattle.nx_fec.specs.emissions.Emission.{bits_of, position_at, reception}
use Rattle.nx_fec.specs.emissions.Pairing.{counts_as, nothing, pairing}
use Rattle.nx_fec.proofs.lemmas.emissions.Emission.{word_sent-dx, word_sent-rx}
use Rattle.nx_fec.proofs.lemmas.emissions.Pairing.{counts_as-wrong}
use Rattle.nx_fec.proofs.lemmas.emissions.RoundTrip.{length-bits_of}
use Rattle.nx_code.specs.Reading.{shift_after_all}
use Rattle.nx_station.specs.Broadcast.{ending, head, layout, phasing_and_message}
use Rattle.nx_station.specs.reception.Path.{IsAsSent, heard_in}
use Rattle.nx_station.specs.reception.Sendings.{Part, ReceivedEmission, TellsMessage, digit_slot, part_bits}
use Rattle.nx_station.specs.reception.Sendings.{received}
use Rattle.nx_station.proofs.lemmas.reception.PathPositions.{HasInner, position-inner, told-inner}
use Rattle.nx_sync.specs.Locks.{IsNow, Lock, Now}
use Rattle.nx_sync.specs.Words.{first_role, role_of, whole_words, word_of_lock}
use Rattle.nx_sync.specs.declared.step.Role.TheVariants.{Dx}
use Rattle.nx_sync.proofs.lemmas.states.KeptPast.{first_role-more, word_at-more}
use Rattle.nx_copies.specs.copies.FoundCopies.{found_copy, place_in}
use Rattle.nx_copies.specs.copies.LockText.{positions, text_by}
use Rattle.nx_copies.proofs.lemmas.emissions.Copies.{copies_within}
use Rattle.nx_copies.proofs.lemmas.emissions.Locks.{LockedThrough}
use Rattle.nx_copies.proofs.lemmas.emissions.Texts.{on_air, on_air-parts, on_air_before, positions-before}
use Rattle.nx_copies.proofs.lemmas.locks.Texts.{bytes_are_reading}
use Rattle.nx_combine.specs.CopyPositions.{PlacedCopy, lock_bytes, lock_positions}
use Rattle.nx_combine.specs.CopyPositions.{placed_to_end, positions_for}
use Rattle.nx_combine.specs.Laws.{IsHeardOf, IsNeverIdle}
use Rattle.nx_promises.specs.laws.Together.{IsSeen, IsTakenOf, IsVisible, as_sent}
use Rattle.nx_promises.specs.laws.Together.{AreTakenOf, IsCopyOf, behind_digit, both_wrong}
use Rattle.nx_promises.specs.laws.Together.{place_behind}
use Rattle.nx_promises.specs.laws.Together.{Reaches}
use Rattle.nx_promises.proofs.lemmas.together.Arrived.{ended_up_to}
use Rattle.nx_promises.proofs.lemmas.together.Digit.{count_at, digit_position, more, position_at_word}
use Rattle.nx_combine.specs.private.laws.EndedPositions.{up_to-last}
use Rattle.nx_combine.specs.CopyPositions.{behind_header, positions_in_past}
use Rattle.nx_combine.specs.PositionEnds.{has_ended, up_to_end}
use Rattle.nx_sync.specs.declared.step.Change.{Change}
use Rattle.nx_sync.specs.declared.step.Change.TheVariants.{Ended, Locked, LostLock}
use Rattle.std.proofs.Common.{append-nil, true, false}
use Rattle.std.proofs.lemmas.List.{length-drop}
use Rattle.nx_promises.proofs.lemmas.together.Found.{Belongs, IsOfLock, copies_belong}
use Rattle.nx_promises.proofs.lemmas.together.Parts.{get-drop, get-take, positions_behind, split_at}
use Rattle.nx_promises.proofs.lemmas.together.Visible.{long_heard, seen-locked}
use Rattle.nx_promises.proofs.lemmas.together.Visible.{seen-some}
use Rattle.nx_station.proofs.lemmas.reception.PathLaws.{counted, dx-counts, rx-counts, taken-both}
use Rattle.nx_station.proofs.lemmas.reception.PathLaws.{taken-dx, taken-rx}
use Rattle.nx_copies.proofs.lemmas.emissions.Emissions.{word_of-heard_in}
use Rattle.nx_copies.proofs.lemmas.emissions.Emissions.{air_at, long_sent}

-- ---- what is taken of a position

-- where something is taken, it is what was sent
pub taken_or_lost : {sent : List SentPosition} {heard : List ℕ} {i : ℕ} {x : Reception}
    → IsTakenOf sent heard i x → (x ≡ reception (position_at sent i)) ⊎ (x ≡ lost)
taken_or_lost (as_sent one) = inl refl
taken_or_lost (both_wrong dx rx) = inr refl

module _ (sent : List SentPosition) (heard : List ℕ) (has : HasInner sent)
    (visible : IsVisible sent heard) (i : ℕ) (from : 72 ≤ i) (to : i + 3 < length sent) where
  abbrev one : SentPosition
  one = position_at sent i

  dx_sent : IsAsSent sent heard (2 * i) → counts_as (heard_in heard (2 * i)) ≡ counted one
  dx_sent h = ap counts_as (h ∙ word_sent-dx sent i) ∙ dx-counts one (position-inner sent has i to)

  rx_sent : IsAsSent sent heard (2 * i + 5) → counts_as (heard_in heard (2 * i + 5)) ≡ counted one
  rx_sent h = ap counts_as (h ∙ word_sent-rx sent i) ∙ rx-counts one (position-inner sent has i to)

  abbrev taken : Reception
  taken = pairing (counts_as (heard_in heard (2 * i))) (counts_as (heard_in heard (2 * i + 5)))

  -- where one word is heard as sent, what was sent is taken
  pub one_taken : IsAsSent sent heard (2 * i) ⊎ IsAsSent sent heard (2 * i + 5)
      → taken ≡ reception one
  one_taken (inl dx) = elim (visible.later (2 * i + 5) (omega arith) (omega (arith, to))) [
    | inl rx ↦ ap₂ pairing (dx_sent dx) (rx_sent rx) ∙ taken-both one
    | inr wrong ↦ ap₂ pairing (dx_sent dx) (counts_as-wrong (heard_in heard (2 * i + 5)) wrong)
        ∙ taken-dx one
  ]
  one_taken (inr rx) = elim (visible.later (2 * i) (omega arith) (omega (arith, to))) [
    | inl dx ↦ ap₂ pairing (dx_sent dx) (rx_sent rx) ∙ taken-both one
    | inr wrong ↦ ap₂ pairing (counts_as-wrong (heard_in heard (2 * i)) wrong) (rx_sent rx)
        ∙ taken-rx one
  ]

  pub taken_of : IsTakenOf sent heard i taken
  taken_of = elim (visible.later (2 * i) (omega arith) (omega (arith, to))) [
    | inl dx ↦ subst (IsTakenOf sent heard i) (sym (one_taken (inl dx))) (as_sent (inl dx))
    | inr wrong ↦ elim (visible.later (2 * i + 5) (omega arith) (omega (arith, to))) [
      | inl rx ↦ subst (IsTakenOf sent heard i) (sym (one_taken (inr rx))) (as_sent (inr rx))
      | inr both ↦
          let e : taken ≡ lost =
          ap₂ pairing (counts_as-wrong (heard_in heard (2 * i)) wrong)
          (counts_as-wrong (heard_in heard (2 * i + 5)) both) in
          subst (IsTakenOf sent heard i) (sym e) (both_wrong wrong both)
    ]
  ]

-- ---- the copy at the place of a sending

-- a combination behind the second digit
behind_at : (numbers : List ℕ) (i number : ℕ) → slice_get (behind_digit numbers) i ≡ Some number
    → slice_get numbers (11 + i) ≡ Some number
behind_at numbers i number e =
    sym (get-drop 11 numbers i) ∙ get-take (length numbers - 14) (drop 11 numbers) i number e

behind_within : (numbers : List ℕ) (i number : ℕ) → slice_get (behind_digit numbers) i ≡ Some number
    → i + 14 < length numbers
behind_within numbers i number e =
    let within = slice_get_within (behind_digit numbers) i number e in
    omega (arith, within, length-take (length numbers - 14) (drop 11 numbers))

-- the combinations that tell a message of several
pub told_one : (messages : List MessageView) (spellings : List (List ℕ)) (index : ℕ)
    (message : MessageView) (numbers : List ℕ) → AllZip TellsMessage messages spellings
    → slice_get messages index ≡ Some message → slice_get spellings index ≡ Some numbers
    → TellsMessage message numbers
told_one [] spellings index message numbers h e f = cc
told_one (m ∷ messages) [] index message numbers h e f = absurd h
told_one (m ∷ messages) (s ∷ spellings) zero message numbers h e f =
    let same : m ≡ message = cc in
    let this : s ≡ numbers = cc in
    subst (λ n. TellsMessage message n) this (subst (λ (m : MessageView). TellsMessage m s) same
    h.0)
told_one (m ∷ messages) (s ∷ spellings) (suc index) message numbers h e f =
    told_one messages spellings index message numbers h.1 e f

-- they are at least those of its head
header_long : (message : MessageView) (numbers : List ℕ) → TellsMessage message numbers
    → 11 ≤ length numbers
unfolding head
header_long message numbers told =
    let shown = ending (shift_after_all (map combination told.body) Figures) in
    let long = ap length told.whole
    ∙ length-append (head message.identity) (told.body ++ shown) in
    omega arith

module _ (before after : List Bool) (messages : List MessageView) (zeroth : List ℕ)
    (spellings : List (List ℕ)) (heard : List ℕ)
    (told : AllZip TellsMessage messages (zeroth ∷ spellings))
    (visible : IsVisible (layout (zeroth ∷ spellings)) heard) (l : LockedThrough before heard)
    (index : ℕ) (numbers : List ℕ)
    (spelled : slice_get (zeroth ∷ spellings) index ≡ Some numbers) where
  abbrev sent_of : List SentPosition
  sent_of = layout (zeroth ∷ spellings)

  pub has_inner : HasInner sent_of
  has_inner = told-inner messages (zeroth ∷ spellings) (λ e. cc) told

  abbrev air : List SentPosition
  air = on_air 36 (zeroth ∷ spellings)

  abbrev pub front : List SentPosition
  front = on_air_before 36 (take index (zeroth ∷ spellings))

  abbrev back : List SentPosition
  back = flat_map (phasing_and_message 36) (drop (suc index) (zeroth ∷ spellings))

  air_parts : air ≡ front ++ (map traffic_position numbers ++ back)
  air_parts = ap (on_air 36) (split_at (zeroth ∷ spellings) index numbers spelled)
      ∙ on_air-parts 36 (take index (zeroth ∷ spellings)) numbers
      (drop (suc index) (zeroth ∷ spellings))

  pub long_air : length air ≡ length front + (length numbers + length back)
  long_air = ap length air_parts
      ∙ length-append front (map traffic_position numbers ++ back)
      ∙ omega (
        arith,
        length-append (map traffic_position numbers) back,
        length-map numbers traffic_position,
      )

  -- the position that a combination is sent in
  pub sent_at : (j number : ℕ) → slice_get numbers j ≡ Some number
      → position_at sent_of (72 + (length front + j)) ≡ traffic_position number
  sent_at j number e =
      let within = slice_get_within numbers j number e in
      let long = length-map numbers traffic_position in
      air_at zeroth spellings (length front + j) (omega (arith, long_air))
      ∙ ap (λ a. get_or a (length front + j) end_position) air_parts
      ∙ get_or-append-add front (map traffic_position numbers ++ back) j end_position
      ∙ get_or_append_left (map traffic_position numbers) back end_position j (omega (arith, long))
      ∙ get_or-map traffic_position numbers j 0 end_position within
      ∙ ap traffic_position (get_or_from_slice_get numbers j number 0 e)

  abbrev own : List Bool
  own = before ++ bits_of heard

  abbrev all : List Bool
  all = own ++ after

  pub count_is : whole_words own l.t ≡ l.whole + 5 + 2 * length air
  count_is =
      let bits : length own ≡ length before + 7 * length heard =
      length-append before (bits_of heard)
      ∙ ap (λ n. length before + n) (length-bits_of heard) in
      let long : length heard ≡ 53 + 2 * length air =
      long_heard zeroth spellings heard has_inner visible in
      let e : length own - l.t ≡ 7 * (l.whole + 5 + 2 * length air) =
      omega (arith, l.limit) in
      omega arith

  heard_bits : length own ≡ l.t + 7 * (l.whole + 5 + 2 * length air)
  heard_bits =
      let bits : length own ≡ length before + 7 * length heard =
      length-append before (bits_of heard)
      ∙ ap (λ n. length before + n) (length-bits_of heard) in
      omega (arith, bits, long_heard zeroth spellings heard has_inner visible, l.limit)

  pub dx_all : role_of (first_role all l.t) l.whole ≡ Dx
  dx_all = ap (λ r. role_of r l.whole)
      (first_role-more own after l.t l.stands.found.here.enough l.stands.found.here.heard) ∙ l.dx

  -- the words of the lock are those of the emission
  pub word_is : (j : ℕ) → j < 2 * length air + 5
      → word_of_lock all l.t (l.whole + j) ≡ heard_in heard (144 + j)
  word_is j lt =
      let e : 96 + (48 + j) ≡ 144 + j = omega arith in
      word_at-more own after l.t (l.whole + j) (omega (arith, heard_bits))
      ∙ l.same (l.whole + j) (48 + j) (omega arith)
      (omega (arith, long_heard zeroth spellings heard has_inner visible))
      ∙ word_of-heard_in heard (48 + j) ∙ ap (heard_in heard) e

  -- the second digit stands among the words that were heard
  pub placed_within : (copy : PlacedCopy)
      → copy.found.place ≡ length before + 7 * (digit_slot (zeroth ∷ spellings) index - 96) + 6
      → 11 ≤ length numbers
      → (l.t ≤ copy.found.place) × (copy.found.place < l.t + 7 * whole_words own l.t)
  placed_within copy at enough =
      let before_is = positions-before (take index (zeroth ∷ spellings)) in (
        omega (arith, at, l.limit, before_is),
        omega (arith, at, l.limit, before_is, count_is, long_air, enough),
      )

  module _ (locks : List Lock) (copy : PlacedCopy)
      (of : IsOfLock all locks l.t (whole_words own l.t) copy)
      (at : copy.found.place ≡ length before + 7 * (digit_slot (zeroth ∷ spellings) index - 96) + 6)
      (head_sent : 11 ≤ length numbers) where
    abbrev taken_all : List Reception
    taken_all = positions (first_role all l.t) (word_of_lock all l.t) of.n

    abbrev first_taken : ℕ
    first_taken = length (positions (first_role all l.t) (word_of_lock all l.t) (l.whole + 5))

    abbrev behind : ℕ
    behind = of.one.header.behind

    place_is : copy.found.place ≡ l.t + 7 * (l.whole + 5 + 2 * (length front + 10)) + 6
    place_is = omega (arith, at, l.limit, positions-before (take index (zeroth ∷ spellings)))

    place_there : place_in (text_by (first_role all l.t) (word_of_lock all l.t) l.t of.n)
        (behind - 1) ≡ l.t + 7 * (l.whole + 5 + 2 * (length front + 10)) + 6
    unfolding found_copy
    place_there = sym (ap (λ f. f.place) of.found) ∙ place_is

    -- all words of the message are words of the lock
    enough : l.whole + 5 + 2 * (length front + length numbers) ≤ of.n
    enough = omega (arith, of.long, count_is, long_air)

    in_text : behind ≤ length (text taken_all Letters)
    in_text =
        let within = copies_within (lock_bytes all l.t of.n) of.one of.there in
        let same = ap length
        (bytes_are_reading (first_role all l.t) (word_of_lock all l.t) l.t of.n) in
        omega (arith, within.1, same)

    count_behind : positions_for taken_all behind ≡ first_taken + (length front + 10) + 1
    count_behind =
        let within = copies_within (lock_bytes all l.t of.n) of.one of.there in
        digit_position (first_role all l.t) (word_of_lock all l.t) l.t l.whole (length front + 10)
        of.n behind dx_all (omega (arith, enough, head_sent)) within.0 in_text place_there

    -- behind the header there are as many positions as combinations were sent
    long_behind : length (behind_digit numbers)
        ≤ length (behind_header taken_all of.one.header)
    long_behind =
        let first = first_role all l.t in
        let words = word_of_lock all l.t in
        let last : ℕ = l.whole + 5 + 2 * (length front + length numbers) in
        let on = more first words (l.whole + 5 + 2 * (length front + length numbers)) of.n enough in
        let total = ap length on.whole
        ∙ length-append (positions first words
        (l.whole + 5 + 2 * (length front + length numbers))) on.rest in
        let sent_count = count_at first words l.whole (length front + length numbers) dx_all in
        let dropped = length-drop (positions_for taken_all behind) taken_all in
        let cut = length-take (length numbers - 14) (drop 11 numbers) in
        omega (arith, total, sent_count, dropped, cut, count_behind, length-drop 11 numbers)

    abbrev behind_all : List Reception
    behind_all = behind_header taken_all of.one.header

    up_to_reaches : (is : Bool) → has_ended behind_all ≡ is
        → (length (behind_digit numbers) ≤ length (up_to_end behind_all))
        ⊎ (has_ended (up_to_end behind_all) ≡ true)
    up_to_reaches true is = inr (ended_up_to behind_all is)
    up_to_reaches false is =
        let whole : up_to_end behind_all ≡ behind_all =
        ap up_to_end (sym (append-nil behind_all))
        ∙ up_to-last of.one.header.identity behind_all [] is (omega arith)
        ∙ append-nil behind_all in
        let long = long_behind in
        inl (omega (arith, ap length whole, long))

    not_lost : copy.positions ≡ up_to_end behind_all → Reaches numbers locks copy
    not_lost e = elim (up_to_reaches (has_ended behind_all) refl) [
      | inl long ↦ inl (omega (arith, ap length e, long))
      | inr ended ↦ inr (inl (ap has_ended e ∙ ended))
    ]

    positions_by : (how : Change) → of.how ≡ how → copy.positions
        ≡ positions_in_past how (lock_positions all l.t of.n) of.one.header
    positions_by how is = of.positions
        ∙ ap (λ h. positions_in_past h (lock_positions all l.t of.n) of.one.header) is

    reaches_by : (how : Change) → of.how ≡ how → Reaches numbers locks copy
    reaches_by LostLock is = inr (inr (of.lost is))
    reaches_by Ended is = not_lost (positions_by Ended is)
    reaches_by Locked is = not_lost (positions_by Locked is)

    pub reaches : Reaches numbers locks copy
    reaches = reaches_by of.how refl

    module _ (i number : ℕ) (there : slice_get (behind_digit numbers) i ≡ Some number) where
      abbrev place : ℕ
      place = 72 + (length front + 11 + i)

      taken_there : (x : Reception) → slice_get copy.positions i ≡ Some x
          → x ≡ pairing (counts_as (word_of_lock all l.t (l.whole + 2 * (length front + 11 + i))))
          (counts_as (word_of_lock all l.t (l.whole + 2 * (length front + 11 + i) + 5)))
      taken_there x e =
          let index_is : positions_for taken_all behind + i
          ≡ first_taken + (length front + 11 + i) = omega (arith, count_behind) in
          let here : slice_get taken_all (first_taken + (length front + 11 + i)) ≡ Some x =
          ap (slice_get taken_all) (sym index_is)
          ∙ sym (get-drop (positions_for taken_all behind) taken_all i)
          ∙ positions_behind of.how (lock_positions all l.t of.n) of.one.header i x
          (ap (λ p. slice_get p i) (sym of.positions) ∙ e) in
          let word = position_at_word (first_role all l.t) (word_of_lock all l.t) l.whole
          (length front + 11 + i) of.n dx_all
          (omega (arith, enough, behind_within numbers i number there)) in
          let both = sym here ∙ word in
          cc

      -- it is what is taken of the two words that are heard
      taken_pair : (x : Reception) → slice_get copy.positions i ≡ Some x
          → x ≡ pairing (counts_as (heard_in heard (2 * place)))
          (counts_as (heard_in heard (2 * place + 5)))
      taken_pair x e =
          let short = behind_within numbers i number there in
          let first_slot_is : 144 + 2 * (length front + 11 + i)
          ≡ 2 * (72 + (length front + 11 + i)) = omega arith in
          let second_slot_is : 144 + (2 * (length front + 11 + i) + 5)
          ≡ 2 * (72 + (length front + 11 + i)) + 5 = omega arith in
          let one : l.whole + 2 * (length front + 11 + i) + 5
          ≡ l.whole + (2 * (length front + 11 + i) + 5) = omega arith in
          let dx = word_is (2 * (length front + 11 + i)) (omega (arith, long_air, short))
          ∙ ap (heard_in heard) first_slot_is in
          let rx = ap (word_of_lock all l.t) one
          ∙ word_is (2 * (length front + 11 + i) + 5) (omega (arith, long_air, short))
          ∙ ap (heard_in heard) second_slot_is in
          taken_there x e ∙ ap₂ (λ a b. pairing (counts_as a) (counts_as b)) dx rx

      inside : place + 3 < length sent_of
      inside = omega (
        arith,
        long_sent zeroth spellings,
        long_air,
        behind_within numbers i number there,
      )

      pub taken_sent : (x : Reception) → slice_get copy.positions i ≡ Some x
          → IsTakenOf sent_of heard place x
      taken_sent x e =
          subst (IsTakenOf sent_of heard place) (sym (taken_pair x e))
          (taken_of sent_of heard has_inner visible place (omega arith) inside)

      pub taken_heard : (x : Reception) → slice_get copy.positions i ≡ Some x
          → IsAsSent sent_of heard (2 * place) ⊎ IsAsSent sent_of heard (2 * place + 5)
          → x ≡ combination number
      taken_heard x e one =
          let index_is : 72 + (length front + (11 + i)) ≡ 72 + (length front + 11 + i) = omega arith
          in
          taken_pair x e
          ∙ one_taken sent_of heard has_inner visible place (omega arith) inside one
          ∙ ap (λ j. reception (position_at sent_of j)) (sym index_is)
          ∙ ap reception (sent_at (11 + i) number (behind_at numbers i number there))

-- The copy is of a lock of these bits.
pub record IsOfSome (locks : List Lock) (copy : PlacedCopy) : Type 0 where
  pub bits : List Bool
  pub t : ℕ
  pub words : ℕ
  pub is : IsOfLock bits locks t words copy

-- it is of the lock that goes through the emission
of_emission : (before after : List Bool) (messages : List MessageView) (zeroth : List ℕ)
    (spellings : List (List ℕ)) (heard : List ℕ)
    → IsSeen (record { messages = messages; spellings = zeroth ∷ spellings; heard = heard })
    → (l : LockedThrough before heard)
    → (index : ℕ) (numbers : List ℕ) → slice_get (zeroth ∷ spellings) index ≡ Some numbers
    → (locks : List Lock) (now : Now) → IsNow ((before ++ bits_of heard) ++ after) locks now
    → (copy : PlacedCopy)
    → Contains (placed_to_end ((before ++ bits_of heard) ++ after) locks now) copy
    → copy.found.place ≡ length before + 7 * (digit_slot (zeroth ∷ spellings) index - 96) + 6
    → 11 ≤ length numbers
    → IsOfLock ((before ++ bits_of heard) ++ after) locks l.t
    (whole_words (before ++ bits_of heard) l.t) copy
of_emission before after messages zeroth spellings heard seen l index numbers spelled locks now
    stands copy there at enough =
    let all = (before ++ bits_of heard) ++ after in
    let m = whole_words (before ++ bits_of heard) l.t in
    let inside = placed_within before after messages zeroth spellings heard seen.told
    seen.visible l index numbers spelled copy at enough in
    All-contains (Belongs all locks l.t m) (placed_to_end all locks now) copy
    (copies_belong (before ++ bits_of heard) after l.locks locks l.p l.t now l.stands stands)
    there inside.0 inside.1

-- the same, in which way the emission is told
copy_taken : (before after : List Bool) (messages : List MessageView) (spellings : List (List ℕ))
    (heard : List ℕ)
    → IsSeen (record { messages = messages; spellings = spellings; heard = heard })
    → LockedThrough before heard
    → (index : ℕ) (message : MessageView) (numbers : List ℕ)
    → slice_get messages index ≡ Some message → slice_get spellings index ≡ Some numbers
    → (locks : List Lock) (now : Now) → IsNow ((before ++ bits_of heard) ++ after) locks now
    → (copy : PlacedCopy)
    → Contains (placed_to_end ((before ++ bits_of heard) ++ after) locks now) copy
    → copy.found.place ≡ length before + 7 * (digit_slot spellings index - 96) + 6
    → AreTakenOf (record { messages = messages; spellings = spellings; heard = heard }) index
    numbers copy.positions × Reaches numbers locks copy
copy_taken before after messages [] heard seen l index message numbers named spelled locks now
    stands
    copy there at = absurd (seen-some [] heard seen.visible refl)
copy_taken before after messages (zeroth ∷ spellings) heard seen l index message numbers named
    spelled locks now stands copy there at =
    let head_sent = header_long message numbers
    (told_one messages (zeroth ∷ spellings) index message numbers seen.told named spelled) in
    let of = of_emission before after messages zeroth spellings heard seen l index numbers spelled
    locks now stands copy there at head_sent in
    let before_is = positions-before (take index (zeroth ∷ spellings)) in
    let front = length (on_air_before 36 (take index (zeroth ∷ spellings))) in
    let at_is : (i : ℕ) → 72 + (front + (11 + i)) ≡ place_behind (zeroth ∷ spellings) index i =
    λ i. omega (arith, before_is) in
    let taken_is : (i : ℕ) → 72 + (front + 11 + i) ≡ place_behind (zeroth ∷ spellings) index i =
    λ i. omega (arith, before_is) in (
      record {
        sent = λ i number some.
            ap (position_at (layout (zeroth ∷ spellings))) (sym (at_is i))
            ∙ sent_at before after messages zeroth spellings heard seen.told seen.visible l index
            numbers spelled (11 + i) number (behind_at numbers i number some);
        taken = λ i number x some is.
            subst (λ (j : ℕ). IsTakenOf (layout (zeroth ∷ spellings)) heard j x) (taken_is i)
            (taken_sent before after messages zeroth spellings heard seen.told seen.visible l index
            numbers spelled locks copy of at head_sent i number some x is);
        heard = λ i number x some is one.
            taken_heard before after messages zeroth spellings heard seen.told seen.visible l index
            numbers spelled locks copy of at head_sent i number some x is
            (subst (λ (j : ℕ). IsAsSent (layout (zeroth ∷ spellings)) heard (2 * j)
            ⊎ IsAsSent (layout (zeroth ∷ spellings)) heard (2 * j + 5)) (sym (taken_is i)) one);
      },
      reaches before after messages zeroth spellings heard seen.told seen.visible l index numbers
          spelled locks copy of at head_sent,
    )

-- the bits up to an emission, of it, and behind it
pub cut_around : (bits : List Bool) (parts before : List Part) (emission : ReceivedEmission)
    (after : List Part) → bits ≡ flat_map part_bits parts
    → parts ≡ before ++ received emission ∷ after
    → bits ≡ (flat_map part_bits before ++ bits_of emission.heard) ++ flat_map part_bits after
cut_around bits parts before emission after whole among =
    whole ∙ ap (flat_map part_bits) among
    ∙ flat_map-append part_bits before (received emission ∷ after)
    ∙ sym (append_assoc (flat_map part_bits before) (bits_of emission.heard)
    (flat_map part_bits after))

of_some : (before after : List Bool) (messages : List MessageView) (spellings : List (List ℕ))
    (heard : List ℕ)
    → IsSeen (record { messages = messages; spellings = spellings; heard = heard })
    → LockedThrough before heard
    → (index : ℕ) (message : MessageView) (numbers : List ℕ)
    → slice_get messages index ≡ Some message → slice_get spellings index ≡ Some numbers
    → (locks : List Lock) (now : Now) → IsNow ((before ++ bits_of heard) ++ after) locks now
    → (copy : PlacedCopy)
    → Contains (placed_to_end ((before ++ bits_of heard) ++ after) locks now) copy
    → copy.found.place ≡ length before + 7 * (digit_slot spellings index - 96) + 6 → IsOfSome locks
    copy
of_some before after messages [] heard seen l index message numbers told spelled locks now stands
    copy there at = absurd (seen-some [] heard seen.visible refl)
of_some before after messages (zeroth ∷ spellings) heard seen l index message numbers named spelled
    locks now stands copy there at =
    let one = told_one messages (zeroth ∷ spellings) index message numbers seen.told named spelled
    in
    let all = (before ++ bits_of heard) ++ after in
    record {
      bits = all;
      t = l.t;
      words = whole_words (before ++ bits_of heard) l.t;
      is = of_emission before after messages zeroth spellings heard seen l index numbers spelled
          locks now stands copy there at (header_long message numbers one);
    }

-- a copy of a sending is one of a lock
pub of_lock : (bits : List Bool) (parts : List Part) (message : MessageView) (numbers : List ℕ)
    (copy : PlacedCopy) (is : IsCopyOf bits parts message numbers copy) → IsOfSome is.locks copy
of_lock bits parts message numbers copy is =
    let s = is.sending.sent in
    let e = s.emission in
    let seen = is.cut.each s.before e s.after s.among in
    let before = flat_map part_bits s.before in
    let whole = cut_around bits parts s.before e s.after is.cut.whole s.among in
    of_some before (flat_map part_bits s.after) e.messages e.spellings e.heard seen
    (seen-locked before e seen) s.index message numbers s.message is.sending.spelled is.locks
    is.now (subst (λ (b : List Bool). IsNow b is.locks is.now) whole is.stands) copy
    (subst (λ (b : List Bool). Contains (placed_to_end b is.locks is.now) copy) whole is.found)
    s.place

taken_and_reaches : (bits : List Bool) (parts : List Part) (message : MessageView)
    (numbers : List ℕ) (copy : PlacedCopy) (is : IsCopyOf bits parts message numbers copy)
    → AreTakenOf is.sending.sent.emission is.sending.sent.index numbers copy.positions
    × Reaches numbers is.locks copy
taken_and_reaches bits parts message numbers copy is =
    let s = is.sending.sent in
    let e = s.emission in
    let seen = is.cut.each s.before e s.after s.among in
    let before = flat_map part_bits s.before in
    let whole = cut_around bits parts s.before e s.after is.cut.whole s.among in
    copy_taken before (flat_map part_bits s.after) e.messages e.spellings e.heard seen
    (seen-locked before e seen) s.index message numbers s.message is.sending.spelled is.locks
    is.now (subst (λ (b : List Bool). IsNow b is.locks is.now) whole is.stands) copy
    (subst (λ (b : List Bool). Contains (placed_to_end b is.locks is.now) copy) whole is.found)
    s.place

pub are_taken : (bits : List Bool) (parts : List Part) (message : MessageView) (numbers : List ℕ)
    (copy : PlacedCopy) (is : IsCopyOf bits parts message numbers copy)
    → AreTakenOf is.sending.sent.emission is.sending.sent.index numbers copy.positions
are_taken bits parts message numbers copy is =
    (taken_and_reaches bits parts message numbers copy is).0

pub copy_reaches : (bits : List Bool) (parts : List Part) (message : MessageView)
    (numbers : List ℕ) (copy : PlacedCopy) (is : IsCopyOf bits parts message numbers copy)
    → Reaches numbers is.locks copy
copy_reaches bits parts message numbers copy is =
    (taken_and_reaches bits parts message numbers copy is).1

-- so what a copy took was sent, and nothing is idle there
as_sent_by : {sent : List SentPosition} {heard : List ℕ} {j number taken : ℕ}
    → position_at sent j ≡ traffic_position number
    → IsTakenOf sent heard j (combination taken) → taken ≡ number
as_sent_by at of = elim (taken_or_lost of) [
  | inl e ↦ let same = e ∙ ap reception at in cc
  | inr e ↦ absurd (let contra = e in cc)
]

never_idle_by : {sent : List SentPosition} {heard : List ℕ} {j number : ℕ}
    → position_at sent j ≡ traffic_position number → IsTakenOf sent heard j idle → ⊥
never_idle_by at of = elim (taken_or_lost of) [
  | inl e ↦ let same = e ∙ ap reception at in cc
  | inr e ↦ cc
]

pub are_heard : (bits : List Bool) (parts : List Part) (message : MessageView) (numbers : List ℕ)
    (copy : PlacedCopy) → IsCopyOf bits parts message numbers copy
    → IsHeardOf (behind_digit numbers) copy.positions
are_heard bits parts message numbers copy is index number taken there x =
    let are = are_taken bits parts message numbers copy is in
    as_sent_by (are.sent index number there) (are.taken index number (combination taken) there x)

pub are_not_idle : (bits : List Bool) (parts : List Part) (message : MessageView)
    (numbers : List ℕ) (copy : PlacedCopy) → IsCopyOf bits parts message numbers copy
    → IsNeverIdle (behind_digit numbers) copy.positions
are_not_idle bits parts message numbers copy is index number there x =
    let are = are_taken bits parts message numbers copy is in
    never_idle_by (are.sent index number there) (are.taken index number idle there x)
