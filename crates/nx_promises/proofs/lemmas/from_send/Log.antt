-- What is printed of an emission that is heard as it is sent: what the rules of printing make of
-- its messages, in order.
use Rattle.std.proofs.Common.{◌≡◌, ℕ, zero, suc, ◌+◌, ◌*◌, ◌<◌, ◌≤◌, ◌⊎◌, Bool, true, List, [], ◌∷◌}
use Rattle.std.proofs.Common.{◌++◌, map, length, get_or, unwrap_or, refl, sym, ap, ap₂, ◌∙◌, subst}
use Rattle.std.proofs.Common.{arith, inl, inr, append_assoc}
use Rattle.std.specs.List.{All, AllByRecursion, Contains, flat_map}
use Rattle.std.proofs.lemmas.List.{length-append}
use Rattle.std.proofs.lemmas.List.Elements.{All-head, All-tail, All-weaker}
use Rattle.nx_envelope.specs.Copies.{Copy, closed_copy, copies, headers}
use Rattle.nx_envelope.specs.Header.{Header, end_marker}
use Rattle.nx_envelope.specs.Message.{AreLines, text_of, MessageView}
use Rattle.nx_envelope.specs.declared.found.How.TheVariants.{Full}
use Rattle.nx_envelope.specs.declared.identity.Identity.{Identity}
use Rattle.nx_fec.specs.emissions.Emission.{bits_of}
use Rattle.nx_memory.specs.Selection.{admits}
use Rattle.nx_station.specs.Broadcast.{AreSpelled, header, printed_text}
use Rattle.nx_station.specs.Sendable.{IsSendable}
use Rattle.nx_sync.specs.Locks.{IsNow, locked}
use Rattle.nx_sync.specs.Words.{first_role, whole_words, word_of_lock}
use Rattle.nx_copies.specs.Events.{Event, Setting, at_zero, first_setting, settings}
use Rattle.nx_copies.specs.Events.{elements_among, elements, setting_at}
use Rattle.nx_copies.specs.copies.FoundCopies.{FoundCopy, all_in, found_copy, found_to_end, past_copies}
use Rattle.nx_copies.specs.copies.FoundCopies.{TaggedCopy, tag, tagged_copies}
use Rattle.nx_copies.specs.copies.LockText.{PlacedByte}
use Rattle.nx_copies.specs.copies.Log.{PrintsToEnd, printed_of}
use Rattle.nx_copies.specs.copies.Printing.{printed_copies}
use Rattle.nx_copies.specs.laws.Emissions.{IsHeaderOf}
use Rattle.nx_promises.specs.laws.FromSend.{copy_as_sent, events_as_sent, words_sent}
use Rattle.nx_copies.proofs.lemmas.locks.Found.{all_in_placed, one_told, text_placed}
use Rattle.nx_copies.proofs.lemmas.once.Rising.{Above, Rises}
use Rattle.nx_copies.proofs.lemmas.emissions.Copies.{copy_at, ended_here, headers_rise, sent_copy}
use Rattle.nx_copies.proofs.lemmas.emissions.Copies.{sent_header}
use Rattle.nx_promises.proofs.lemmas.emissions.Headers.{headers_of_messages, messages_have_headers}
use Rattle.nx_copies.proofs.lemmas.once.Rising.{above_later}
use Rattle.nx_promises.proofs.lemmas.from_send.Heard.{all_selected, bits_are, events, found, none_spelled}
use Rattle.nx_promises.proofs.lemmas.from_send.Heard.{reads, stands, text}

-- ---- lists with rising keys that hold the same items are the same

item_first : {A : Type 0} (x : A) (xs : List A) → Contains (x ∷ xs) x
item_first x xs = (0, omega arith, refl)

item_later : {A : Type 0} (x : A) (xs : List A) (z : A) → Contains xs z → Contains (x ∷ xs) z
item_later x xs z c = (suc c.0, omega (arith, c.1), c.2)

first_or_later : {A : Type 0} (x : A) (xs : List A) (z : A) → Contains (x ∷ xs) z
    → (x ≡ z) ⊎ Contains xs z
first_or_later x xs z c = by_index c.0 c.1 c.2
  where
    by_index : (k : ℕ) → k < length (x ∷ xs) → get_or (x ∷ xs) k z ≡ z → (x ≡ z) ⊎ Contains xs z
    by_index zero lt e = inl e
    by_index (suc k) lt e = inr (k, omega (arith, lt), e)

above_item : {A : Type 0} (key : A → ℕ) (n : ℕ) (xs : List A) (z : A) → Above key n xs
    → Contains xs z → n < key z
above_item key n xs z h c = subst (λ x. n < key x) c.2 (above_later key n xs c.0 z h c.1)

rising_same : {A : Type 0} (key : A → ℕ) (xs ys : List A) → Rises key xs → Rises key ys
    → ((z : A) → Contains xs z → Contains ys z) → ((z : A) → Contains ys z → Contains xs z)
    → xs ≡ ys
rising_same key [] [] rx ry forth back = refl
rising_same key [] (y ∷ ys) rx ry forth back =
    absurd (let none = back y (item_first y ys) in omega (arith, none.1))
rising_same key (x ∷ xs) [] rx ry forth back =
    absurd (let none = forth x (item_first x xs) in omega (arith, none.1))
rising_same key (x ∷ xs) (y ∷ ys) rx ry forth back =
    let first : x ≡ y = elim (first_or_later y ys x (forth x (item_first x xs))) [
      | inl e ↦ sym e
      | inr later ↦ elim (first_or_later x xs y (back y (item_first y ys))) [
        | inl e ↦ e
        | inr other ↦ absurd (omega
            (arith, above_item key (key y) ys x ry.0 later, above_item key (key x) xs y rx.0 other))
      ]
    ] in
    ap₂ (λ a l. a ∷ l) first
    (rising_same key xs ys rx.1 ry.1
    (λ z c. elim (first_or_later y ys z (forth z (item_later x xs z c))) [
      | inl e ↦ absurd (omega (arith, above_item key (key x) xs z rx.0 c, ap key (first ∙ e)))
      | inr later ↦ later
    ])
    (λ z c. elim (first_or_later x xs z (back z (item_later y ys z c))) [
      | inl e ↦ absurd (omega (arith, above_item key (key y) ys z ry.0 c, ap key (sym first ∙ e)))
      | inr later ↦ later
    ]))

-- ---- the headers in what is printed of messages

abbrev behind : Header → ℕ
behind h = h.behind

-- the headers of messages whose printed text begins at this index
abbrev headers_from : ℕ → List MessageView → List Header
headers_from at [] = []
headers_from at (m ∷ messages) =
    sent_header at m.identity ∷ headers_from (at + length (printed_text m)) messages

long_printed : (m : MessageView) → 9 < length (printed_text m)
long_printed m = let long =
    length-append (header m.identity) (10 ∷ (text_of m.lines ++ (end_marker ++ 10 ∷ (10 ∷ [])))) in
    omega arith

above_from : (n at : ℕ) (messages : List MessageView) → n < at + 9
    → Above behind n (headers_from at messages)
above_from n at [] h = tt
above_from n at (m ∷ messages) h =
    (h, above_from n (at + length (printed_text m)) messages (omega arith))

rises_on : (at : ℕ) (messages : List MessageView) → Rises behind (headers_from at messages)
rises_on at [] = tt
rises_on at (m ∷ messages) = (
  above_from (at + 9) (at + length (printed_text m)) messages (omega (arith, long_printed m)),
  rises_on (at + length (printed_text m)) messages,
)

-- each of them is the header of a message
of_message : (messages : List MessageView) (at : ℕ) (front : List MessageView) (h : Header)
    → at ≡ length (flat_map printed_text front)
    → Contains (headers_from at messages) h → IsHeaderOf (front ++ messages) h
of_message [] at front h e c = absurd (omega (arith, c.1))
of_message (m ∷ messages) at front h e c =
    elim (first_or_later (sent_header at m.identity)
    (headers_from (at + length (printed_text m)) messages) h c) [
      | inl same ↦ record {
        before = front;
        message = m;
        after = messages;
        whole = refl;
        named = sym (ap (λ (h : Header). h.identity) same);
        behind = sym (ap (λ (h : Header). h.behind) same) ∙ ap (λ n. n + 9) e;
      }
      | inr later ↦
          subst (λ (l : List MessageView). IsHeaderOf l h) (append_assoc front (m ∷ []) messages)
          (of_message messages (at + length (printed_text m)) (front ++ m ∷ []) h
          (omega (arith, e, length_on front m)) later)
    ]
  where
    length_on : (front : List MessageView) (m : MessageView)
        → length (flat_map printed_text (front ++ m ∷ []))
        ≡ length (flat_map printed_text front) + length (printed_text m)
    length_on [] m = length-append (printed_text m) [] ∙ omega arith
    length_on (x ∷ front) m =
        length-append (printed_text x) (flat_map printed_text (front ++ m ∷ []))
        ∙ omega (
          arith,
          length_on front m,
          length-append (printed_text x)
              (flat_map printed_text front),
        )

-- and each message has its header among them
has_header : (before : List MessageView) (m : MessageView) (after : List MessageView) (at : ℕ)
    (h : Header) → h.identity ≡ m.identity
    → h.behind ≡ at + length (flat_map printed_text before) + 9
    → Contains (headers_from at (before ++ m ∷ after)) h
has_header [] m after at h named e =
    let place : at + 9 ≡ h.behind = omega (arith, e) in (
      0,
      omega arith,
      ap₂ (λ (identity : Identity) (n : ℕ). record
          { identity = identity; behind = n }) (sym named) place,
    )
has_header (x ∷ before) m after at h named e =
    let long = length-append (printed_text x) (flat_map printed_text before) in
    item_later _ (headers_from (at + length (printed_text x)) (before ++ m ∷ after)) h
    (has_header before m after (at + length (printed_text x)) h named (omega arith))

module _ (messages : List MessageView)
    (good : AllByRecursion (λ (message : MessageView). AreLines message.lines) messages) where
  abbrev printed : List ℕ
  printed = flat_map printed_text messages

  headers_are : headers printed ≡ headers_from 0 messages
  headers_are =
      rising_same behind (headers printed) (headers_from 0 messages) (headers_rise printed)
      (rises_on 0 messages)
      (λ h c. let is = headers_of_messages messages h good c in
      subst (λ (l : List MessageView). Contains (headers_from 0 l) h) (sym is.whole)
      (has_header is.before is.message is.after 0 h is.named (omega (arith, is.behind))))
      (λ h c. messages_have_headers messages h good (of_message messages 0 [] h refl c))

-- ---- their copies

abbrev copies_from : ℕ → List MessageView → List Copy
copies_from at [] = []
copies_from at (m ∷ messages) = sent_copy at m ∷ copies_from (at + length (printed_text m)) messages

copied : (front : List ℕ) (messages : List MessageView)
    → AllByRecursion (λ (message : MessageView). AreLines message.lines) messages
    → map (copy_at (front ++ flat_map printed_text messages)) (headers_from (length front) messages)
    ≡ copies_from (length front) messages
copied front [] good = refl
copied front (m ∷ messages) good =
    let rest = flat_map printed_text messages in
    let all = front ++ (printed_text m ++ rest) in
    let first : copy_at all (sent_header (length front) m.identity) ≡ sent_copy (length front) m =
    ap (λ o. unwrap_or o (closed_copy all (sent_header (length front) m.identity)))
    (ended_here front rest m good.0) in
    let longer = length-append front (printed_text m) in
    let later = copied (front ++ printed_text m) messages good.1 in
    let text : (front ++ printed_text m) ++ rest ≡ all = append_assoc front (printed_text m) rest in
    ap₂ (λ a l. a ∷ l) first
    (ap (λ (n : ℕ). map (copy_at all) (headers_from n messages)) (sym longer)
    ∙ ap (λ (t : List ℕ). map (copy_at t)
    (headers_from (length (front ++ printed_text m)) messages)) (sym text)
    ∙ later ∙ ap (λ (n : ℕ). copies_from n messages) longer)

copies_are : (messages : List MessageView)
    → AllByRecursion (λ (message : MessageView). AreLines message.lines) messages
    → copies (flat_map printed_text messages) ≡ copies_from 0 messages
unfolding copies
copies_are messages good =
    ap (map (copy_at (flat_map printed_text messages))) (headers_are messages good)
    ∙ copied [] messages good

-- ---- with what is in force at each

-- elements that are heard
in_force : (now default : Setting) (bits : List Bool) (place : ℕ) → place < length bits
    → get_or (settings now (elements bits)) place default ≡ now
unfolding settings
in_force now default [] place lt = absurd (omega (arith, lt))
in_force now default (b ∷ bits) zero lt = refl
in_force now default (b ∷ bits) (suc place) lt = in_force now default bits place (omega arith)

module _ (text : List PlacedByte) (setting : ℕ → Setting) (now : Setting) (slot end : ℕ)
    (same : (place : ℕ) → place < end → setting place ≡ now) (moment : now.moment ≡ slot)
    (selected : (identity : Identity) → admits now.refused identity ≡ true) where
  one_tagged : (at : ℕ) (m : MessageView)
      → tag now (found_copy text (sent_copy at m)) ≡ copy_as_sent slot m
  unfolding tag found_copy
  one_tagged at m =
      ap₂ (λ (n : ℕ) (b : Bool). record
      { identity = m.identity; how = Full; text = text_of m.lines; moment = n; selected = b })
      moment (selected m.identity)

  tagged_are : (at : ℕ) (messages : List MessageView)
      → All (λ (c : FoundCopy). c.place < end) (map (found_copy text) (copies_from at messages))
      → map (λ (c : FoundCopy). tag (setting c.place) c)
      (map (found_copy text) (copies_from at messages)) ≡ map (copy_as_sent slot) messages
  tagged_are at [] h = refl
  tagged_are at (m ∷ messages) h =
      let c = found_copy text (sent_copy at m) in
      let rest = map (found_copy text) (copies_from (at + length (printed_text m)) messages) in
      let within : c.place < end = All-head (λ (c : FoundCopy). c.place < end) c rest h in
      ap₂ (λ a l. a ∷ l) (ap (λ (s : Setting). tag s c) (same c.place within) ∙ one_tagged at m)
      (tagged_are (at + length (printed_text m)) messages
      (All-tail (λ (c : FoundCopy). c.place < end) c rest h))

-- ---- the log

module _ (messages : List MessageView) (numbers : List ℕ) (others : List (List ℕ))
    (sendable : IsSendable messages) (spelled : AreSpelled messages (numbers ∷ others)) (slot : ℕ)
  where
    abbrev events_of : List Event
    events_of = events messages numbers others sendable spelled slot

    abbrev all_bits : List Bool
    all_bits = elements_among events_of

    abbrev text_of_lock : List PlacedByte
    text_of_lock = text messages numbers others sendable spelled slot

    abbrev all_found : List FoundCopy
    all_found = found messages numbers others sendable spelled slot

    abbrev now_is : IsNow all_bits [] (locked 0 28)
    now_is = stands messages numbers others sendable spelled slot

    found_are : all_found ≡ map (found_copy text_of_lock) (copies_from 0 messages)
    unfolding found_to_end past_copies
    found_are =
        ap (λ (bytes : List ℕ). map (found_copy text_of_lock) (copies bytes))
        (reads messages numbers others sendable spelled slot)
        ∙ ap (map (found_copy text_of_lock)) (copies_are messages sendable.sound)

    within : All (λ (c : FoundCopy). c.place < length all_bits) all_found
    unfolding found_to_end past_copies
    within =
        let n : ℕ = whole_words all_bits 28 in
        let heard = now_is.found.here.heard in
        All-weaker (λ (c : FoundCopy). (28 ≤ c.place) × (c.place < 28 + 7 * n))
        (λ (c : FoundCopy). c.place < length all_bits) (λ c h. omega (arith, h.1))
        (all_in text_of_lock)
        (all_in_placed 28 (28 + 7 * n) text_of_lock
        (text_placed (first_role all_bits 28) (word_of_lock all_bits 28) 28 n))

    abbrev at_slot : Setting
    at_slot = record (first_setting at_zero) { moment = slot }

    setting_is : (place : ℕ) → place < length all_bits
        → setting_at (first_setting at_zero) events_of place ≡ at_slot
    unfolding settings
    setting_is place lt =
        in_force at_slot (first_setting at_zero) (bits_of (words_sent (numbers ∷ others))) place
        (omega (arith, ap length (bits_are messages numbers others sendable spelled slot)))

    all_tagged : tagged_copies (first_setting at_zero) events_of all_found
        ≡ map (copy_as_sent slot) messages
    unfolding tagged_copies
    all_tagged =
        ap (map (λ (c : FoundCopy). tag (setting_at (first_setting at_zero) events_of c.place) c))
        found_are
        ∙ tagged_are text_of_lock (setting_at (first_setting at_zero) events_of) at_slot slot
        (length all_bits) setting_is refl all_selected 0 messages
        (subst (All (λ (c : FoundCopy). c.place < length all_bits)) found_are within)

    pub printed_as_sent : (log : List TaggedCopy) → PrintsToEnd at_zero events_of log
        → log ≡ printed_copies [] (map (copy_as_sent slot) messages)
    printed_as_sent log prints =
        prints.printed
        ∙ ap (printed_of at_zero events_of)
        (one_told (found_to_end all_bits) all_bits prints.locks [] prints.now (locked 0 28)
        prints.stands now_is)
        ∙ ap (printed_copies []) all_tagged

-- whatever the combinations are
pub log_as_sent : (messages : List MessageView) (spellings : List (List ℕ)) (slot : ℕ)
    (log : List TaggedCopy) → IsSendable messages
    → AreSpelled messages spellings → PrintsToEnd at_zero (events_as_sent slot spellings) log
    → log ≡ printed_copies [] (map (copy_as_sent slot) messages)
log_as_sent messages [] slot log sendable spelled prints =
    absurd (none_spelled messages sendable.of_one.some spelled)
log_as_sent messages (numbers ∷ others) slot log sendable spelled prints =
    printed_as_sent messages numbers others sendable spelled slot log prints
