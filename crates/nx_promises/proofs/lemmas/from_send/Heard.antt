-- A message of an emission that is heard as it is sent is heard in time.
use Rattle.std.proofs.Common.{◌≡◌, ◌≢◌, ℕ, zero, suc, ◌+◌, ◌-◌, ◌*◌, ◌<◌, Bool, false, not, ◌&&◌}
use Rattle.std.proofs.Common.{List, [], ◌∷◌, ◌++◌, length, get_or, drop, take, refl, sym, ap, ◌∙◌}
use Rattle.std.proofs.Common.{subst, arith, append-nil, IsTrue}
use Rattle.std.specs.FinSet as set
use Rattle.std.specs.List.{Contains, flat_map}
use Rattle.std.specs.Ordering.{nat_cmp}
use Rattle.nx_envelope.specs.Identity.{same_identity}
use Rattle.nx_envelope.specs.Message.{MessageView}
use Rattle.nx_envelope.specs.declared.identity.Identity.{Identity}
use Rattle.nx_envelope.proofs.lemmas.headers.Identities.{same_identity-true}
use Rattle.nx_fec.specs.emissions.Emission.{bits_of}
use Rattle.nx_memory.specs.Memory.{seconds_known}
use Rattle.nx_memory.specs.Selection.{Refused, admits}
use Rattle.nx_station.specs.Broadcast.{AreSpelled, layout, printed_text}
use Rattle.nx_station.specs.reception.Path.{first_slot}
use Rattle.nx_station.specs.Sendable.{IsSendable}
use Rattle.nx_station.specs.reception.Sendings.{IsCut, IsReceived, Part, digit_slot, part_bits, gap, IsSentAt}
use Rattle.nx_station.proofs.lemmas.reception.PathPositions.{all_tell}
use Rattle.nx_station.proofs.lemmas.reception.PathUndamaged.{undamaged-cut}
use Rattle.nx_station.proofs.lemmas.reception.Sendings.{each_received}
use Rattle.nx_sync.specs.Locks.{IsNow, locked}
use Rattle.nx_sync.specs.Words.{whole_words}
use Rattle.nx_copies.specs.Events.{Event, Setting, at_zero, first_setting, settings}
use Rattle.nx_copies.specs.Events.{elements_among, elements, setting_at}
use Rattle.nx_copies.specs.copies.FoundCopies.{FoundCopy, found_to_end, past_copies, TaggedCopy, tag}
use Rattle.nx_copies.specs.copies.FoundCopies.{tagged_copies}
use Rattle.nx_copies.specs.copies.LockText.{PlacedByte, bytes_of, lock_text}
use Rattle.nx_copies.specs.laws.Once.{FewBetween, IsHeardInTime}
use Rattle.nx_copies.specs.laws.Emissions.{copy_of_sending}
use Rattle.nx_promises.specs.laws.FromSend.{BearsAlone, events_as_sent, parts_as_sent, words_sent}
use Rattle.nx_copies.proofs.lemmas.once.Repeats.{none_live}
use Rattle.nx_copies.proofs.lemmas.emissions.Found.{sending_in_end}
use Rattle.nx_copies.proofs.lemmas.emissions.Places.{found_rise}
use Rattle.nx_promises.proofs.lemmas.from_send.Copies.{HasIndex, has_index, has_two, one_copy}
use Rattle.nx_promises.proofs.lemmas.from_send.Words.{lock_stands, passes, text_is}
use Rattle.nx_promises.proofs.lemmas.examples.WorkedLog.{bits_among-elements}

-- elements leave what is refused
elements-refused : (now default : Setting) (refused : Refused) (bits : List Bool) (place : ℕ)
    → now.refused ≡ refused
    → default.refused ≡ refused
    → (get_or (settings now (elements bits)) place default).refused ≡ refused
unfolding settings
elements-refused now default refused [] place h k = k
elements-refused now default refused (b ∷ bits) zero h k = h
elements-refused now default refused (b ∷ bits) (suc place) h k =
    elements-refused now default refused bits place h k

-- at first all is selected
pub all_selected : (identity : Identity) → IsTrue (admits (first_setting at_zero).refused identity)
all_selected identity =
    ap (λ b. not b && not (set.contains (set.empty {R = nat_cmp}) identity.b2.byte))
    (set.contains-empty nat_cmp identity.b1.byte)
    ∙ ap (λ b. not false && not b) (set.contains-empty nat_cmp identity.b2.byte)

module _ (messages : List MessageView) (numbers : List ℕ) (others : List (List ℕ))
    (sendable : IsSendable messages) (spelled : AreSpelled messages (numbers ∷ others)) (slot : ℕ)
  where
    abbrev pub spellings : List (List ℕ)
    spellings = numbers ∷ others

    abbrev pub events : List Event
    events = events_as_sent slot spellings

    abbrev parts : List Part
    parts = parts_as_sent messages spellings

    abbrev sent_bits : List Bool
    sent_bits = bits_of (words_sent spellings)

    pub bits_are : elements_among events ≡ sent_bits
    unfolding elements_among
    bits_are = bits_among-elements sent_bits

    is_received : IsReceived (record {
      messages = messages;
      spellings = spellings;
      heard =
          drop first_slot (words_sent spellings);
    })
    is_received = record {
      sound = sendable.sound;
      told = all_tell messages spellings spelled;
      passes =
          passes messages numbers others spelled;
    }

    cut : IsCut (elements_among events) parts
    cut = record {
      whole = bits_are ∙ undamaged-cut (layout spellings)
          ∙ ap (λ b. bits_of (take first_slot (words_sent spellings)) ++ b)
          (sym (append-nil (bits_of (drop first_slot (words_sent spellings)))));
      each = each_received parts (tt, (is_received, tt));
    }

    -- the lock of its first four words, and its text
    pub stands : IsNow (elements_among events) [] (locked 0 28)
    stands = subst (λ (b : List Bool). IsNow b [] (locked 0 28)) (sym bits_are)
        (lock_stands messages numbers others spelled)

    abbrev pub text : List PlacedByte
    text = lock_text (elements_among events) 28 (whole_words (elements_among events) 28)

    pub reads : bytes_of text ≡ flat_map printed_text messages
    reads =
        ap (λ (b : List Bool). bytes_of (lock_text b 28 (whole_words b 28))) bits_are
        ∙ text_is messages numbers others spelled

    abbrev pub found : List FoundCopy
    found = found_to_end (elements_among events) [] (locked 0 28)

    module _ (message : MessageView) (alone : BearsAlone messages message)
        (numbered : 0 < message.identity.number) where
      -- one copy bears the identity
      one_alone : (a b : FoundCopy) → Contains found a → Contains found b
          → a.identity ≡ message.identity
          → b.identity ≡ message.identity → a ≡ b
      unfolding found_to_end past_copies
      one_alone a b in_a in_b =
          one_copy messages message alone sendable.sound text reads a b in_a in_b

      -- it is that of the sending
      at_index : HasIndex messages message
      at_index = has_index (λ (one : MessageView). same_identity one.identity message.identity)
          messages message alone

      abbrev place : ℕ
      place =
          length (flat_map part_bits (gap (bits_of (take first_slot (words_sent spellings)))
          ∷ [])) + 7 * (digit_slot spellings at_index.index - first_slot) + 6

      is_sent : IsSentAt parts message place
      is_sent = record {
        before = gap (bits_of (take first_slot (words_sent spellings))) ∷ [];
        emission = record {
          messages = messages;
          spellings = spellings;
          heard =
              drop first_slot (words_sent spellings);
        };
        after = [];
        among = refl;
        index = at_index.index;
        message = at_index.at;
        place = refl;
      }

      abbrev copy_at : ℕ → FoundCopy
      copy_at at = copy_of_sending (record { message = message; place = at })

      is_found : (at : ℕ) → IsSentAt parts message at → Contains found (copy_at at)
      is_found at sent =
          sending_in_end (elements_among events) parts (record { message = message; place = at }) []
          (locked 0 28) cut sent stands

      copy_is_sent : (copy : FoundCopy) → Contains found copy → copy.identity ≡ message.identity
          → IsSentAt parts message copy.place
      copy_is_sent copy there named =
          let same = one_alone copy (copy_at place) there (is_found place is_sent) named refl in
          subst (IsSentAt parts message) (sym (ap (λ (c : FoundCopy). c.place) same)) is_sent

      one_place : (one other : ℕ) → IsSentAt parts message one → IsSentAt parts message other
          → one ≡ other
      one_place one other a b =
          ap (λ (c : FoundCopy). c.place)
          (one_alone (copy_at one) (copy_at other) (is_found one a) (is_found other b) refl refl)

      selected_at : (at : ℕ) → IsTrue
          (admits (setting_at (first_setting at_zero) events at).refused message.identity)
      unfolding settings
      selected_at at =
          ap (λ (refused : Refused). admits refused message.identity)
          (elements-refused (record (first_setting at_zero) { moment = slot })
          (first_setting at_zero) (first_setting at_zero).refused sent_bits at refl refl)
          ∙ all_selected message.identity

      close_at : (one other : ℕ) → IsSentAt parts message one → IsSentAt parts message other
          → (setting_at (first_setting at_zero) events one).moment < (setting_at
          (first_setting at_zero) events other).moment + seconds_known
      close_at one other a b =
          let same : (setting_at (first_setting at_zero) events one).moment
          ≡ (setting_at (first_setting at_zero) events other).moment =
          ap (λ (at : ℕ). (setting_at (first_setting at_zero) events at).moment)
          (one_place one other a b) in
          omega (arith, same)

      abbrev tagging : FoundCopy → TaggedCopy
      tagging copy = tag (setting_at (first_setting at_zero) events copy.place) copy

      identity_is : (copy : FoundCopy) (tagged : TaggedCopy) → tagging copy ≡ tagged
          → IsTrue (same_identity tagged.identity message.identity)
          → copy.identity ≡ message.identity
      unfolding tag
      identity_is copy tagged e named =
          ap (λ (c : TaggedCopy). c.identity) e
          ∙ same_identity-true tagged.identity message.identity named

      -- so no two copies bear it
      no_two : FewBetween [] message.identity
          (tagged_copies (first_setting at_zero) events found)
      unfolding tagged_copies
      no_two before between after first later e none named again =
          let two = has_two tagging (λ (c : FoundCopy). c.place) found (copy_at place) before
          between
          after first later (found_rise (elements_among events) [] (locked 0 28) stands) e in
          let same = one_alone two.one two.other two.one_in two.other_in
          (identity_is two.one first two.first_is named)
          (identity_is two.other later two.later_is again) in
          absurd (omega (arith, two.below, ap (λ (c : FoundCopy). c.place) same))

      pub heard_as_sent : IsHeardInTime at_zero events parts message
      heard_as_sent = record {
        cut = cut;
        numbered = numbered;
        place = place;
        sent = is_sent;
        copies = found;
        found = record { locks = []; now = locked 0 28; stands = stands; whole = refl };
        alone = copy_is_sent;
        selected = λ at sent. selected_at at;
        close = close_at;
        unknown = none_live message.identity (tagged_copies (first_setting at_zero) events found);
        few = no_two;
      }

-- messages of which there are some have combinations
pub none_spelled : (messages : List MessageView) → messages ≢ [] → AreSpelled messages [] → ⊥
none_spelled [] some h = some refl
none_spelled (m ∷ messages) some h = h

-- whatever the combinations are
pub heard_in_time : (messages : List MessageView) (spellings : List (List ℕ)) (slot : ℕ)
    (message : MessageView) → IsSendable messages
    → AreSpelled messages spellings → BearsAlone messages message → 0 < message.identity.number
    → IsHeardInTime at_zero (events_as_sent slot spellings) (parts_as_sent messages spellings)
    message
heard_in_time messages [] slot message sendable spelled alone numbered =
    absurd (none_spelled messages sendable.of_one.some spelled)
heard_in_time messages (numbers ∷ others) slot message sendable spelled alone numbered =
    heard_as_sent messages numbers others sendable spelled slot message alone numbered
