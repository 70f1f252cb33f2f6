-- The worked emission, of which each DX word of the message is damaged, meets what is asked of a
-- message that is printed once.
use Rattle.std.proofs.Common.{◌≡◌, ℕ, zero, suc, ◌+◌, ◌<◌, Bool, List, [], ◌∷◌, ◌++◌, length, take}
use Rattle.std.proofs.Common.{drop, get_or, refl, sym, ap, ◌∙◌, subst, arith, append-nil, lit<}
use Rattle.std.specs.Prelude.{codes}
use Rattle.std.specs.List.{Contains}
use Rattle.std.proofs.lemmas.List.{length-append, length-map, take-append-drop}
use Rattle.std.proofs.lemmas.List.Concat.{flat_map-append}
use Rattle.nx_code.specs.Word.{elements}
use Rattle.nx_envelope.specs.private.Reading.{read_header, identity_read}
use Rattle.nx_envelope.specs.Copies.{beginnings, header_at_end, headers, copies}
use Rattle.nx_fec.specs.emissions.Emission.{bits_of}
use Rattle.nx_station.specs.reception.Path.{phasing_words}
use Rattle.nx_station.specs.reception.PathExample.{example_message, example_parts, example_sending}
use Rattle.nx_station.specs.reception.PathExample.{heard_half}
use Rattle.nx_station.specs.reception.Sendings.{IsCut, IsSentAt}
use Rattle.nx_station.proofs.lemmas.reception.PathExamples.{example_cut, example_sent}
use Rattle.nx_sync.specs.Locks.{locked, IsNow}
use Rattle.nx_sync.specs.Words.{whole_words}
use Rattle.nx_memory.specs.Selection.{admits}
use Rattle.nx_copies.specs.Events.{Event, Setting, first_setting, elements_among}
use Rattle.nx_copies.specs.copies.FoundCopies.{FoundCopy, found_copy, past_copies, found_to_end}
use Rattle.nx_copies.specs.copies.FoundCopies.{TaggedCopy, tagged_copies}
use Rattle.nx_copies.specs.copies.LockText.{lock_text, bytes_of}
use Rattle.nx_copies.specs.laws.Once.{IsHeardInTime}
use Rattle.nx_copies.specs.laws.Emissions.{copy_of_sending}
use Rattle.nx_promises.specs.examples.Emission.{at_its_slot, damaged_words, heard_elements}
use Rattle.nx_copies.proofs.lemmas.once.Repeats.{none_live}
use Rattle.nx_copies.proofs.lemmas.emissions.Found.{sending_in_end}
use Rattle.nx_promises.proofs.lemmas.examples.Worked.{damaged_computed, stands, text_is}
use Rattle.nx_promises.proofs.lemmas.examples.WorkedLog.{all_selected, at_first, bits_among-elements}

-- the words from slot 96 on are those that are heard in the worked emission of the channel
same_words : drop 96 damaged_words ≡ heard_half
unfolding damaged_words phasing_words
same_words = refl

abbrev pub first_bits : List Bool
first_bits = bits_of (take 96 damaged_words)

bits_are : bits_of damaged_words ≡ first_bits ++ (bits_of heard_half ++ [])
unfolding bits_of
bits_are =
    ap bits_of (sym (take-append-drop 96 damaged_words))
    ∙ flat_map-append elements (take 96 damaged_words) (drop 96 damaged_words)
    ∙ ap (λ w. first_bits ++ bits_of w) same_words
    ∙ ap (λ b. first_bits ++ b) (sym (append-nil (bits_of heard_half)))

abbrev pub events : List Event
events = heard_elements damaged_words

pub events_are : elements_among events ≡ bits_of damaged_words
events_are = bits_among-elements (bits_of damaged_words)

pub cut_is : IsCut (elements_among events) (example_parts first_bits [])
cut_is =
    subst (λ (b : List Bool). IsCut b (example_parts first_bits [])) (sym (events_are ∙ bits_are))
    (example_cut first_bits [])

pub stands_is : IsNow (elements_among events) [] (locked 0 28)
stands_is =
    subst (λ (b : List Bool). IsNow b [] (locked 0 28)) (sym events_are)
    (stands damaged_words damaged_computed)

abbrev pub found : List FoundCopy
found = found_to_end (elements_among events) [] (locked 0 28)

one_header : length (copies (codes "ZCZC EA01\nTEST\nNNNN\n\n")) ≡ 1
unfolding copies headers beginnings header_at_end identity_read read_header
one_header = refl

pub one_found : length found ≡ 1
unfolding found_to_end past_copies
one_found =
    let bits = bits_of damaged_words in
    let text = lock_text bits 28 (whole_words bits 28) in
    ap (λ (b : List Bool). length (found_to_end b [] (locked 0 28))) events_are
    ∙ length-map (copies (bytes_of text)) (found_copy text)
    ∙ ap (λ t. length (copies t)) (text_is damaged_words damaged_computed) ∙ one_header

-- a list of one holds one
pub one_in : {A : Type 0} (xs : List A) (x y : A) → length xs ≡ 1 → Contains xs x → Contains xs y
    → x ≡ y
one_in [] x y e c d = absurd (omega (arith, e))
one_in (z ∷ (w ∷ xs)) x y e c d = absurd (omega (arith, e))
one_in (z ∷ []) x y e c d = sym (at_zero z x c.0 c.1 c.2) ∙ at_zero z y d.0 d.1 d.2
  where
    at_zero : {A : Type 0} (z x : A) (k : ℕ) → k < length (z ∷ []) → get_or (z ∷ []) k x ≡ x → z ≡ x
    at_zero z x zero lt e = e
    at_zero z x (suc k) lt e = absurd (omega arith)

-- a list of one that holds an item is that item alone
pub alone : {A : Type 0} (xs : List A) (x : A) → length xs ≡ 1 → Contains xs x → xs ≡ x ∷ []
alone [] x one c = absurd (omega (arith, one))
alone (y ∷ (z ∷ ys)) x one c = absurd (omega (arith, one))
alone (y ∷ []) x one c = ap (λ w. w ∷ []) (one_in (y ∷ []) y x refl (0, omega arith, refl) c)

pub sent_there : Contains found (copy_of_sending (example_sending first_bits))
sent_there =
    sending_in_end (elements_among events) (example_parts first_bits [])
    (example_sending first_bits) [] (locked 0 28) cut_is (example_sent first_bits []) stands_is

pub not_two : (copies before between after : List TaggedCopy) (first later : TaggedCopy)
    → length copies ≡ 1
    → copies ≡ before ++ first ∷ (between ++ later ∷ after) → ⊥
not_two copies before between after first later one e =
    let long = ap length e ∙ length-append before (first ∷ (between ++ later ∷ after)) in
    let more = length-append between (later ∷ after) in
    omega arith

one_tagged : length (tagged_copies (first_setting at_its_slot) events found) ≡ 1
unfolding tagged_copies
one_tagged = length-map found _ ∙ one_found

pub heard_in_time : IsHeardInTime at_its_slot events (example_parts first_bits []) example_message
heard_in_time = record {
  cut = cut_is;
  numbered = lit< tt;
  place = length first_bits + 517;
  sent = example_sent first_bits [];
  copies = found;
  found = record { locks = []; now = locked 0 28; stands = stands_is; whole = refl };
  alone = λ copy there named.
      subst (IsSentAt (example_parts first_bits []) example_message)
      (ap (λ (c : FoundCopy). c.place)
      (one_in found (copy_of_sending (example_sending first_bits)) copy one_found sent_there
      there)) (example_sent first_bits []);
  selected =
      λ at sent. ap (λ (s : Setting). admits s.refused example_message.identity)
      (at_first (first_setting at_its_slot) (bits_of damaged_words) at)
      ∙ all_selected;
  close = λ one other a b.
      let m = ap (λ (s : Setting). s.moment)
      (at_first (first_setting at_its_slot) (bits_of damaged_words) one) in
      let n = ap (λ (s : Setting). s.moment)
      (at_first (first_setting at_its_slot) (bits_of damaged_words) other) in
      omega arith;
  unknown = none_live example_message.identity
      (tagged_copies (first_setting at_its_slot) events found);
  few =
      λ before between after first later e none named again. absurd
      (not_two (tagged_copies (first_setting at_its_slot) events found) before between after
      first later one_tagged e);
}
