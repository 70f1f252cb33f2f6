-- The log of the worked emission.
use Rattle.std.proofs.Common.{◌≡◌, ℕ, zero, suc, Bool, true, false, not, ◌&&◌, List, [], ◌∷◌, map}
use Rattle.std.proofs.Common.{refl, sym, ap, ◌∙◌, subst}
use Rattle.std.specs.Prelude.{codes}
use Rattle.std.specs.Fmt.{digits}
use Rattle.std.specs.FinSet as set
use Rattle.std.specs.Ordering.{nat_cmp}
use Rattle.nx_envelope.specs.declared.found.How.TheVariants.{Full}
use Rattle.nx_envelope.specs.declared.identity.Identity.{Identity}
use Rattle.nx_envelope.specs.private.Reading.{nearest_identity, read_header, identity_read, marker_read}
use Rattle.nx_envelope.specs.Copies.{Copy, beginnings, header_at_end, headers, raw_text}
use Rattle.nx_envelope.specs.Copies.{ending_by_marker, ending_of, ended_copy, closed_copy, copies}
use Rattle.nx_envelope.proofs.lemmas.Examples.{slot_of_e}
use Rattle.nx_envelope.proofs.lemmas.headers.Identities.{same_identity-true}
use Rattle.nx_memory.specs.Selection.{admits}
use Rattle.nx_fec.specs.emissions.Emission.{bits_of}
use Rattle.nx_fec.specs.declared.air_files.channel.Channel.TheVariants.{Zero}
use Rattle.nx_station.specs.reception.PathExample.{ea01}
use Rattle.nx_sync.specs.Words.{whole_words}
use Rattle.nx_sync.specs.Locks.{locked, IsNow}
use Rattle.nx_copies.specs.Events.{element, Setting, settings, setting_at, first_setting}
use Rattle.nx_copies.specs.Events.{elements_among}
use Rattle.nx_copies.specs.copies.LockText.{PlacedByte, lock_text}
use Rattle.nx_copies.specs.copies.FoundCopies.{found_copy, past_copies, found_to_end, tag, tagged_copies}
use Rattle.nx_copies.specs.copies.Printing.{printed_copies, if_printed, is_printed}
use Rattle.nx_copies.specs.copies.Log.{entry_head, is_of_lines, missing_newline, IsLog, printed_of}
use Rattle.nx_copies.specs.copies.Log.{PrintsToEnd}
use Rattle.nx_promises.specs.examples.Repeats.{first_copy}
use Rattle.nx_copies.specs.copies.Shares.{marked}
use Rattle.nx_promises.specs.examples.Emission.{at_its_slot, heard_elements, worked_log}
use Rattle.nx_copies.proofs.lemmas.printing.Log.{entry_with}
use Rattle.nx_promises.proofs.lemmas.examples.Worked.{Computed, stands, text_is, worked_text}

-- the elements are those of the events
pub bits_among-elements : (bits : List Bool) → elements_among (map element bits) ≡ bits
unfolding elements_among
bits_among-elements [] = refl
bits_among-elements (b ∷ bits) = ap (λ bs. b ∷ bs) (bits_among-elements bits)

-- nothing but elements changes nothing
pub at_first : (s : Setting) (bits : List Bool) (place : ℕ)
    → setting_at s (map element bits) place ≡ s
unfolding settings
at_first s [] place = refl
at_first s (b ∷ bits) zero = refl
at_first s (b ∷ bits) (suc place) = at_first s bits place

-- the copy in the text
found_identity : Identity
found_identity = nearest_identity (codes "EA01")

found : Copy
found = record {
  header = record { identity = found_identity; behind = 9 };
  how = Full;
  text =
      codes "TEST\n";
}

copies_are : copies (codes "ZCZC EA01\nTEST\nNNNN\n\n") ≡ found ∷ []
unfolding found found_identity copies headers beginnings header_at_end identity_read read_header
    raw_text ending_by_marker marker_read ending_of ended_copy closed_copy
copies_are = refl

same_name : found_identity ≡ ea01
unfolding found_identity
same_name = same_identity-true found_identity ea01 refl

pub all_selected : admits (first_setting at_its_slot).refused ea01 ≡ true
all_selected =
    ap (λ b. not b && not (set.contains (set.empty {R = nat_cmp}) 65))
    (set.contains-empty nat_cmp 69)
    ∙ ap (λ b. not false && not b) (set.contains-empty nat_cmp 65)

tagged_is : (text : List PlacedByte)
    → tag (first_setting at_its_slot) (found_copy text found) ≡ first_copy
unfolding tag found_copy found
tagged_is text = ap (λ (i : Identity). record {
  identity = i;
  how = Full;
  text = codes "TEST\n";
  moment = 1735692000;
  selected =
      admits (first_setting at_its_slot).refused i;
}) same_name
    ∙ ap (λ b. record {
      identity = ea01;
      how = Full;
      text = codes "TEST\n";
      moment =
          1735692000;
      selected = b;
    }) all_selected

printed_is : printed_copies [] (first_copy ∷ []) ≡ first_copy ∷ []
unfolding printed_copies if_printed is_printed
printed_is = refl

-- the log of the words that were heard
pub printed_to_end : (sent : List ℕ) → Computed sent 199 worked_text
    → PrintsToEnd at_its_slot (heard_elements sent) (first_copy ∷ [])
unfolding tagged_copies found_to_end past_copies
printed_to_end sent is =
    let bits = bits_of sent in
    let events = heard_elements sent in
    let text = lock_text bits 28 (whole_words bits 28) in
    let first = first_setting at_its_slot in
    let copy = found_copy text found in
    let all : found_to_end bits [] (locked 0 28) ≡ copy ∷ [] = all_found sent is in
    record {
      locks = [];
      now = locked 0 28;
      stands = subst (λ (bs : List Bool). IsNow bs [] (locked 0 28))
          (sym (bits_among-elements bits)) (stands sent is);
      printed =
          sym (ap (λ bs. printed_of at_its_slot events (found_to_end bs [] (locked 0 28)))
          (bits_among-elements bits)
          ∙ ap (printed_of at_its_slot events) all
          ∙ ap (λ s. printed_copies [] (tag s copy ∷ [])) (at_first first bits copy.place)
          ∙ ap (λ c. printed_copies [] (c ∷ [])) (tagged_is text)
          ∙ printed_is);
    }
  where
    all_found : (sent : List ℕ) → Computed sent 199 worked_text
        → found_to_end (bits_of sent) [] (locked 0 28)
        ≡ found_copy (lock_text (bits_of sent) 28 (whole_words (bits_of sent) 28)) found ∷ []
    all_found sent is = ap (map
        (found_copy (lock_text (bits_of sent) 28 (whole_words (bits_of sent) 28))))
        (ap copies (text_is sent is) ∙ copies_are)

-- its bytes
entry_is : entry_with Zero first_copy (codes "2025-01-01 00:40:00") ≡ worked_log
unfolding entry_head missing_newline is_of_lines digits
entry_is = refl

pub log_is : IsLog (marked Zero first_copy ∷ []) worked_log
log_is = record {
  entries = worked_log ∷ [];
  each = (
    record { civil = codes "2025-01-01 00:40:00"; shown = slot_of_e; spelled = sym entry_is },
    tt,
  );
  joined = refl;
}
