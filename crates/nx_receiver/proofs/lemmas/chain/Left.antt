-- The copy that the end closes makes no entry; so what a receiver holds after all events is what is
-- left.
use Rattle.std.proofs.Common.{◌≡◌, false, not, ◌&&◌, cond, List, [], ◌∷◌, ◌++◌, map, refl, sym, ap}
use Rattle.std.proofs.Common.{◌∙◌, append-nil}
use Rattle.std.proofs.lemmas.Bool.{and_right}
use Rattle.nx_code.specs.Lists.{last_of}
use Rattle.nx_envelope.specs.Copies.{closed_copy, open_headers}
use Rattle.nx_envelope.specs.Header.{Header}
use Rattle.nx_envelope.specs.declared.found.How.{How}
use Rattle.nx_envelope.specs.declared.found.How.TheVariants.{Cut}
use Rattle.nx_memory.specs.Saved.{SavedState}
use Rattle.nx_memory.specs.Memory.{most_entries}
use Rattle.nx_memory.specs.declared.memories.entry.MemoryEntry.{MemoryEntry}
use Rattle.nx_sync.specs.Locks.{IsNow, Lock, Now}
use Rattle.nx_receiver.specs.air_file_runs.Chain.{Leaves}
use Rattle.nx_copies.specs.Events.{Event, Setting, Start, elements_among, first_setting}
use Rattle.nx_copies.specs.copies.FoundCopies.{AreFoundIn, ended_so_far, found_copy, found_to_end}
use Rattle.nx_copies.specs.copies.FoundCopies.{open_so_far, standing_text, TaggedCopy, tag}
use Rattle.nx_copies.specs.copies.FoundCopies.{tagged_copies}
use Rattle.nx_copies.specs.copies.LockText.{PlacedByte, bytes_of}
use Rattle.nx_copies.specs.copies.Printing.{entries_after, entries_made, entry_made, entry_of}
use Rattle.nx_copies.specs.copies.Printing.{is_entered, is_good, is_number_00, is_printed}
use Rattle.nx_receiver.specs.Receiver.{Receiving, Stands}
use Rattle.nx_copies.specs.hearing.CopyHearing.{in_force}
use Rattle.nx_receiver.proofs.lemmas.chain.Runs.{found_same}
use Rattle.nx_copies.proofs.lemmas.printing.Logged.{end_adds, entries_after-append}
use Rattle.nx_copies.proofs.lemmas.printing.Logged.{tagged_copies-append}
use Rattle.nx_receiver.specs.private.ListenerBegins.{tagged-by}

-- a copy that is cut makes no entry
cut-made : (entries : List MemoryEntry) (copy : TaggedCopy) → copy.how ≡ Cut
    → entry_made entries copy ≡ []
unfolding entry_made is_entered
cut-made entries copy h =
    let bad : is_good copy ≡ false = ap (λ (how : How). is_good (record copy { how = how })) h in
    ap (λ b. cond (b && not (is_number_00 copy)) (entry_of copy ∷ []) [])
    (and_right (is_printed entries copy) (is_good copy) bad)

cut-one : (entries : List MemoryEntry) (copy : TaggedCopy) (copies : List TaggedCopy)
    → copy.how ≡ Cut → entries_after entries (copy ∷ copies) ≡ entries_after entries copies
unfolding entries_made
cut-one entries copy copies h =
    ap (λ m. entries ++ (m ++ entries_made (entries ++ m) copies)) (cut-made entries copy h)
    ∙ ap (λ es. entries ++ entries_made es copies) (append-nil entries)

cut-all : (entries : List MemoryEntry) (first : Setting) (events : List Event)
    (text : List PlacedByte) (headers : List Header)
    → entries_after entries (tagged_copies first events
    (map (λ header. found_copy text (closed_copy (bytes_of text) header)) headers)) ≡ entries
unfolding entries_made tagged_copies tag found_copy closed_copy
cut-all entries first events text [] = append-nil entries
cut-all entries first events text (header ∷ headers) =
    cut-one entries _ _ refl ∙ cut-all entries first events text headers

-- all copies make the entries of those that have ended
pub end-enters : (start : Start) (events : List Event) (locks : List Lock) (now : Now)
    → entries_after start.entries
    (tagged_copies (first_setting start) events
    (found_to_end (elements_among events) locks now))
    ≡ entries_after start.entries
    (tagged_copies (first_setting start) events
    (ended_so_far (elements_among events) locks now))
end-enters start events locks now =
    let first = first_setting start in
    let bits = elements_among events in
    let text = standing_text bits now in
    let ended = tagged_copies first events (ended_so_far bits locks now) in
    ap (λ cs. entries_after start.entries (tagged_copies first events cs)) (end_adds bits locks now)
    ∙ ap (entries_after start.entries)
    (tagged_copies-append first events (ended_so_far bits locks now) (open_so_far bits now))
    ∙ entries_after-append start.entries ended (tagged_copies first events (open_so_far bits now))
    ∙ cut-all (entries_after start.entries ended) first events text (open_headers (bytes_of text))

-- so what is left is told by the copies that have ended
pub left-of_ended : (start : Start) (events : List Event) (left : SavedState) (locks : List Lock)
    (now : Now) → IsNow (elements_among events) locks now → Leaves start events left
    → left.entries ≡ last_of most_entries
    (entries_after start.entries
    (tagged_copies (first_setting start) events
    (ended_so_far (elements_among events) locks now)))
left-of_ended start events left locks now stands l =
    let all = found_to_end (elements_among events) locks now in
    let found : AreFoundIn events all =
    record { locks = locks; now = now; stands = stands; whole = refl } in
    l.entries
    ∙ ap (λ cs. last_of most_entries
    (entries_after start.entries (tagged_copies (first_setting start) events cs)))
    (found_same events l.copies all l.found found)
    ∙ ap (last_of most_entries) (end-enters start events locks now)

-- a receiver that stands after events holds it
pub held-left : {M : Type 0} (content : M → List MemoryEntry) (start : Start) (events : List Event)
    (receiver : Receiving M) (log : List TaggedCopy) (left : SavedState)
    → Stands content start receiver events log
    → left.entries ≡ content receiver.memory → left.refused ≡ (in_force receiver.hearer).refused
    → Leaves start events left
held-left content start events receiver log left s entries refused =
    let r = s.hearer.reads in
    let first = first_setting start in
    record {
      copies = found_to_end (elements_among events) r.locks r.now;
      found = record { locks = r.locks; now = r.now; stands = r.stands; whole = refl };
      entries = entries ∙ s.memory
          ∙ ap (λ cs. last_of most_entries (entries_after start.entries cs))
          (r.ended ∙ tagged-by first events
          (ended_so_far (elements_among events) r.locks r.now))
          ∙ ap (last_of most_entries) (sym (end-enters start events r.locks r.now));
      refused = refused ∙ ap (λ (f : Setting). f.refused) s.force;
    }
