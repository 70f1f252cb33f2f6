-- What is printed of copies that have ended, and entered; and what a receiver stands after with
-- them.
use Rattle.std.proofs.Common.{◌≡◌, ℕ, Bool, true, cond, List, [], ◌∷◌, ◌++◌, Option}
use Rattle.std.proofs.Common.{◌-◌, ◌≤◌, length, drop, refl, sym, ap, ◌∙◌}
use Rattle.std.proofs.Common.{append-nil, arith}
use Rattle.std.proofs.lemmas.Bool.{and_parts}
use Rattle.nx_code.specs.Lists.{last_of}
use Rattle.nx_memory.specs.Memory.{most_entries}
use Rattle.nx_memory.specs.declared.memories.entry.MemoryEntry.{MemoryEntry}
use Rattle.nx_copies.specs.Events.{Event, Setting, Start, elements_among, first_setting}
use Rattle.nx_copies.specs.Events.{setting_after_all, settings}
use Rattle.nx_copies.specs.copies.FoundCopies.{TaggedCopy, headed_copy}
use Rattle.nx_copies.specs.copies.Log.{HasPrinted, PrintsToEnd}
use Rattle.nx_copies.specs.copies.Printing.{entries_after, entries_made, entry_made, if_printed}
use Rattle.nx_copies.specs.copies.Printing.{is_printed, printed_copies}
use Rattle.nx_receiver.specs.Receiver.{Receiving, Stands}
use Rattle.nx_copies.specs.declared.entry.EntryHead.{EntryHead}
use Rattle.nx_copies.specs.declared.copy_taker.Over.{Over}
use Rattle.nx_receiver.specs.private.Awaiting.{AwaitsOver}
use Rattle.nx_receiver.specs.private.ListenerBegins.{tagged-by}
use Rattle.nx_copies.specs.hearing.CopyHearer.{HasEnded, HearerStands}
use Rattle.nx_copies.specs.private.CopyHearer.{HasEndedAll}
use Rattle.nx_copies.specs.hearing.CopyHearer.{IsOver}
use Rattle.nx_copies.specs.hearing.CopyHearing.{CopyHearing, in_force}
use Rattle.nx_copies.proofs.lemmas.printing.Logged.{printed_copies-append, entries_after-append}

-- where no copy has ended, none is printed, and none entered
pub printed_none : (entries : List MemoryEntry) (copies : List TaggedCopy) → copies ≡ []
    → printed_copies entries copies ≡ []
unfolding printed_copies
printed_none entries copies none = ap (printed_copies entries) none

pub entered_none : (entries : List MemoryEntry) (copies : List TaggedCopy) → copies ≡ []
    → entries_after entries copies ≡ entries
unfolding entries_made
entered_none entries copies none = ap (entries_after entries) none ∙ append-nil entries

-- what is printed, and entered, of one copy that has ended
pub printed_one : (entries : List MemoryEntry) (copies : List TaggedCopy) (copy : TaggedCopy)
    (is_shown : Bool) → copies ≡ copy ∷ [] → is_shown ≡ is_printed entries copy
    → printed_copies entries copies ≡ cond is_shown (copy ∷ []) []
unfolding printed_copies if_printed
printed_one entries copies copy is_shown one shown =
    ap (printed_copies entries) one ∙ append-nil (if_printed entries copy)
    ∙ ap (λ b. cond b (copy ∷ []) []) (sym shown)

pub entered_one : (entries : List MemoryEntry) (copies : List TaggedCopy) (copy : TaggedCopy)
    → copies ≡ copy ∷ [] → entries_after entries copies ≡ entries ++ entry_made entries copy
unfolding entries_made
entered_one entries copies copy one =
    ap (entries_after entries) one
    ∙ ap (λ es. entries ++ es) (append-nil (entry_made entries copy))

-- what is printed was selected
pub was_selected : (entries : List MemoryEntry) (head : EntryHead) (text : List ℕ) (selected : Bool)
    → is_printed entries (headed_copy head text selected) ≡ true
    → headed_copy head text true ≡ headed_copy head text selected
unfolding is_printed
was_selected entries head text selected shown =
    ap (headed_copy head text) (sym (and_parts _ _ shown).0)

-- Some copies have ended; what is printed and entered of them is the next of all copies.
pub awaits_with : {M : Type 0} (content : M → List MemoryEntry) (start : Start)
    (old new : Receiving M) (h : List Bool) (s : List Setting) (now : Setting)
    (copies log last more : List TaggedCopy) (left : Option Over)
    → IsOver (first_setting start) new.hearer h s (copies ++ last) left
    → in_force new.hearer ≡ now
    → log ≡ printed_copies start.entries copies
    → content old.memory ≡ last_of most_entries (entries_after start.entries copies)
    → ((entries : List MemoryEntry) → content old.memory ≡ last_of most_entries entries
    → more ≡ printed_copies entries last)
    → ((entries : List MemoryEntry) → content old.memory ≡ last_of most_entries entries
    → content new.memory ≡ last_of most_entries (entries_after entries last))
    → AwaitsOver content start new h s now (log ++ more) left
awaits_with content start old new h s now copies log last more left stands force printed memory
    prints enters =
    let before = entries_after start.entries copies in
    record {
      copies = copies ++ last;
      hearer = stands;
      force = force;
      printed = ap (λ l. l ++ more) printed
          ∙ ap (λ l. printed_copies start.entries copies ++ l) (prints before memory)
          ∙ sym (printed_copies-append start.entries copies last);
      memory = enters before memory
          ∙ ap (last_of most_entries) (sym (entries_after-append start.entries copies last));
    }

-- A hearer stands after the elements of these events: what is printed of its copies is the log.
pub has_printed : (start : Start) (events : List Event) (copies log : List TaggedCopy)
    → HasEnded (first_setting start) (elements_among events) (settings (first_setting start) events)
    copies → log ≡ printed_copies start.entries copies → HasPrinted start events log
has_printed start events copies log ended printed = record {
  locks = ended.locks;
  now = ended.now;
  stands = ended.stands;
  printed = printed ∙ ap (printed_copies start.entries)
      (ended.ended ∙ tagged-by (first_setting start) events _);
}

-- The elements ended, and these are the last copies; what is printed of them is the last of the
-- log.
pub prints_to_end : {M : Type 0} (content : M → List MemoryEntry) (start : Start)
    (events : List Event) (memory : M) (copies log last more : List TaggedCopy)
    → HasEndedAll (first_setting start) (elements_among events)
    (settings (first_setting start) events) (copies ++ last)
    → log ≡ printed_copies start.entries copies
    → content memory ≡ last_of most_entries (entries_after start.entries copies)
    → ((entries : List MemoryEntry) → content memory ≡ last_of most_entries entries
    → more ≡ printed_copies entries last)
    → PrintsToEnd start events (log ++ more)
prints_to_end content start events memory copies log last more ended printed holds prints =
    record {
      locks = ended.locks;
      now = ended.now;
      stands = ended.stands;
      printed = ap (λ l. l ++ more) printed
          ∙ ap (λ l. printed_copies start.entries copies ++ l)
          (prints (entries_after start.entries copies) holds)
          ∙ sym (printed_copies-append start.entries copies last)
          ∙ ap (printed_copies start.entries)
          (ended.ended ∙ tagged-by (first_setting start) events _);
    }

-- a receiver that was made stands after no event
pub begins : {M : Type 0} (content : M → List MemoryEntry) (start : Start) (memory : M)
    (hearer : CopyHearing) → ((first : Setting) → HearerStands first hearer [] [] [])
    → in_force hearer ≡ first_setting start → start.entries ≡ content memory
    → length (content memory) ≤ most_entries
    → Stands content start (record { hearer = hearer; memory = memory }) [] []
unfolding elements_among settings setting_after_all printed_copies entries_made
begins content start memory hearer stands force entries few =
    let all : last_of most_entries (content memory) ≡ content memory =
    ap (λ n. drop n (content memory))
    (let e : length (content memory) - most_entries ≡ 0 = omega arith in e) in
    record {
      copies = [];
      hearer = stands (first_setting start);
      force = force;
      printed = refl;
      memory = sym (ap (last_of most_entries) (append-nil start.entries ∙ entries) ∙ all);
    }
