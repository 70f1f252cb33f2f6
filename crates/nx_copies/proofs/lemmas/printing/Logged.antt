-- What more events leave of what was printed.
use Rattle.std.proofs.Common.{◌≡◌, ℕ, suc, ◌+◌, ◌*◌, ◌<◌, Bool, List, [], ◌∷◌, ◌++◌, length, refl}
use Rattle.std.proofs.Common.{sym, ap, ◌∙◌, subst, arith, get_or, append_assoc, append-nil}
use Rattle.std.specs.List.{All}
use Rattle.std.proofs.lemmas.List.{map-append, get_or_append_left}
use Rattle.std.proofs.lemmas.List.Elements.{All-nil, All-head, All-tail, All-append, All-weaker}
use Rattle.nx_memory.specs.declared.memories.entry.MemoryEntry.{MemoryEntry}
use Rattle.nx_sync.specs.Locks.{Lock, Now, hunting, locked, IsNow, Past}
use Rattle.nx_sync.proofs.lemmas.states.StateChanges.{standing_after}
use Rattle.nx_copies.specs.Events.{Event, at_moment, element, command, Setting, Start}
use Rattle.nx_copies.specs.Events.{setting_after, elements_among, settings, setting_after_all}
use Rattle.nx_copies.specs.Events.{setting_at, first_setting}
use Rattle.nx_sync.specs.Words.{whole_words}
use Rattle.nx_copies.specs.copies.LockText.{lock_text}
use Rattle.nx_copies.specs.copies.FoundCopies.{FoundCopy, ended_in, open_in, all_in, past_text}
use Rattle.nx_copies.specs.copies.FoundCopies.{past_copies, standing_text, ended_so_far, open_so_far}
use Rattle.nx_copies.specs.copies.FoundCopies.{found_to_end, TaggedCopy, tag, tagged_copies}
use Rattle.nx_copies.specs.copies.Printing.{printed_copies, entries_after, entries_made, entry_made}
use Rattle.nx_copies.specs.copies.Printing.{if_printed}
use Rattle.nx_copies.specs.copies.Log.{printed_of, HasPrinted, PrintsToEnd}
use Rattle.nx_copies.proofs.lemmas.locks.Texts.{GoesOnAs}
use Rattle.nx_copies.proofs.lemmas.locks.Found.{IsCopyIn, text_placed, ended_in_placed, all_in_placed}
use Rattle.nx_copies.proofs.lemmas.locks.Found.{all_in-parts, one_told}
use Rattle.nx_copies.proofs.lemmas.locks.Growing.{ended_go_on, ended_in-nil, whole_heard}
use Rattle.nx_copies.proofs.lemmas.locks.Told.{past_now}

pub bits_of-append : (xs ys : List Event)
    → elements_among (xs ++ ys) ≡ elements_among xs ++ elements_among ys
unfolding elements_among
bits_of-append [] ys = refl
bits_of-append (at_moment n ∷ xs) ys = bits_of-append xs ys
bits_of-append (element b ∷ xs) ys = ap (λ bs. b ∷ bs) (bits_of-append xs ys)
bits_of-append (command c ∷ xs) ys = bits_of-append xs ys

pub settings-append : (s : Setting) (xs ys : List Event)
    → settings s (xs ++ ys) ≡ settings s xs ++ settings (setting_after_all s xs) ys
unfolding settings setting_after_all
settings-append s [] ys = refl
settings-append s (at_moment n ∷ xs) ys = settings-append (setting_after s (at_moment n)) xs ys
settings-append s (element b ∷ xs) ys = ap (λ ss. s ∷ ss) (settings-append s xs ys)
settings-append s (command c ∷ xs) ys = settings-append (setting_after s (command c)) xs ys

pub length-settings : (s : Setting) (xs : List Event)
    → length (settings s xs) ≡ length (elements_among xs)
unfolding settings elements_among
length-settings s [] = refl
length-settings s (at_moment n ∷ xs) = length-settings (setting_after s (at_moment n)) xs
length-settings s (element b ∷ xs) = ap suc (length-settings s xs)
length-settings s (command c ∷ xs) = length-settings (setting_after s (command c)) xs

-- what is in force at an element is so whatever comes later
pub setting_at-more : (first : Setting) (xs ys : List Event) (place : ℕ)
    → place < length (elements_among xs)
    → setting_at first (xs ++ ys) place ≡ setting_at first xs place
setting_at-more first xs ys place h =
    let within : place < length (settings first xs) = omega (arith, length-settings first xs) in
    ap (λ ss. get_or ss place first) (settings-append first xs ys)
    ∙ get_or_append_left (settings first xs) _ first place within

pub tagged_copies-more : (first : Setting) (xs ys : List Event) (low : ℕ) (copies : List FoundCopy)
    → All (IsCopyIn low (length (elements_among xs))) copies
    → tagged_copies first (xs ++ ys) copies ≡ tagged_copies first xs copies
unfolding tagged_copies
tagged_copies-more first xs ys low [] k = refl
tagged_copies-more first xs ys low (c ∷ cs) k =
    let here = All-head (IsCopyIn low (length (elements_among xs))) c cs k in
    let rest = tagged_copies-more first xs ys low cs
    (All-tail (IsCopyIn low (length (elements_among xs))) c cs k) in
    ap (λ s. tag s c ∷ tagged_copies first (xs ++ ys) cs)
    (setting_at-more first xs ys c.place here.1)
    ∙ ap (λ ts. tag (setting_at first xs c.place) c ∷ ts) rest

pub tagged_copies-append : (first : Setting) (xs : List Event) (before later : List FoundCopy)
    → tagged_copies first xs (before ++ later)
    ≡ tagged_copies first xs before ++ tagged_copies first xs later
unfolding tagged_copies
tagged_copies-append first xs before later =
    map-append (λ copy. tag (setting_at first xs copy.place) copy) before later

-- each copy that is found stands at one of the bits
past_placed : (bits : List Bool) (locks : List Lock) (p : ℕ) → Past bits locks p
    → All (IsCopyIn 0 (length bits)) (past_copies bits locks)
unfolding past_copies Past
past_placed bits [] p past = All-nil (IsCopyIn 0 (length bits))
past_placed bits (lock ∷ older) p past =
    let text = past_text bits lock in
    let heard = past.0.released.heard in
    All-append (IsCopyIn 0 (length bits)) (past_copies bits older) (all_in text)
    (past_placed bits older lock.from past.1)
    (All-weaker (IsCopyIn lock.at (lock.at + 7 * (lock.last + 1))) (IsCopyIn 0 (length bits))
    (λ c h. (omega arith, omega (arith, h.1, heard))) (all_in text)
    (all_in_placed lock.at (lock.at + 7 * (lock.last + 1)) text
    (text_placed _ _ lock.at (lock.last + 1))))

standing_placed : (bits : List Bool) (locks : List Lock) (now : Now) → IsNow bits locks now
    → All (IsCopyIn 0 (length bits)) (ended_in (standing_text bits now))
standing_placed bits locks (hunting p) is =
    subst (All (IsCopyIn 0 (length bits))) (sym ended_in-nil) (All-nil (IsCopyIn 0 (length bits)))
standing_placed bits locks (locked p t) is =
    let text = lock_text bits t (whole_words bits t) in
    let heard = whole_heard bits t is.found.here.heard in
    All-weaker (IsCopyIn t (t + 7 * whole_words bits t)) (IsCopyIn 0 (length bits))
    (λ c h. (omega arith, omega (arith, h.1, heard))) (ended_in text)
    (ended_in_placed t (t + 7 * whole_words bits t) text
    (text_placed _ _ t (whole_words bits t)))

pub ended_placed : (bits : List Bool) (locks : List Lock) (now : Now) → IsNow bits locks now
    → All (IsCopyIn 0 (length bits)) (ended_so_far bits locks now)
unfolding ended_so_far
ended_placed bits locks now is =
    let past = past_now bits locks now is in
    All-append (IsCopyIn 0 (length bits)) (past_copies bits locks)
    (ended_in (standing_text bits now)) (past_placed bits locks past.0 past.1)
    (standing_placed bits locks now is)

-- what the end adds
pub end_adds : (bits : List Bool) (locks : List Lock) (now : Now)
    → found_to_end bits locks now ≡ ended_so_far bits locks now ++ open_so_far bits now
unfolding found_to_end ended_so_far
end_adds bits locks now =
    ap (λ xs. past_copies bits locks ++ xs) (all_in-parts (standing_text bits now))
    ∙ sym (append_assoc (past_copies bits locks) (ended_in (standing_text bits now))
    (open_in (standing_text bits now)))

-- what is printed of copies, and then of others
pub printed_copies-append : (entries : List MemoryEntry) (xs ys : List TaggedCopy)
    → printed_copies entries (xs ++ ys)
    ≡ printed_copies entries xs ++ printed_copies (entries_after entries xs) ys
unfolding printed_copies entries_made
printed_copies-append entries [] ys = ap (λ es. printed_copies es ys) (sym (append-nil entries))
printed_copies-append entries (x ∷ xs) ys =
    ap (λ ps. if_printed entries x ++ ps)
    (printed_copies-append (entries ++ entry_made entries x) xs ys
    ∙ ap (λ es. printed_copies (entries ++ entry_made entries x) xs ++ printed_copies es ys)
    (append_assoc entries (entry_made entries x) _))
    ∙ sym (append_assoc (if_printed entries x) (printed_copies (entries ++ entry_made entries x) xs)
    _)

pub entries_after-append : (entries : List MemoryEntry) (xs ys : List TaggedCopy)
    → entries_after entries (xs ++ ys) ≡ entries_after (entries_after entries xs) ys
unfolding entries_made
entries_after-append entries [] ys = ap (λ es. es ++ entries_made es ys) (sym (append-nil entries))
entries_after-append entries (x ∷ xs) ys =
    sym (append_assoc entries (entry_made entries x) _)
    ∙ entries_after-append (entries ++ entry_made entries x) xs ys
    ∙ ap (λ es. entries_after es ys) (append_assoc entries (entry_made entries x) _)

-- more copies add to what is printed
pub printed_goes_on : (start : Start) (xs ys : List Event) (before later : List FoundCopy)
    → GoesOnAs before later → All (IsCopyIn 0 (length (elements_among xs))) before
    → GoesOnAs (printed_of start xs before) (printed_of start (xs ++ ys) later)
printed_goes_on start xs ys before later g k =
    let first = first_setting start in
    record {
      rest = printed_copies (entries_after start.entries (tagged_copies first xs before))
          (tagged_copies first (xs ++ ys) g.rest);
      whole = ap (λ cs. printed_of start (xs ++ ys) cs) g.whole
          ∙ ap (printed_copies start.entries)
          (tagged_copies-append first (xs ++ ys) before g.rest
          ∙ ap (λ ts. ts ++ tagged_copies first (xs ++ ys) g.rest)
          (tagged_copies-more first xs ys 0 before k))
          ∙ printed_copies-append start.entries (tagged_copies first xs before)
          (tagged_copies first (xs ++ ys) g.rest);
    }

-- more events change nothing that was printed
pub has_printed_on : (start : Start) (xs ys : List Event) (log later : List TaggedCopy)
    → HasPrinted start xs log → HasPrinted start (xs ++ ys) later → GoesOnAs log later
has_printed_on start xs ys log later h j =
    let now : IsNow (elements_among xs ++ elements_among ys) j.locks j.now =
    subst (λ (bits : List Bool). IsNow bits j.locks j.now) (bits_of-append xs ys) j.stands in
    let found : GoesOnAs (ended_so_far (elements_among xs) h.locks h.now)
    (ended_so_far (elements_among (xs ++ ys)) j.locks j.now) =
    subst (λ (bits : List Bool). GoesOnAs (ended_so_far (elements_among xs) h.locks h.now)
    (ended_so_far bits j.locks j.now)) (sym (bits_of-append xs ys))
    (ended_go_on (elements_among xs) (elements_among ys) h.locks j.locks h.now j.now h.stands
    now) in
    let on = printed_goes_on start xs ys (ended_so_far (elements_among xs) h.locks h.now)
    (ended_so_far (elements_among (xs ++ ys)) j.locks j.now) found
    (ended_placed (elements_among xs) h.locks h.now h.stands) in
    record { rest = on.rest; whole = j.printed ∙ on.whole ∙ ap (λ l. l ++ on.rest) (sym h.printed) }

pub prints_to_end_on : (start : Start) (xs ys : List Event) (log whole : List TaggedCopy)
    → HasPrinted start xs log → PrintsToEnd start (xs ++ ys) whole → GoesOnAs log whole
prints_to_end_on start xs ys log whole h j =
    let bits = elements_among (xs ++ ys) in
    let now : IsNow (elements_among xs ++ elements_among ys) j.locks j.now =
    subst (λ (bits : List Bool). IsNow bits j.locks j.now) (bits_of-append xs ys) j.stands in
    let found : GoesOnAs (ended_so_far (elements_among xs) h.locks h.now)
    (ended_so_far bits j.locks j.now) =
    subst (λ (bits : List Bool). GoesOnAs (ended_so_far (elements_among xs) h.locks h.now)
    (ended_so_far bits j.locks j.now)) (sym (bits_of-append xs ys))
    (ended_go_on (elements_among xs) (elements_among ys) h.locks j.locks h.now j.now h.stands
    now) in
    let all : GoesOnAs (ended_so_far (elements_among xs) h.locks h.now)
    (found_to_end bits j.locks j.now) =
    record {
      rest = found.rest ++ open_so_far bits j.now;
      whole =
          end_adds bits j.locks j.now ∙ ap (λ cs. cs ++ open_so_far bits j.now) found.whole
          ∙ append_assoc _ found.rest _;
    } in
    let on = printed_goes_on start xs ys (ended_so_far (elements_among xs) h.locks h.now)
    (found_to_end bits j.locks j.now) all
    (ended_placed (elements_among xs) h.locks h.now h.stands) in
    record { rest = on.rest; whole = j.printed ∙ on.whole ∙ ap (λ l. l ++ on.rest) (sym h.printed) }

-- there is one log
pub one_printed : (start : Start) (events : List Event) (log other : List TaggedCopy)
    → HasPrinted start events log → HasPrinted start events other → log ≡ other
one_printed start events log other h j =
    let bits = elements_among events in
    h.printed ∙ ap (printed_of start events)
    (one_told (ended_so_far bits) bits h.locks j.locks h.now j.now h.stands j.stands)
    ∙ sym j.printed

pub one_to_end : (start : Start) (events : List Event) (log other : List TaggedCopy)
    → PrintsToEnd start events log → PrintsToEnd start events other → log ≡ other
one_to_end start events log other h j =
    let bits = elements_among events in
    h.printed ∙ ap (printed_of start events)
    (one_told (found_to_end bits) bits h.locks j.locks h.now j.now h.stands j.stands)
    ∙ sym j.printed

pub some_printed : (start : Start) (events : List Event)
    → (log : List TaggedCopy) × HasPrinted start events log
some_printed start events =
    let s = standing_after (elements_among events) in (
      printed_of start events (ended_so_far (elements_among events) s.locks s.now),
      record
          { locks = s.locks; now = s.now; stands = s.stands; printed = refl },
    )

pub some_to_end : (start : Start) (events : List Event)
    → (log : List TaggedCopy) × PrintsToEnd start events log
some_to_end start events =
    let s = standing_after (elements_among events) in (
      printed_of start events (found_to_end (elements_among events) s.locks s.now),
      record
          { locks = s.locks; now = s.now; stands = s.stands; printed = refl },
    )
