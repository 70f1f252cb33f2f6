-- The laws of the printing that judges each copy alone.
use Rattle.std.proofs.Common.{◌≡◌, ◌≤◌, ℕ, inl, inr, Bool, true, false, cond, List, [], ◌∷◌, ◌++◌}
use Rattle.std.proofs.Common.{length, get_or, refl, sym, ap, ◌∙◌, subst, append-nil, arith}
use Rattle.std.specs.List.{All}
use Rattle.std.proofs.lemmas.Bool.{cases_lt}
use Rattle.std.proofs.lemmas.List.{get_or_past}
use Rattle.std.proofs.lemmas.List.Elements.{All-nil, All-cons, All-head, All-tail, All-same}
use Rattle.std.proofs.lemmas.List.Elements.{All-get_or, All-append}
use Rattle.nx_memory.specs.declared.memories.entry.MemoryEntry.{MemoryEntry}
use Rattle.nx_sync.specs.Locks.{IsNow}
use Rattle.nx_copies.specs.Events.{Event, Setting, Start, at_moment, command, element}
use Rattle.nx_copies.specs.Events.{elements_among, first_setting, setting_after, settings}
use Rattle.nx_copies.specs.copies.FoundCopies.{FoundCopy, TaggedCopy, ended_so_far, tag}
use Rattle.nx_copies.specs.copies.FoundCopies.{tagged_copies}
use Rattle.nx_copies.specs.copies.Log.{HasPrinted, IsPrinting, IsUpTo, Printing, PrintsToEnd}
use Rattle.nx_copies.specs.copies.Log.{plain, printed_of}
use Rattle.nx_copies.specs.copies.Printing.{entry_made, if_printed, is_printed, printed_copies}
use Rattle.nx_copies.proofs.lemmas.locks.Found.{IsCopyIn}
use Rattle.nx_copies.proofs.lemmas.printing.Logged.{bits_of-append, ended_placed, has_printed_on}
use Rattle.nx_copies.proofs.lemmas.printing.Logged.{one_printed, one_to_end, prints_to_end_on}
use Rattle.nx_copies.proofs.lemmas.printing.Logged.{some_printed, some_to_end, tagged_copies-more}

-- events without elements bring no copy to an end
no-elements : (start : Start) (xs ys : List Event) (log : List TaggedCopy)
    → HasPrinted start xs log → elements_among ys ≡ [] → HasPrinted start (xs ++ ys) log
no-elements start xs ys log h none =
    let bits = elements_among xs in
    let copies = ended_so_far bits h.locks h.now in
    let same : elements_among (xs ++ ys) ≡ bits =
    bits_of-append xs ys ∙ ap (λ more. bits ++ more) none ∙ append-nil bits in
    record {
      locks = h.locks;
      now = h.now;
      stands = subst (λ (all : List Bool). IsNow all h.locks h.now) (sym same) h.stands;
      printed = h.printed
          ∙ ap (printed_copies start.entries)
          (sym (tagged_copies-more (first_setting start) xs ys 0 copies
          (ended_placed bits h.locks h.now h.stands)))
          ∙ ap (λ (all : List Bool). printed_of start (xs ++ ys) (ended_so_far all h.locks h.now))
          (sym same);
    }

none-placed : (copies : List FoundCopy) → All (IsCopyIn 0 0) copies → copies ≡ []
none-placed [] h = refl
none-placed (copy ∷ copies) h =
    let here = All-head (IsCopyIn 0 0) copy copies h in
    absurd (omega (arith, here.1))

-- no event prints nothing
no-events : (start : Start) → HasPrinted start [] []
unfolding elements_among tagged_copies printed_copies
no-events start =
    let log = some_printed start [] in
    let h = log.1 in
    let none : ended_so_far [] h.locks h.now ≡ [] =
    none-placed _ (ended_placed [] h.locks h.now h.stands) in
    record {
      locks = h.locks;
      now = h.now;
      stands = h.stands;
      printed = sym (ap (printed_of start []) none);
    }

-- what was printed stays, and the end adds to it
stays : (start : Start) (events more : List Event) (log later : List TaggedCopy)
    → HasPrinted start events log → HasPrinted start (events ++ more) later
    → (rest : List TaggedCopy) × (later ≡ log ++ rest)
stays start events more log later h k =
    let on = has_printed_on start events more log later h k in (on.rest, on.whole)

stays-to_end : (start : Start) (events : List Event) (log whole : List TaggedCopy)
    → HasPrinted start events log → PrintsToEnd start events whole
    → (rest : List TaggedCopy) × (whole ≡ log ++ rest)
stays-to_end start events log whole h k =
    let on = prints_to_end_on start events [] log whole h
    (subst (λ all. PrintsToEnd start all whole) (sym (append-nil events)) k) in
    (on.rest, on.whole)

abbrev pub IsSetUpTo : ℕ → Setting → Type 0
IsSetUpTo last setting = setting.moment ≤ last

abbrev pub IsCopyUpTo : ℕ → TaggedCopy → Type 0
IsCopyUpTo last copy = copy.moment ≤ last

pub settings-up_to : (last : ℕ) (now : Setting) (events : List Event) → IsSetUpTo last now
    → All (IsUpTo last) events → All (IsSetUpTo last) (settings now events)
unfolding settings
settings-up_to last now [] h k = All-nil (IsSetUpTo last)
settings-up_to last now (at_moment n ∷ events) h k =
    settings-up_to last (setting_after now (at_moment n)) events
    (All-head (IsUpTo last) (at_moment n) events k) (All-tail (IsUpTo last) (at_moment n) events k)
settings-up_to last now (element bit ∷ events) h k =
    All-cons (IsSetUpTo last) now (settings now events) h
    (settings-up_to last now events h (All-tail (IsUpTo last) (element bit) events k))
settings-up_to last now (command c ∷ events) h k =
    settings-up_to last (setting_after now (command c)) events h
    (All-tail (IsUpTo last) (command c) events k)

pub at-up_to : (last : ℕ) (xs : List Setting) (first : Setting) (place : ℕ) → IsSetUpTo last first
    → All (IsSetUpTo last) xs → IsSetUpTo last (get_or xs place first)
at-up_to last xs first place h k =
    elim (cases_lt place (length xs)) [
      | inl within ↦ All-get_or (IsSetUpTo last) xs place first within k
      | inr past ↦ subst (IsSetUpTo last) (sym (get_or_past xs place first (omega (arith, past)))) h
    ]

tagged-up_to : (last : ℕ) (first : Setting) (events : List Event) (copies : List FoundCopy)
    → IsSetUpTo last first → All (IsSetUpTo last) (settings first events)
    → All (IsCopyUpTo last) (tagged_copies first events copies)
unfolding tagged_copies tag
tagged-up_to last first events [] h k = All-nil (IsCopyUpTo last)
tagged-up_to last first events (copy ∷ copies) h k =
    All-cons (IsCopyUpTo last) _ _ (at-up_to last (settings first events) first copy.place h k)
    (tagged-up_to last first events copies h k)

if-up_to : (last : ℕ) (shown : Bool) (copy : TaggedCopy) → IsCopyUpTo last copy
    → All (IsCopyUpTo last) (cond shown (copy ∷ []) [])
if-up_to last true copy h = All-cons (IsCopyUpTo last) copy [] h (All-nil (IsCopyUpTo last))
if-up_to last false copy h = All-nil (IsCopyUpTo last)

printed-up_to : (last : ℕ) (entries : List MemoryEntry) (copies : List TaggedCopy)
    → All (IsCopyUpTo last) copies → All (IsCopyUpTo last) (printed_copies entries copies)
unfolding printed_copies if_printed
printed-up_to last entries [] h = All-nil (IsCopyUpTo last)
printed-up_to last entries (copy ∷ copies) h =
    All-append (IsCopyUpTo last) _ (printed_copies (entries ++ entry_made entries copy) copies)
    (if-up_to last (is_printed entries copy) copy (All-head (IsCopyUpTo last) copy copies h))
    (printed-up_to last (entries ++ entry_made entries copy) copies
    (All-tail (IsCopyUpTo last) copy copies h))

-- no moment of what is printed is past all that were given
up_to : (start : Start) (events : List Event) (log : List TaggedCopy) (last : ℕ)
    → start.moment ≤ last → All (IsUpTo last) events → PrintsToEnd start events log
    → All (λ (copy : TaggedCopy). copy.moment ≤ last) log
up_to start events log last h k p =
    let first = first_setting start in
    All-same (IsCopyUpTo last) log _ p.printed
    (printed-up_to last start.entries _
    (tagged-up_to last first events _ h (settings-up_to last first events h k)))

pub plain-laws : IsPrinting plain
plain-laws = record {
  some = some_printed;
  one = one_printed;
  some_to_end = some_to_end;
  one_to_end = one_to_end;
  none = no-events;
  no_elements = no-elements;
  stays = stays;
  stays_to_end = stays-to_end;
  up_to = up_to;
}

pub all-front : {A : Type 0} (P : A → Type 0) (xs ys : List A) → All P (xs ++ ys) → All P xs
all-front P [] ys h = All-nil P
all-front P (x ∷ xs) ys h =
    All-cons P x xs (All-head P x (xs ++ ys) h) (all-front P xs ys (All-tail P x (xs ++ ys) h))

-- so it is of what is printed so far, which the end adds to
pub up_to-so_far : (printing : Printing) (laws : IsPrinting printing) (start : Start)
    (events : List Event) (log : List TaggedCopy) (last : ℕ) → start.moment ≤ last
    → All (IsUpTo last) events → printing.so_far start events log
    → All (λ (copy : TaggedCopy). copy.moment ≤ last) log
up_to-so_far printing laws start events log last h k p =
    let whole = laws.some_to_end start events in
    let on = laws.stays_to_end start events log whole.0 p whole.1 in
    all-front (IsCopyUpTo last) log on.0
    (subst (All (IsCopyUpTo last)) on.1 (laws.up_to start events whole.0 last h k whole.1))
