-- The laws of what is printed of several sendings taken together: there is one log, and it stays.
use Rattle.std.proofs.Common.{◌≡◌, ℕ, Bool, List, [], ◌∷◌, ◌++◌}
use Rattle.std.proofs.Common.{map, length, refl, sym, ap, ◌∙◌, subst, arith, append-nil}
use Rattle.std.proofs.Common.{None, Option, Some, cond, true, false, ◌-◌, ◌≤◌}
use Rattle.std.specs.List.{All}
use Rattle.std.proofs.lemmas.List.{map-append}
use Rattle.std.proofs.lemmas.List.Elements.{All-append, All-cons, All-head, All-map}
use Rattle.std.proofs.lemmas.List.Elements.{All-nil, All-tail}
use Rattle.nx_envelope.specs.Copies.{closed_copy, copies, ended_copies, open_headers}
use Rattle.nx_envelope.proofs.lemmas.copies.OneOpenCopy.{copies_parts}
use Rattle.nx_memory.specs.declared.memories.entry.MemoryEntry.{MemoryEntry}
use Rattle.nx_sync.specs.Locks.{IsNow, Lock, Now, hunting, locked}
use Rattle.nx_sync.specs.Words.{whole_words}
use Rattle.nx_sync.proofs.lemmas.states.StateChanges.{standing_after}
use Rattle.nx_copies.specs.Events.{Event, Setting, Start, elements_among, first_setting, setting_at}
use Rattle.nx_copies.specs.copies.FoundCopies.{FoundCopy, TaggedCopy, tag}
use Rattle.nx_copies.specs.copies.Log.{IsPrinting}
use Rattle.nx_copies.proofs.lemmas.locks.Found.{IsCopyIn, one_told}
use Rattle.nx_copies.proofs.lemmas.locks.Texts.{GoesOnAs, goes_on_behind}
use Rattle.nx_copies.proofs.lemmas.printing.Logged.{bits_of-append, setting_at-more}
use Rattle.nx_copies.proofs.lemmas.printing.Logged as logged
use Rattle.nx_combine.specs.CombinedPrinting.{HasPrintedHolding, PrintsHoldingToEnd, combined}
use Rattle.nx_combine.specs.CombinedPrinting.{combined_holding}
use Rattle.nx_combine.specs.CombinedPrinting.{entry_made_combined, if_printed_combined}
use Rattle.nx_combine.specs.CombinedPrinting.{printed_combined, printed_of_placed_holding}
use Rattle.nx_combine.specs.CopyPositions.{HeardCopy, PlacedCopy, ended_placed}
use Rattle.nx_combine.specs.CopyPositions.{heard_copies, lock_bytes, past_placed}
use Rattle.nx_combine.specs.CopyPositions.{placed_to_end, standing_placed}
use Rattle.nx_combine.specs.Families.{CombinedCopy, Family, combined_copies_holding}
use Rattle.nx_combine.specs.Families.{combined_copy_holding}
use Rattle.nx_combine.specs.Families.{alone, combined as together_of, combined_at}
use Rattle.nx_combine.specs.Families.{families_after_holding}
use Rattle.nx_combine.specs.Families.{given_by, has_family, index_joined_holding, joined_by}
use Rattle.nx_combine.specs.Families.{most_families, together}
use Rattle.std.specs.Prelude.{slice_get}
use Rattle.std.specs.Option.{option_map_or}
use Rattle.nx_code.specs.Reading.{Reception}
use Rattle.nx_copies.specs.Events.{settings}
use Rattle.nx_copies.specs.copies.Log.{IsUpTo}
use Rattle.nx_copies.specs.copies.Printing.{is_better}
use Rattle.nx_copies.proofs.lemmas.printing.Laws.{IsCopyUpTo, IsSetUpTo, at-up_to, settings-up_to}
use Rattle.nx_combine.specs.CombinedPrinting.{is_printed_combined}
use Rattle.nx_combine.specs.private.laws.Heard.{found-ended, found_of}
use Rattle.nx_combine.specs.private.laws.PlacedGrow.{placed_go_on}

-- combined copies of more copies come behind those of the first
combined-on : (limit : ℕ) (families : List Family) (xs ys : List HeardCopy)
    → GoesOnAs (combined_copies_holding limit families xs)
    (combined_copies_holding limit families (xs ++ ys))
unfolding combined_copies_holding
combined-on limit families [] ys = record {
  rest =
      combined_copies_holding limit families ys;
  whole = refl;
}
combined-on limit families (x ∷ xs) ys =
    goes_on_behind (if_selected x) (combined_copies_holding limit
    (families_after_holding limit families x) xs) _
    (combined-on limit (families_after_holding limit families x) xs ys)
  where
    if_selected : HeardCopy → List CombinedCopy
    if_selected heard =
        cond heard.copy.selected (combined_copy_holding limit families heard ∷ []) []

-- and what is printed of more combined copies
printed-on : (entries : List MemoryEntry) (before xs ys : List CombinedCopy)
    → GoesOnAs (printed_combined entries before xs) (printed_combined entries before (xs ++ ys))
unfolding printed_combined
printed-on entries before [] ys =
    record { rest = printed_combined entries before ys; whole = refl }
printed-on entries before (x ∷ xs) ys =
    goes_on_behind (if_printed_combined entries before x) _ _
    (printed-on (entries ++ entry_made_combined entries before x)
    (if_printed_combined entries before x ++ before) xs ys)

map-on : {X Y : Type 0} (f : X → Y) (xs ys : List X) → GoesOnAs xs ys
    → GoesOnAs (map f xs) (map f ys)
map-on f xs ys g =
    record { rest = map f g.rest; whole = ap (map f) g.whole ∙ map-append f xs g.rest }

abbrev PlacedIn : ℕ → PlacedCopy → Type 0
PlacedIn high copy = IsCopyIn 0 high copy.found

-- what is in force at a copy is so whatever comes later
heard-more : (first : Setting) (xs ys : List Event) (copies : List PlacedCopy)
    → All (PlacedIn (length (elements_among xs))) copies
    → heard_copies first (xs ++ ys) copies ≡ heard_copies first xs copies
unfolding heard_copies
heard-more first xs ys [] all = refl
heard-more first xs ys (c ∷ cs) all =
    let here = All-head (PlacedIn (length (elements_among xs))) c cs all in
    let rest = heard-more first xs ys cs
    (All-tail (PlacedIn (length (elements_among xs))) c cs all) in
    ap (λ s. heard_by s c ∷ heard_copies first (xs ++ ys) cs)
    (setting_at-more first xs ys c.found.place here.1)
    ∙ ap (λ hs. heard_by (setting_at first xs c.found.place) c ∷ hs) rest
  where
    heard_by : Setting → PlacedCopy → HeardCopy
    heard_by setting copy = record { copy = tag setting copy.found; positions = copy.positions }

heard-append : (first : Setting) (xs : List Event) (before later : List PlacedCopy)
    → heard_copies first xs (before ++ later)
    ≡ heard_copies first xs before ++ heard_copies first xs later
unfolding heard_copies
heard-append first xs before later = map-append _ before later

-- more copies, found behind others, add to what is printed
printed_of-on : (limit : ℕ) (start : Start) (xs ys : List Event) (before later : List PlacedCopy)
    → GoesOnAs before later → All (PlacedIn (length (elements_among xs))) before
    → GoesOnAs (printed_of_placed_holding limit start xs before)
    (printed_of_placed_holding limit start (xs ++ ys) later)
printed_of-on limit start xs ys before later g all =
    let first = first_setting start in
    let heard = heard_copies first xs before in
    let more = heard_copies first (xs ++ ys) g.rest in
    let parts : heard_copies first (xs ++ ys) later ≡ heard ++ more =
    ap (heard_copies first (xs ++ ys)) g.whole
    ∙ heard-append first (xs ++ ys) before g.rest
    ∙ ap (λ hs. hs ++ more) (heard-more first xs ys before all) in
    let combined = combined-on limit [] heard more in
    let printed : GoesOnAs (printed_combined start.entries []
    (combined_copies_holding limit [] heard))
    (printed_combined start.entries [] (combined_copies_holding limit [] (heard ++ more))) =
    rw combined.whole (printed-on start.entries []
    (combined_copies_holding limit [] heard) combined.rest) in
    map-on (λ (one : CombinedCopy). one.copy) _ _ (rw parts printed)

-- so each stands at one of the bits
are_placed : (high : ℕ) (copies : List PlacedCopy) → All (IsCopyIn 0 high) (found_of copies)
    → All (PlacedIn high) copies
are_placed high [] all = All-nil (PlacedIn high)
are_placed high (c ∷ cs) all =
    All-cons (PlacedIn high) c cs (All-head (IsCopyIn 0 high) c.found (found_of cs) all)
    (are_placed high cs (All-tail (IsCopyIn 0 high) c.found (found_of cs) all))

ended_in_bits : (bits : List Bool) (locks : List Lock) (now : Now) → IsNow bits locks now
    → All (PlacedIn (length bits)) (ended_placed bits locks now)
ended_in_bits bits locks now is =
    are_placed (length bits) (ended_placed bits locks now)
    (subst (λ (xs : List FoundCopy). All (IsCopyIn 0 (length bits)) xs)
    (sym (found-ended bits locks now)) (logged.ended_placed bits locks now is))

-- what the end adds
standing-on : (bits : List Bool) (now : Now)
    → GoesOnAs (standing_placed ended_copies bits now) (standing_placed copies bits now)
standing-on bits (hunting p) = record { rest = []; whole = refl }
standing-on bits (locked p t) =
    let n = whole_words bits t in
    let bytes = lock_bytes bits t n in
    map-on _ (ended_copies bytes) (copies bytes) (record {
      rest = map (closed_copy bytes) (open_headers bytes);
      whole = copies_parts bytes;
    })

end_adds : (bits : List Bool) (locks : List Lock) (now : Now)
    → GoesOnAs (ended_placed bits locks now) (placed_to_end bits locks now)
unfolding ended_placed placed_to_end
end_adds bits locks now = goes_on_behind (past_placed bits locks) _ _ (standing-on bits now)

-- more events change nothing that was printed
stays : (limit : ℕ) (start : Start) (xs ys : List Event) (log later : List TaggedCopy)
    → HasPrintedHolding limit start xs log → HasPrintedHolding limit start (xs ++ ys) later
    → (rest : List TaggedCopy) × (later ≡ log ++ rest)
stays limit start xs ys log later h j =
    let now : IsNow (elements_among xs ++ elements_among ys) j.locks j.now =
    subst (λ (bits : List Bool). IsNow bits j.locks j.now) (bits_of-append xs ys) j.stands in
    let found : GoesOnAs (ended_placed (elements_among xs) h.locks h.now)
    (ended_placed (elements_among (xs ++ ys)) j.locks j.now) =
    subst (λ (bits : List Bool). GoesOnAs (ended_placed (elements_among xs) h.locks h.now)
    (ended_placed bits j.locks j.now)) (sym (bits_of-append xs ys))
    (placed_go_on (elements_among xs) (elements_among ys) h.locks j.locks h.now j.now h.stands
    now) in
    let on = printed_of-on limit start xs ys _ _ found
    (ended_in_bits (elements_among xs) h.locks h.now h.stands) in
    (on.rest, j.printed ∙ on.whole ∙ ap (λ l. l ++ on.rest) (sym h.printed))

stays-to_end : (limit : ℕ) (start : Start) (events : List Event) (log whole : List TaggedCopy)
    → HasPrintedHolding limit start events log → PrintsHoldingToEnd limit start events whole
    → (rest : List TaggedCopy) × (whole ≡ log ++ rest)
stays-to_end limit start events log whole h j =
    let bits = elements_among events in
    let one : ended_placed bits h.locks h.now ≡ ended_placed bits j.locks j.now =
    one_told (ended_placed bits) bits h.locks j.locks h.now j.now h.stands j.stands in
    let on = printed_of-on limit start events [] (ended_placed bits j.locks j.now)
    (placed_to_end bits j.locks j.now) (end_adds bits j.locks j.now)
    (ended_in_bits bits j.locks j.now j.stands) in
    let same : events ++ [] ≡ events = append-nil events in (
      on.rest,
      j.printed
          ∙ ap (λ all. printed_of_placed_holding limit start all (placed_to_end bits j.locks j.now))
          (sym same)
          ∙ on.whole ∙ ap (λ l. l ++ on.rest)
          (sym (h.printed ∙ ap (printed_of_placed_holding limit start events) one)),
    )

-- there is one log
one-printed : (limit : ℕ) (start : Start) (events : List Event) (log other : List TaggedCopy)
    → HasPrintedHolding limit start events log → HasPrintedHolding limit start events other → log
    ≡ other
one-printed limit start events log other h j =
    let bits = elements_among events in
    h.printed ∙ ap (printed_of_placed_holding limit start events)
    (one_told (ended_placed bits) bits h.locks j.locks h.now j.now h.stands j.stands)
    ∙ sym j.printed

one-to_end : (limit : ℕ) (start : Start) (events : List Event) (log other : List TaggedCopy)
    → PrintsHoldingToEnd limit start events log → PrintsHoldingToEnd limit start events other → log
    ≡ other
one-to_end limit start events log other h j =
    let bits = elements_among events in
    h.printed ∙ ap (printed_of_placed_holding limit start events)
    (one_told (placed_to_end bits) bits h.locks j.locks h.now j.now h.stands j.stands)
    ∙ sym j.printed

some-printed : (limit : ℕ) (start : Start) (events : List Event)
    → (log : List TaggedCopy) × HasPrintedHolding limit start events log
some-printed limit start events =
    let s = standing_after (elements_among events) in (
      printed_of_placed_holding limit start events
          (ended_placed (elements_among events) s.locks s.now),
      record { locks = s.locks; now = s.now; stands = s.stands; printed = refl },
    )

some-to_end : (limit : ℕ) (start : Start) (events : List Event)
    → (log : List TaggedCopy) × PrintsHoldingToEnd limit start events log
some-to_end limit start events =
    let s = standing_after (elements_among events) in (
      printed_of_placed_holding limit start events
          (placed_to_end (elements_among events) s.locks s.now),
      record { locks = s.locks; now = s.now; stands = s.stands; printed = refl },
    )

-- no event prints nothing
none-placed : (copies : List PlacedCopy) → All (PlacedIn 0) copies → copies ≡ []
none-placed [] all = refl
none-placed (c ∷ cs) all =
    let here = All-head (PlacedIn 0) c cs all in
    absurd (omega (arith, here.1))

no-events : (limit : ℕ) (start : Start) → HasPrintedHolding limit start [] []
unfolding elements_among heard_copies combined_copies_holding printed_combined
no-events limit start =
    let log = some-printed limit start [] in
    let h = log.1 in
    let none : ended_placed [] h.locks h.now ≡ [] =
    none-placed _ (ended_in_bits [] h.locks h.now h.stands) in
    record {
      locks = h.locks;
      now = h.now;
      stands = h.stands;
      printed = sym (ap (printed_of_placed_holding limit start []) none);
    }

-- events without elements bring no copy to an end
no-elements : (limit : ℕ) (start : Start) (xs ys : List Event) (log : List TaggedCopy)
    → HasPrintedHolding limit start xs log → elements_among ys ≡ []
    → HasPrintedHolding limit start (xs ++ ys) log
no-elements limit start xs ys log h none =
    let bits = elements_among xs in
    let copies = ended_placed bits h.locks h.now in
    let same : elements_among (xs ++ ys) ≡ bits =
    bits_of-append xs ys ∙ ap (λ more. bits ++ more) none ∙ append-nil bits in
    record {
      locks = h.locks;
      now = h.now;
      stands = subst (λ (all : List Bool). IsNow all h.locks h.now) (sym same) h.stands;
      printed = h.printed
          ∙ ap (λ heard. map (λ (one : CombinedCopy). one.copy)
          (printed_combined start.entries [] (combined_copies_holding limit [] heard)))
          (sym (heard-more (first_setting start) xs ys copies
          (ended_in_bits bits h.locks h.now h.stands)))
          ∙ ap (λ (all : List Bool).
          printed_of_placed_holding limit start (xs ++ ys) (ended_placed all h.locks h.now))
          (sym same);
    }

-- a combined copy has the moment of the copy that joined last
combined-moment : (positions : List Reception) (copy : TaggedCopy)
    → (together_of positions copy).moment ≡ copy.moment
unfolding given_by
combined-moment positions copy = go (is_better copy (given_by positions copy))
  where
    go : (b : Bool) → (cond b copy (given_by positions copy)).moment ≡ copy.moment
    go true = refl
    go false = refl

joined-moment : (heard : HeardCopy) (number : ℕ) (o : Option Family)
    → (option_map_or (λ family. together number (joined_by heard family) heard) o
    (alone None heard)).copy.moment ≡ heard.copy.moment
joined-moment heard number None = refl
joined-moment heard number (Some family) =
    combined-moment (joined_by heard family).positions heard.copy

chosen-moment : (families : List Family) (heard : HeardCopy) (o : Option ℕ)
    → (option_map_or (combined_at families heard) o
    (alone (Some (length families)) heard)).copy.moment ≡ heard.copy.moment
chosen-moment families heard None = refl
chosen-moment families heard (Some index) =
    joined-moment heard (length families - 1 - index) (slice_get families index)

copy-moment : (limit : ℕ) (families : List Family) (heard : HeardCopy)
    → (combined_copy_holding limit families heard).copy.moment ≡ heard.copy.moment
unfolding combined_copy_holding
copy-moment limit families heard = go (has_family heard)
  where
    go : (b : Bool) → (cond b (option_map_or (combined_at families heard)
        (index_joined_holding limit families heard) (alone (Some (length families)) heard))
        (alone None heard)).copy.moment ≡ heard.copy.moment
    go true = chosen-moment families heard (index_joined_holding limit families heard)
    go false = refl

abbrev IsHeardUpTo : ℕ → HeardCopy → Type 0
IsHeardUpTo last heard = IsCopyUpTo last heard.copy

abbrev IsCombinedUpTo : ℕ → CombinedCopy → Type 0
IsCombinedUpTo last one = IsCopyUpTo last one.copy

heard-up_to : (last : ℕ) (first : Setting) (events : List Event) (copies : List PlacedCopy)
    → IsSetUpTo last first → All (IsSetUpTo last) (settings first events)
    → All (IsHeardUpTo last) (heard_copies first events copies)
unfolding heard_copies tag
heard-up_to last first events [] h k = All-nil (IsHeardUpTo last)
heard-up_to last first events (copy ∷ copies) h k =
    All-cons (IsHeardUpTo last) _ _ (at-up_to last (settings first events) first copy.found.place
    h k)
    (heard-up_to last first events copies h k)

one-up_to : (last : ℕ) (shown : Bool) (one : CombinedCopy) → IsCombinedUpTo last one
    → All (IsCombinedUpTo last) (cond shown (one ∷ []) [])
one-up_to last true one h = All-cons (IsCombinedUpTo last) one [] h (All-nil (IsCombinedUpTo last))
one-up_to last false one h = All-nil (IsCombinedUpTo last)

copies-up_to : (limit : ℕ) (last : ℕ) (families : List Family) (copies : List HeardCopy)
    → All (IsHeardUpTo last) copies → All (IsCombinedUpTo last)
    (combined_copies_holding limit families copies)
unfolding combined_copies_holding
copies-up_to limit last families [] h = All-nil (IsCombinedUpTo last)
copies-up_to limit last families (heard ∷ copies) h =
    All-append (IsCombinedUpTo last) _ (combined_copies_holding limit
    (families_after_holding limit families heard) copies)
    (one-up_to last heard.copy.selected (combined_copy_holding limit families heard)
    (subst (λ n. n ≤ last) (sym (copy-moment limit families heard))
    (All-head (IsHeardUpTo last) heard copies h)))
    (copies-up_to limit last (families_after_holding limit families heard) copies
    (All-tail (IsHeardUpTo last) heard copies h))

printed-up_to : (last : ℕ) (entries : List MemoryEntry) (before copies : List CombinedCopy)
    → All (IsCombinedUpTo last) copies
    → All (IsCombinedUpTo last) (printed_combined entries before copies)
unfolding printed_combined if_printed_combined
printed-up_to last entries before [] h = All-nil (IsCombinedUpTo last)
printed-up_to last entries before (one ∷ copies) h =
    All-append (IsCombinedUpTo last) _ (printed_combined
    (entries ++ entry_made_combined entries before one)
    (if_printed_combined entries before one ++ before) copies)
    (one-up_to last (is_printed_combined entries before one) one
    (All-head (IsCombinedUpTo last) one copies h))
    (printed-up_to last (entries ++ entry_made_combined entries before one)
    (if_printed_combined entries before one ++ before) copies
    (All-tail (IsCombinedUpTo last) one copies h))

-- no moment of what is printed is past all that were given
up_to : (limit : ℕ) (start : Start) (events : List Event) (log : List TaggedCopy) (last : ℕ)
    → start.moment ≤ last → All (IsUpTo last) events → PrintsHoldingToEnd limit start events log
    → All (λ (copy : TaggedCopy). copy.moment ≤ last) log
up_to limit start events log last h k p =
    let first = first_setting start in
    subst (λ (l : List TaggedCopy). All (IsCopyUpTo last) l) (sym p.printed)
    (All-map (IsCopyUpTo last) (λ (one : CombinedCopy). one.copy) _
    (printed-up_to last start.entries [] _
    (copies-up_to limit last [] _
    (heard-up_to last first events _ h (settings-up_to last first events h k)))))

pub holding-laws : (limit : ℕ) → IsPrinting (combined_holding limit)
holding-laws limit = record {
  some = some-printed limit;
  one = one-printed limit;
  some_to_end = some-to_end limit;
  one_to_end = one-to_end limit;
  none = no-events limit;
  no_elements = no-elements limit;
  stays = stays limit;
  stays_to_end = stays-to_end limit;
  up_to = up_to limit;
}

-- so where 200 are held
pub combined-laws : IsPrinting combined
combined-laws = holding-laws most_families
