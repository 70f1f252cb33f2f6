-- What becomes of a copy, case by case.
use Rattle.std.proofs.Common.{Bool, ◌≡◌, ℕ, ◌+◌, ◌-◌, ◌≤◌, true, false, not, ◌&&◌, ◌||◌, cond, List}
use Rattle.std.proofs.Common.{[], ◌∷◌, ◌++◌, length, drop, slice_get, Some, refl, sym, ap, ◌∙◌}
use Rattle.std.proofs.Common.{arith, append-nil}
use Rattle.std.proofs.lemmas.Bool.{and_right, and_from, or_from, or_right}
use Rattle.std.proofs.lemmas.Bool.{not_from_true, not_from_false}
use Rattle.std.specs.Option.{option_map}
use Rattle.std.proofs.lemmas.List.{drop-append-le, length-append}
use Rattle.std.proofs.lemmas.Grind.{common_steps}
use Rattle.nx_envelope.specs.declared.identity.Identity.{Identity}
use Rattle.nx_memory.specs.declared.memories.entry.MemoryEntry.{MemoryEntry}
use Rattle.nx_code.specs.Lists.{last_of}
use Rattle.nx_memory.specs.Memory.{most_entries, is_known, content_after, newest_of, newest_moment}
use Rattle.nx_copies.specs.copies.Printing.{is_printed, is_entered, is_good, is_number_00, is_remembered}
use Rattle.nx_copies.specs.copies.Printing.{entry_of, entry_made}
use Rattle.nx_copies.specs.copies.FoundCopies.{TaggedCopy}

-- what a memory forgot makes no difference
goes_on : (entries : List MemoryEntry) (entry : MemoryEntry)
    → last_of most_entries (last_of most_entries entries ++ entry ∷ [])
    ≡ last_of most_entries (entries ++ entry ∷ [])
goes_on entries entry = grind (arith, common_steps)

pub remembered : (entries : List MemoryEntry) (copy : TaggedCopy) → is_number_00 copy ≡ false
    → is_remembered entries copy ≡ true → is_printed entries copy ≡ false
unfolding is_printed
remembered entries copy n k =
    and_right copy.selected _ (or_from (is_number_00 copy) _ n (not_from_true _ k))

pub unknown : (entries : List MemoryEntry) (copy : TaggedCopy) → copy.selected ≡ true
    → is_remembered entries copy ≡ false → is_printed entries copy ≡ true
unfolding is_printed
unknown entries copy h k =
    and_from copy.selected _ h (or_right (is_number_00 copy) _ (not_from_false _ k))

-- a good copy that is printed, and not numbered 00, is entered
pub entered : (entries : List MemoryEntry) (copy : TaggedCopy) → is_printed entries copy ≡ true
    → is_good copy ≡ true → is_number_00 copy ≡ false → entry_made entries copy ≡ entry_of copy ∷ []
unfolding entry_made is_entered
entered entries copy p g n =
    ap (λ b. cond b (entry_of copy ∷ []) []) (and_from _ _ (and_from _ _ p g) (not_from_false _ n))

-- where nothing is entered the content stays the last 200 of all
pub content_stays : (entries made content : List MemoryEntry)
    → content ≡ last_of most_entries entries → made ≡ []
    → content ≡ last_of most_entries (entries ++ made)
content_stays entries made content h e =
    h ∙ ap (last_of most_entries) (sym (append-nil entries))
    ∙ ap (λ m. last_of most_entries (entries ++ m)) (sym e)

-- and where one is, it becomes the last 200 of all and that
pub content_grows : (entries made content new : List MemoryEntry) (entry : MemoryEntry)
    → content ≡ last_of most_entries entries
    → new ≡ content_after content entry.identity entry.moment → made ≡ entry ∷ []
    → new ≡ last_of most_entries (entries ++ made)
content_grows entries made content new entry h n e =
    n ∙ ap (λ c. last_of most_entries (c ++ entry ∷ [])) h ∙ goes_on entries entry
    ∙ ap (λ m. last_of most_entries (entries ++ m)) (sym e)

-- the element that was added last
at_seam : {A : Type 0} (xs : List A) (x : A) → slice_get (xs ++ x ∷ []) (length xs) ≡ Some x
at_seam [] x = refl
at_seam (y ∷ ys) x = at_seam ys x

-- the entry made last is the newest
pub newest_is_last : (content new : List MemoryEntry) (identity : Identity) (moment : ℕ)
    → new ≡ content_after content identity moment → newest_moment new ≤ moment
newest_is_last content new identity moment h =
    let entry : MemoryEntry = record { identity = identity; moment = moment } in
    let n : ℕ = length (content ++ entry ∷ []) - most_entries in
    let lengths : length (content ++ entry ∷ []) ≡ length content + 1 =
    length-append content (entry ∷ []) in
    let kept : new ≡ drop n content ++ entry ∷ [] =
    h ∙ drop-append-le n content (entry ∷ []) (omega arith) in
    let last : length (drop n content ++ entry ∷ []) - 1 ≡ length (drop n content) =
    ap (λ k. k - 1) (length-append (drop n content) (entry ∷ [])) ∙ omega arith in
    let newest : newest_of new ≡ Some moment =
    ap newest_of kept ∙ ap (λ k. option_map (λ (e : MemoryEntry). e.moment)
    (slice_get (drop n content ++ entry ∷ []) k)) last
    ∙ ap (option_map (λ (e : MemoryEntry). e.moment)) (at_seam (drop n content) entry) in
    rw newest (omega arith)

-- whether a copy is entered that is printed so
pub made_where : (entries : List MemoryEntry) (copy : TaggedCopy) (is_made : Bool)
    → is_made ≡ (is_printed entries copy && is_good copy && not (is_number_00 copy))
    → entry_made entries copy ≡ cond is_made (entry_of copy ∷ []) []
unfolding entry_made is_entered
made_where entries copy is_made h = ap (λ b. cond b (entry_of copy ∷ []) []) (sym h)

-- what is printed by the content of a memory is what is printed by all entries
pub printed_as : (entries content : List MemoryEntry) (copy : TaggedCopy) (shown : Bool)
    → content ≡ last_of most_entries entries
    → shown ≡ (copy.selected && (is_number_00 copy
    || not (is_known copy.identity copy.moment content))) → shown ≡ is_printed entries copy
unfolding is_printed
printed_as entries content copy shown h e =
    e ∙ ap (λ es. copy.selected
    && (is_number_00 copy || not (is_known copy.identity copy.moment es))) h

pub made_false : (entries : List MemoryEntry) (copy : TaggedCopy) (shown is_made : Bool)
    → shown ≡ is_printed entries copy → is_made ≡ (shown && is_good copy && not (is_number_00 copy))
    → is_made ≡ false → entry_made entries copy ≡ []
made_false entries copy shown is_made s e h =
    made_where entries copy is_made (e ∙ ap (λ b. b && is_good copy && not (is_number_00 copy)) s)
    ∙ ap (λ b. cond b (entry_of copy ∷ []) []) h
