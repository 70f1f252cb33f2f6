-- Lists of entries that agree in their last 200 print, enter and end alike.
use Rattle.std.proofs.Common.{◌≡◌, ◌-◌, ◌≤◌, not, ◌&&◌, ◌||◌, cond, List, [], ◌∷◌, ◌++◌, length}
use Rattle.std.proofs.Common.{drop, refl, sym, ap, ◌∙◌, arith, append_assoc, append-nil}
use Rattle.std.proofs.lemmas.List.{length-drop}
use Rattle.nx_code.specs.Lists.{last_of}
use Rattle.nx_memory.specs.Memory.{content_after, is_known, most_entries}
use Rattle.nx_memory.specs.declared.memories.entry.MemoryEntry.{MemoryEntry}
use Rattle.nx_receiver.specs.air_file_runs.Chain.{AgreeInLast}
use Rattle.nx_copies.specs.copies.Printing.{entries_after, entries_made, entry_made, entry_of}
use Rattle.nx_copies.specs.copies.Printing.{if_printed, is_entered, is_good, is_number_00, is_printed}
use Rattle.nx_copies.specs.copies.Printing.{printed_copies}
use Rattle.nx_copies.specs.copies.FoundCopies.{TaggedCopy}
use Rattle.nx_copies.proofs.lemmas.printing.Judging.{content_grows}

-- ---- one copy

same_printed : (one other : List MemoryEntry) (copy : TaggedCopy) → AgreeInLast one other
    → is_printed one copy ≡ is_printed other copy
unfolding is_printed
same_printed one other copy e =
    ap (λ es. copy.selected && (is_number_00 copy || not (is_known copy.identity copy.moment es))) e

same_made : (one other : List MemoryEntry) (copy : TaggedCopy) → AgreeInLast one other
    → entry_made one copy ≡ entry_made other copy
unfolding entry_made is_entered
same_made one other copy e =
    ap (λ b. cond (b && is_good copy && not (is_number_00 copy)) (entry_of copy ∷ []) [])
    (same_printed one other copy e)

-- ---- the lists go on

-- the last 200 of all and one more, by the last 200 of all
grows : (entries : List MemoryEntry) (x : MemoryEntry)
    → content_after (last_of most_entries entries) x.identity x.moment
    ≡ last_of most_entries (entries ++ x ∷ [])
grows entries x = content_grows entries (x ∷ []) (last_of most_entries entries)
    (content_after (last_of most_entries entries) x.identity x.moment) x refl refl refl

pub agree_with : (one other more : List MemoryEntry) → AgreeInLast one other
    → AgreeInLast (one ++ more) (other ++ more)
agree_with one other [] e =
    ap (last_of most_entries) (append-nil one) ∙ e
    ∙ ap (last_of most_entries) (sym (append-nil other))
agree_with one other (x ∷ more) e =
    let next : AgreeInLast (one ++ x ∷ []) (other ++ x ∷ []) =
    sym (grows one x) ∙ ap (λ es. content_after es x.identity x.moment) e ∙ grows other x in
    ap (last_of most_entries) (sym (append_assoc one (x ∷ []) more))
    ∙ agree_with (one ++ x ∷ []) (other ++ x ∷ []) more next
    ∙ ap (last_of most_entries) (append_assoc other (x ∷ []) more)

-- ---- all copies

pub same_log : (one other : List MemoryEntry) (copies : List TaggedCopy) → AgreeInLast one other
    → printed_copies one copies ≡ printed_copies other copies
unfolding printed_copies if_printed
same_log one other [] e = refl
same_log one other (c ∷ copies) e =
    let made = same_made one other c e in
    ap (λ b. cond b (c ∷ []) [] ++ printed_copies (one ++ entry_made one c) copies)
    (same_printed one other c e)
    ∙ ap (λ m. cond (is_printed other c) (c ∷ []) [] ++ printed_copies (one ++ m) copies) made
    ∙ ap (λ ps. cond (is_printed other c) (c ∷ []) [] ++ ps)
    (same_log (one ++ entry_made other c) (other ++ entry_made other c) copies
    (agree_with one other (entry_made other c) e))

pub same_entries : (one other : List MemoryEntry) (copies : List TaggedCopy) → AgreeInLast one other
    → entries_made one copies ≡ entries_made other copies
unfolding entries_made
same_entries one other [] e = refl
same_entries one other (c ∷ copies) e =
    let made = same_made one other c e in
    ap (λ m. m ++ entries_made (one ++ m) copies) made
    ∙ ap (λ es. entry_made other c ++ es)
    (same_entries (one ++ entry_made other c) (other ++ entry_made other c) copies
    (agree_with one other (entry_made other c) e))

pub same_end : (one other : List MemoryEntry) (copies : List TaggedCopy) → AgreeInLast one other
    → AgreeInLast (entries_after one copies) (entries_after other copies)
same_end one other copies e =
    ap (λ m. last_of most_entries (one ++ m)) (same_entries one other copies e)
    ∙ agree_with one other (entries_made other copies) e

-- ---- what falls out of a memory makes no difference

pub all_of_few : (entries : List MemoryEntry) → length entries ≤ most_entries
    → last_of most_entries entries ≡ entries
all_of_few entries h = ap (λ n. drop n entries)
    (let e : length entries - most_entries ≡ 0 = omega arith in e)

pub few_of_last : (entries : List MemoryEntry)
    → length (last_of most_entries entries) ≤ most_entries
few_of_last entries = omega (arith, length-drop (length entries - most_entries) entries)

pub last_agrees : (entries : List MemoryEntry) → AgreeInLast entries (last_of most_entries entries)
last_agrees entries = sym (all_of_few (last_of most_entries entries) (few_of_last entries))
