-- Good, printed and entered: which copies are printed, and which of them the memory keeps. The
-- number 00, which is printed each time, and the share of 4 per cent are of ITU-R M.540; all else
-- is this profile's.
use Rattle.std.specs.Prelude.{ℕ, ◌*◌, ◌==◌, nat_lt, max, Bool, true, false, not, ◌&&◌, ◌||◌}
use Rattle.std.specs.Prelude.{if◌then◌else◌, List, [], ◌∷◌, ◌++◌, length, filter}
use Rattle.nx_code.specs.Lists.{last_of}
use Rattle.nx_envelope.specs.Copies.{errors_of}
use Rattle.nx_envelope.specs.declared.found.How.{How}
use Rattle.nx_envelope.specs.declared.found.How.TheVariants.{Full}
use Rattle.nx_envelope.specs.declared.identity.Identity.{Identity}
use Rattle.nx_envelope.specs.Identity.{same_identity}
use Rattle.nx_memory.specs.declared.memories.entry.MemoryEntry.{MemoryEntry}
use Rattle.nx_memory.specs.Memory.{is_known, most_entries}
use Rattle.nx_copies.specs.copies.FoundCopies.{TaggedCopy}

abbrev pub is_full : How → Bool
is_full Full = true
is_full _ = false

-- a share is good where this many times the part is less than the whole
abbrev pub good_share : ℕ
good_share = 25

-- The part is less than 4 per cent of the whole, the share that ITU-R M.540 names. An empty whole
-- counts as one.
abbrev pub is_good_share : ℕ → ℕ → Bool
is_good_share part whole = nat_lt (good_share * part) (max 1 whole)

-- A copy is good where it is full and fewer than 4 per cent of its characters are errors.
abbrev pub is_good : TaggedCopy → Bool
is_good copy = is_full copy.how && is_good_share (errors_of copy.text) (length copy.text)

-- the one copy has fewer errors than the other
abbrev pub has_fewer_errors : TaggedCopy → TaggedCopy → Bool
has_fewer_errors one other = nat_lt (errors_of one.text) (errors_of other.text)

-- One copy is better than another where it is full and the other isn't; or where both are full, or
-- neither is, and it has fewer errors.
abbrev pub is_better : TaggedCopy → TaggedCopy → Bool
is_better one other =
    if is_full other.how then is_full one.how && has_fewer_errors one other
    else is_full one.how || has_fewer_errors one other

-- the copy is numbered 00
abbrev pub is_number_00 : TaggedCopy → Bool
is_number_00 copy = copy.identity.number == 0

-- an entry of its identity is live, of all these: it is less than 66 hours old, and among the last
-- 200
abbrev pub is_remembered : List MemoryEntry → TaggedCopy → Bool
is_remembered entries copy = is_known copy.identity copy.moment (last_of most_entries entries)

-- A copy is printed, after these entries, where it is selected, and is numbered 00 or no entry of
-- its identity is live.
unfoldable pub is_printed : List MemoryEntry → TaggedCopy → Bool
is_printed entries copy = copy.selected && (is_number_00 copy || not (is_remembered entries copy))

-- It is entered where it is printed, good and not numbered 00.
unfoldable pub is_entered : List MemoryEntry → TaggedCopy → Bool
is_entered entries copy = is_printed entries copy && is_good copy && not (is_number_00 copy)

-- the entry that it makes: its identity, with its moment
abbrev pub entry_of : TaggedCopy → MemoryEntry
entry_of copy = record { identity = copy.identity; moment = copy.moment }

-- the entry that is made of a copy after these entries, if one is
unfoldable pub entry_made : List MemoryEntry → TaggedCopy → List MemoryEntry
entry_made entries copy = if is_entered entries copy then entry_of copy ∷ [] else []

-- the entries that are made of copies, in order, after these entries
unfoldable pub entries_made : List MemoryEntry → List TaggedCopy → List MemoryEntry
entries_made entries [] = []
entries_made entries (copy ∷ copies) =
    entry_made entries copy ++ entries_made (entries ++ entry_made entries copy) copies

-- all entries after copies
abbrev pub entries_after : List MemoryEntry → List TaggedCopy → List MemoryEntry
entries_after entries copies = entries ++ entries_made entries copies

-- the copy, if it is printed after these entries
unfoldable pub if_printed : List MemoryEntry → TaggedCopy → List TaggedCopy
if_printed entries copy = if is_printed entries copy then copy ∷ [] else []

-- the copies that are printed, in order, after these entries
unfoldable pub printed_copies : List MemoryEntry → List TaggedCopy → List TaggedCopy
printed_copies entries [] = []
printed_copies entries (copy ∷ copies) =
    if_printed entries copy ++ printed_copies (entries ++ entry_made entries copy) copies

-- the copies that bear the identity, in order
unfoldable pub copies_of : Identity → List TaggedCopy → List TaggedCopy
copies_of identity copies = filter (λ copy. same_identity copy.identity identity) copies
