-- The entries of a chain of watches stand in the order of their moments.
use Rattle.std.proofs.Common.{◌≡◌, ℕ, zero, suc, ◌+◌, ◌-◌, ◌<◌, ◌≤◌, true, false, cond, List, [], ◌∷◌, ◌++◌}
use Rattle.std.proofs.Common.{length, get_or, take, drop, refl, sym, ap, ◌∙◌, subst, arith, append-nil, append_assoc}
use Rattle.std.specs.List.Sorted.{IsNonDecreasingBy}
use Rattle.std.proofs.lemmas.List.{length-drop, take-append-drop}
use Rattle.nx_code.specs.Lists.{last_of}
use Rattle.nx_fec.specs.declared.air_files.channel.Channel.{Channel}
use Rattle.nx_log.specs.Logged.{memory_entries, remembered_on}
use Rattle.nx_memory.specs.Content.{IsContent}
use Rattle.nx_memory.specs.Memory.{most_entries, newest_moment}
use Rattle.nx_memory.specs.declared.memories.entry.MemoryEntry.{MemoryEntry}
use Rattle.nx_memory.proofs.lemmas.Content.{newest_behind}
use Rattle.nx_copies.specs.copies.FoundCopies.{TaggedCopy}
use Rattle.nx_copies.specs.copies.Printing.{entries_made, entry_made, entry_of, is_entered}
use Rattle.nx_copies.specs.copies.Shares.{MarkedCopy}
use Rattle.nx_left_on.specs.Chain.{ClocksAreNear, GoesOn, IsChain, Watch, all_put, copies_in}
use Rattle.nx_left_on.specs.Shortened.{AreInOrder}
use Rattle.nx_left_on.proofs.lemmas.chains.Chains.{content-next, enters-on, entries_on, low, near-now}
use Rattle.nx_left_on.proofs.lemmas.chains.Chains.{watch-climbs}
use Rattle.nx_left_on.proofs.lemmas.entries.Climbing.{Climbs}
use Rattle.nx_left_on.proofs.lemmas.entries.Staying.{newest-append}
use Rattle.nx_left_on.proofs.lemmas.shortened.Choosing.{all-behind, moment_of, sorted-behind}

-- no entry has a moment before this one, or before that of one in front of it
abbrev RiseFrom : ℕ → List MemoryEntry → Type 0
RiseFrom m [] = Unit {0}
RiseFrom m (entry ∷ entries) = (m ≤ entry.moment) × RiseFrom entry.moment entries

lower : (m n : ℕ) (entries : List MemoryEntry) → m ≤ n → RiseFrom n entries → RiseFrom m entries
lower m n [] le rise = tt
lower m n (entry ∷ entries) le rise = (omega (arith, le, rise.0), rise.1)

-- ---- what is made of copies

made-rise : (m : ℕ) (entries : List MemoryEntry) (copies : List TaggedCopy) → Climbs m copies
    → RiseFrom m (entries_made entries copies)
unfolding entries_made entry_made
made-rise m entries [] climbs = tt
made-rise m entries (copy ∷ copies) climbs =
    let rest = made-rise copy.moment (entries ++ entry_made entries copy) copies climbs.1 in
    elim (is_entered entries copy) as (λ b. RiseFrom m (cond b (entry_of copy ∷ [])
    [] ++ entries_made (entries ++ entry_made entries copy) copies)) [
      | true ↦ (climbs.0, rest)
      | false ↦ lower m copy.moment
          (entries_made (entries ++ entry_made entries copy) copies) climbs.0 rest
    ]

-- ---- one list behind another

newest-high : (m : ℕ) (entry : MemoryEntry) (entries : List MemoryEntry)
    → RiseFrom m (entry ∷ entries) → m ≤ newest_moment (entry ∷ entries)
newest-high m entry [] rise = rise.0
newest-high m entry (next ∷ entries) rise =
    let rest = newest-high entry.moment next entries rise.1 in
    let same = newest_behind entry next entries in
    omega (arith, rise.0, rest, same)

rise-behind : (low high : ℕ) (front back : List MemoryEntry) → low ≤ high
    → newest_moment front ≤ high → RiseFrom low front → RiseFrom high back
    → RiseFrom low (front ++ back)
rise-behind low high [] back le newest rise behind = lower low high back le behind
rise-behind low high (entry ∷ []) back le newest rise behind =
    (rise.0, lower entry.moment high back newest behind)
rise-behind low high (entry ∷ next ∷ front) back le newest rise behind =
    let same = newest_behind entry next front in
    let near = newest-high entry.moment next front rise.1 in (
      rise.0,
      rise-behind entry.moment high (next ∷ front) back (omega (arith, near, same, newest))
          (omega (arith, same, newest)) rise.1 behind,
    )

-- the newest of the last ones is the newest of all
newest-last : (entries : List MemoryEntry)
    → newest_moment (last_of most_entries entries) ≡ newest_moment entries
newest-last [] = refl
newest-last (entry ∷ entries) =
    let all = entry ∷ entries in
    let n = length all - most_entries in
    of (take n all) (drop n all) (take-append-drop n all)
    (omega (arith, length-drop n all))
  where
    of : (front back : List MemoryEntry) → front ++ back ≡ entry ∷ entries → 0 < length back
        → newest_moment back ≡ newest_moment (entry ∷ entries)
    of front [] e some = absurd (omega arith)
    of front (x ∷ back) e some = sym (newest-append front back x) ∙ ap newest_moment e

-- ---- rising is being in order

high-behind : (m : ℕ) (entries : List MemoryEntry) (place : ℕ) (d : MemoryEntry)
    → RiseFrom m entries → place < length entries → m ≤ (get_or entries place d).moment
high-behind m [] place d rise lt = absurd (omega arith)
high-behind m (entry ∷ entries) zero d rise lt = rise.0
high-behind m (entry ∷ entries) (suc place) d rise lt =
    omega (arith, rise.0, high-behind entry.moment entries place d rise.1 (omega arith))

rise-sorted : (m : ℕ) (entries : List MemoryEntry) → RiseFrom m entries
    → IsNonDecreasingBy moment_of entries
rise-sorted m [] rise i j d le lt = absurd (omega arith)
rise-sorted m (entry ∷ entries) rise zero zero d le lt = omega arith
rise-sorted m (entry ∷ entries) rise zero (suc j) d le lt =
    high-behind entry.moment entries j d rise.1 (omega arith)
rise-sorted m (entry ∷ entries) rise (suc i) zero d le lt = absurd (omega arith)
rise-sorted m (entry ∷ entries) rise (suc i) (suc j) d le lt =
    rise-sorted entry.moment entries rise.1 i j d (omega arith) (omega arith)

sorted-from : (entry : MemoryEntry) (entries : List MemoryEntry)
    → IsNonDecreasingBy moment_of (entry ∷ entries) → RiseFrom entry.moment entries
sorted-from entry [] sorted = tt
sorted-from entry (next ∷ entries) sorted = (
  all-behind entry (next ∷ entries) sorted 0 next (omega arith),
  sorted-from next entries (sorted-behind entry (next ∷ entries) sorted),
)

sorted-rise : (entries : List MemoryEntry) → IsNonDecreasingBy moment_of entries
    → RiseFrom 0 entries
sorted-rise [] sorted = tt
sorted-rise (entry ∷ entries) sorted = (omega arith, sorted-from entry entries sorted)

-- ---- a chain

rise-next : (channel : Channel) (log : List MarkedCopy) (watch : Watch) (goes : GoesOn log watch)
    → IsContent (remembered_on channel log)
    → newest_moment (remembered_on channel log) < watch.moment + 237600
    → RiseFrom 0 (entries_on channel log) → RiseFrom 0 (entries_on channel (log ++ watch.put))
rise-next channel log watch goes content near rise =
    let entries = entries_on channel log in
    let copies = copies_in channel watch in
    let early = low channel log watch goes content near in
    let none : 0 ≤ watch.starts.moment = omega arith in
    subst (RiseFrom 0) (sym (enters-on channel log watch goes content near))
    (rise-behind 0 watch.starts.moment entries (entries_made entries copies) none
    (omega (arith, early, newest-last entries)) rise
    (made-rise watch.starts.moment entries copies (watch-climbs channel log watch goes)))

chain-rise : (channel : Channel) (log : List MarkedCopy) (watches : List Watch)
    → IsContent (remembered_on channel log) → IsChain log watches
    → ClocksAreNear channel log watches → RiseFrom 0 (entries_on channel log)
    → RiseFrom 0 (entries_on channel (log ++ all_put watches))
chain-rise channel log [] content chain near rise =
    subst (λ those. RiseFrom 0 (entries_on channel those)) (sym (append-nil log)) rise
chain-rise channel log (watch ∷ watches) content chain near rise =
    let now = near-now channel log watch watches near in
    subst (λ those. RiseFrom 0 (entries_on channel those))
    (append_assoc log watch.put (all_put watches))
    (chain-rise channel (log ++ watch.put) watches
    (content-next channel log watch chain.0 content now) chain.1 near.1
    (rise-next channel log watch chain.0 content now rise))

pub chain-order : (log : List MarkedCopy) (watches : List Watch)
    → ((channel : Channel) → IsContent (remembered_on channel log)) → AreInOrder log
    → IsChain log watches → ((channel : Channel) → ClocksAreNear channel log watches)
    → AreInOrder (log ++ all_put watches)
chain-order log watches content order chain near channel =
    rise-sorted 0 (entries_on channel (log ++ all_put watches))
    (chain-rise channel log watches (content channel) chain (near channel)
    (sorted-rise (entries_on channel log) (order channel)))

pub empty-order : AreInOrder []
unfolding memory_entries
empty-order channel i j d le lt = absurd (omega arith)
