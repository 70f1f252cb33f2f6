-- What a log remembers is what the memory of its run entered.
use Rattle.std.proofs.Common.{◌≡◌, ℕ, ◌+◌, ◌-◌, true, false, not, ◌&&◌, List, [], ◌∷◌, ◌++◌, length, drop, map, suc, inl, inr, append-nil, refl, ap, sym, ◌∙◌, arith, cond}
use Rattle.std.specs.Prelude.{filter, if◌then◌else◌}
use Rattle.std.proofs.lemmas.List.{length-append, length-drop}
use Rattle.nx_code.specs.Lists.{last_of}
use Rattle.nx_memory.specs.declared.memories.entry.MemoryEntry.{MemoryEntry}
use Rattle.nx_copies.specs.copies.FoundCopies.{TaggedCopy}
use Rattle.nx_copies.specs.copies.Printing.{entries_made, entry_made, entry_of, if_printed, is_entered, is_good, is_number_00, is_printed, printed_copies}
use Rattle.std.proofs.lemmas.Bool.{cases_lt}
use Rattle.nx_fec.specs.declared.air_files.channel.Channel.{Channel}
use Rattle.nx_memory.specs.Memory.{most_entries}
use Rattle.nx_memory.specs.Saved.{SavedStates}
use Rattle.nx_receiver.specs.air_file_runs.Chain.{GoesOn, Run, copies_in, events_in, start_in}
use Rattle.nx_copies.specs.Events.{first_setting}
use Rattle.nx_copies.specs.copies.FoundCopies.{FoundCopy, tagged_copies}
use Rattle.nx_copies.specs.copies.Printing.{entries_after}
use Rattle.nx_copies.specs.copies.Shares.{Starts, copies_on, saved_of}
use Rattle.nx_receiver.proofs.lemmas.chain.Runs.{chain_prints, found_same}
use Rattle.nx_log.specs.Logged.{is_memorable, memory_entries, remembered_on}

-- what is made of one copy is what is kept of it, if it is printed
one_made : (entries : List MemoryEntry) (copy : TaggedCopy) (rest : List TaggedCopy)
    → entry_made entries copy ++ memory_entries rest
    ≡ memory_entries (if_printed entries copy ++ rest)
unfolding entry_made is_entered if_printed memory_entries is_memorable
one_made entries copy rest =
    elim (is_printed entries copy) as (λ p.
    (if (p && is_good copy && not (is_number_00 copy)) then entry_of copy ∷ [] else [])
    ++ map entry_of (filter is_memorable rest)
    ≡ map entry_of (filter is_memorable ((if p then copy ∷ [] else []) ++ rest))) [
      | true ↦ elim (is_good copy && not (is_number_00 copy)) as (λ k.
          (if k then entry_of copy ∷ [] else []) ++ map entry_of (filter is_memorable rest)
          ≡ map entry_of (cond k (copy ∷ filter is_memorable rest) (filter is_memorable rest))) [
            | true ↦ refl
            | false ↦ refl
          ]
      | false ↦ refl
    ]

pub made_is_kept : (entries : List MemoryEntry) (copies : List TaggedCopy)
    → entries_made entries copies ≡ memory_entries (printed_copies entries copies)
unfolding entries_made printed_copies memory_entries
made_is_kept entries [] = refl
made_is_kept entries (copy ∷ copies) =
    ap (λ l. entry_made entries copy ++ l)
    (made_is_kept (entries ++ entry_made entries copy) copies)
    ∙ one_made entries copy (printed_copies (entries ++ entry_made entries copy) copies)

-- what is dropped of a list that is longer than its first part
drop_past : (xs ys : List MemoryEntry) (k : ℕ) → drop (length xs + k) (xs ++ ys) ≡ drop k ys
drop_past [] ys k = let e : 0 + k ≡ k = omega arith in ap (λ n. drop n ys) e
drop_past (x ∷ xs) ys k =
    let e : length (x ∷ xs) + k ≡ suc (length xs + k) = omega arith in
    rw e (drop_past xs ys k)

-- the last of entries and of the last of more
pub last_of_last : (n : ℕ) (xs ys : List MemoryEntry)
    → last_of n (xs ++ ys) ≡ last_of n (xs ++ last_of n ys)
last_of_last n xs ys =
    let zs = last_of n ys in
    let both = length-append xs ys in
    let fewer = length-drop (length ys - n) ys in
    let both_last = length-append xs zs in
    elim (cases_lt (length ys) n) [
      | inl less ↦
          let none : length ys - n ≡ 0 = omega arith in
          ap (λ k. last_of n (xs ++ drop k ys)) (sym none)
      | inr more ↦
          let left : length (xs ++ ys) - n ≡ length xs + (length ys - n) = omega arith in
          let right : length (xs ++ zs) - n ≡ length xs + 0 = omega arith in
          ap (λ k. drop k (xs ++ ys)) left ∙ drop_past xs ys (length ys - n)
          ∙ sym (ap (λ k. drop k (xs ++ zs)) right ∙ drop_past xs zs 0)
    ]

-- what a run leaves of a channel: the last of what it started with, and what its log remembers
pub log_remembers : (saved left : SavedStates) (run : Run) (channel : Channel)
    → GoesOn saved run left
    → (saved_of left channel).entries
    ≡ last_of most_entries ((saved_of saved channel).entries ++ remembered_on channel run.printed)
log_remembers saved left run channel g =
    let begun = (saved_of saved channel).entries in
    let l = g.leaves channel in
    let start = start_in channel run in
    let events = events_in channel run in
    let tagged = λ (found : List FoundCopy). tagged_copies (first_setting start) events found in
    let printed : copies_on channel (run.printed ++ [])
    ≡ printed_copies begun (copies_in channel run ++ []) =
    chain_prints channel begun saved (run ∷ []) left refl (left, g, refl) in
    let logged : copies_on channel run.printed ≡ printed_copies begun (copies_in channel run) =
    ap (copies_on channel) (sym (append-nil run.printed)) ∙ printed
    ∙ ap (printed_copies begun) (append-nil (copies_in channel run)) in
    l.entries
    ∙ ap (λ found. last_of most_entries (entries_after start.entries (tagged found)))
    (found_same events l.copies (run.found channel) l.found (g.found channel))
    ∙ ap (λ (s : Starts). last_of most_entries
    (entries_after (s.entries channel) (copies_in channel run))) g.begins
    ∙ ap (λ made. last_of most_entries (begun ++ made))
    (made_is_kept begun (copies_in channel run) ∙ ap memory_entries (sym logged))
    ∙ last_of_last most_entries begun (memory_entries (copies_on channel run.printed))
