-- What is remembered of a log while it is read.
use Rattle.std.proofs.Common.{◌≡◌, ℕ, ◌<◌, Bool, true, false, cond, List, [], ◌∷◌, ◌++◌, drop}
use Rattle.std.proofs.Common.{map, Option, Some, None, refl, sym, ◌∙◌, ap, ap₂, subst, arith, append_assoc, append-nil}
use Rattle.std.proofs.Common.{not, take, take-append-drop, ◌==◌}
use Rattle.std.specs.Prelude.{filter}
use Rattle.std.specs.List.{AllZip}
use Rattle.std.proofs.lemmas.Bool.{and_parts}
use Rattle.std.proofs.lemmas.Bool.Decides.{nat_tests}
use Rattle.nx_code.specs.Lists.{last_of}
use Rattle.nx_fec.specs.air_files.Channels.{same_channel}
use Rattle.nx_fec.specs.declared.air_files.channel.Channel.{Channel}
use Rattle.nx_kept.specs.Taker.{Took}
use Rattle.nx_log.specs.Logged.{IsLoggedAs, is_memorable, memory_entries, remembered_on}
use Rattle.nx_log.specs.View.{IsViewOf, copy_said}
use Rattle.nx_log.specs.declared.entries.entry.EntryView.{EntryView}
use Rattle.nx_log.proofs.lemmas.reading.Entries.{one_entry}
use Rattle.nx_memory.specs.Memory.{most_entries}
use Rattle.nx_memory.specs.declared.memories.entry.MemoryEntry.{MemoryEntry}
use Rattle.nx_copies.specs.copies.FoundCopies.{TaggedCopy}
use Rattle.nx_copies.specs.copies.Printing.{entry_of, is_good, is_number_00}
use Rattle.nx_copies.specs.copies.Shares.{MarkedCopy, copies_on}
use Rattle.nx_watch.specs.private.Remembering.{RemembersBehind, RemembersMore, entry_found, memory_on}
use Rattle.nx_watch.specs.declared.kept_log.log_memory.LogMemory.{LogMemory}

-- ---- the last of a list

-- ---- what a copy makes a memory remember

-- what one copy keeps on a channel
pub kept-one : (channel : Channel) (one : MarkedCopy)
    → memory_entries (copies_on channel (one ∷ []))
    ≡ cond (same_channel one.channel channel)
    (cond (is_memorable one.copy) (entry_of one.copy ∷ []) []) []
unfolding memory_entries
kept-one channel one =
    elim (same_channel one.channel channel) as (λ b.
    map entry_of (filter is_memorable (map (λ (m : MarkedCopy). m.copy) (cond b (one ∷ []) [])))
    ≡ cond b (cond (is_memorable one.copy) (entry_of one.copy ∷ []) []) []) [
      | true ↦ elim (is_memorable one.copy) as (λ k.
          map entry_of (cond k (one.copy ∷ []) []) ≡ cond k (entry_of one.copy ∷ []) []) [
            | true ↦ refl
            | false ↦ refl
          ]
      | false ↦ refl
    ]

-- and what is kept of it and of those behind it
pub kept-both : (channel : Channel) (one : MarkedCopy) (rest : List MarkedCopy)
    → memory_entries (copies_on channel (one ∷ [])) ++ memory_entries (copies_on channel rest)
    ≡ memory_entries (copies_on channel (one ∷ rest))
unfolding memory_entries
kept-both channel one rest =
    let behind = map (λ (m : MarkedCopy). m.copy)
    (filter (λ (m : MarkedCopy). same_channel m.channel channel) rest) in
    elim (same_channel one.channel channel) as (λ b.
    map entry_of (filter is_memorable (map (λ (m : MarkedCopy). m.copy) (cond b (one ∷ []) [])))
    ++ map entry_of (filter is_memorable behind)
    ≡ map entry_of (filter is_memorable (map (λ (m : MarkedCopy). m.copy)
    (cond b (one ∷ filter (λ (m : MarkedCopy). same_channel m.channel channel) rest)
    (filter (λ (m : MarkedCopy). same_channel m.channel channel) rest))))) [
      | true ↦ elim (is_memorable one.copy) as (λ k.
          map entry_of (cond k (one.copy ∷ []) []) ++ map entry_of (filter is_memorable behind)
          ≡ map entry_of (cond k (one.copy ∷ filter is_memorable behind)
          (filter is_memorable behind))) [
            | true ↦ refl
            | false ↦ refl
          ]
      | false ↦ refl
    ]

abbrev found-pair : Channel → MemoryEntry → Option (Channel × MemoryEntry)
found-pair channel entry = Some (channel, entry)

pair-of : (a b : Channel × MemoryEntry) → Some a ≡ Some b → a ≡ b
pair-of a b is = cc

either-none : (b : Bool) (l : List MemoryEntry) → l ≡ [] → cond b l [] ≡ []
either-none true l is = is
either-none false l is = refl

-- nothing, or an entry of a channel, is remembered of a copy
pub found-none : (channel : Channel) (one : MarkedCopy) → None ≡ entry_found one
    → memory_entries (copies_on channel (one ∷ [])) ≡ []
found-none channel one is = kept-one channel one ∙ none-kept (is_memorable one.copy) is
  where
    none-kept : (k : Bool) → None ≡ cond k (found-pair one.channel (entry_of one.copy)) None
        → cond (same_channel one.channel channel) (cond k (entry_of one.copy ∷ []) []) [] ≡ []
    none-kept true is = cc
    none-kept false is = either-none (same_channel one.channel channel) [] refl

pub found-some : (channel on : Channel) (entry : MemoryEntry) (one : MarkedCopy)
    → found-pair channel entry ≡ entry_found one
    → memory_entries (copies_on on (one ∷ [])) ≡ cond (same_channel channel on) (entry ∷ []) []
found-some channel on entry one is = kept-one on one ∙ some-kept (is_memorable one.copy) is
  where
    some-kept : (k : Bool)
        → found-pair channel entry ≡ cond k (found-pair one.channel (entry_of one.copy)) None
        → cond (same_channel one.channel on) (cond k (entry_of one.copy ∷ []) []) []
        ≡ cond (same_channel channel on) (entry ∷ []) []
    some-kept true is =
        let both = pair-of (channel, entry) (one.channel, entry_of one.copy) is in
        ap₂ (λ x y. cond (same_channel x on) (y ∷ []) []) (sym (ap (λ p. p.0) both))
        (sym (ap (λ p. p.1) both))
    some-kept false is = cc

-- ---- over a whole log

pub took-remembers : (old new : LogMemory) (entries : List MarkedCopy) (texts : List (List ℕ))
    → AllZip IsLoggedAs entries texts → Took RemembersMore old texts new
    → RemembersBehind old new entries
unfolding memory_entries
took-remembers old new [] [] each same channel all is =
    ap (λ (m : LogMemory). memory_on m channel) same ∙ is
    ∙ ap (last_of most_entries) (sym (append-nil all))
took-remembers old new [] (text ∷ texts) each took channel all is = absurd each
took-remembers old new (one ∷ entries) [] each took channel all is = absurd each
took-remembers old new (one ∷ entries) (text ∷ texts) each took channel all is =
    let mid = took.0 in
    let first = took.1 one each.0 channel all is in
    took-remembers mid new entries texts each.1 took.2 channel
    (all ++ memory_entries (copies_on channel (one ∷ []))) first
    ∙ ap (last_of most_entries)
    (append_assoc all (memory_entries (copies_on channel (one ∷ [])))
    (memory_entries (copies_on channel entries))
    ∙ ap (λ l. all ++ l) (kept-both channel one entries))

pub took-all : (old new : LogMemory) (entries : List MarkedCopy) (texts : List (List ℕ))
    → ((channel : Channel) → memory_on old channel ≡ [])
    → AllZip IsLoggedAs entries texts → Took RemembersMore old texts new
    → (channel : Channel) → memory_on new channel ≡ remembered_on channel entries
took-all old new entries texts none each took channel =
    took-remembers old new entries texts each took channel [] (none channel)

-- ---- the entry that is found in bytes

-- what is seen of bytes that are a logged entry is that entry
one-seen : (one : MarkedCopy) (bytes : List ℕ) (view : EntryView) → IsLoggedAs one bytes
    → IsViewOf bytes view → one ≡ copy_said view.head view.text.now
one-seen one bytes view logged seen =
    sym (one_entry (copy_said view.head view.text.now) one (take view.len bytes) bytes
    (drop view.len bytes) [] seen.entry logged
    (take-append-drop view.len bytes ∙ sym (append-nil bytes))).entry

of-none : (k : Bool) (channel : Channel) (entry : MemoryEntry) → None ≡ cond k (Some entry) None
    → None ≡ cond k (found-pair channel entry) None
of-none true channel entry is = cc
of-none false channel entry is = refl

of-some : (k : Bool) (channel : Channel) (entry other : MemoryEntry)
    → Some other ≡ cond k (Some entry) None
    → found-pair channel other ≡ cond k (found-pair channel entry) None
of-some true channel entry other is =
    let same : other ≡ entry = cc in ap (found-pair channel) same
of-some false channel entry other is = cc

pub seen-none : (one : MarkedCopy) (bytes : List ℕ) (view : EntryView) → IsLoggedAs one bytes
    → IsViewOf bytes view
    → None ≡ cond (is_memorable (copy_said view.head view.text.now).copy)
    (Some (entry_of (copy_said view.head view.text.now).copy)) None
    → None ≡ entry_found one
seen-none one bytes view logged seen is =
    let said = copy_said view.head view.text.now in
    of-none (is_memorable said.copy) said.channel (entry_of said.copy) is
    ∙ ap entry_found (sym (one-seen one bytes view logged seen))

pub seen-some : (one : MarkedCopy) (bytes : List ℕ) (view : EntryView) (entry : MemoryEntry)
    → IsLoggedAs one bytes → IsViewOf bytes view
    → Some entry ≡ cond (is_memorable (copy_said view.head view.text.now).copy)
    (Some (entry_of (copy_said view.head view.text.now).copy)) None
    → found-pair view.head.channel entry ≡ entry_found one
seen-some one bytes view entry logged seen is =
    let said = copy_said view.head view.text.now in
    of-some (is_memorable said.copy) said.channel (entry_of said.copy) entry is
    ∙ ap entry_found (sym (one-seen one bytes view logged seen))

-- what is kept is numbered
pub kept-numbered : (copy : TaggedCopy) (entry : MemoryEntry)
    → Some entry ≡ cond (is_memorable copy) (Some (entry_of copy)) None → 0 < entry.identity.number
unfolding is_memorable
kept-numbered copy entry is = by (is_memorable copy) refl is
  where
    by : (k : Bool) → is_memorable copy ≡ k → Some entry ≡ cond k (Some (entry_of copy)) None
        → 0 < entry.identity.number
    by true e is =
        let same : entry ≡ entry_of copy = cc in
        let parts = and_parts (is_good copy) (not (is_number_00 copy)) e in
        subst (λ (x : MemoryEntry). 0 < x.identity.number) (sym same)
        (not-zero copy.identity.number parts.1)
      where
        not-zero : (n : ℕ) → not (n == 0) ≡ true → 0 < n
        not-zero n h = grind (arith, nat_tests)
    by false e is = cc
