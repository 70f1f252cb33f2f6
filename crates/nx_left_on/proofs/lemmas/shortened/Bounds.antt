-- A log that was shortened to none of its entries, and one that is out of order.
use Rattle.std.proofs.Common.{◌≡◌, inl, inr, ℕ, ◌≤◌, List, [], ◌∷◌, ◌++◌, Some, refl, sym, ap, ◌∙◌}
use Rattle.std.proofs.Common.{lit≤, arith}
use Rattle.std.specs.List.{All}
use Rattle.std.proofs.lemmas.List.Elements.{All-cons, All-head, All-nil}
use Rattle.nx_envelope.specs.declared.found.How.TheVariants.{Full}
use Rattle.nx_fec.specs.air_files.AirFile.{moment}
use Rattle.nx_fec.specs.declared.air_files.channel.Channel.{Channel}
use Rattle.nx_fec.specs.declared.air_files.channel.Channel.TheVariants.{One, Two, Zero}
use Rattle.nx_log.specs.Logged.{is_memorable, memory_entries, remembered_on}
use Rattle.nx_log.specs.Query.{admits, chosen}
use Rattle.nx_memory.specs.Memory.{newest_moment}
use Rattle.nx_memory.specs.declared.memories.entry.MemoryEntry.{MemoryEntry}
use Rattle.nx_copies.specs.copies.Printing.{entry_of, if_printed, is_printed, printed_copies}
use Rattle.nx_promises.specs.examples.Repeats.{eb02, first_copy, heard_at}
use Rattle.nx_station.specs.reception.PathExample.{ea01}
use Rattle.nx_watch.specs.Watch.{moments_at, starts_at}
use Rattle.nx_left_on.specs.Bounds.{asks_since, newer_entry}
use Rattle.nx_left_on.specs.Chain.{acting_at}
use Rattle.nx_left_on.specs.Example.{first_moment, one_entry}
use Rattle.nx_left_on.specs.Shortened.{HearsFrom, IsOldAt, LeavesOutOld}
use Rattle.nx_left_on.proofs.lemmas.Example.{one-remembered}
use Rattle.nx_left_on.proofs.lemmas.chains.Chains.{none-remembered}
use Rattle.nx_left_on.proofs.lemmas.entries.Staying.{newest-append}
use Rattle.nx_left_on.proofs.lemmas.shortened.Acting.{late-head}
use Rattle.nx_left_on.proofs.lemmas.shortened.Choosing.{leaves-out}
use Rattle.nx_left_on.proofs.lemmas.shortened.Starting.{AreBehindOld}

-- ---- one entry

others-left : (channel : Channel) → AreBehindOld 1735929600 (remembered_on channel one_entry)
    (remembered_on channel [])
unfolding memory_entries is_memorable
others-left Zero = record {
  front = entry_of first_copy ∷ [];
  split = refl;
  old = All-cons (IsOldAt 1735929600) (entry_of first_copy) [] (lit≤ tt)
      (All-nil (IsOldAt 1735929600));
}
others-left One = record { front = []; split = refl; old = All-nil (IsOldAt 1735929600) }
others-left Two = record { front = []; split = refl; old = All-nil (IsOldAt 1735929600) }

pub old-out : LeavesOutOld 1735929600 one_entry []
old-out = leaves-out 1735929600 one_entry [] others-left

pub young-stays : LeavesOutOld 1735929599 one_entry [] → ⊥
young-stays h = of (h.left_out Zero) (sym (h.split Zero) ∙ one-remembered) (h.old Zero)
  where
    of : (front : List MemoryEntry)
        → front ++ remembered_on Zero [] ≡ entry_of first_copy ∷ []
        → All (IsOldAt 1735929599) front → ⊥
    of [] e old =
        none (sym (none-remembered Zero) ∙ e)
      where
        none : [] ≡ entry_of first_copy ∷ [] → ⊥
        none e = cc
    of (entry ∷ front) e old =
        let head : entry ≡ entry_of first_copy = cc in
        let late = All-head (IsOldAt 1735929599) entry front old in
        omega (arith, late, ap (λ (it : MemoryEntry). it.moment) head)

pub kept-out : printed_copies (remembered_on Zero one_entry)
    (heard_at 1735929599 ea01 Full [] ∷ []) ≡ []
unfolding printed_copies if_printed is_printed memory_entries is_memorable
kept-out = refl

pub let-in : printed_copies (remembered_on Zero []) (heard_at 1735929599 ea01 Full [] ∷ [])
    ≡ heard_at 1735929599 ea01 Full [] ∷ []
unfolding printed_copies if_printed is_printed memory_entries is_memorable
let-in = refl

-- ---- what its watch hears

newest-is : (starts_at 1735929600 one_entry).moment ≡ first_moment
unfolding memory_entries is_memorable
newest-is = refl

pub heard : HearsFrom 1735929600 (moments_at 1735929600 (starts_at 1735929600 one_entry))
    (Some (moment 1735929600) ∷ [])
unfolding memory_entries is_memorable
heard =
    inr (
      lit≤ tt,
      All-cons (λ (n : ℕ). 1735929600 ≤ n) 1735929600 [] (lit≤ tt)
          (All-nil (λ (n : ℕ). 1735929600 ≤ n)),
    )

pub not-heard : HearsFrom 1735929600 (moments_at 1735929600 (starts_at 1735929600 one_entry))
    (Some (moment 1735929599) ∷ []) → ⊥
not-heard (inl near) = omega (arith, near, newest-is)
not-heard (inr late) = omega (arith, late-head 1735929600 1735929599 [] late.1)

pub idle : acting_at 1735929600 one_entry (Some (moment 5) ∷ []) ≡ []
unfolding memory_entries is_memorable
idle = refl

pub acts : acting_at 1735929600 [] (Some (moment 5) ∷ []) ≡ moment 5 ∷ []
unfolding memory_entries is_memorable
acts = refl

-- ---- out of order

pub chosen-is : chosen (asks_since 1735929600) (newer_entry ++ one_entry) ≡ newer_entry
unfolding admits
chosen-is = refl

newest-whole : newest_moment (remembered_on Zero (newer_entry ++ one_entry)) ≡ first_moment
unfolding memory_entries is_memorable
newest-whole = refl

newer-is : (entry : MemoryEntry) × (remembered_on Zero newer_entry ≡ entry ∷ [])
    × (entry.moment ≡ 1735929600)
unfolding memory_entries is_memorable
newer-is = (record { identity = eb02; moment = 1735929600 }, refl, refl)

pub not-old : (now : ℕ) → LeavesOutOld now (newer_entry ++ one_entry) newer_entry → ⊥
not-old now h =
    let n = newer-is in
    let last : newest_moment (remembered_on Zero (newer_entry ++ one_entry)) ≡ n.0.moment =
    ap newest_moment (h.split Zero ∙ ap (λ es. h.left_out Zero ++ es) n.1)
    ∙ newest-append (h.left_out Zero) [] n.0 in
    omega (arith, newest-whole, last, n.2)

pub whole-starts : (starts_at 1735929600 (newer_entry ++ one_entry)).entries Zero
    ≡ remembered_on Zero one_entry
unfolding memory_entries is_memorable
whole-starts = refl

pub shorter-starts : (starts_at 1735929600 newer_entry).entries Zero
    ≡ remembered_on Zero newer_entry
unfolding memory_entries is_memorable
shorter-starts = refl
