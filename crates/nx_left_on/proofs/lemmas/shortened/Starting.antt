-- With what a watch starts over a log that was shortened.
use Rattle.std.proofs.Common.{◌≡◌, ◌⊎◌, inl, inr, ℕ, ◌+◌, ◌≤◌, max, Bool, true, false, cond, List, []}
use Rattle.std.proofs.Common.{◌∷◌, ◌++◌, refl, sym, ap, ap₂, ◌∙◌, subst, arith, append_assoc}
use Rattle.std.specs.Prelude.{Option, Some, None, filter, unwrap_or}
use Rattle.std.specs.List.{All}
use Rattle.std.proofs.lemmas.Bool.{cases_lt}
use Rattle.std.proofs.lemmas.List.Elements.{All-append, All-cons, All-filter, All-head, All-nil}
use Rattle.std.proofs.lemmas.List.Elements.{All-tail, filter-append}
use Rattle.nx_fec.specs.declared.air_files.channel.Channel.{Channel}
use Rattle.nx_fec.specs.declared.air_files.channel.Channel.TheVariants.{Zero, One, Two}
use Rattle.nx_log.specs.Logged.{remembered_on}
use Rattle.nx_memory.specs.Memory.{newest_moment, newest_of, seconds_known}
use Rattle.nx_memory.specs.Saved.{SavedStates, later_of, newest_of_all}
use Rattle.nx_memory.specs.declared.memories.entry.MemoryEntry.{MemoryEntry}
use Rattle.nx_memory.proofs.lemmas.Content.{newest_behind}
use Rattle.nx_copies.specs.copies.Shares.{MarkedCopy}
use Rattle.nx_memory.specs.Content.{is_last_known, passing}
use Rattle.nx_watch.specs.Start.{is_in_order, is_near, remembered_at}
use Rattle.nx_watch.specs.Watch.{all_saved_at, starts_at}
use Rattle.nx_left_on.specs.Shortened.{IsOldAt, LeavesOutOld}
use Rattle.nx_left_on.proofs.lemmas.chains.Chains.{known-is}
use Rattle.nx_left_on.proofs.lemmas.entries.Staying.{newest-append}

-- the one list is old entries, and then the other
pub record AreBehindOld (moment : ℕ) (all kept : List MemoryEntry) : Type 0 where
  pub front : List MemoryEntry
  pub split : all ≡ front ++ kept
  pub old : All (IsOldAt moment) front

module _ (moment : ℕ) where
  filter-behind : (test : MemoryEntry → Bool) (all kept : List MemoryEntry)
      → AreBehindOld moment all kept → AreBehindOld moment (filter test all) (filter test kept)
  filter-behind test all kept h = record {
    front = filter test h.front;
    split = ap (filter test) h.split ∙ filter-append test h.front kept;
    old = All-filter test (IsOldAt moment) h.front h.old;
  }

  one-passes : (b : Bool) (entry : MemoryEntry) → IsOldAt moment entry
      → All (IsOldAt moment) (cond b (entry ∷ []) [])
  one-passes true entry old =
      All-cons (IsOldAt moment) entry [] old (All-nil (IsOldAt moment))
  one-passes false entry old = All-nil (IsOldAt moment)

  front-passes : (test : MemoryEntry → List MemoryEntry → Bool) (front kept : List MemoryEntry)
      → All (IsOldAt moment) front
      → AreBehindOld moment (passing test (front ++ kept)) (passing test kept)
  front-passes test [] kept old =
      record { front = []; split = refl; old = All-nil (IsOldAt moment) }
  front-passes test (entry ∷ front) kept old =
      let rest = front-passes test front kept (All-tail (IsOldAt moment) entry front old) in
      let head = cond (test entry (front ++ kept)) (entry ∷ []) [] in
      record {
        front = head ++ rest.front;
        split = ap (λ l. head ++ l) rest.split
            ∙ sym (append_assoc head rest.front (passing test kept));
        old = All-append (IsOldAt moment) head rest.front
            (one-passes (test entry (front ++ kept)) entry
            (All-head (IsOldAt moment) entry front old)) rest.old;
      }

  passing-behind : (test : MemoryEntry → List MemoryEntry → Bool) (all kept : List MemoryEntry)
      → AreBehindOld moment all kept → AreBehindOld moment (passing test all) (passing test kept)
  passing-behind test all kept h =
      subst (λ those. AreBehindOld moment (passing test those) (passing test kept)) (sym h.split)
      (front-passes test h.front kept h.old)

  remembered-behind : (now : ℕ) (all kept : List MemoryEntry) → AreBehindOld moment all kept
      → AreBehindOld moment (remembered_at now all) (remembered_at now kept)
  remembered-behind now all kept h =
      passing-behind is_last_known (passing is_in_order (filter (is_near now) all))
      (passing is_in_order (filter (is_near now) kept))
      (passing-behind is_in_order (filter (is_near now) all) (filter (is_near now) kept)
      (filter-behind (is_near now) all kept h))

  -- ---- the newest moment

  -- it is the same, or it is old
  abbrev pub Agrees : ℕ → ℕ → Type 0
  Agrees one other = (other ≡ one) ⊎ ((other ≤ one) × (one + seconds_known ≤ moment))

  newest-old : (entry : MemoryEntry) (behind : List MemoryEntry)
      → All (IsOldAt moment) (entry ∷ behind)
      → newest_moment (entry ∷ behind) + seconds_known ≤ moment
  newest-old entry [] old = All-head (IsOldAt moment) entry [] old
  newest-old entry (next ∷ behind) old =
      let rest = newest-old next behind (All-tail (IsOldAt moment) entry (next ∷ behind) old) in
      subst (λ (n : ℕ). n + seconds_known ≤ moment) (sym (newest_behind entry next behind)) rest

  newest-behind : (all kept : List MemoryEntry) → AreBehindOld moment all kept
      → Agrees (newest_moment all) (newest_moment kept)
  newest-behind all (entry ∷ kept) h =
      inl (sym (ap newest_moment h.split ∙ newest-append h.front kept entry))
  newest-behind all [] h = none h.front h.split h.old
    where
      none : (front : List MemoryEntry) → all ≡ front ++ [] → All (IsOldAt moment) front
          → Agrees (newest_moment all) (newest_moment [])
      none [] split old = inl (sym (ap newest_moment split))
      none (entry ∷ front) split old =
          let is : newest_moment all ≡ newest_moment (entry ∷ (front ++ [])) =
          ap newest_moment split in
          let late = newest-old entry (front ++ [])
          (All-append (IsOldAt moment) (entry ∷ front) [] old (All-nil (IsOldAt moment))) in
          inr (omega arith, omega (arith, is, late))

  agrees-max : (a b c d : ℕ) → Agrees a c → Agrees b d → Agrees (max a b) (max c d)
  agrees-max a b c d (inl one) (inl other) = inl (ap₂ max one other)
  agrees-max a b c d (inl one) (inr other) = elim (cases_lt a b) [
    | inl lt ↦ inr (omega (arith, one, other.0), omega (arith, other.1))
    | inr le ↦ inl (omega (arith, one, other.0))
  ]
  agrees-max a b c d (inr one) (inl other) = elim (cases_lt b a) [
    | inl lt ↦ inr (omega (arith, one.0, other), omega (arith, one.1))
    | inr le ↦ inl (omega (arith, one.0, other))
  ]
  agrees-max a b c d (inr one) (inr other) =
      inr (omega (arith, one.0, other.0), omega (arith, one.1, other.1))

later-max : (one other : Option ℕ)
    → unwrap_or (later_of one other) 0 ≡ max (unwrap_or one 0) (unwrap_or other 0)
later-max None other = omega arith
later-max (Some m) None = omega arith
later-max (Some m) (Some n) = refl

newest-max : (saved : SavedStates) → unwrap_or (newest_of_all saved) 0
    ≡ max (newest_moment saved.on_0.entries)
    (max (newest_moment saved.on_1.entries) (newest_moment saved.on_2.entries))
newest-max saved =
    let two = newest_of saved.on_1.entries in
    let three = newest_of saved.on_2.entries in
    later-max (newest_of saved.on_0.entries) (later_of two three)
    ∙ ap (λ (n : ℕ). max (newest_moment saved.on_0.entries) n) (later-max two three)

-- ---- a start

module _ (moment now : ℕ) (whole shorter : List MarkedCopy)
    (h : LeavesOutOld moment whole shorter) where
  remembers-on : (channel : Channel)
      → AreBehindOld moment (remembered_at now (remembered_on channel whole))
      (remembered_at now (remembered_on channel shorter))
  remembers-on channel =
      remembered-behind moment now (remembered_on channel whole) (remembered_on channel shorter)
      (record { front = h.left_out channel; split = h.split channel; old = h.old channel })

  pub entries-behind : (channel : Channel)
      → AreBehindOld moment ((starts_at now whole).entries channel)
      ((starts_at now shorter).entries channel)
  entries-behind channel =
      subst (λ es. AreBehindOld moment es ((starts_at now shorter).entries channel))
      (sym (known-is now whole channel))
      (subst (AreBehindOld moment (remembered_at now (remembered_on channel whole)))
      (sym (known-is now shorter channel)) (remembers-on channel))

  pub moments-agree : Agrees moment (starts_at now whole).moment (starts_at now shorter).moment
  moments-agree =
      let newest-on : (channel : Channel)
      → Agrees moment (newest_moment (remembered_at now (remembered_on channel whole)))
      (newest_moment (remembered_at now (remembered_on channel shorter))) =
      λ channel. newest-behind moment (remembered_at now (remembered_on channel whole))
      (remembered_at now (remembered_on channel shorter)) (remembers-on channel) in
      let n : Channel → List MarkedCopy → ℕ =
      λ channel log. newest_moment (remembered_at now (remembered_on channel log)) in
      subst (λ (a : ℕ). Agrees moment a (starts_at now shorter).moment)
      (sym (newest-max (all_saved_at now whole)))
      (subst (λ (b : ℕ). Agrees moment (max (n Zero whole) (max (n One whole) (n Two whole))) b)
      (sym (newest-max (all_saved_at now shorter)))
      (agrees-max moment (n Zero whole) (max (n One whole) (n Two whole)) (n Zero shorter)
      (max (n One shorter) (n Two shorter)) (newest-on Zero)
      (agrees-max moment (n One whole) (n Two whole) (n One shorter) (n Two shorter)
      (newest-on One) (newest-on Two))))

-- everything is selected
pub refused-same : (now : ℕ) (one other : List MarkedCopy) (channel : Channel)
    → (starts_at now one).refused channel ≡ (starts_at now other).refused channel
refused-same now one other Zero = refl
refused-same now one other One = refl
refused-same now one other Two = refl
