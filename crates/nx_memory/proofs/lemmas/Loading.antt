-- What of a list that stands in turn was entered before one of its entries.
use Rattle.std.proofs.Common.{◌≡◌, ℕ, ◌+◌, ◌-◌, ◌<◌, ◌≤◌, zero, suc, true, false, ◌&&◌, ◌||◌, List}
use Rattle.std.proofs.Common.{[], ◌∷◌, ◌++◌, length, take, get_or, ltb, Option, Some, None}
use Rattle.std.proofs.Common.{refl, sym, ap, ◌∙◌, subst, arith}
use Rattle.std.specs.List.{All}
use Rattle.std.proofs.lemmas.Bool.{le-ltb}
use Rattle.std.proofs.lemmas.List.Elements.{All-nil, All-cons, All-head, All-get_or, All-tail}
use Rattle.nx_envelope.specs.declared.identity.Identity.{Identity}
use Rattle.nx_envelope.specs.Identity.{same_identity}
use Rattle.nx_memory.specs.declared.memories.entry.MemoryEntry.{MemoryEntry}
use Rattle.nx_memory.specs.Content.{IsLater, AreInTurn, IsContent}
use Rattle.nx_memory.specs.Memory.{seconds_known, newest_moment}
use Rattle.nx_memory.specs.Memory.{is_recent, is_known, entry_at}
use Rattle.nx_memory.proofs.lemmas.Content.{newest_behind}

-- each entry is later than all that stand before it
later_than_before : (entries : List MemoryEntry) (k : ℕ) (d : MemoryEntry) → AreInTurn entries
    → k < length entries → All (λ it. IsLater it (get_or entries k d)) (take k entries)
later_than_before [] k d turn within = absurd (omega arith)
later_than_before (entry ∷ later) zero d turn within =
    All-nil (λ (it : MemoryEntry). IsLater it entry)
later_than_before (entry ∷ later) (suc k) d turn within =
    let inside : k < length later = omega arith in
    All-cons (λ (it : MemoryEntry). IsLater it (get_or later k d)) entry (take k later)
    (All-get_or (IsLater entry) later k d inside turn.0)
    (later_than_before later k d turn.1 inside)

-- so the newest of these isn't later than it
pub newest_within : (before : List MemoryEntry) (last : MemoryEntry)
    → All (λ it. IsLater it last) before → newest_moment before ≤ last.moment
newest_within [] last all = omega arith
newest_within (entry ∷ []) last all =
    (All-head (λ (it : MemoryEntry). IsLater it last) entry [] all).in_turn
newest_within (entry ∷ next ∷ later) last all =
    subst (λ (n : ℕ). n ≤ last.moment) (sym (newest_behind entry next later))
    (newest_within (next ∷ later) last
    (All-tail (λ (it : MemoryEntry). IsLater it last) entry (next ∷ later) all))

-- and its identity isn't known from them
not_recent : (entry last : MemoryEntry) → IsLater entry last
    → is_recent last.identity last.moment entry ≡ false
not_recent entry last is =
    elim (same_identity entry.identity last.identity) as (λ b. same_identity entry.identity
    last.identity ≡ b → (b && ltb (last.moment - entry.moment) seconds_known) ≡ false) [
      | true ↦ λ same. let apart = is.apart same in
          le-ltb (last.moment - entry.moment) seconds_known (omega arith)
      | false ↦ λ other. refl
    ] refl

pub unknown_within : (before : List MemoryEntry) (last : MemoryEntry)
    → All (λ it. IsLater it last) before → is_known last.identity last.moment before ≡ false
unknown_within [] last all = refl
unknown_within (entry ∷ later) last all =
    ap (λ b. b || is_known last.identity last.moment later)
    (not_recent entry last (All-head (λ (it : MemoryEntry). IsLater it last) entry later all))
    ∙ unknown_within later last (All-tail (λ (it : MemoryEntry). IsLater it last) entry later all)

-- the first k of a content are held, and this is the one behind them
pub record IsNext (all held : List MemoryEntry) (k : ℕ) (entry : MemoryEntry) : Type 0 where
  pub content : IsContent all
  pub before : held ≡ take k all
  pub within : k < length all
  pub here : entry ≡ get_or all k entry

later_than_held : (content held : List MemoryEntry) (k : ℕ) (entry : MemoryEntry)
    → IsNext content held k entry → All (λ it. IsLater it entry) held
later_than_held content held k entry is =
    let before = later_than_before content k entry is.content.in_turn is.within in
    subst (λ (them : List MemoryEntry). All (λ it. IsLater it entry) them) (sym is.before)
    (subst (λ (last : MemoryEntry). All (λ it. IsLater it last) (take k content)) (sym is.here)
    before)

-- it may be entered, and then one more is held
pub newest-held : (content held : List MemoryEntry) (k : ℕ) (entry : MemoryEntry)
    → IsNext content held k entry → newest_moment held ≤ entry.moment
newest-held content held k entry is =
    newest_within held entry (later_than_held content held k entry is)

pub unknown-held : (content held : List MemoryEntry) (k : ℕ) (entry : MemoryEntry)
    → IsNext content held k entry → is_known entry.identity entry.moment held ≡ false
unknown-held content held k entry is =
    unknown_within held entry (later_than_held content held k entry is)

-- what is added where an entry stands at a place of a list
abbrev pub one_of : Option (Identity × ℕ) → List MemoryEntry
one_of None = []
one_of (Some entry) = record { identity = entry.0; moment = entry.1 } ∷ []

taken_suc : (content : List MemoryEntry) (k : ℕ)
    → take k content ++ one_of (entry_at content k) ≡ take (suc k) content
taken_suc [] zero = refl
taken_suc [] (suc k) = refl
taken_suc (entry ∷ later) zero = refl
taken_suc (entry ∷ later) (suc k) =
    ap (λ (them : List MemoryEntry). entry ∷ them) (taken_suc later k)

-- the first entries, and the one behind them
pub taken-more : (content : List MemoryEntry) (k : ℕ)
    → take k content ++ one_of (entry_at content k) ≡ take (k + 1) content
taken-more content k = let on : k + 1 ≡ suc k = omega arith in rw on (taken_suc content k)
