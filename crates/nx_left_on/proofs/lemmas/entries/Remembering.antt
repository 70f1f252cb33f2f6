-- Of what a memory can hold all is remembered at a moment that is near.
use Rattle.std.proofs.Common.{◌≡◌, ℕ, ◌+◌, ◌-◌, ◌<◌, ◌≤◌, Bool, true, false, not, ◌&&◌, ◌||◌, cond, List}
use Rattle.std.proofs.Common.{[], ◌∷◌, ◌++◌, refl, ap, ap₂, ◌∙◌, arith, nat_le, nat_lt, lt-ltb}
use Rattle.std.specs.Prelude.{filter}
use Rattle.std.specs.List.{All, list_any}
use Rattle.std.proofs.lemmas.Bool.{and_from, le-leb, le-ltb}
use Rattle.std.proofs.lemmas.List.Elements.{All-head, All-tail}
use Rattle.nx_envelope.specs.Identity.{same_identity}
use Rattle.nx_memory.specs.Content.{AreInTurn, IsLater}
use Rattle.nx_memory.specs.Memory.{newest_moment, seconds_known}
use Rattle.nx_memory.specs.declared.memories.entry.MemoryEntry.{MemoryEntry}
use Rattle.nx_memory.proofs.lemmas.Content.{none_later}
use Rattle.nx_memory.specs.Content.{is_last_known, passing, renews}
use Rattle.nx_watch.specs.Start.{is_in_order, is_near, remembered_at}

all-near : (moment newest : ℕ) (entries : List MemoryEntry) → newest < moment + seconds_known
    → All (λ entry. entry.moment ≤ newest) entries → filter (is_near moment) entries ≡ entries
all-near moment newest [] near all = refl
all-near moment newest (entry ∷ entries) near all =
    let old = All-head (λ (it : MemoryEntry). it.moment ≤ newest) entry entries all in
    ap (λ b. cond b (entry ∷ filter (is_near moment) entries) (filter (is_near moment) entries))
    (lt-ltb (entry.moment - moment) seconds_known (omega arith))
    ∙ ap (λ rest. entry ∷ rest)
    (all-near moment newest entries near
    (All-tail (λ (it : MemoryEntry). it.moment ≤ newest) entry entries all))

-- where each passes, all do
passing-one : (test : MemoryEntry → List MemoryEntry → Bool) (entry : MemoryEntry)
    (behind : List MemoryEntry) → test entry behind ≡ true → passing test behind ≡ behind
    → passing test (entry ∷ behind) ≡ entry ∷ behind
passing-one test entry behind is rest =
    ap₂ (λ b those. cond b (entry ∷ []) [] ++ those) is rest

order-stands : (entry : MemoryEntry) (behind : List MemoryEntry) → All (IsLater entry) behind
    → is_in_order entry behind ≡ true
order-stands entry [] later = refl
order-stands entry (next ∷ behind) later =
    and_from (nat_le entry.moment next.moment) (is_in_order entry behind)
    (le-leb entry.moment next.moment (All-head (IsLater entry) next behind later).in_turn)
    (order-stands entry behind (All-tail (IsLater entry) next behind later))

all-in_order : (entries : List MemoryEntry) → AreInTurn entries
    → passing is_in_order entries ≡ entries
all-in_order [] turn = refl
all-in_order (entry ∷ behind) turn =
    passing-one is_in_order entry behind (order-stands entry behind turn.0)
    (all-in_order behind turn.1)

renews-not : (entry other : MemoryEntry) → IsLater entry other → renews entry other ≡ false
renews-not entry other later =
    elim (same_identity entry.identity other.identity) as (λ (b : Bool).
    same_identity entry.identity other.identity ≡ b
    → (b && nat_lt (other.moment - entry.moment) seconds_known) ≡ false) [
      | true ↦ λ same.
          let apart = later.apart same in
          le-ltb (other.moment - entry.moment) seconds_known (omega arith)
      | false ↦ λ same. refl
    ] refl

none-renews : (entry : MemoryEntry) (behind : List MemoryEntry) → All (IsLater entry) behind
    → list_any (λ other. renews entry other) behind ≡ false
none-renews entry [] later = refl
none-renews entry (next ∷ behind) later =
    ap₂ (λ a b. a || b) (renews-not entry next (All-head (IsLater entry) next behind later))
    (none-renews entry behind (All-tail (IsLater entry) next behind later))

all-last_known : (entries : List MemoryEntry) → AreInTurn entries
    → passing is_last_known entries ≡ entries
all-last_known [] turn = refl
all-last_known (entry ∷ behind) turn =
    passing-one is_last_known entry behind (ap not (none-renews entry behind turn.0))
    (all-last_known behind turn.1)

pub all-remembered : (moment : ℕ) (entries : List MemoryEntry) → AreInTurn entries
    → newest_moment entries < moment + seconds_known → remembered_at moment entries ≡ entries
all-remembered moment entries turn near =
    let newest : newest_moment entries ≤ newest_moment entries = omega arith in
    ap (λ those. passing is_last_known (passing is_in_order those))
    (all-near moment (newest_moment entries) entries near
    (none_later entries (newest_moment entries) turn newest))
    ∙ ap (passing is_last_known) (all-in_order entries turn)
    ∙ all-last_known entries turn
