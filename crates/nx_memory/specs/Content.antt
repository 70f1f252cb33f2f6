-- What the entries of a memory are, and what they are to one another, by the conditions of entering
-- (this profile).
use Rattle.std.specs.Prelude.{◌≡◌, ◌+◌, ◌-◌, ◌<◌, ◌≤◌, Bool, true, not, ◌&&◌, nat_lt}
use Rattle.std.specs.Prelude.{if◌then◌else◌, List, [], ◌∷◌, ◌++◌, length}
use Rattle.std.specs.List.{All, list_any}
use Rattle.nx_envelope.specs.Identity.{same_identity}
use Rattle.nx_memory.specs.declared.memories.entry.MemoryEntry.{MemoryEntry}
use Rattle.nx_memory.specs.Memory.{most_entries, seconds_known}

-- a later entry has no earlier moment, and where it bears the same identity it is at least 66 hours
-- younger
pub record IsLater (earlier later : MemoryEntry) : Type 0 where
  pub in_turn : earlier.moment ≤ later.moment
  pub apart :
      same_identity earlier.identity later.identity ≡ true →
      earlier.moment + seconds_known ≤ later.moment

-- so is each entry to each that was made after it
abbrev pub AreInTurn : List MemoryEntry → Type 0
AreInTurn [] = Unit {0}
AreInTurn (entry ∷ later) = All (IsLater entry) later × AreInTurn later

-- there are at most 200 entries, none is numbered 00, and they stand in turn
pub record IsContent (content : List MemoryEntry) : Type 0 where
  pub bounded : length content ≤ most_entries
  pub numbered : All (λ entry. 0 < entry.identity.number) content
  pub in_turn : AreInTurn content

-- the moments never fall
abbrev pub NeverFall : List MemoryEntry → Type 0
NeverFall [] = Unit {0}
NeverFall (entry ∷ later) = All (λ other. entry.moment ≤ other.moment) later × NeverFall later

-- the entries of a memory that enters what it knows: there are at most 200, none is numbered 00,
-- and their moments never fall
pub record IsRenewedContent (content : List MemoryEntry) : Type 0 where
  pub bounded : length content ≤ most_entries
  pub numbered : All (λ entry. 0 < entry.identity.number) content
  pub in_order : NeverFall content

-- the other bears the identity of the entry, and is less than 66 hours later
abbrev pub renews : MemoryEntry → MemoryEntry → Bool
renews entry other =
    same_identity entry.identity other.identity
    && nat_lt (other.moment - entry.moment) seconds_known

-- none of its identity stands less than 66 hours later behind the entry
abbrev pub is_last_known : MemoryEntry → List MemoryEntry → Bool
is_last_known entry behind = not (list_any (λ other. renews entry other) behind)

-- those entries that pass a test of them and of the entries behind them
abbrev pub passing : (MemoryEntry → List MemoryEntry → Bool) → List MemoryEntry → List MemoryEntry
passing test [] = []
passing test (entry ∷ behind) =
    (if test entry behind then entry ∷ [] else []) ++ passing test behind

-- of some entries those behind which none of their identity stands less than 66 hours later
abbrev pub last_known : List MemoryEntry → List MemoryEntry
last_known entries = passing is_last_known entries
