-- A table with a place for each identity, in which the moment of its last entry stands.
use Rattle.std.specs.Prelude.{ℕ, ◌+◌, ◌-◌, ◌*◌, Bool, false, nat_lt, if◌then◌else◌, List, [], ◌∷◌, Option, Some, None}
use Rattle.std.specs.Option.{option_or}
use Rattle.nx_code.specs.Reading.{capital_a, capitals}
use Rattle.nx_envelope.specs.declared.identity.Identity.{Identity}
use Rattle.nx_envelope.specs.Identity.{same_identity}
use Rattle.nx_memory.specs.declared.memories.entry.MemoryEntry.{MemoryEntry}
use Rattle.nx_memory.specs.Memory.{seconds_known}

-- how many identities there are: 26 stations, 26 subjects of each, and 100 numbers of each of these
abbrev pub identities : ℕ
identities = 67600

-- the place of an identity among all, where they stand by station, subject and number
abbrev pub index_of : Identity → ℕ
index_of identity =
    ((identity.b1.byte - capital_a) * capitals + (identity.b2.byte - capital_a)) * 100
    + identity.number

-- the moment of the last entry of an identity, where there is one
abbrev pub moment_of_last : Identity → List MemoryEntry → Option ℕ
moment_of_last identity [] = None
moment_of_last identity (entry ∷ later) =
    option_or
    (moment_of_last identity later)
    (if same_identity entry.identity identity then Some entry.moment else None)

-- a moment is less than 66 hours old; none at all isn't
abbrev pub is_recent_moment : ℕ → Option ℕ → Bool
is_recent_moment moment None = false
is_recent_moment moment (Some last) = nat_lt (moment - last) seconds_known
