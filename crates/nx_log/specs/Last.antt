-- The last entry of each message of a log (this profile).
use Rattle.std.specs.Prelude.{ℕ, ◌-◌, nat_le, nat_lt, Bool, true, false, not, ◌&&◌, if◌then◌else◌, List, [], ◌∷◌}
use Rattle.std.specs.List.{list_any}
use Rattle.nx_envelope.specs.Copies.{errors_of}
use Rattle.nx_envelope.specs.Identity.{same_identity}
use Rattle.nx_fec.specs.air_files.Channels.{same_channel}
use Rattle.nx_memory.specs.Memory.{seconds_known}
use Rattle.nx_copies.specs.copies.FoundCopies.{TaggedCopy}
use Rattle.nx_copies.specs.copies.Printing.{is_full, is_number_00}
use Rattle.nx_copies.specs.copies.Shares.{MarkedCopy}

-- Better: a copy is full and the other isn't, or both are or neither is and it has fewer errors.
abbrev pub has_come_better : Bool → Bool → ℕ → ℕ → Bool
has_come_better true false errors others = true
has_come_better false true errors others = false
has_come_better true true errors others = nat_lt errors others
has_come_better false false errors others = nat_lt errors others

abbrev pub is_better : TaggedCopy → TaggedCopy → Bool
is_better one other =
    has_come_better (is_full one.how) (is_full other.how) (errors_of one.text)
    (errors_of other.text)

-- two entries are of one message: of one identity, not numbered 00, and of one channel
abbrev pub is_of_message : MarkedCopy → MarkedCopy → Bool
is_of_message one other =
    not (is_number_00 other.copy) && same_identity one.copy.identity other.copy.identity
    && same_channel one.channel other.channel

-- a moment isn't before the first, and is less than 66 hours after it
abbrev pub is_within_66_hours : ℕ → ℕ → Bool
is_within_66_hours first moment = nat_le first moment && nat_lt (moment - first) seconds_known

-- Replaced: an entry takes the place of one before it that is of its message, less than 66 hours
-- older, and not better.
unfoldable pub replaces : MarkedCopy → MarkedCopy → Bool
replaces later one =
    is_of_message later one && is_within_66_hours one.copy.moment later.copy.moment
    && not (is_better one.copy later.copy)

-- of what has copies, in order, that which none behind it replaces
abbrev pub last_by : {A : Type 0} → (A → MarkedCopy) → List A → List A
last_by copy_of [] = []
last_by copy_of (one ∷ later) =
    if list_any (λ other. replaces (copy_of other) (copy_of one)) later then last_by copy_of later
    else one ∷ last_by copy_of later
