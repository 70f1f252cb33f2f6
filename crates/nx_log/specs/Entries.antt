-- Bytes that are a logged entry, and bytes that lack its end (this profile).
use Rattle.std.specs.Prelude.{◌≢◌, ℕ, List, [], ◌++◌}
use Rattle.nx_copies.specs.copies.Shares.{MarkedCopy}
use Rattle.nx_log.specs.Logged.{IsLoggedAs}

-- the bytes are those of a logged entry
abbrev pub IsWholeEntry : List ℕ → Type 0
IsWholeEntry bytes = (one : MarkedCopy) × IsLoggedAs one bytes

-- a logged entry that lacks some bytes at its end
abbrev pub IsUnfinishedEntry : List ℕ → Type 0
IsUnfinishedEntry bytes = (more : List ℕ) × IsWholeEntry (bytes ++ more) × (more ≢ [])
