-- What a run over a log tells of torn entries, and of bytes that are passed over (this profile).
use Rattle.std.specs.Prelude.{◌≡◌, ◌⊎◌, ◌<◌, ℕ, List, ◌++◌, codes, decimal, length, map, take, Option}
use Rattle.std.specs.List.{concat}
use Rattle.std.specs.Io.KnownBytes.{Appends}

-- what is told of the torn entry on this line
abbrev pub torn_notice : ℕ → List ℕ
torn_notice line =
    codes "navtex: line " ++ (decimal line ++ codes ": a torn entry was passed over\n")

-- what is told of the torn entries on these lines
abbrev pub torn_notices : List ℕ → List ℕ
torn_notices lines = concat (map torn_notice lines)

-- what is told of bytes that are passed over, since they stop being a log at this line
abbrev pub damage_notice : ℕ → List ℕ
damage_notice line =
    codes "navtex: line " ++ (decimal line ++ codes " is not of a log, and was passed over\n")

-- one thing that is told, of this line: a torn entry, or bytes that are passed over
pub data Notice : Type 0 where
  torn_at : ℕ → Notice
  damaged_at : ℕ → Notice

abbrev pub notice_text : Notice → List ℕ
notice_text (torn_at line) = torn_notice line
notice_text (damaged_at line) = damage_notice line

abbrev pub notice_texts : List Notice → List ℕ
notice_texts notices = concat (map notice_text notices)

-- a writer of notices: what it held before a run, and holds after it, where that is known, and how
-- many writes failed
pub record Notices : Type 0 where
  pub before : Option (List ℕ)
  pub after : Option (List ℕ)
  pub failures : ℕ

-- those of a writer that held and holds these bytes, of which so many writes failed
abbrev pub notices_of : Option (List ℕ) → Option (List ℕ) → ℕ → Notices
notices_of old new failures = record { before = old; after = new; failures = failures }

-- This text was told: it was written, or a first part of it, but not all, where a write failed,
-- after which none was tried.
abbrev pub HaveTold : Notices → List ℕ → Type 0
HaveTold n text =
    ((n.failures ≡ 0) × Appends n.before n.after text)
    ⊎ ((n.failures ≡ 1) × (taken : ℕ) × (taken < length text)
    × Appends n.before n.after (take taken text))

-- the torn entries on these lines were told, each once and in order, and nothing else
abbrev pub HaveToldTorn : Notices → List ℕ → Type 0
HaveToldTorn n lines = HaveTold n (torn_notices lines)

-- these were told, each once and in order, and nothing else
abbrev pub HaveToldAll : Notices → List Notice → Type 0
HaveToldAll n notices = HaveTold n (notice_texts notices)
