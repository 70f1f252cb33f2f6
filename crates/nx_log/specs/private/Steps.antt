-- What a reader of a log takes, step by step.
use Rattle.std.specs.Prelude.{◌≡◌, ◌≢◌, ℕ, ◌+◌, ◌-◌, ◌<◌, ◌≤◌, ◌^◌, List, [], ◌∷◌, ◌++◌, length, min, take, drop, ⊤, true}
use Rattle.std.specs.List.{All}
use Rattle.nx_copies.specs.copies.Shares.{MarkedCopy}
use Rattle.nx_log.specs.Entries.{IsUnfinishedEntry}
use Rattle.nx_log.specs.LogReader.{most_lines}
use Rattle.nx_log.specs.Reading.{AreRead, Head, IsHead, IsNoBracket, IsPart, LogRead, bracket, entries_of, is_begun, is_first, line_behind}
use Rattle.nx_log.specs.private.Standing.{StandsSomehow}
use Rattle.nx_log.specs.declared.entries.reader.Pushed.{Pushed}
use Rattle.nx_log.specs.declared.entries.reader.Pushed.TheVariants.{All as TakenAll, Bad, Entry, Torn}
use Rattle.nx_log.specs.LogReading.{LogReading}
use Rattle.nx_log.specs.declared.entries.reader.Begun.{Begun as EntryBegun}
use Rattle.nx_log.specs.declared.entries.reader.EntryStage.TheVariants.{Begun, Behind}
use Rattle.nx_log.specs.declared.entries.start.EntryStart.{EntryStart}
use Rattle.nx_log.specs.declared.entries.start.EntryStart.TheVariants.{Whole, Unfinished, Broken}
use Rattle.nx_log.specs.declared.entries.tail.Tail.{Tail}
use Rattle.nx_log.specs.declared.entries.tail.TailPassed.{TailPassed}
use Rattle.nx_log.specs.declared.entries.tail.TailEnd.{TailEnd}
use Rattle.nx_log.specs.declared.entries.tail.TailEnd.TheVariants as ends

-- what is held of bytes with which an entry begins
abbrev pub part_held : EntryStart → ℕ → ℕ
part_held (Whole n) count = n
part_held Unfinished count = count
part_held (Broken n) count = 0

-- an entry, or a torn one, ends within so many bytes
abbrev pub TakesWithin : ℕ → Pushed → Type 0
TakesWithin count (Entry taken) = taken ≤ count
TakesWithin count (Torn taken at) = taken ≤ count
TakesWithin count pushed = ⊤

-- the same where so many more were passed over before
abbrev pub passed_and : ℕ → Pushed → Pushed
passed_and passed (Entry taken) = Entry (passed + taken)
passed_and passed (Torn taken at) = Torn (passed + taken) at
passed_and passed TakenAll = TakenAll
passed_and passed (Bad bad) = Bad bad

-- so many bytes of these stand in a tail, and behind them there is a bracket, or a byte with which
-- there is no tail, or nothing
abbrev pub EndsTail : TailEnd → ℕ → List ℕ → Type 0
EndsTail ends.All count bytes = count ≡ length bytes
EndsTail ends.Bracket count bytes = (more : List ℕ) × (drop count bytes ≡ bracket ∷ more)
EndsTail ends.Bad count bytes = (count < length bytes) × All IsNoBracket (take (count + 1) bytes)

-- A reader stands on this line, in a tail of the part behind what was read before; these bytes
-- come.
pub record IsAtTail (tail : Tail) (line : ℕ) (given : List ℕ) (entries : List MarkedCopy)
    (torn bytes : List ℕ) : Type 0 where
  pub earlier : List (List ℕ)
  pub before : LogRead
  pub are : AreRead earlier before
  pub head : Head
  pub front : List ℕ
  pub behind : List ℕ
  pub split : given ≡ before.bytes ++ (front ++ behind)
  pub is_part : IsPart (is_first earlier) (front ++ behind)
  pub is_head : IsHead (is_first earlier) head front (behind ++ bytes)
  pub some : is_begun head ≡ true → behind ++ bytes ≢ []
  pub is_torn : tail.is_torn ≡ is_begun head
  pub stands : StandsSomehow tail before.bytes front (before.reach - length front) behind
  pub are_entries : entries ≡ before.entries ++ entries_of head
  pub are_torn : torn ≡ before.told ++ before.last
  pub line_is : line ≡ min (line_behind given) most_lines

-- A reader stands on this line, and holds the beginning of an entry, behind which these bytes
-- stand.
pub record Opens (entry : EntryBegun) (held : List ℕ) (line : ℕ) (given : List ℕ)
    (entries : List MarkedCopy) (torn bytes : List ℕ) : Type 0 where
  pub part : List ℕ
  pub earlier : List (List ℕ)
  pub before : LogRead
  pub are : AreRead (part ∷ earlier) before
  pub split : given ≡ before.bytes ++ held
  pub unfinished : IsUnfinishedEntry held
  pub more : List ℕ
  pub begins : held ++ bytes ≡ bracket ∷ more
  pub reach_is : entry.reach ≡ before.reach
  pub entry_line : entry.line ≡ min (line_behind before.bytes) most_lines
  pub are_entries : entries ≡ before.entries
  pub are_torn : torn ≡ before.told ++ before.last
  pub line_is : line ≡ min (line_behind given) most_lines

-- what a reader is, and what it answers, behind a tail that was passed
abbrev pub Ends : TailPassed → LogReading → Pushed → Type 0
Ends passed reader TakenAll = (passed.end ≡ ends.All) × (reader.stage ≡ Behind passed.tail)
    × (reader.line ≡ passed.line)
Ends passed reader (Torn taken at) = (passed.end ≡ ends.Bracket)
    × (reader.stage ≡ Begun (record { reach = passed.tail.reach; line = passed.line }))
    × (reader.held ≡ bracket ∷ []) × (reader.line ≡ passed.line)
    × (taken ≡ min (passed.count + 1) (2 ^ 64 - 1)) × (at.line ≡ passed.tail.torn_line)
Ends passed reader (Bad bad) = (passed.end ≡ ends.Bad) × (bad.line ≡ passed.line)
Ends passed reader (Entry taken) = ⊥
