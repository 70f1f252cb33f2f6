-- The lines of a report of locks (this profile).
use Rattle.std.specs.Prelude.{ℕ, List, ◌++◌, codes, decimal}
use Rattle.nx_sync.specs.declared.step.Change.{Change}
use Rattle.nx_sync.specs.declared.step.Change.TheVariants.{Locked, Ended, LostLock}

-- what came of a lock: two DX words in a row were phasing signal 1; too many words were wrong; or
-- the file ends in it
abbrev pub how_name : Change → List ℕ
how_name Ended = codes "ended"
how_name LostLock = codes "lost"
how_name Locked = codes "open"

-- The line before the text of a lock: `[`, the civil time, the count of elements up to and with the
-- last one of the pattern, `]` and a newline.
unfoldable pub opening_line : List ℕ → ℕ → List ℕ
opening_line civil t = codes "[" ++ civil ++ codes " lock " ++ decimal t ++ codes "]\n"

-- The line behind the text, and an empty line. The line is `[`, the civil time, what came of the
-- lock, its whole words, those of them that have the wrong weight, the headers that stand in its
-- text, `]` and a newline.
unfoldable pub closing_lines : List ℕ → Change → ℕ → ℕ → ℕ → List ℕ
closing_lines civil how words wrong copies =
    codes "[" ++ civil ++ (codes " " ++ how_name how) ++ codes " words " ++ decimal words
    ++ codes " wrong " ++ decimal wrong ++ codes " copies " ++ decimal copies ++ codes "]\n\n"

-- The last line: how many elements the file has, how many locks, and how many headers stand in
-- their texts.
unfoldable pub last_line : ℕ → ℕ → ℕ → List ℕ
last_line elements locks copies =
    codes "[elements " ++ decimal elements ++ codes " locks " ++ decimal locks
    ++ codes " copies " ++ decimal copies ++ codes "]\n"
