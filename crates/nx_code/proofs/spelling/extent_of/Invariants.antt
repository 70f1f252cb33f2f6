use Rattle.std.proofs.Common.{◌*◌, ◌≤◌, take}
use Rattle.nx_code.proofs.lemmas.Spelling.{Extends}
use Rattle.nx_code.proofs.spelling.extent_of.Given as goal

-- the extent of the characters so far, with at most two combinations for each
abbrev pub invariant-loop-character : goal.invariant-loop-character
invariant-loop-character l =
    Extends (take l.character-index l.text) l.fn.from l.extent.length l.extent.shift
    × (l.extent.length ≤ 2 * l.character-index)
