use Rattle.std.proofs.Common.{◌≡◌, ◌-◌, ◌++◌, length, take}
use Rattle.nx_code.specs.Word.{elements, elements_from}
use Rattle.nx_code.proofs.words.Word.elements.Given as goal

-- the elements so far, and those of the rest, are all of them
abbrev pub invariant-loop-place : goal.invariant-loop-place
invariant-loop-place l =
    (length l.bits ≡ 7) × (take l.place l.bits ++ elements_from (7 - l.place) l.rest
    ≡ elements l.fn.self)
