use Rattle.std.proofs.Common.{◌≡◌, ◌<◌, ◌^◌, ◌-◌, drop}
use Rattle.nx_code.proofs.lemmas.Word.{spread_of}
use Rattle.nx_code.proofs.words.Word.from_elements.Given as goal

-- the elements from here on stand in the bytes so far
abbrev pub invariant-loop-place : goal.invariant-loop-place
invariant-loop-place l =
    (l.spread ≡ spread_of (drop l.place l.bits)) × (l.spread < 256 ^ (7 - l.place))
