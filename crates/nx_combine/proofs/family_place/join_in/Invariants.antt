use Rattle.std.proofs.Common.{◌≡◌, drop, length, max, take}
use Rattle.nx_combine.specs.Joining as spec
use Rattle.nx_combine.proofs.family_place.join_in.Given as goal

abbrev pub invariant-loop-index : goal.invariant-loop-index
invariant-loop-index l =
    (take (max l.count l.index) l.room
    ≡ spec.joined (take l.count l.initial.room) (take l.index l.copy))
    × (drop (max l.count (length l.copy)) l.room
    ≡ drop (max l.count (length l.copy)) l.initial.room)
