use Rattle.std.proofs.Common.{◌≡◌, take, map}
use Rattle.nx_code.specs.Reading.{combination, shift_after_all}
use Rattle.nx_code.specs.Spelling.{Spells}
use Rattle.nx_code.specs.declared.signals.Comb.{Comb}
use Rattle.nx_code.proofs.spelling.spell.Given as goal

-- the combinations so far spell the characters so far
abbrev pub invariant-loop-character : goal.invariant-loop-character
invariant-loop-character l =
    let numbers = map (λ (comb : Comb). comb.number) l.combs.items in
    Spells (take l.character-index l.text) l.fn.from numbers
    × (l.shift ≡ shift_after_all (map combination numbers) l.fn.from)
