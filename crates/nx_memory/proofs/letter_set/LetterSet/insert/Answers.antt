use Rattle.std.proofs.Common.{true, arith}
use Rattle.nx_memory.proofs.lemmas.Letters.{flags_of-set, letters_of-set_true}
use Rattle.nx_memory.proofs.letter_set.LetterSet.insert.Goals as goal

pub returns : goal.returns
returns c =
    let changed = letters_of-set_true c.self.inside.flags c.place_in_alphabet.result
    c.args.letter.byte (omega arith) (omega arith) in
    rw (← c.self.view_is, changed)

pub invariant_of-self : goal.invariant_of-self
invariant_of-self c = flags_of-set c.self.inside.flags c.place_in_alphabet.result true (omega arith)
