use Rattle.std.proofs.Common.{arith}
use Rattle.nx_memory.proofs.lemmas.Letters.{contains-letters_of}
use Rattle.nx_memory.proofs.letter_set.LetterSet.contains.Goals as goal

pub returns : goal.returns
returns c =
    let flag = contains-letters_of c.self.inside.flags c.place_in_alphabet.result c.args.letter.byte
    (omega arith) in
    rw (← c.self.view_is, flag)
