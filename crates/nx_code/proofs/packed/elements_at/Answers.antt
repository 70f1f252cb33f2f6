use Rattle.std.proofs.Common.{◌/◌, arith}
use Rattle.nx_code.proofs.lemmas.Packed.{read_here, read_across}
use Rattle.nx_code.proofs.packed.elements_at.Goals as goal

pub returns-then-count-here-clause-elements : goal.returns-then-count-here-clause-elements
returns-then-count-here-clause-elements c =
    read_here c.args.numbers.now c.args.place c.args.count c.requires.some c.requires.few
    c.requires.room c.if-count-here.true

-- the elements of the next number stand above those of this one, so nothing is carried
pub overflow_add-result-2 : goal.overflow_add-result-2
overflow_add-result-2 c =
    let sum = read_across c.args.numbers.now c.args.place c.args.count c.requires.few
    c.requires.room c.if-count-here.false (omega (arith, c.type_inv.numbers (c.args.place / 64))) in
    omega (arith, sum.0)

pub returns-clause-elements : goal.returns-clause-elements
returns-clause-elements c =
    (read_across c.args.numbers.now c.args.place c.args.count c.requires.few c.requires.room
    c.if-count-here.false (omega (arith, c.type_inv.numbers (c.args.place / 64)))).1
