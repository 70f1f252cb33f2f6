use Rattle.std.proofs.Common.{sym, ◌∙◌}
use Rattle.nx_copies.specs.copies.LockText.{dx_words}
use Rattle.nx_copies.proofs.lemmas.locks.AlikeWords.{no_position, one_position}
use Rattle.nx_copies.proofs.lock_printer.LockPrinter.position.Goals as goal

pub returns-in-Dx-clause-is : goal.returns-in-Dx-clause-is
returns-in-Dx-clause-is c = λ first words n prints is role.
    no_position first words n (sym c.in-Dx.is ∙ role)

pub returns-in-Rx-clause-is : goal.returns-in-Rx-clause-is
returns-in-Rx-clause-is c = λ first words n prints is role.
    one_position first words n c.args.word c.rx_by_word.result c.is_alike.result
    (sym c.in-Rx.is ∙ role) is
    (c.rx_by_word.ensures.stands (dx_words first words n) prints.latest)
    (c.is_alike.ensures (dx_words first words n) prints.latest)
