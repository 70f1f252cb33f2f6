use Rattle.std.proofs.Common.{refl}
use Rattle.nx_copies.proofs.lemmas.locks.ReaderWords.{has_printed_pair}
use Rattle.nx_copies.specs.declared.lock_printer.LockPrinter.{LockPrinter}
use Rattle.nx_copies.proofs.lock_printer.LockPrinter.print_pair.Goals as goal

pub returns-clause-printed : goal.returns-clause-printed
returns-clause-printed c first words n count before is_dx dx rx =
    let mid : LockPrinter =
    record { diversity = c.dx_by_word.new.self; printer = c.args.self.now.printer } in
    has_printed_pair {mid = mid} before is_dx dx rx c.dx_by_word.ensures.stands refl
    c.rx_by_word-class.ensures.stands refl c.print_behind.ensures.printed
    c.print_behind.ensures.shift
