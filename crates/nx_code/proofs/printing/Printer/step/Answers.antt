use Rattle.std.proofs.Common.{Some, None}
use Rattle.nx_code.specs.Taken.{reception_of}
use Rattle.nx_code.proofs.lemmas.Reading.{reading_push}
use Rattle.nx_code.proofs.printing.Printer.step.Goals as goal

pub returns-in-Char-clause-reading : goal.returns-in-Char-clause-reading
returns-in-Char-clause-reading c positions h =
    reading_push positions (reception_of c.args.taken) c.args.self.now c.print.new.self
    c.print.result (rw c.in-Char.is c.print.ensures.printed)
    (rw c.in-Char.is c.print.ensures.shift) h

pub returns-in-Idle-clause-reading : goal.returns-in-Idle-clause-reading
returns-in-Idle-clause-reading c positions h =
    reading_push positions (reception_of c.args.taken) c.args.self.now c.args.self.now None
    (rw c.in-Idle.is) (rw c.in-Idle.is) h

pub returns-in-Lost-clause-reading : goal.returns-in-Lost-clause-reading
returns-in-Lost-clause-reading c positions h =
    reading_push positions (reception_of c.args.taken) c.args.self.now c.args.self.now (Some 42)
    (rw c.in-Lost.is) (rw c.in-Lost.is) h
