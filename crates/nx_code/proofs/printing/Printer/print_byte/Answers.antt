use Rattle.std.proofs.Common.{◌+◌, ◌*◌, ap₂, ◌∙◌, get_or}
use Rattle.nx_code.specs.private.Rows.{byte_given}
use Rattle.nx_code.specs.declared.printer_steps.TheConstants.{AFTER, PRINTED}
use Rattle.nx_code.specs.declared.shifts.Shift.TheVariants.{Letters}
use Rattle.nx_code.proofs.lemmas.Class.{byte_of-PRINTED, column, shift_after-AFTER}
use Rattle.nx_code.proofs.printing.Printer.print_byte.Goals as goal

pub returns-clause-printed : goal.returns-clause-printed
returns-clause-printed c =
    ap₂ (λ class shift. byte_given (get_or PRINTED (2 * class + column shift) 0)) c.from.ensures
    c.self.view_is
    ∙ byte_of-PRINTED c.args.class 0 c.args.self.now c.requires

pub returns-clause-shift : goal.returns-clause-shift
returns-clause-shift c =
    ap₂ (λ class shift. get_or AFTER (2 * class + column shift) Letters) c.from.ensures
    c.self.view_is
    ∙ shift_after-AFTER c.args.class Letters c.args.self.now c.requires
