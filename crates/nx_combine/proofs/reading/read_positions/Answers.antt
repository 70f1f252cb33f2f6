use Rattle.std.proofs.Common.{◌≡◌, ◌≢◌, ℕ, true, false, Option, Some, None, sym, ◌∙◌, ◌+◌, ap, refl}
use Rattle.nx_code.specs.Reading.{Reception, byte_of, shift_after}
use Rattle.nx_code.specs.Taken.{reception_of}
use Rattle.nx_code.specs.declared.shifts.Shift.{Shift}
use Rattle.nx_envelope.specs.Finder.{is_over}
use Rattle.nx_envelope.specs.declared.found.TextEvent.{TextEvent}
use Rattle.nx_envelope.specs.declared.found.TextEvent.TheVariants as events
use Rattle.nx_combine.specs.private.laws.ReadOn.{IsRead, begins_reading, reads_all, reads_byte, reads_last}
use Rattle.nx_combine.specs.private.laws.ReadOn.{reads_silent}
use Rattle.nx_combine.proofs.reading.read_positions.Goals as goal
use Rattle.nx_combine.proofs.reading.read_positions.Goals.{in-Some+else-is_over, in_default}

over_is : (event : TextEvent) → is_over event ≡ true → event ≡ events.CopyOver
over_is events.Nothing is = cc
over_is (events.Header name) is = cc
over_is events.CopyOver is = refl

other_is : (event : TextEvent) → is_over event ≡ false → event ≢ events.CopyOver
other_is event is over = let contra : is_over event ≡ true = ap is_over over in cc

-- what a step prints, in the names of the positions
printed_as : (o : Option ℕ) (x y : Reception) (shift : Shift) → o ≡ byte_of x shift → x ≡ y
    → byte_of y shift ≡ o
printed_as o x y shift is same = ap (λ z. byte_of z shift) (sym same) ∙ sym is

shift_as : (next shift : Shift) (x y : Reception) → next ≡ shift_after x shift → x ≡ y
    → next ≡ shift_after y shift
shift_as next shift x y is same = is ∙ ap (λ z. shift_after z shift) same

none_if : (o : Option ℕ) → ((x : ℕ) → o ≡ Some x → ⊥) → o ≡ None
none_if None none = refl
none_if (Some x) none = absurd (none x refl)

pub loop-index-init : goal.loop-index-init
loop-index-init c =
    begins_reading c.hear_header.new.finder c.args.identity c.figures_printer-printer.result
    c.args.positions.now c.hear_header.ensures c.figures_printer-printer.ensures

pub loop-index-preserved : goal.loop-index-preserved
loop-index-preserved c =
    elim c.match-step.branch [
      | in-Some+else-is_over w ↦
          rw w.finder-is
          (reads_byte c.loop-index.finder w.hear.new.self c.args.identity c.loop-index.printer
          c.step.new.self c.args.positions.now c.loop-index.index w.in-Some.byte
          c.index-positions-index.result w.hear.result c.loop-index.invariant
          c.loop-index-test.true c.index-positions-index.is
          (printed_as (Some w.in-Some.byte) (reception_of c.taken.result)
          c.index-positions-index.result c.loop-index.printer w.in-Some.ensures.printed
          c.taken.ensures)
          (shift_as c.step.new.self c.loop-index.printer (reception_of c.taken.result)
          c.index-positions-index.result c.step.ensures.shift c.taken.ensures)
          w.hear.ensures.stands w.hear.ensures.hears
          (other_is w.hear.result (sym w.is_over.ensures ∙ w.if-is_over.false)))
      | in_default w ↦
          rw w.finder-is
          (reads_silent c.loop-index.finder c.args.identity c.loop-index.printer c.step.new.self
          c.args.positions.now c.loop-index.index c.index-positions-index.result
          c.loop-index.invariant c.loop-index-test.true c.index-positions-index.is
          (printed_as c.step.result (reception_of c.taken.result) c.index-positions-index.result
          c.loop-index.printer c.step.ensures.printed c.taken.ensures
          ∙ none_if c.step.result w.in_default.not-Some)
          (shift_as c.step.new.self c.loop-index.printer (reception_of c.taken.result)
          c.index-positions-index.result c.step.ensures.shift c.taken.ensures))
    ]

last : (c : goal.Then-is_over)
    → IsRead c.hear.new.self c.args.identity c.args.positions.now (c.loop-index.index + 1)
last c =
    reads_last c.loop-index.finder c.hear.new.self c.args.identity c.loop-index.printer
    c.args.positions.now c.loop-index.index c.in-Some.byte c.index-positions-index.result
    c.hear.result c.loop-index.invariant c.loop-index-test.true c.index-positions-index.is
    (printed_as (Some c.in-Some.byte) (reception_of c.taken.result) c.index-positions-index.result
    c.loop-index.printer c.in-Some.ensures.printed c.taken.ensures) c.hear.ensures.hears
    (over_is c.hear.result (sym c.is_over.ensures ∙ c.if-is_over.true))

pub returns-then-is_over-clause-end : goal.returns-then-is_over-clause-end
returns-then-is_over-clause-end c = (last c).end_is

pub returns-then-is_over-clause-copy : goal.returns-then-is_over-clause-copy
returns-then-is_over-clause-copy c = (last c).copy

pub returns-clause-end : goal.returns-clause-end
returns-clause-end c =
    (reads_all c.loop-index.finder c.close.new.self c.args.identity c.loop-index.printer
    c.args.positions.now c.loop-index.index c.loop-index.invariant c.loop-index-test.false
    c.close.ensures.closes).end_is

pub returns-clause-copy : goal.returns-clause-copy
returns-clause-copy c =
    (reads_all c.loop-index.finder c.close.new.self c.args.identity c.loop-index.printer
    c.args.positions.now c.loop-index.index c.loop-index.invariant c.loop-index-test.false
    c.close.ensures.closes).copy
