use Rattle.std.proofs.Common.{Option, Some, None, refl, arith}
use Rattle.std.specs.Option.{IsSome, IsSomeAnd}
use Rattle.nx_code.specs.declared.shifts.Shift.TheVariants.{Figures}
use Rattle.nx_station.specs.Broadcast.{digit_combination}
use Rattle.nx_station.proofs.lemmas.broadcasts.Head.{digit_combination-prints, digit_combination-range}
use Rattle.nx_station.proofs.heads.digit_comb.Goals as goal

is_some_of : {X : Type 0} (P : X → Type 0) (o : Option X) → IsSomeAnd o P → IsSome o
is_some_of P None h = absurd h
is_some_of P (Some x) h = refl

pub unwrap-requires : goal.unwrap-requires
unwrap-requires c =
    let d = c.args.digit in
    let range = digit_combination-range d c.requires in
    is_some_of _ c.char_to_code.result
    (c.char_to_code.ensures.found (digit_combination d) Figures range.0 (omega (arith, range.1))
    (digit_combination-prints d c.requires))

pub returns : goal.returns
returns c =
    let d = c.args.digit in
    let range = digit_combination-range d c.requires in
    let found = rw c.unwrap.ensures at
    (c.char_to_code.ensures.found (digit_combination d) Figures range.0 (omega (arith, range.1))
    (digit_combination-prints d c.requires)) in
    found.0
