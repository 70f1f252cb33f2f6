use Rattle.std.proofs.Common.{◌≡◌, ◌≤◌, length, ap, subst, arith, ◌∙◌}
use Rattle.std.specs.Fmt.{decimal}
use Rattle.std.proofs.lemmas.Fmt.{length-decimal-le}
use Rattle.nx_envelope.specs.Moment.{last_moment}
use Rattle.nx_memory.specs.private.StateReading.{IsSpelled}
use Rattle.nx_memory.proofs.state.saved_line.SavedLine.bytes.Goals as goal

pub unwrap-requires : goal.unwrap-requires
unwrap-requires c =
    let moment = c.in-Entry.entry.moment in
    let small : moment ≤ last_moment = subst IsSpelled c.in-Entry.is c.requires in
    let digits : length (decimal moment) ≤ 11 =
    length-decimal-le 11 moment (omega arith) (omega arith) (omega arith) in
    let text : length c.as_bytes.result.now ≡ length (decimal moment) =
    ap length c.as_bytes.ensures.value ∙ ap length c.format-moment.ensures.text in
    let head : length c.fixed_line-line.result.items ≡ 4 =
    ap length c.fixed_line-line.ensures ∙ ap length c.bytes.ensures in
    c.try_extend_from_slice.ensures.variant.1
    (omega (arith, c.push.ensures.len, text, head, digits))
