use Rattle.std.proofs.Common.{◌<◌, not, inl, inr, sym, ap, ◌∙◌, arith}
use Rattle.std.proofs.lemmas.Bool.{cases_lt}
use Rattle.nx_locks.proofs.lemmas.PlainWords.{line_ends, no_more_lines}
use Rattle.nx_locks.proofs.reader.is_open_after.Goals as goal

pub returns : goal.returns
returns c text h =
    let some : 0 < c.args.count = elim (cases_lt 0 c.args.count) [
      | inl lt ↦ lt
      | inr le ↦ absurd (c.if-count-eq0.false (omega arith))
    ] in
    ap not (sym (line_ends text c.args.bytes.now c.args.count 0 some
    (omega (arith, c.requires, c.told-bytes))))

pub returns-then-count-eq0 : goal.returns-then-count-eq0
returns-then-count-eq0 c text h =
    h ∙ ap not (sym (no_more_lines text c.args.bytes.now c.args.count c.if-count-eq0.true))
