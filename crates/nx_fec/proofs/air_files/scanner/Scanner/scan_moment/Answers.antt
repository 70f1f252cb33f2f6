use Rattle.std.proofs.Common.{◌≡◌, ◌∙◌, ◌++◌, ◌+◌, ap, arith, codes, get_or, length, subst, sym, take}
use Rattle.std.proofs.lemmas.List.{get_or-append-add}
use Rattle.nx_fec.specs.private.ScannerKept.{IsKept, SpellsLine, line_ended, part_of}
use Rattle.nx_fec.specs.private.WholeLines.{TakesLine}
use Rattle.nx_fec.specs.declared.air_files.lines.LineKind.TheVariants.{Moment}
use Rattle.nx_fec.proofs.lemmas.lines.WholeLine.{moment-spells, takes-moment}
use Rattle.nx_fec.proofs.air_files.scanner.Scanner.scan_moment.Goals as goal

pub invariant_of-self : goal.invariant_of-self
invariant_of-self c =
    let piece = c.args.piece.now in
    let count = c.moment_front-moment.result.1 in
    let digits = c.args.digits.now in
    let found = c.moment_front-moment.ensures.found (omega (arith, c.if-count-eq0.false)) in
    let ended = c.end_line.ensures in
    let none : length (part_of c.end_line.new.self.ended c.append_front.new.self) ≡ 0 =
    ap (λ k. length (part_of k c.append_front.new.self)) ended.ended in (
      omega (
        arith,
        c.self.invariant.0,
        c.requires.allowance,
        ap (λ s. s.allowance) c.self.view_is,
        c.moment_front-moment.ensures.count,
        none,
        ended.lines,
        ended.allowance,
        ended.count,
      ),
      subst (λ k. IsKept k c.clear-2.new.self c.append_front.new.self)
          (sym c.end_line.ensures.ended)
          (subst (SpellsLine (Moment c.moment_front-moment.result.0) c.clear-2.new.self)
          (sym (c.append_front.ensures ∙ ap (λ l. l ++ take (2 + count) piece) c.clear.ensures))
          (moment-spells piece digits c.moment_front-moment.result.0 count c.clear-2.new.self
          c.requires.front found c.clear-2.ensures)),
    )

pub returns-clause-taken : goal.returns-clause-taken
returns-clause-taken c =
    let piece = c.args.piece.now in
    let count = c.moment_front-moment.result.1 in
    let digits = c.args.digits.now in
    let size : length piece ≡ 2 + length digits = omega (arith, ap length c.requires.front) in
    let found = c.moment_front-moment.ensures.found (omega (arith, c.if-count-eq0.false)) in
    let ended = c.end_line.ensures in
    subst (TakesLine c.args.self.now _ piece (Moment c.moment_front-moment.result.0))
    (sym ended.count)
    (takes-moment c.args.self.now _ piece digits c.moment_front-moment.result.0 count
    c.requires.front found
    (omega (arith, size, c.requires.long, c.moment_front-moment.ensures.count))
    (sym (get_or-append-add (codes "T ") digits count 0)
    ∙ ap (λ l. get_or l (2 + count) 0) (sym c.requires.front)
    ∙ c.if-piece-end-ne-NEWLINE.false)
    c.requires.empty (ap (λ k. line_ended k c.clear-2.new.self) ended.ended)
    (ap (λ k. part_of k c.append_front.new.self) ended.ended)
    (ended.lines ∙ ap (λ s. s.lines + 1) c.self.view_is)
    (omega (arith, ended.allowance, ended.count, ap (λ s. s.allowance) c.self.view_is)))
