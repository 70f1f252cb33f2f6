use Rattle.std.proofs.Common.{◌≡◌, ◌+◌, ◌-◌, ◌∙◌, ◌++◌, ap, arith, length, refl, subst, sym, take}
use Rattle.nx_fec.specs.private.ScannerKept.{IsKept, SpellsLine, line_ended, part_of}
use Rattle.nx_fec.specs.private.WholeLines.{TakesLine}
use Rattle.nx_fec.specs.declared.air_files.lines.LineKind.TheVariants.{Elements}
use Rattle.nx_fec.proofs.lemmas.lines.WholeLine.{Digits, digits-spell, takes-digits}
use Rattle.nx_fec.proofs.lemmas.lines.Kept.{kept-open}
use Rattle.nx_fec.proofs.air_files.scanner.Scanner.scan_many.Goals as goal

pub invariant_of-self-2 : goal.invariant_of-self-2
invariant_of-self-2 c =
    let piece = c.args.piece.now in
    let mark = c.args.mark in
    let digits = c.args.digits.now in
    let start = length piece - length digits in
    let count = c.read_front-count.result in
    let bits = c.read_front-count.new.self in
    let found : Digits piece mark digits start count bits = record {
      whole = c.requires.front;
      starts = refl;
      some = omega (arith, c.if-count-eq0.false);
      fits = omega (arith, c.if-end-gt-MAX_LINE_BYTES.false);
      right = c.read_front-count.ensures.right;
      within = omega (arith, c.read_front-count.ensures.count);
      feed = c.if-digits-count-ne-NEWLINE.false;
      are = c.read_front-count.ensures.elements;
    } in
    let none = ap (λ s. s.latest) c.self-2.view_is ∙ c.open.ensures.latest in
    let empty = sym (kept-open c.self-2.inside.progress.ended c.self-2.inside.elements
    c.self-2.inside.kept none)
    ∙ ap (λ s. s.part) c.self-2.view_is ∙ c.open.ensures.part ∙ c.requires.empty in
    let ended = c.end_line.ensures in
    let part : length (part_of c.end_line.new.self.ended c.append_front.new.self) ≡ 0 =
    ap (λ k. length (part_of k c.append_front.new.self)) ended.ended in (
      omega (
        arith,
        c.self-2.invariant.0,
        c.if-self.false,
        c.open.ensures.allowance,
        ap (λ s. s.allowance) c.self.view_is,
        ap (λ s. s.allowance) c.self-2.view_is,
        c.if-end-gt-MAX_LINE_BYTES.false,
        part,
        ended.lines,
        ended.allowance,
        ended.count,
      ),
      subst (λ k. IsKept k bits c.append_front.new.self) (sym c.end_line.ensures.ended)
          (subst (SpellsLine (Elements mark) bits)
          (sym (c.append_front.ensures ∙ ap (λ l. l ++ take (start + count) piece) empty))
          (digits-spell piece mark digits start count bits found)),
    )

pub returns-clause-taken : goal.returns-clause-taken
returns-clause-taken c = λ _.
    let piece = c.args.piece.now in
    let mark = c.args.mark in
    let digits = c.args.digits.now in
    let start = length piece - length digits in
    let count = c.read_front-count.result in
    let bits = c.read_front-count.new.self in
    let found : Digits piece mark digits start count bits = record {
      whole = c.requires.front;
      starts = refl;
      some = omega (arith, c.if-count-eq0.false);
      fits = omega (arith, c.if-end-gt-MAX_LINE_BYTES.false);
      right = c.read_front-count.ensures.right;
      within = omega (arith, c.read_front-count.ensures.count);
      feed = c.if-digits-count-ne-NEWLINE.false;
      are = c.read_front-count.ensures.elements;
    } in
    let ended = c.end_line.ensures in
    subst (TakesLine c.args.self.now _ piece (Elements mark))
    (sym ended.count)
    (takes-digits c.args.self.now _ piece mark digits start count bits found c.requires.empty
    (ap (λ k. line_ended k bits) ended.ended)
    (ap (λ k. part_of k c.append_front.new.self) ended.ended)
    (ended.lines ∙ ap (λ s. s.lines + 1) c.self-2.view_is
    ∙ ap (λ n. n + 1) c.open.ensures.lines)
    (omega (
      arith,
      ended.allowance,
      ended.count,
      ap (λ s. s.allowance) c.self-2.view_is,
      c.open.ensures.allowance,
    )))
