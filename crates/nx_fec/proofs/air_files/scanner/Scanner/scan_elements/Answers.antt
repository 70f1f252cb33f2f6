use Rattle.std.proofs.Common.{◌≡◌, ◌+◌, ◌-◌, ◌∙◌, ◌++◌, ap, arith, length, refl, subst, sym, take}
use Rattle.nx_fec.specs.private.ScannerKept.{IsKept, SpellsLine, line_ended, part_of}
use Rattle.nx_fec.specs.private.WholeLines.{TakesLine}
use Rattle.nx_fec.specs.declared.air_files.lines.LineKind.TheVariants.{Elements}
use Rattle.nx_fec.proofs.lemmas.lines.WholeLine.{Digits, digits-behind-front, digits-spell, takes-digits}
use Rattle.nx_fec.proofs.air_files.scanner.Scanner.scan_elements.Goals as goal

pub pack_near-number-requires : goal.pack_near-number-requires
pack_near-number-requires c =
    omega (
      arith,
      c.requires.long,
      digits-behind-front c.args.piece.now c.args.mark c.args.digits.now c.requires.front,
    )

pub invariant_of-self : goal.invariant_of-self
invariant_of-self c =
    let piece = c.args.piece.now in
    let digits = c.args.digits.now in
    let count = c.pack_near-number.result.1 in
    let start = length piece - length digits in
    let short = digits-behind-front piece c.args.mark digits c.requires.front in
    let found : Digits piece c.args.mark digits start count c.put.new.self = record {
      whole = c.requires.front;
      starts = refl;
      some = omega (arith, c.if-count-eq0.false);
      fits = omega (arith, short, c.if-count-gt-NEAR_ELEMENTS.false);
      right = c.pack_near-number.ensures.right;
      within = omega (arith, short, c.requires.long, c.if-count-gt-NEAR_ELEMENTS.false);
      feed = c.if-digits-count-ne-NEWLINE.false;
      are = c.put.ensures ∙ c.pack_near-number.ensures.number;
    } in
    let ended = c.end_line.ensures in
    let none : length (part_of c.end_line.new.self.ended c.append_front.new.self) ≡ 0 =
    ap (λ k. length (part_of k c.append_front.new.self)) ended.ended in (
      omega (
        arith,
        short,
        c.self.invariant.0,
        c.requires.allowance,
        ap (λ s. s.allowance) c.self.view_is,
        c.if-count-gt-NEAR_ELEMENTS.false,
        none,
        ended.lines,
        ended.allowance,
        ended.count,
      ),
      subst (λ k. IsKept k c.put.new.self c.append_front.new.self) (sym c.end_line.ensures.ended)
          (subst (SpellsLine (Elements c.args.mark) c.put.new.self)
          (sym (c.append_front.ensures ∙ ap (λ l. l ++ take (start + count) piece) c.clear.ensures))
          (digits-spell piece c.args.mark digits start count c.put.new.self found)),
    )

pub returns-clause-taken : goal.returns-clause-taken
returns-clause-taken c =
    let piece = c.args.piece.now in
    let digits = c.args.digits.now in
    let count = c.pack_near-number.result.1 in
    let start = length piece - length digits in
    let short = digits-behind-front piece c.args.mark digits c.requires.front in
    let found : Digits piece c.args.mark digits start count c.put.new.self = record {
      whole = c.requires.front;
      starts = refl;
      some = omega (arith, c.if-count-eq0.false);
      fits = omega (arith, short, c.if-count-gt-NEAR_ELEMENTS.false);
      right = c.pack_near-number.ensures.right;
      within = omega (arith, short, c.requires.long, c.if-count-gt-NEAR_ELEMENTS.false);
      feed = c.if-digits-count-ne-NEWLINE.false;
      are = c.put.ensures ∙ c.pack_near-number.ensures.number;
    } in
    let ended = c.end_line.ensures in
    subst (TakesLine c.args.self.now _ piece (Elements c.args.mark))
    (sym ended.count)
    (takes-digits c.args.self.now _ piece c.args.mark digits start count c.put.new.self found
    c.requires.empty (ap (λ k. line_ended k c.put.new.self) ended.ended)
    (ap (λ k. part_of k c.append_front.new.self) ended.ended)
    (ended.lines ∙ ap (λ s. s.lines + 1) c.self.view_is)
    (omega (arith, ended.allowance, ended.count, ap (λ s. s.allowance) c.self.view_is)))
