use Rattle.std.proofs.Common.{◌∙◌, ◌++◌, ℕ, List, ap, append-nil, arith, length, refl, subst, subst₂, sym, take}
use Rattle.nx_watch.specs.private.Scanning.{IsScanning, OnUnknown, lines_ended}
use Rattle.nx_watch.proofs.lines.any_lines.AnyLines.next.Goals as goal

pub returns-then-is_empty-clause-looks : goal.returns-then-is_empty-clause-looks
returns-then-is_empty-clause-looks c = record {
  count = 0;
  within = omega arith;
  looked = sym (ap (λ (l : List ℕ). length l) (c.is_empty.ensures.empty c.if-is_empty.true));
  rest = refl;
  scans = λ bytes lines h. subst₂ (IsScanning c.args.self.now.scanner) (sym (append-nil bytes))
      (sym (append-nil lines)) h;
  reason = λ bytes lines h. tt;
}

pub returns-in-Line-clause-looks : goal.returns-in-Line-clause-looks
returns-in-Line-clause-looks c =
    let new = c.take-count.new.self in
    let count = c.take-count.result.0 in
    record {
      count = count;
      within = omega (
        arith,
        c.take-count.ensures.all,
        ap (λ (l : List ℕ). length l)
            c.rest.ensures.bytes,
      );
      looked = c.take-count.ensures.some;
      rest = c.pass.ensures;
      scans = λ bytes lines h.
          subst (λ e. IsScanning new (bytes ++ take count c.args.self.now.piece)
          (lines ++ lines_ended e new.scanner.latest)) c.in-Line.is
          (subst (λ p. IsScanning new (bytes ++ take count p)
          (lines ++ lines_ended c.take-count.result.1 new.scanner.latest)) c.rest.ensures.bytes
          (c.take-count.ensures.scans bytes lines h));
      reason = λ bytes lines h. tt;
    }

pub returns-in-Unknown-clause-looks : goal.returns-in-Unknown-clause-looks
returns-in-Unknown-clause-looks c =
    let new = c.take-count.new.self in
    let count = c.take-count.result.0 in
    record {
      count = count;
      within = omega (
        arith,
        c.take-count.ensures.all,
        ap (λ (l : List ℕ). length l)
            c.rest.ensures.bytes,
      );
      looked = c.take-count.ensures.some;
      rest = c.pass.ensures;
      scans = λ bytes lines h.
          subst (λ e. IsScanning new (bytes ++ take count c.args.self.now.piece)
          (lines ++ lines_ended e new.scanner.latest)) c.in-Unknown.is
          (subst (λ p. IsScanning new (bytes ++ take count p)
          (lines ++ lines_ended c.take-count.result.1 new.scanner.latest)) c.rest.ensures.bytes
          (c.take-count.ensures.scans bytes lines h));
      reason = λ bytes lines h.
          subst (λ e. OnUnknown e (bytes ++ take count c.args.self.now.piece) lines)
          c.in-Unknown.is
          (subst (λ p. OnUnknown c.take-count.result.1 (bytes ++ take count p) lines)
          c.rest.ensures.bytes (c.take-count.ensures.reason bytes lines h));
    }

pub returns-in-Nothing-clause-looks : goal.returns-in-Nothing-clause-looks
returns-in-Nothing-clause-looks c =
    let new = c.take-count.new.self in
    let count = c.take-count.result.0 in
    record {
      count = count;
      within = omega (
        arith,
        c.take-count.ensures.all,
        ap (λ (l : List ℕ). length l)
            c.rest.ensures.bytes,
      );
      looked = c.take-count.ensures.whole c.in-Nothing.is
          ∙ ap (λ (l : List ℕ). length l) c.rest.ensures.bytes;
      rest = c.pass.ensures;
      scans = λ bytes lines h.
          subst (λ e. IsScanning new (bytes ++ take count c.args.self.now.piece)
          (lines ++ lines_ended e new.scanner.latest)) c.in-Nothing.is
          (subst (λ p. IsScanning new (bytes ++ take count p)
          (lines ++ lines_ended c.take-count.result.1 new.scanner.latest)) c.rest.ensures.bytes
          (c.take-count.ensures.scans bytes lines h));
      reason = λ bytes lines h. tt;
    }
