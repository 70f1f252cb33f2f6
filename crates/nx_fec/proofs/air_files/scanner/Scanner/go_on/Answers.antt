use Rattle.std.proofs.Common.{◌≡◌, ◌∙◌, ◌+◌, ◌<◌, ◌≤◌, length, take, ap, refl, sym, arith}
use Rattle.std.proofs.Common.{length-append}
use Rattle.std.proofs.lemmas.List.{length-take-le}
use Rattle.nx_fec.proofs.lemmas.lines.Scan.{Scans-on, StopsIn-file, StopsIn-line}
use Rattle.nx_fec.proofs.lemmas.lines.WholeLine.{part-more}
use Rattle.nx_fec.proofs.lemmas.lines.Kept.{kept-open}
use Rattle.nx_fec.proofs.air_files.scanner.Scanner.go_on.Goals as goal

pub returns-then-self-eq0-clause-bytes : goal.returns-then-self-eq0-clause-bytes
returns-then-self-eq0-clause-bytes c = λ limit before lines h.
    let bytes = take c.args.count c.args.piece.now in
    let fitting = c.min-fitting.result in
    let size : length bytes ≡ c.args.count =
    length-take-le c.args.count c.args.piece.now c.requires.within in
    let within : fitting < length bytes =
    omega (arith, c.min.ensures, c.min-fitting.ensures, c.if-fitting-count.false, size) in
    let none = ap (λ s. s.latest) c.self.view_is ∙ c.open.ensures.latest in
    let kept = sym (kept-open c.self.inside.progress.ended c.self.inside.elements c.self.inside.kept
    none)
    ∙ ap (λ s. s.part) c.self.view_is in
    let whole = part-more c.self.inside.progress.ended c.self.inside.elements c.self.inside.kept
    c.append_front.new.self c.args.piece.now c.open.new.self.part c.args.count fitting none kept
    c.append_front.ensures (omega (arith, within, size)) in
    let fits : length c.open.new.self.part + fitting ≤ 514 = omega (
      arith,
      c.min.ensures,
      c.min-fitting.ensures,
      c.len-line_room.ensures.count,
      ap length kept,
      c.len-line_room.ensures.fits,
    ) in
    StopsIn-file limit _ before bytes lines fitting c.requires.none within c.if-self-eq0.true
    (Scans-on limit c.args.self.now c.open.new.self _ before bytes lines fitting
    c.requires.none (omega (arith, within)) fits
    c.open.ensures.part c.open.ensures.lines c.open.ensures.allowance whole
    (ap (λ s. s.lines) c.self.view_is)
    (omega (arith, c.min-fitting.ensures, ap (λ s. s.allowance) c.self.view_is)) h)

pub returns-clause-bytes : goal.returns-clause-bytes
returns-clause-bytes c = λ limit before lines h.
    let bytes = take c.args.count c.args.piece.now in
    let fitting = c.min-fitting.result in
    let size : length bytes ≡ c.args.count =
    length-take-le c.args.count c.args.piece.now c.requires.within in
    let within : fitting < length bytes =
    omega (arith, c.min.ensures, c.min-fitting.ensures, c.if-fitting-count.false, size) in
    let none = ap (λ s. s.latest) c.self.view_is ∙ c.open.ensures.latest in
    let kept = sym (kept-open c.self.inside.progress.ended c.self.inside.elements c.self.inside.kept
    none)
    ∙ ap (λ s. s.part) c.self.view_is in
    let whole = part-more c.self.inside.progress.ended c.self.inside.elements c.self.inside.kept
    c.append_front.new.self c.args.piece.now c.open.new.self.part c.args.count fitting none kept
    c.append_front.ensures (omega (arith, within, size)) in
    let fits : length c.open.new.self.part + fitting ≤ 514 = omega (
      arith,
      c.min.ensures,
      c.min-fitting.ensures,
      c.len-line_room.ensures.count,
      ap length kept,
      c.len-line_room.ensures.fits,
    ) in
    StopsIn-line limit _ before bytes lines fitting _ c.requires.none within
    (omega (arith, c.if-self-eq0.false))
    (omega (
      arith,
      c.if-self-eq0.false,
      within,
      size,
      length-take-le fitting bytes (omega (arith, within)),
      fits,
      c.min.ensures,
      c.min-fitting.ensures,
      c.len-line_room.ensures.count,
      ap length kept,
      ap length whole,
      length-append c.open.new.self.part (take fitting bytes),
    )) refl
    (Scans-on limit c.args.self.now c.open.new.self _ before bytes lines fitting
    c.requires.none (omega (arith, within)) fits
    c.open.ensures.part c.open.ensures.lines c.open.ensures.allowance whole
    (ap (λ s. s.lines) c.self.view_is)
    (omega (arith, c.min-fitting.ensures, ap (λ s. s.allowance) c.self.view_is)) h)
