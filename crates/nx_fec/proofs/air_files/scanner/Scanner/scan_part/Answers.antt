use Rattle.std.proofs.Common.{◌≡◌, ◌+◌, ◌∙◌, [], ◌∷◌, ◌++◌, ap, arith, length, option_to_list, refl, subst, sym, take}
use Rattle.std.proofs.Common.{IfSome, None, Ok, Some}
use Rattle.std.proofs.lemmas.Result.{err_from_is_err_and}
use Rattle.nx_fec.specs.air_files.AirFile.{IsLine, IsNoLine}
use Rattle.nx_fec.specs.air_files.Lines.{Scanning, Scans}
use Rattle.nx_fec.specs.air_files.Scanner.{ScansPiece, line_with}
use Rattle.nx_fec.specs.private.ScannerKept.{line_ended, part_of}
use Rattle.nx_fec.proofs.lemmas.lines.Feed.{NoFeed-all, NoFeed-before, feed-found}
use Rattle.nx_fec.proofs.lemmas.lines.Kept.{kept-open, still-open}
use Rattle.nx_fec.proofs.lemmas.lines.Piece.{piece-stopped, piece-taken}
use Rattle.nx_fec.proofs.lemmas.lines.Scan.{Scans-ended, Scans-line, Scans-open, StopsIn-feed}
use Rattle.nx_fec.proofs.lemmas.lines.Scan.{StopsIn-piece}
use Rattle.nx_fec.proofs.air_files.scanner.Scanner.scan_part.Goals as goal

pub go_on-requires-clause-none : goal.go_on-requires-clause-none
go_on-requires-clause-none c = NoFeed-all c.args.piece.now c.in_default.ensures

pub returns-in_err-go_on : goal.returns-in_err-go_on
returns-in_err-go_on c =
    let p = err_from_is_err_and c.from_residual.result c.from_residual.ensures.1 in
    rw (p.1, p.2) (piece-stopped c.args.self.now c.go_on.new.self c.args.piece.now _
    (λ limit bytes lines h. StopsIn-piece limit _ bytes c.args.piece.now
    (length c.args.piece.now) lines _ (c.in_err-go_on.ensures.bytes limit bytes lines h))
    c.in_err-go_on.ensures.at_byte)

pub returns-in_default : goal.returns-in_default
returns-in_default c =
    piece-taken c.args.self.now c.go_on.new.self c.args.piece.now (length c.args.piece.now)
    (λ limit bytes lines h.
    Scans-open limit c.go_on.new.self _ lines c.go_on.new.self.latest c.go_on.ensures.latest
    (c.in_ok-go_on.ensures.bytes limit bytes lines h))
    c.requires (omega arith)
    (subst (λ o. IfSome o IsLine) (sym c.go_on.ensures.latest) tt) (λ _. refl)
    c.in_ok-go_on.ensures.allowance

pub go_on-requires-2-clause-none : goal.go_on-requires-2-clause-none
go_on-requires-2-clause-none c =
    NoFeed-before c.args.piece.now c.in-Some.at c.in-Some.ensures.0.before

pub returns-in_err-go_on-2 : goal.returns-in_err-go_on-2
returns-in_err-go_on-2 c =
    let p = err_from_is_err_and c.from_residual-in_err-go_on-2.result
    c.from_residual-in_err-go_on-2.ensures.1 in
    rw (p.1, p.2) (piece-stopped c.args.self.now c.go_on-2.new.self c.args.piece.now _
    (λ limit bytes lines h. StopsIn-piece limit _ bytes c.args.piece.now c.in-Some.at lines _
    (c.in_err-go_on-2.ensures.bytes limit bytes lines h))
    c.in_err-go_on-2.ensures.at_byte)

pub returns-then-self-eq0 : goal.returns-then-self-eq0
returns-then-self-eq0 c =
    piece-stopped c.args.self.now _ c.args.piece.now _ (λ limit bytes lines h.
    let before = c.in_ok-go_on-2.ensures.bytes limit bytes lines h in
    StopsIn-feed limit c.go_on-2.new.self _ bytes c.args.piece.now c.in-Some.at lines _
    c.in-Some.ensures.0.high (feed-found c.args.piece.now c.in-Some.at c.in-Some.ensures.1) refl
    before (λ more. omega (
      arith,
      before.allowance,
      c.if-self-eq0.true,
      ap (λ (s : Scanning). s.allowance) c.self.view_is,
    ))) tt

pub returns-in_default-read_line : goal.returns-in_default-read_line
returns-in_default-read_line c =
    let i = c.self.inside in
    let none = ap (λ (s : Scanning). s.latest) c.self.view_is ∙ c.go_on-2.ensures.latest in
    let stays = still-open i.progress.ended i.elements c.read_line.new.elements none in
    let part = kept-open i.progress.ended i.elements i.kept none in
    piece-stopped c.args.self.now _ c.args.piece.now _ (λ limit bytes lines h.
    let before = c.in_ok-go_on-2.ensures.bytes limit bytes lines h in
    StopsIn-feed limit c.go_on-2.new.self _ bytes c.args.piece.now c.in-Some.at lines _
    c.in-Some.ensures.0.high (feed-found c.args.piece.now c.in-Some.at c.in-Some.ensures.1)
    (ap (λ l. record {
      part = part_of i.progress.ended i.kept;
      lines = i.progress.lines;
      allowance = i.progress.allowance;
      latest = l;
    }) (stays ∙ sym none) ∙ c.self.view_is)
    before (λ more. (
      omega (
        arith,
        before.allowance,
        c.if-self-eq0.false,
        ap (λ (s : Scanning). s.allowance) c.self.view_is,
      ),
      refl,
      subst IsNoLine (c.as_slice.ensures ∙ sym part
          ∙ ap (λ (s : Scanning). s.part) c.self.view_is) c.in_default-read_line.ensures.none,
      ap (λ n. n + 1) (ap (λ (s : Scanning). s.lines) c.self.view_is ∙ before.count),
    ))) tt

pub returns : goal.returns
returns c =
    let i = c.self.inside in
    let none = ap (λ (s : Scanning). s.latest) c.self.view_is ∙ c.go_on-2.ensures.latest in
    let part = kept-open i.progress.ended i.elements i.kept none in
    let line = line_with c.in-Some-read_line.kind c.read_line.new.elements in
    let found = c.in-Some-read_line.ensures.found in
    let ended = c.end_line.ensures in
    let latest = ap (λ k. line_ended k c.read_line.new.elements) ended.ended in
    let allowance = ap (λ (s : Scanning). s.allowance) c.self.view_is in
    let now : Scanning = record {
      part = part_of c.end_line.new.self.ended i.kept;
      lines = c.end_line.new.self.lines;
      allowance = c.end_line.new.self.allowance;
      latest = line_ended c.end_line.new.self.ended c.read_line.new.elements;
    } in
    subst (λ n. ScansPiece c.args.self.now now c.args.piece.now (Ok (c.in-Some.at + n)))
    (sym ended.count)
    (piece-taken c.args.self.now now c.args.piece.now (c.in-Some.at + 1)
    (λ limit bytes lines h.
    let before = c.in_ok-go_on-2.ensures.bytes limit bytes lines h in
    Scans-ended limit now bytes c.args.piece.now c.in-Some.at _ c.in-Some.ensures.0.high
    (feed-found c.args.piece.now c.in-Some.at c.in-Some.ensures.1)
    (subst (λ o. Scans limit now ((bytes ++ take c.in-Some.at c.args.piece.now) ++ 10 ∷ [])
    (lines ++ option_to_list o)) (sym latest)
    (Scans-line limit c.go_on-2.new.self now _ lines line before found.good
    (sym (ap (λ (s : Scanning). s.part) c.self.view_is) ∙ part ∙ sym c.as_slice.ensures
    ∙ found.spelled) (ap (λ k. part_of k i.kept) ended.ended)
    (ended.lines ∙ ap (λ n. n + 1) (ap (λ (s : Scanning). s.lines) c.self.view_is))
    (omega (arith, ended.allowance, ended.count, allowance)))))
    (omega arith) (omega (arith, c.in-Some.ensures.0.high))
    (subst (λ o. IfSome o IsLine) (sym latest) found.good)
    (λ e. let no : Some line ≡ None = sym latest ∙ e in absurd (cc))
    (omega (arith, ended.allowance, ended.count, allowance, c.in_ok-go_on-2.ensures.allowance)))
