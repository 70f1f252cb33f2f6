use Rattle.std.proofs.Common.{rules, ◌++◌, ◌∷◌, [], ◌∙◌, ap, subst}
use Rattle.std.proofs.lemmas.Result.{err_from_is_err_and}
use Rattle.nx_fec.specs.Runs.{file_limit}
use Rattle.nx_fec.specs.air_files.LineReading.{GivesNext}
use Rattle.nx_fec.proofs.lemmas.line_runs.ElementsRead.{elements-fault, elements-read, elements-unheld}
use Rattle.nx_fec.proofs.lemmas.line_runs.ElementsRead.{elements-stopped, joined-more}
use Rattle.nx_fec.proofs.lemmas.line_runs.LineReading.{Given-not_read, next-line, unfailed}
use Rattle.nx_fec.proofs.air_files.reading.read_elements.Goals as goal

pub returns-in_err-kind : goal.returns-in_err-kind
returns-in_err-kind g c =
    let r = c.loop-bits.invariant.read in
    let p = err_from_is_err_and c.from_residual.result c.from_residual.ensures.1 in
    rw p.1 (rw p.2 (elements-stopped _ c.next.new.self (search rules) r.0 c.in_err-kind.field-0.0
    (c.in_err-kind.ensures.gives file_limit _ r.0 r.1) c.in_err-kind.ensures.failed
    c.in_err-kind.ensures.once))

pub returns-in_err-pass_piece-in-Line : goal.returns-in_err-pass_piece-in-Line
returns-in_err-pass_piece-in-Line g c =
    let r = c.loop-bits.invariant.read in
    let p = err_from_is_err_and c.from_residual-in_err-pass_piece-in-Line.result
    c.from_residual-in_err-pass_piece-in-Line.ensures.1 in
    let n = next-line g.R.Read.remaining file_limit _ c.next.new.self r.0 c.in-Line.kind
    c.in_ok-kind.field-0 c.in-Line.is (c.in_ok-kind.ensures.gives file_limit _ r.0 r.1)
    c.in_ok-kind.ensures.line in
    let passed =
    c.in_err-pass_piece-in-Line.ensures.passed file_limit _ (r.0 ++ n.line ∷ []) n.given in
    rw p.1 (rw p.2 (elements-fault _ c.pass_piece.new.self (search rules)
    ((r.0 ++ n.line ∷ []) ++ passed.0) _ passed.1
    (ap (λ r. r.failures) c.in_err-pass_piece-in-Line.ensures.unread
    ∙ unfailed _ _ (Given-not_read _)
    c.in_ok-kind.ensures.failed c.in_ok-kind.ensures.once)))

pub returns-in-Err : goal.returns-in-Err
returns-in-Err g c =
    let r = c.loop-bits.invariant.read in
    let n = next-line g.R.Read.remaining file_limit _ c.next.new.self r.0 c.in-Line.kind
    c.in_ok-kind.field-0 c.in-Line.is (c.in_ok-kind.ensures.gives file_limit _ r.0 r.1)
    c.in_ok-kind.ensures.line in
    let passed = c.in_ok-pass_piece-in-Line.ensures.passed file_limit _ (r.0 ++ n.line ∷ []) n.given in
    elements-unheld _ c.pass_piece.new.self (search rules) (r.0 ++ n.line ∷ []) c.in-Err.error
    passed (ap (λ r. r.failures) c.in_ok-pass_piece-in-Line.ensures.unread
    ∙ unfailed _ _ (Given-not_read _) c.in_ok-kind.ensures.failed c.in_ok-kind.ensures.once)

pub loop-bits-preserved-in_default : goal.loop-bits-preserved-in_default
loop-bits-preserved-in_default g c =
    let r = c.loop-bits.invariant.read in
    let n = next-line g.R.Read.remaining file_limit _ c.next.new.self r.0 c.in-Line.kind
    c.in_ok-kind.field-0 c.in-Line.is (c.in_ok-kind.ensures.gives file_limit _ r.0 r.1)
    c.in_ok-kind.ensures.line in
    record {
      same = c.in_ok-kind.ensures.same ∙ c.loop-bits.invariant.same;
      none = unfailed _ _ (Given-not_read _) c.in_ok-kind.ensures.failed c.in_ok-kind.ensures.once;
      read = (
        r.0 ++ n.line ∷ [],
        n.given,
        joined-more r.0 n.line c.loop-bits.bits.items _ r.2
            (c.in_default.ensures n.line n.latest n.kind_is),
      );
    }

pub returns-in-End : goal.returns-in-End
returns-in-End g c =
    let r = c.loop-bits.invariant.read in
    elements-read _ c.next.new.self (search rules) r.0 c.loop-bits.bits
    (subst (GivesNext g.R.Read.remaining file_limit _ _ r.0) c.in-End.is
    (c.in_ok-kind.ensures.gives file_limit _ r.0 r.1))
    (unfailed _ _ (Given-not_read _) c.in_ok-kind.ensures.failed c.in_ok-kind.ensures.once) r.2
