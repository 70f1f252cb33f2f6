use Rattle.std.proofs.Common.{◌∙◌, ◌++◌, ap, drop, refl, option_to_list, subst, append_assoc}
use Rattle.std.proofs.Math.Seq.{drop-nil}
use Rattle.std.proofs.lemmas.Result.{err_from_is_err_and}
use Rattle.nx_fec.specs.air_files.LineReading.{HasGivenLines}
use Rattle.nx_fec.proofs.lemmas.line_runs.LineReading.{looked-on, passed-all, piece-fault}
use Rattle.nx_fec.proofs.air_files.line_reader.LineReader.pass_piece.Goals as goal

pub returns-in_err-count-clause-passed : goal.returns-in_err-count-clause-passed
returns-in_err-count-clause-passed g c = λ limit first lines h.
    let p = err_from_is_err_and c.from_residual.result c.from_residual.ensures.1 in
    let s = c.loop-self.invariant.given limit first lines h in
    rw p.1 (rw p.2 (
      s.0,
      piece-fault g.R.Read.remaining limit first _ _ (lines ++ s.0)
          c.rest.result.now _ refl c.rest.ensures.bytes s.1 c.in_err-count.ensures.at_byte
          (c.in_err-count.ensures.bytes limit s.1.looked_at (lines ++ s.0) s.1.scans),
    ))

pub loop-self-preserved : goal.loop-self-preserved
loop-self-preserved g c = record {
  given = λ limit first lines h.
      let s = c.loop-self.invariant.given limit first lines h in
      let ended = option_to_list c.push_line.new.self.latest in (
        s.0 ++ ended,
        subst (HasGivenLines g.R.Read.remaining limit first _) (append_assoc lines s.0 ended)
            (looked-on g.R.Read.remaining limit first c.loop-self.self _ (lines ++ s.0) _
            c.rest.result.now c.in_ok-count.count refl c.rest.ensures.bytes c.pass.ensures s.1
            (c.in_ok-count.ensures.bytes limit s.1.looked_at (lines ++ s.0) s.1.scans)
            (λ over. c.pass.ensures ∙ ap (drop c.in_ok-count.count) (s.1.spent over)
            ∙ drop-nil c.in_ok-count.count)),
      );
  unread = c.loop-self.invariant.unread;
  same = c.loop-self.invariant.same;
}

pub returns-clause-passed : goal.returns-clause-passed
returns-clause-passed g c = λ limit first lines h.
    let s = c.loop-self.invariant.given limit first lines h in
    passed-all g.R.Read.remaining limit first _ (lines ++ s.0) s.1
    (c.is_empty.ensures.empty c.loop-self-test.false)
