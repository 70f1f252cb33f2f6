use Rattle.std.proofs.Common.{subst}
use Rattle.std.proofs.lemmas.Result.{err_from_is_err_and}
use Rattle.nx_fec.specs.private.PieceReading.{HasReadOn}
use Rattle.nx_fec.proofs.air_files.line_reader.LineReader.next_of_all.Goals as goal
use Rattle.nx_fec.proofs.air_files.line_reader.LineReader.next_of_all.Goals.{then-is_empty+else-not-self+in_ok-has_more+else-not-has_more, else-is_empty}

pub returns-in_err-has_more-clause-gives : goal.returns-in_err-has_more-clause-gives
returns-in_err-has_more-clause-gives g c = λ limit first lines h.
    let p = err_from_is_err_and c.from_residual.result c.from_residual.ensures.1 in
    rw p.1 (rw p.2 (c.in_err-has_more.ensures.read limit first lines h))

pub returns-then-not-has_more-clause-gives : goal.returns-then-not-has_more-clause-gives
returns-then-not-has_more-clause-gives g c = λ limit first lines h.
    subst (HasReadOn g.R.Read.remaining limit first _ lines) c.if-not-has_more.true
    (c.in_ok-has_more.ensures.read limit first lines h)

pub returns-clause-gives : goal.returns-clause-gives
returns-clause-gives g c = λ limit first lines h.
    elim c.if-is_empty.branch [
      | then-is_empty+else-not-self+in_ok-has_more+else-not-has_more w ↦
          let on = subst (HasReadOn g.R.Read.remaining limit first _ lines) w.if-not-has_more.false
          (w.in_ok-has_more.ensures.read limit first lines h) in
          c.in_ok-next.ensures.gives limit first lines (rw w.self-is on)
      | else-is_empty w ↦ c.in_ok-next.ensures.gives limit first lines (rw w.self-is h)
    ]
