use Rattle.std.proofs.lemmas.Result.{err_from_is_err_and}
use Rattle.nx_fec.proofs.lemmas.line_runs.LineReading.{end-fault}
use Rattle.nx_fec.proofs.air_files.line_reader.LineReader.read.Goals as goal

pub returns-in_err-end-in-End-clause-read : goal.returns-in_err-end-in-End-clause-read
returns-in_err-end-in-End-clause-read g c = λ limit first lines h.
    let p = err_from_is_err_and c.from_residual.result c.from_residual.ensures.1 in
    rw p.1 (rw p.2 (end-fault g.R.Read.remaining limit first _ _ lines _
    c.in-End.ensures.piece.0 c.in-End.ensures.piece.1 c.requires.passed h
    (c.in_err-end-in-End.ensures limit h.looked_at lines h.scans)))
