use Rattle.std.proofs.Common.{◌≡◌, ◌∙◌, sym, refl, false, true}
use Rattle.std.proofs.lemmas.Result.{err_from_is_err_and}
use Rattle.nx_fec.proofs.lemmas.line_runs.LineReading.{ended-line, ended-none, looked-on, no-latest}
use Rattle.nx_fec.proofs.lemmas.line_runs.LineReading.{piece-fault, taken-all}
use Rattle.nx_fec.proofs.air_files.line_reader.LineReader.next_of_piece.Goals as goal

pub returns-in_err-count-clause-gives : goal.returns-in_err-count-clause-gives
returns-in_err-count-clause-gives g c = λ limit first lines h.
    let p = err_from_is_err_and c.from_residual.result c.from_residual.ensures.1 in
    rw p.1 (rw p.2 (piece-fault g.R.Read.remaining limit first _ _ lines c.rest.result.now _ refl
    c.rest.ensures.bytes h c.in_err-count.ensures.at_byte
    (c.in_err-count.ensures.bytes limit h.looked_at lines h.scans)))

pub returns-in-Some-clause-gives : goal.returns-in-Some-clause-gives
returns-in-Some-clause-gives g c = λ limit first lines h.
    let ended = ended-line limit _ _ lines c.scan_part.new.self.latest c.in-Some.kind
    (sym c.in-Some.is ∙ c.latest.ensures)
    (c.in_ok-count.ensures.bytes limit h.looked_at lines h.scans) in (
      ended.line,
      ended.is,
      looked-on g.R.Read.remaining limit first _ _ lines _ c.rest.result.now c.in_ok-count.count
          refl c.rest.ensures.bytes c.pass.ensures h ended.scans
          (λ over. let no : false ≡ true = over in absurd (cc)),
    )

pub returns-in-None-clause-gives : goal.returns-in-None-clause-gives
returns-in-None-clause-gives g c = λ limit first lines h.
    let none = sym c.in-None.is ∙ c.latest.ensures in
    looked-on g.R.Read.remaining limit first _ _ lines _ c.rest.result.now c.in_ok-count.count refl
    c.rest.ensures.bytes c.pass.ensures h
    (ended-none limit _ _ lines c.scan_part.new.self.latest none
    (c.in_ok-count.ensures.bytes limit h.looked_at lines h.scans))
    (λ over. taken-all _ c.rest.result.now _ c.in_ok-count.count c.rest.ensures.bytes
    (c.in_ok-count.ensures.whole (no-latest _ none)) c.pass.ensures)
