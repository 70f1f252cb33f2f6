use Rattle.std.proofs.Common.{inl, inr, ap}
use Rattle.nx_locks.specs.private.Showing.{Showing}
use Rattle.nx_locks.specs.private.Taker.{Taking}
use Rattle.nx_locks.proofs.lemmas.Taking.{accept_station_line, accept_subject_line, cleared}
use Rattle.nx_locks.proofs.lemmas.Taking.{nothing_more, refuse_station_line, subject_shown}
use Rattle.nx_locks.proofs.report_writer.ReportWriter.take.Goals as goal

pub returns-in-RefuseSubject : goal.returns-in-RefuseSubject
returns-in-RefuseSubject c = rw (← c.self.view_is) (λ lines given h few.
    let i = c.self.inside in
    let old : Showing =
    record { synchroniser = i.synchroniser; taker = i.taker; has_moment = i.has_moment } in
    let now : Showing = record old { taker = c.clear.new.self } in
    let mark = c.in-RefuseSubject.field-0 in
    rw c.in-RefuseSubject.is (
    subject_shown c.check_subject.result now lines mark c.in-RefuseSubject.byte
    c.of_capital.result.byte given c.of_capital.ensures
    (ap (λ (t : Taking). t.shown) c.clear.ensures)
    (cleared old c.clear.new.self lines given c.clear.ensures h)
    (c.check_subject.ensures lines mark)))

pub returns-in-RefuseStation : goal.returns-in-RefuseStation
returns-in-RefuseStation c = rw (← c.self.view_is) (λ lines given h few.
    let i = c.self.inside in
    let old : Showing =
    record { synchroniser = i.synchroniser; taker = i.taker; has_moment = i.has_moment } in
    let now : Showing = record old { taker = c.clear.new.self } in
    let none = ap (λ (t : Taking). t.shown) c.clear.ensures in
    let stood = cleared old c.clear.new.self lines given c.clear.ensures h in
    elim c.in-RefuseStation.is [
      | inl is ↦ rw is.2 (nothing_more now _ given none
          (refuse_station_line now lines is.0 is.1 given stood))
      | inr (inl is) ↦ rw is.2 (nothing_more now _ given none
          (accept_station_line now lines is.0 is.1 given stood))
      | inr (inr is) ↦ rw is.2 (nothing_more now _ given none
          (accept_subject_line now lines is.0 is.1 given stood))
    ])
