use Rattle.std.proofs.Common.{ap, ◌∙◌, sym}
use Rattle.std.proofs.lemmas.Bool.{false≢true}
use Rattle.nx_station.proofs.lemmas.broadcasts.Station.{another-found, all-same, none_of}
use Rattle.nx_station.proofs.broadcast.check_stations.Goals as goal

pub returns-in-Some-first_of_another-clause-refused :
    goal.returns-in-Some-first_of_another-clause-refused
returns-in-Some-first_of_another-clause-refused c =
    let first = rw c.in-Some.is at c.first.ensures.value in
    let station = ap (λ l. l.byte) c.b1-station.ensures ∙ ap (λ i. i.b1.byte) c.identity.ensures in
    another-found c.args.messages.now c.in-Some.first.now c.b1-station.result.byte first
    (sym station) _ (sym c.first_of_another.ensures ∙ c.in-Some-first_of_another.is)

pub returns-then-not-has_slots-clause-refused : goal.returns-then-not-has_slots-clause-refused
returns-then-not-has_slots-clause-refused c =
    let first = rw c.in-Some.is at c.first.ensures.value in
    let none = none_of c.first_of_another.result c.in_default-first_of_another.not-Some in (
      c.b1-station.result.byte,
      all-same c.args.messages.now c.in-Some.first.now c.b1-station.result.byte first
          (sym c.first_of_another.ensures ∙ none),
      λ h. false≢true (sym c.if-not-has_slots.true ∙ c.has_slots.ensures.1 h),
    )

pub returns-clause-ok : goal.returns-clause-ok
returns-clause-ok c =
    let first = rw c.in-Some.is at c.first.ensures.value in
    let none = none_of c.first_of_another.result c.in_default-first_of_another.not-Some in (
      c.b1-station.result.byte,
      all-same c.args.messages.now c.in-Some.first.now
          c.b1-station.result.byte first (sym c.first_of_another.ensures ∙ none),
      c.has_slots.ensures.0 c.if-not-has_slots.false,
    )
