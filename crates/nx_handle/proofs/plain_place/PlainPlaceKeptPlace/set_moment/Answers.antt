use Rattle.nx_handle.proofs.lemmas.Places.{on_ok-both}
use Rattle.nx_handle.proofs.lemmas.Plain.{has-taken}
use Rattle.nx_handle.proofs.plain_place.PlainPlaceKeptPlace.set_moment.Goals as goal

pub returns-clause-taken : goal.returns-clause-taken
returns-clause-taken c =
    on_ok-both c.set_moment.result c.set_moment.ensures.stands c.set_moment.ensures.taken
    (λ takes within. has-taken c.args.self.now c.in-Hears.receiver c.set_moment.new.self
    c.args.moment c.in-Hears.is (λ start history log s. takes start history log s) within.0
    within.1)
