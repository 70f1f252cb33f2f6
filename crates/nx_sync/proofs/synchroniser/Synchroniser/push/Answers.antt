use Rattle.std.proofs.Common.{ap, sym, ◌∙◌}
use Rattle.nx_sync.proofs.lemmas.states.Pushes.{good_hunting, good_locked}
use Rattle.nx_sync.proofs.synchroniser.Synchroniser.push.Goals as goal

pub returns-in-None-clause-stands : goal.returns-in-None-clause-stands
returns-in-None-clause-stands c bits a =
    (good_hunting c.args.self.now c.shift_in.new.self c.hunt_on.new.self bits c.args.bit
    c.hunt_on.result a c.shift_in.ensures (sym (ap (λ y. y.track) c.self.view_is) ∙ c.in-None.is)
    (record {
      early = c.hunt_on.ensures.early;
      quiet = c.hunt_on.ensures.none;
      finding =
          c.hunt_on.ensures.found;
    })).stands

pub returns-in-None-clause-step : goal.returns-in-None-clause-step
returns-in-None-clause-step c bits a =
    (good_hunting c.args.self.now c.shift_in.new.self c.hunt_on.new.self bits c.args.bit
    c.hunt_on.result a c.shift_in.ensures (sym (ap (λ y. y.track) c.self.view_is) ∙ c.in-None.is)
    (record {
      early = c.hunt_on.ensures.early;
      quiet = c.hunt_on.ensures.none;
      finding =
          c.hunt_on.ensures.found;
    })).step

pub returns-in-Some-clause-stands : goal.returns-in-Some-clause-stands
returns-in-Some-clause-stands c bits a =
    (good_locked c.args.self.now c.shift_in.new.self c.follow.new.self bits c.args.bit
    c.follow.result c.in-Some.track a c.shift_in.ensures
    (sym (ap (λ y. y.track) c.self.view_is) ∙ c.in-Some.is)
    (c.self.invariant.2 c.in-Some.track c.in-Some.is).0
    (record { inner = c.follow.ensures.inside; whole = c.follow.ensures.whole })).stands

pub returns-in-Some-clause-step : goal.returns-in-Some-clause-step
returns-in-Some-clause-step c bits a =
    (good_locked c.args.self.now c.shift_in.new.self c.follow.new.self bits c.args.bit
    c.follow.result c.in-Some.track a c.shift_in.ensures
    (sym (ap (λ y. y.track) c.self.view_is) ∙ c.in-Some.is)
    (c.self.invariant.2 c.in-Some.track c.in-Some.is).0
    (record { inner = c.follow.ensures.inside; whole = c.follow.ensures.whole })).step
