use Rattle.std.proofs.Common.{◌≡◌, ◌+◌, ◌-◌, ◌^◌, arith, subst, sym}
use Rattle.std.specs.Prelude.{min}
use Rattle.nx_locks.proofs.lemmas.Hears.{step_taken}
use Rattle.nx_locks.specs.private.Taker.{Taking}
use Rattle.nx_locks.proofs.taker.LockTakerWordTaker.take_step.Goals as goal

pub returns : goal.returns
returns c = rw (← c.self.view_is) (record {
  hears = λ before after bits long brings.
      let i = c.self.inside in
      let count = c.saturating_add-self-inside.result in
      let old : Taking = record {
        reader = i.reader;
        moment = i.moment;
        elements = i.elements;
        locks = i.locks;
        copies = i.copies;
        shown = i.shown.items;
      } in
      step_taken old c.show.new.self before after count bits c.args.step
      (omega (arith, long, c.requires.some)) brings
      (subst (λ n. count ≡ min (i.elements + n) (2 ^ 64 - 1)) (sym long)
      c.saturating_add-self-inside.ensures) c.show.ensures.shows c.show.ensures.moment
      c.show.ensures.few;
})
