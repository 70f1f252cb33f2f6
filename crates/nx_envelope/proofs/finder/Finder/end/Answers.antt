use Rattle.std.proofs.Common.{ap, subst, ◌∙◌}
use Rattle.nx_envelope.specs.Found.{IsFoundOf}
use Rattle.nx_envelope.specs.declared.found.How.TheVariants.{Cut}
use Rattle.nx_envelope.specs.FinderView.{FinderView}
use Rattle.nx_envelope.proofs.lemmas.finder.Hearing.{closes_none, closes_copy, none_open}
use Rattle.nx_envelope.proofs.finder.Finder.end.Goals as goal

pub returns-in_default : goal.returns-in_default
returns-in_default c = record {
  closes = λ text h.
      let held = ap (λ (v : FinderView). v.copy) c.self.view_is in
      closes_none text (none_open c.self.inside.copy c.args.self.now.text text c.in_default.not-Open
      (rw held h.copy));
  as_new = c.restart.ensures.as_new;
}

pub returns-clause-closes : goal.returns-clause-closes
returns-clause-closes c = λ text h.
    let held = ap (λ (v : FinderView). v.copy) c.self.view_is in
    let kept = ap (λ (v : FinderView). v.text) c.self.view_is in
    closes_copy c.in-Open.field-1 c.args.self.now.text text c.in-Open.identity
    c.found_of-found.result (rw (← held, c.in-Open.is) at h.copy)
    (subst (λ t. IsFoundOf c.in-Open.identity Cut t c.found_of-found.result)
    (ap (λ v. v.items) c.take.ensures.value ∙ kept) c.found_of-found.ensures)
