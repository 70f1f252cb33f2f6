use Rattle.std.proofs.Common.{[], reverse, sym, ap, subst, ◌∙◌}
use Rattle.nx_envelope.specs.Finder.{is_ready_copy}
use Rattle.nx_envelope.specs.FinderView.{FinderView}
use Rattle.nx_envelope.specs.private.HeaderStage.{IsStageOf}
use Rattle.nx_envelope.proofs.lemmas.finder.Hearing.{closes_held, closes_shut, none_held}
use Rattle.nx_envelope.proofs.finder.Finder.close.Goals as goal
use Rattle.nx_envelope.proofs.finder.Finder.close.Goals.{in-Open, in-Nothing}
use Rattle.nx_envelope.proofs.lemmas.copies.OneOpenCopy.{open_headers-nil}

pub returns : goal.returns
returns c =
    let held = ap (λ (v : FinderView). v.copy) c.self.view_is in
    let kept = ap (λ (v : FinderView). v.text) c.self-2.view_is in
    record {
      closes = λ text h. elim c.match-self.branch [
        | in-Open w ↦ closes_held w.in-Open.field-1 c.args.self.now.text text w.in-Open.identity _
            (rw (← held, w.in-Open.is) at h.copy) w.copy-is (kept ∙ c.restart.ensures.text)
        | in-Nothing w ↦ closes_shut text _
            (none_held c.self.inside.copy c.args.self.now.text text w.in-Nothing.is
            (rw held h.copy)) (ap is_ready_copy w.copy-is)
      ];
      as_new = record {
        recent = ap (λ (v : FinderView). v.recent) c.self-2.view_is
            ∙ c.restart.ensures.as_new.recent;
        stage = subst (λ s. IsStageOf s (reverse []))
            (sym (ap (λ (v : FinderView). v.stage) c.self-2.view_is))
            c.restart.ensures.as_new.stage;
        copy = elim c.match-self.branch [
          | in-Open w ↦ rw w.copy-is open_headers-nil
          | in-Nothing w ↦ rw w.copy-is open_headers-nil
        ];
      };
      text = kept ∙ c.restart.ensures.text;
    }

pub invariant_of-self : goal.invariant_of-self
invariant_of-self c = elim c.match-self.branch [
  | in-Open w ↦ rw w.copy-is tt
  | in-Nothing w ↦ rw w.copy-is tt
]
