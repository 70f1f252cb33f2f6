use Rattle.std.proofs.Common.{List, ℕ, reverse, sym, ap, subst, ◌∙◌}
use Rattle.std.specs.Str.{bytes_eq}
use Rattle.nx_envelope.specs.Finder.{StandsAfter}
use Rattle.nx_envelope.specs.FinderView.{FinderView}
use Rattle.nx_envelope.specs.Header.{start_marker}
use Rattle.nx_envelope.specs.private.Backward.{last_four}
use Rattle.nx_envelope.specs.private.Finding.{Hearing}
use Rattle.nx_envelope.specs.private.HeaderStage.{IsStageOf}
use Rattle.nx_envelope.proofs.lemmas.copies.Beginnings.{reverse-push}
use Rattle.nx_envelope.proofs.lemmas.finder.Hearing.{last_four-push, none_held}
use Rattle.nx_envelope.proofs.lemmas.finder.PlainBytes.{stage_open}
use Rattle.nx_envelope.proofs.finder.Finder.hear.Goals as goal

pub returns-in-Open-clause-stands : goal.returns-in-Open-clause-stands
returns-in-Open-clause-stands c = λ text h.
    let copy = ap (λ (v : FinderView). v.copy) c.self.view_is in
    let kept = ap (λ (v : FinderView). v.text) c.self.view_is in
    let stage = ap (λ (v : FinderView). v.stage) c.self.view_is in
    let recent = ap (λ (v : FinderView). v.recent) c.self.view_is ∙ h.recent in
    let back = reverse-push text c.args.byte in
    let last = last_four-push c.self.inside.recent (reverse text) c.args.byte recent in
    let opened = rw (← copy, c.in-Open.is) at h.copy in
    record {
      recent = c.add.ensures.recent ∙ last ∙ ap last_four (sym back);
      stage = rw c.add.ensures.stage (stage_open c.self.inside.stage c.in-Open.fresh
          c.args.self.now.text text c.in-Open.identity c.args.byte opened
          (subst (λ s. IsStageOf s (reverse text)) (sym stage) h.stage));
      copy = (c.add.ensures.hearing text (rw kept opened) last).holds;
    }

-- no copy is open: the byte begins one, or none
begun : (c : goal.After-begin) (text : List ℕ) → StandsAfter c.args.self.now text
    → Hearing text c.args.byte c.begin.result c.begin.new.self
begun c text h =
    let copy = ap (λ (v : FinderView). v.copy) c.self.view_is in
    let stage = ap (λ (v : FinderView). v.stage) c.self.view_is in
    c.begin.ensures.hearing text c.args.byte
    (none_held c.self.inside.copy c.args.self.now.text text c.in-Nothing.is (rw copy h.copy))
    (c.header-header.ensures (reverse text)
    (subst (λ s. IsStageOf s (reverse text)) (sym stage) h.stage))

pub returns-in-Nothing : goal.returns-in-Nothing
returns-in-Nothing c = record {
  stands = λ text h.
      let stage = ap (λ (v : FinderView). v.stage) c.self.view_is in
      let recent = ap (λ (v : FinderView). v.recent) c.self.view_is ∙ h.recent in
      let back = reverse-push text c.args.byte in
      record {
        recent = c.begin.ensures.recent
            ∙ last_four-push c.self.inside.recent (reverse text) c.args.byte recent
            ∙ ap last_four (sym back);
        stage = rw (c.begin.ensures.stage, back) (c.next-self-inside.ensures (reverse text)
            (subst (λ s. IsStageOf s (reverse text)) (sym stage) h.stage)
            (c.eq-after_start.ensures ∙ ap (λ (r : List ℕ). bytes_eq r start_marker) recent));
        copy = (begun c text h).holds;
      };
  hears = λ text h. (begun c text h).hears;
  ready = c.begin.ensures.ready;
}
