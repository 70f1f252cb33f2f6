use Rattle.std.proofs.Common.{◌++◌, ◌∷◌, [], length, refl, ap, ◌∙◌, arith, cond, ◌&&◌}
use Rattle.nx_combine.specs.Notes.{Noting}
use Rattle.nx_combine.proofs.lemmas.Noted.{notes_one, pushed, not_pushed}
use Rattle.nx_combine.proofs.notes.PositionNotes.note.Goals as goal

pub returns : goal.returns
returns c = λ lock from is.
    let old = c.args.self.now in
    let items = ap (λ (n : Noting). n.positions) c.self.view_is in
    let push = c.try_push-full.ensures in
    notes_one old _ lock from c.args.position c.args.is_alike is
    (λ h. pushed c.try_push-full.result push.variant push.ok
    (omega (arith, h, ap length items))
    ∙ ap (λ l. l ++ c.args.position ∷ []) items)
    (λ h. ap (λ v. v.items) (not_pushed c.try_push-full.result push.variant push.err
    (omega (arith, h, ap length items))) ∙ items)
    (c.sure_after-self-inside.ensures
    ∙ ap (λ n. cond (c.args.is_alike && c.self.inside.was_alike) n c.self.inside.sure)
    c.len-count.ensures.value
    ∙ ap (λ (n : Noting). cond (c.args.is_alike && n.was_alike)
    (length c.try_push-full.new.self.items) n.sure) c.self.view_is)
    refl
