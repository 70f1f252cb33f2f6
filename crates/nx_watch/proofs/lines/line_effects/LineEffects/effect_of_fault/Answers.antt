use Rattle.std.proofs.Common.{◌≡◌, ◌∙◌, ◌++◌, Some, true, ap, not, subst, sym}
use Rattle.std.proofs.lemmas.Bool.{and_from, and_left, and_right, le-leb}
use Rattle.nx_envelope.specs.Moment.{last_moment}
use Rattle.nx_fec.specs.air_files.AirFile.{moment}
use Rattle.nx_receiver.specs.Moments.{Refuses}
use Rattle.nx_watch.specs.Acting.{in_force, is_far_back}
use Rattle.nx_watch.specs.private.Effects.{KeepsMoments}
use Rattle.nx_watch.proofs.lemmas.lines.Acting.{back-idle, far-same, said-in}
use Rattle.nx_watch.proofs.lines.line_effects.LineEffects.effect_of_fault.Goals as goal
use Rattle.nx_watch.proofs.lines.line_effects.LineEffects.effect_of_fault.Goals.{else-is_far_back-via-then-is_far_back+else-went_far_back, else-is_far_back-via-else-is_far_back}

pub returns-then-went_far_back-clause-kept : goal.returns-then-went_far_back-clause-kept
returns-then-went_far_back-clause-kept c = λ first moments n refused k.
    let why = subst (Refuses (in_force first.newest moments) n) c.in-Back.is refused in
    let is_far : not c.is_recent-is_far_back.result ≡ is_far_back first.newest moments n =
    ap not c.is_recent-is_far_back.ensures
    ∙ far-same c.in-Back.last c.in-Back.given (in_force first.newest moments) n why.0 why.1 why.3 in
    let far : is_far_back first.newest moments n ≡ true =
    sym is_far ∙ ap not c.if-is_far_back.true in (
      subst (λ l. KeepsMoments first (moments ++ l) c.keep_moment-went_far_back.new.self)
          (sym (said-in n why.2))
          (c.keep_moment-went_far_back.ensures.kept first moments n is_far k),
      (
        back-idle first.newest moments n why.3,
        and_from _ _ (and_from _ _ (le-leb n last_moment why.2) far)
            (sym k.far_back ∙ sym c.keep_moment-went_far_back.ensures.far
            ∙ c.if-went_far_back.true),
        why.0,
        ap (λ m. Some (moment m)) (sym why.1),
      ),
    )

pub returns-else-is_far_back-clause-kept : goal.returns-else-is_far_back-clause-kept
returns-else-is_far_back-clause-kept c = λ first moments n refused k.
    let why = subst (Refuses (in_force first.newest moments) n) c.in-Back.is refused in
    let is_far : not c.is_recent-is_far_back.result ≡ is_far_back first.newest moments n =
    ap not c.is_recent-is_far_back.ensures
    ∙ far-same c.in-Back.last c.in-Back.given (in_force first.newest moments) n why.0 why.1 why.3 in (
      subst (λ l. KeepsMoments first (moments ++ l) c.keep_moment-went_far_back.new.self)
          (sym (said-in n why.2))
          (c.keep_moment-went_far_back.ensures.kept first moments n is_far k),
      (
        back-idle first.newest moments n why.3,
        elim c.else-is_far_back.branch [
          | else-is_far_back-via-then-is_far_back+else-went_far_back w ↦
              and_right _ _ (sym k.far_back ∙ sym c.keep_moment-went_far_back.ensures.far
              ∙ w.if-went_far_back.false)
          | else-is_far_back-via-else-is_far_back w ↦
              and_left _ _ (and_right _ _ (sym is_far ∙ ap not w.if-is_far_back.false))
        ],
        λ bytes before. why.2,
      ),
    )
