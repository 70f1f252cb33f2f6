use Rattle.std.proofs.Common.{None, append-nil, refl, sym, subst}
use Rattle.nx_watch.specs.Acting.{moments_behind}
use Rattle.nx_watch.specs.private.Effects.{KeepsMoments}
use Rattle.nx_watch.proofs.lines.line_effects.LineEffects.not_understood.Goals as goal

pub returns-clause-kept : goal.returns-clause-kept
returns-clause-kept c = λ first lines kept.
    c.count.ensures.kept first lines None c.args.self.now kept
    (record { lines = refl; without = refl; first_one = refl }) refl
    (subst (λ l. KeepsMoments first l c.args.self.now)
    (sym (append-nil (moments_behind first lines))) kept.moments)
