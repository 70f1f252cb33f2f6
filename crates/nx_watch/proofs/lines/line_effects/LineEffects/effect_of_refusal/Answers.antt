use Rattle.std.proofs.Common.{◌++◌, ◌∙◌, Some, Err, append-nil, ap, subst, sym}
use Rattle.nx_fec.specs.air_files.AirFile.{Line}
use Rattle.nx_watch.specs.Acting.{in_force}
use Rattle.nx_watch.specs.private.Effects.{IsAnswer, IsEffect, KeepsMoments, said_behind, set_by}
use Rattle.nx_watch.proofs.lines.line_effects.LineEffects.effect_of_refusal.Goals as goal

pub returns-in-Moment-clause-kept : goal.returns-in-Moment-clause-kept
returns-in-Moment-clause-kept c = λ first moments line answer k.
    let refused = subst (λ why. IsAnswer (in_force first.newest moments) line (Err why))
    c.in-Moment.is answer in
    let same = refused.1 in
    subst (λ (l : Line). KeepsMoments first (moments ++ said_behind first moments (Some l))
    c.effect_of_fault.new.self × IsEffect first moments (Some l) c.effect_of_fault.result)
    (sym same) (c.effect_of_fault.ensures.kept first moments refused.0 refused.2
    (subst (λ l. KeepsMoments first l c.args.self.now)
    (ap (λ l. moments ++ set_by first moments l) same ∙ append-nil moments) k))
