use Rattle.std.proofs.Common.{◌++◌, ◌∙◌, [], Some, append-nil, ap, subst, sym}
use Rattle.nx_fec.specs.air_files.AirFile.{Line}
use Rattle.nx_watch.specs.Acting.{in_force}
use Rattle.nx_watch.specs.private.LineRun.{MayAct}
use Rattle.nx_watch.specs.private.Effects.{KeepsMoments, said_behind, set_by}
use Rattle.nx_watch.proofs.lemmas.lines.Acting.{moment-kind, said-in, taken-near}
use Rattle.nx_watch.proofs.lines.line_effects.LineEffects.keep_said.Goals as goal

pub returns-in-Moment-clause-kept : goal.returns-in-Moment-clause-kept
returns-in-Moment-clause-kept c = λ first moments line kind may k.
    let same = moment-kind line _ (kind ∙ c.in-Moment.is) in
    let here = subst (MayAct (in_force first.newest moments) []) same may in
    subst (λ (l : Line). KeepsMoments first (moments ++ said_behind first moments (Some l))
    c.keep_moment.new.self) (sym same)
    (subst (λ l. KeepsMoments first (moments ++ l) c.keep_moment.new.self) (sym (said-in _ here.1))
    (c.keep_moment.ensures.kept first moments _ (sym (taken-near first.newest moments _ here.0))
    (subst (λ l. KeepsMoments first l c.args.self.now)
    (ap (λ l. moments ++ set_by first moments l) same ∙ append-nil moments) k)))
