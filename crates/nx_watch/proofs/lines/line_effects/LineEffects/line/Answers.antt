use Rattle.std.proofs.Common.{◌∙◌, Some}
use Rattle.nx_watch.specs.Acting.{moments_behind}
use Rattle.nx_watch.proofs.lemmas.lines.Acting.{acting-is, counts-on}
use Rattle.nx_watch.proofs.lines.line_effects.LineEffects.line.Goals as goal

pub returns-clause-kept : goal.returns-clause-kept
returns-clause-kept c = λ first lines line before kind answer kept same set.
    let behind = moments_behind first lines in
    let e = c.effect_of-effect.ensures.kept first behind line kind answer set in (
      c.count.ensures.kept first lines (Some line) before kept
          (counts-on before c.args.self.now c.effect_of-effect.new.self same
          c.effect_of-effect.ensures.counts)
          (c.is_acting.ensures ∙ acting-is first behind (Some line) _ e.1) e.0,
      e.1,
    )
