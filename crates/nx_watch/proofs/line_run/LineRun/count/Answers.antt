use Rattle.std.proofs.Common.{◌++◌, ◌∙◌, subst}
use Rattle.nx_watch.specs.LineRun.{HasTold}
use Rattle.nx_watch.specs.LinesTold.{IsFirstTold, number_told}
use Rattle.nx_watch.proofs.line_run.LineRun.count.Goals as goal

pub returns-clause-told : goal.returns-clause-told
returns-clause-told g c = λ first old bytes lines tells. record {
  one = tells.one;
  is = subst (λ o. IsFirstTold bytes lines o tells.one) tells.kept_so.first_one tells.is;
  told = subst (λ n. HasTold old.old (g.F.Write.contents c.tell_number.new.notices.inner)
      c.tell_number.new.notices.failures
      (((old.before ++ tells.one) ++ old.behind) ++ number_told n))
      (c.without_effect.ensures ∙ tells.kept_so.without)
      (c.tell_number.ensures old.old ((old.before ++ tells.one) ++ old.behind) tells.told);
}
