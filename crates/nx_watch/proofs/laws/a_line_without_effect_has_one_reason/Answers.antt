use Rattle.nx_watch.proofs.lemmas.lines.Reasons.{lacks-one}
use Rattle.nx_watch.proofs.laws.a_line_without_effect_has_one_reason.Goals as goal

pub returns : goal.returns
returns c = lacks-one
