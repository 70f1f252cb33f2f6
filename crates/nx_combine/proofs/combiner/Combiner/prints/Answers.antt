use Rattle.std.proofs.Common.{◌≡◌, ◌&&◌, ◌||◌, sym, ap, ◌∙◌, rules}
use Rattle.std.specs.Prelude.{◌==◌}
use Rattle.nx_combine.proofs.lemmas.Judged.{prints_known, prints_unknown}
use Rattle.nx_combine.specs.CombinedPrinting.{is_better_than_before}
use Rattle.nx_combine.proofs.combiner.Combiner.prints.Goals as goal

pub returns-then-head-eq0 : goal.returns-then-head-eq0
returns-then-head-eq0 g c = λ entries families before one text held stands errors comes.
    let urgent : c.if-selected.value ≡ (c.args.selected && (c.args.head.now.identity.number == 0)) =
    search rules in
    c.if-head-eq0.true
    ∙ ap (λ u. u || is_better_than_before before one) (sym c.if-head-eq0.true)
    ∙ prints_known entries (g.M.Recall.content c.args.memory.now) before one c.args.head.now text
    c.args.selected c.if-selected.value c.knows.result held comes.is c.knows.ensures c.if-knows.true
    urgent

pub returns-else-head-eq0 : goal.returns-else-head-eq0
returns-else-head-eq0 g c = λ entries families before one text held stands errors comes.
    let urgent : c.if-selected.value ≡ (c.args.selected && (c.args.head.now.identity.number == 0)) =
    search rules in
    c.is_better_than_before.ensures families before one text c.args.selected stands errors comes
    ∙ ap (λ u. u || is_better_than_before before one) (sym c.if-head-eq0.false)
    ∙ prints_known entries (g.M.Recall.content c.args.memory.now) before one c.args.head.now text
    c.args.selected c.if-selected.value c.knows.result held comes.is c.knows.ensures c.if-knows.true
    urgent

pub returns-else-knows : goal.returns-else-knows
returns-else-knows g c = λ entries families before one text held stands errors comes.
    prints_unknown entries (g.M.Recall.content c.args.memory.now) before one c.args.head.now text
    c.args.selected c.knows.result held comes.is c.knows.ensures c.if-knows.false
