use Rattle.std.proofs.Common.{◌<◌, ap₂, sym, subst, ◌∙◌, get_or, []}
use Rattle.nx_code.specs.declared.classes.TheConstants.{PAIRED}
use Rattle.nx_code.proofs.lemmas.Class.{paired-PAIRED, paired-low}
use Rattle.nx_code.proofs.classes.pair_classes.Goals as goal

pub returns-clause-class : goal.returns-clause-class
returns-clause-class c =
    ap₂ (λ j k. get_or (get_or PAIRED j []) k _) c.from.ensures c.from-2.ensures
    ∙ paired-PAIRED c.args.dx c.args.rx _ c.requires.dx c.requires.rx

pub returns-clause-range : goal.returns-clause-range
returns-clause-range c =
    let same = ap₂ (λ j k. get_or (get_or PAIRED j []) k 0) c.from.ensures c.from-2.ensures
    ∙ paired-PAIRED c.args.dx c.args.rx 0 c.requires.dx c.requires.rx in
    subst (λ n. n < 34) (sym same)
    (paired-low c.args.dx c.args.rx c.requires.dx c.requires.rx)
