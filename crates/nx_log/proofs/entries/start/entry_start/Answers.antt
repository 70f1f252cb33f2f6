use Rattle.std.proofs.Common.{◌≡◌, refl, rules, subst}
use Rattle.nx_log.proofs.lemmas.beginnings.Wholes.{broken, unfinished}
use Rattle.nx_log.specs.declared.entries.lack.Lack.TheVariants.{Unfinished}
use Rattle.nx_log.specs.private.Stages.{FromName, Lacks}
use Rattle.nx_log.proofs.entries.start.entry_start.Goals as goal

pub returns-in-Err-Unfinished : goal.returns-in-Err-Unfinished
returns-in-Err-Unfinished c =
    let is : c.in-Err-Unfinished.field-0 ≡ Unfinished = search rules in
    unfinished c.args.bytes.now
    (subst (Lacks FromName c.args.bytes.now) is c.in-Err-Unfinished.ensures.lacks)

pub returns-in-Err-Broken : goal.returns-in-Err-Broken
returns-in-Err-Broken c =
    broken c.args.bytes.now c.in-Err-Broken.left.now _ (subst (Lacks FromName c.args.bytes.now)
    c.in-Err-Broken.field-0-is c.in-Err-Broken.ensures.lacks) refl
