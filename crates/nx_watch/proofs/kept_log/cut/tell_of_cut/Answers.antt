use Rattle.std.proofs.Common.{◌∙◌, length, refl, rules, sym}
use Rattle.nx_watch.proofs.lemmas.log.Cutting.{cut-none, tells-cut}
use Rattle.nx_watch.proofs.kept_log.cut.tell_of_cut.Goals as goal

pub returns-then-is_empty : goal.returns-then-is_empty
returns-then-is_empty g c =
    cut-none g.F.Write.contents c.args.notices.now c.args.line c.args.bytes.now
    (sym c.is_empty.ensures ∙ c.if-is_empty.true)

pub returns : goal.returns
returns g c =
    let told = c.tell_heads.ensures in (
      told.0,
      told.1,
      tells-cut g.F.Write.contents c.args.notices.now c.tell_count.new.notices
          c.tell_heads.new.notices c.args.line (length c.args.bytes.now) c.args.bytes.now told.0
          (search rules) refl c.tell_count.ensures told.2,
    )
