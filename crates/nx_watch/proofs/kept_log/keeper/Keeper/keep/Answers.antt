use Rattle.std.proofs.Common.{◌++◌, ◌∷◌, [], cond, subst}
use Rattle.nx_watch.specs.private.Keeping.{HasKept}
use Rattle.nx_watch.proofs.lemmas.log.Keeping.{given-more}
use Rattle.nx_watch.proofs.kept_log.keeper.Keeper.keep.Goals as goal

pub returns-clause-kept : goal.returns-clause-kept
returns-clause-kept g c = λ start first texts is h.
    let disk = g.D.DiskFile in
    let kept = c.put.ensures.kept start texts h.0 is h.1 in
    let more = subst (λ b. HasKept disk start c.put.new.self (texts ++ c.args.entry.now ∷ [])
    (h.0 ++ cond b [] c.args.entry.now)) c.if-put.false kept in (
      h.0 ++ c.args.entry.now,
      more,
      given-more g.W.Write.contents first c.args.writer.now c.write_more.new.writer h.0
          c.args.entry.now is
          (c.write_more.ensures.written (g.W.Write.contents first.inner) h.0) h.2,
    )
