use Rattle.std.proofs.Common.{◌++◌, rules, subst}
use Rattle.nx_watch.proofs.lemmas.log.Cutting.{heads-all, heads-more, tells-heads}
use Rattle.nx_watch.specs.private.Cutting.{IsHeadAt}
use Rattle.nx_watch.proofs.kept_log.cut.tell_heads.Goals as goal
use Rattle.std.proofs.lemmas.List.{take_rest}

pub loop-at-preserved : goal.loop-at-preserved
loop-at-preserved g c =
    let so_far = c.loop-at.invariant.told in
    let here = c.tell_head.ensures in
    let is = subst (λ l. IsHeadAt l here.0) (take_rest c.args.bytes.now c.loop-at.at) here.1 in
    record {
      inside = search rules;
      told = (
        so_far.0 ++ here.0,
        heads-more c.args.bytes.now c.loop-at.at so_far.0 here.0 (search rules)
            so_far.1 is,
        tells-heads g.F.Write.contents c.args.notices.now c.loop-at.notices c.tell_head.new.notices
            so_far.0 here.0 so_far.2 here.2,
      );
    }

pub returns : goal.returns
returns g c =
    let so_far = c.loop-at.invariant.told in (
      so_far.0,
      heads-all c.args.bytes.now c.loop-at.at so_far.0 (search rules) so_far.1,
      so_far.2,
    )
