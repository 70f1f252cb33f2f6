use Rattle.std.proofs.Common.{[], ◌∷◌, Some, ap, length, length-append, subst, sym, ◌∙◌}
use Rattle.nx_watch.specs.AnyLines.{AreLines}
use Rattle.nx_left_on.proofs.one_call.no_line_before_the_last_ends_a_watch.Goals as goal

pub returns : goal.returns
returns c = record {
  back = λ first bytes lines line last given read.
      let stop = read.2 in (
        read.0,
        read.1,
        stop.on,
        read.4 ∙ ap length read.1 ∙ length-append read.0 (Some _ ∷ []),
        stop.front,
        stop.more,
        stop.whole,
        subst (λ all. AreLines stop.front all []) (sym read.1) stop.are,
      );
  unwritten = λ first bytes lines read.
      let stop = read.3 in (
        read.0,
        read.1,
        read.2,
        stop.on,
        stop.front,
        stop.more,
        stop.whole,
        subst (λ all. AreLines stop.front all []) (sym read.2) stop.are,
      );
}
