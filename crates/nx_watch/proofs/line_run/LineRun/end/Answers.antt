use Rattle.std.proofs.Common.{◌++◌, ◌∷◌, [], None, append-nil, subst, sym}
use Rattle.nx_watch.specs.private.LineRun.{AreCounted}
use Rattle.nx_watch.specs.private.Running.{HasToldLines}
use Rattle.nx_watch.specs.private.Scanning.{CutsAs}
use Rattle.nx_watch.proofs.lemmas.lines.Run.{ends-input}
use Rattle.nx_watch.proofs.line_run.LineRun.end.Goals as goal

pub returns-in-Some : goal.returns-in-Some
returns-in-Some g c = λ first old bytes lines scans tells.
    let cuts = subst (λ o. CutsAs o bytes lines) c.in-Some.is (c.cut.ensures bytes lines scans) in
    let more = c.pass_line.ensures.tells first old bytes lines cuts.reason tells in
    ends-input first bytes lines (None ∷ []) old _ _ _ cuts.rest cuts.are cuts.cut
    (c.count.ensures.counted first old bytes (lines ++ None ∷ []) more)
    (c.count.ensures.told first old bytes (lines ++ None ∷ []) more)

pub returns-in-None : goal.returns-in-None
returns-in-None g c = λ first old bytes lines scans tells.
    let cuts = subst (λ o. CutsAs o bytes lines) c.in-None.is (c.cut.ensures bytes lines scans) in
    ends-input first bytes lines [] old _ _ _ cuts.rest cuts.are cuts.cut
    (subst (λ l. AreCounted first l c.count-in-None.result) (sym (append-nil lines))
    (c.count-in-None.ensures.counted first old bytes lines tells))
    (subst (HasToldLines old (g.F.Write.contents c.count-in-None.new.notices.inner)
    c.count-in-None.new.notices.failures first bytes) (sym (append-nil lines))
    (c.count-in-None.ensures.told first old bytes lines tells))
