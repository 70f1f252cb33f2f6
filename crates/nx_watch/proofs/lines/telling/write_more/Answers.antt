use Rattle.std.proofs.Common.{arith}
use Rattle.nx_log.proofs.lemmas.runs.Telling.{told-out}
use Rattle.nx_watch.proofs.lines.telling.write_more.Goals as goal

pub returns-clause-written : goal.returns-clause-written
returns-clause-written g c = λ old text h.
    told-out old (g.W.Write.contents c.args.writer.now.inner)
    (g.W.Write.contents c.write_out.new.writer.inner) c.args.writer.now.failures
    c.write_out.new.writer text c.args.bytes.now c.write_out.result
    (omega (arith, c.if-failures-gt0.false, c.failures.ensures)) h c.write_out.ensures.ok
    c.write_out.ensures.err c.write_out.ensures.counts
