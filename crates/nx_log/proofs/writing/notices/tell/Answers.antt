use Rattle.std.proofs.Common.{arith}
use Rattle.nx_log.proofs.lemmas.runs.Telling.{told-out}
use Rattle.nx_log.proofs.writing.notices.tell.Goals as goal

pub returns : goal.returns
returns g c = λ old before h.
    told-out old (g.N.Write.contents c.args.notices.now.inner)
    (g.N.Write.contents c.write_out.new.writer.inner) c.args.notices.now.failures
    c.write_out.new.writer before c.args.text.now c.write_out.result
    (omega (arith, c.if-failures-gt0.false, c.failures.ensures)) h c.write_out.ensures.ok
    c.write_out.ensures.err c.write_out.ensures.counts
