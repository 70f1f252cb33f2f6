use Rattle.std.proofs.Common.{◌≡◌, true, List, []}
use Rattle.nx_fec.specs.air_files.AirFile.{Line}
use Rattle.nx_fec.specs.air_files.LineReading.{HasGivenLines, answers_left, counted_of, is_over}
use Rattle.nx_locks.specs.private.Reporting.{IsReporting}
use Rattle.nx_locks.proofs.lock_report.locks.Given as goal

-- the report of the lines so far was given, and nothing waits where more is read
abbrev pub invariant-loop-kind : goal.invariant-loop-kind
invariant-loop-kind g l = record {
  same : l.lines.reader.ghost_name ≡ l.initial.lines.reader.ghost_name;
  reader : (counted_of l.lines).failures ≡ 0;
  writer : l.writer.failures ≡ 0;
  shows : (lines : List Line)
      × HasGivenLines g.R.Read.remaining 268435456 (g.R.Read.remaining l.fn.reader.inner) l.lines
      lines
      × IsReporting l.report_writer (g.W.Write.contents l.fn.writer.inner)
      (g.W.Write.contents l.writer.inner) l.batch lines;
  sent : is_over l.lines ≡ true → l.batch.bytes ≡ [];
}

abbrev pub decreases-loop-kind : goal.decreases-loop-kind
decreases-loop-kind g l = answers_left l.lines
