use Rattle.std.proofs.Common.{◌≡◌, true, List, []}
use Rattle.nx_fec.specs.air_files.AirFile.{Line}
use Rattle.nx_fec.specs.air_files.LineReading.{HasGivenLines, answers_left, counted_of, is_over}
use Rattle.nx_fec.specs.air_files.LineRuns.{HasGiven}
use Rattle.nx_fec.specs.private.LineRuns.{HasTaken}
use Rattle.nx_receiver.specs.Listener.{ListeningOver}
use Rattle.nx_receiver.specs.private.Listener.{StandsFromBy}
use Rattle.nx_receiver.proofs.air_file_runs.listening.logged.listen_lines.Given as goal

-- the lines so far were taken, and nothing waits where more is read
abbrev pub invariant-loop-kind : goal.invariant-loop-kind
invariant-loop-kind g l = record {
  same : l.lines.reader.ghost_name ≡ l.initial.lines.reader.ghost_name;
  reader : (counted_of l.lines).failures ≡ 0;
  writer : l.writer.failures ≡ 0;
  taken : (first : ListeningOver g.row.C.Denot)
      → StandsFromBy g.C.ChannelReceiver.kind first l.fn.listener [] [] → (lines : List Line)
      × HasGivenLines g.R.Read.remaining 268435456 (g.R.Read.remaining l.fn.reader.inner) l.lines
      lines
      × HasTaken (StandsFromBy g.C.ChannelReceiver.kind) first l.listener lines (HasGiven
      (g.W.Write.contents l.fn.writer.inner) (g.W.Write.contents l.writer.inner) l.batch);
  sent : is_over l.lines ≡ true → l.batch.bytes ≡ [];
}

abbrev pub decreases-loop-kind : goal.decreases-loop-kind
decreases-loop-kind g l = answers_left l.lines
