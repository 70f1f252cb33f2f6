use Rattle.std.proofs.Common.{◌≡◌, List, []}
use Rattle.nx_fec.specs.air_files.AirFile.{Line}
use Rattle.nx_fec.specs.air_files.LineReading.{HasGivenLines, answers_left, counted_of}
use Rattle.nx_receiver.specs.private.Listener.{Listening}
use Rattle.nx_receiver.specs.private.Unlogged.{StandsUnlogged}
use Rattle.nx_receiver.proofs.air_file_runs.listening.unlogged.hear_lines.Given as goal

-- the lines so far were taken
abbrev pub invariant-loop-kind : goal.invariant-loop-kind
invariant-loop-kind g l = record {
  same : l.lines.reader.ghost_name ≡ l.initial.lines.reader.ghost_name;
  reader : (counted_of l.lines).failures ≡ 0;
  taken : (first : Listening) → StandsUnlogged first l.fn.listener [] → (lines : List Line)
      × HasGivenLines g.R.Read.remaining 268435456 (g.R.Read.remaining l.fn.reader.inner) l.lines
      lines
      × StandsUnlogged first l.listener lines;
}

abbrev pub decreases-loop-kind : goal.decreases-loop-kind
decreases-loop-kind g l = answers_left l.lines
