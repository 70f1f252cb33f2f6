use Rattle.std.proofs.Common.{◌≡◌, List}
use Rattle.std.specs.List.{flat_map}
use Rattle.nx_fec.specs.air_files.AirFile.{Line}
use Rattle.nx_fec.specs.air_files.LineReading.{HasGivenLines, answers_left, counted_of}
use Rattle.nx_fec.specs.air_files.Lines.{elements_on}
use Rattle.nx_fec.specs.Runs.{file_limit}
use Rattle.nx_fec.specs.declared.air_files.channel.Channel.TheVariants.{Zero}
use Rattle.nx_fec.proofs.air_files.reading.read_elements.Given as goal

-- the elements are those of the lines so far
abbrev pub invariant-loop-bits : goal.invariant-loop-bits
invariant-loop-bits g l = record {
  same : l.lines.reader.ghost_name ≡ l.initial.lines.reader.ghost_name;
  none : (counted_of l.lines).failures ≡ 0;
  read : (lines : List Line)
      × HasGivenLines g.R.Read.remaining file_limit (g.R.Read.remaining l.fn.reader.inner) l.lines
      lines
      × (l.bits.items ≡ flat_map (elements_on Zero) lines);
}

abbrev pub decreases-loop-bits : goal.decreases-loop-bits
decreases-loop-bits g l = answers_left l.lines
