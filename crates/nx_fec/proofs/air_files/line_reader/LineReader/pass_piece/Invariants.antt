use Rattle.std.proofs.Common.{◌≡◌, ◌++◌, ℕ, List, Option, length}
use Rattle.nx_fec.specs.air_files.AirFile.{Line}
use Rattle.nx_fec.specs.air_files.LineReading.{HasGivenLines, HoldsSame, counted_of}
use Rattle.nx_fec.proofs.air_files.line_reader.LineReader.pass_piece.Given as goal

abbrev pub invariant-loop-self : goal.invariant-loop-self
invariant-loop-self g l = record {
  given : (limit : ℕ) (first : Option (List ℕ)) (lines : List Line)
      → HasGivenLines g.R.Read.remaining limit first l.fn.self lines
      → (more : List Line) × HasGivenLines g.R.Read.remaining limit first l.self (lines ++ more);
  unread : counted_of l.self ≡ counted_of l.fn.self;
  same : HoldsSame l.fn.self l.self;
}

abbrev pub decreases-loop-self : goal.decreases-loop-self
decreases-loop-self g l = length l.self.piece
