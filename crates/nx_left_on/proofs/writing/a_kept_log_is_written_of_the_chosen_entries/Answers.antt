use Rattle.std.proofs.Common.{◌∷◌}
use Rattle.nx_left_on.proofs.lemmas.reading.Written as written
use Rattle.nx_left_on.proofs.writing.a_kept_log_is_written_of_the_chosen_entries.Goals as goal

pub returns : goal.returns
returns c = record {
  written = written.written;
  stands = written.stands;
  only = written.only;
  rests = λ one entries file w. written.rests (one ∷ entries) file w;
}
