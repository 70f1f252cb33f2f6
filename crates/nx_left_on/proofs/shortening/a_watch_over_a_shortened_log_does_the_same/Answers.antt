use Rattle.nx_left_on.proofs.lemmas.shortened.Printing as printing
use Rattle.nx_left_on.proofs.lemmas.shortened.Stopping as stopping
use Rattle.nx_left_on.proofs.shortening.a_watch_over_a_shortened_log_does_the_same.Goals as goal

pub returns : goal.returns
returns c = record {
  acts = λ moment now whole shorter lines left hears.
      printing.acts moment now whole shorter lines left hears;
  tells = λ moment now whole shorter lines left hears.
      stopping.tells moment now whole shorter lines left hears;
  prints = λ moment now whole shorter lines stop copies left hears.
      printing.prints moment now whole shorter lines left hears stop copies;
  reads = λ moment now whole shorter stop bytes lines left hears.
      stopping.reads moment now whole shorter lines left hears (Unit {0}) stop bytes;
}
