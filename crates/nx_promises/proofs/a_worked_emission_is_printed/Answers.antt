use Rattle.std.proofs.Common.{refl}
use Rattle.nx_promises.specs.examples.Emission.{worked_words, damaged_words}
use Rattle.nx_promises.proofs.lemmas.examples.Worked.{sent_computed, damaged_computed}
use Rattle.nx_promises.proofs.lemmas.examples.WorkedLog.{printed_to_end, log_is}
use Rattle.nx_promises.proofs.a_worked_emission_is_printed.Goals as goal

pub returns : goal.returns
returns c = record {
  sent = printed_to_end worked_words sent_computed;
  damaged = printed_to_end damaged_words damaged_computed;
  log = log_is;
  bytes = refl;
}
