use Rattle.std.proofs.Common.{ap, map, ◌∙◌}
use Rattle.nx_fec.specs.declared.air_files.channel.Channel.TheVariants.{Zero}
use Rattle.nx_copies.specs.copies.Shares.{marked}
use Rattle.nx_promises.proofs.lemmas.from_send.Different.{all_printed}
use Rattle.nx_promises.proofs.lemmas.from_send.Files.{log_of_sent, sent_log}
use Rattle.nx_promises.proofs.sending.what_was_sent_is_printed.Goals as goal

pub returns : goal.returns
returns c = record {
  log = log_of_sent;
  printed = λ station from file air log sent lines copies t is. sent_log station from file air sent
      t lines copies log is;
  different = λ station from file air log sent lines copies t different is.
      sent_log station from file air sent t lines copies log is
      ∙ ap (map (marked Zero)) (all_printed sent.slot t.messages different);
}
