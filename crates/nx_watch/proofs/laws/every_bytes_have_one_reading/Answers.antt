use Rattle.nx_watch.proofs.lemmas.lines.Law.{AreLines-one}
use Rattle.nx_watch.proofs.lemmas.lines.Reading.{AreLines-some}
use Rattle.nx_watch.proofs.laws.every_bytes_have_one_reading.Goals as goal

pub returns : goal.returns
returns c = record { some = AreLines-some; one = AreLines-one }
