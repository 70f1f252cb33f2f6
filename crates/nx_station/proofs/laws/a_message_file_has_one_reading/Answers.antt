use Rattle.std.proofs.Common.{sym, ◌∙◌}
use Rattle.nx_station.proofs.lemmas.message_files.FileLaws.{list-unique}
use Rattle.nx_station.proofs.laws.a_message_file_has_one_reading.Goals as goal

pub returns-clause-spelling : goal.returns-clause-spelling
returns-clause-spelling c one other entries h k = h.whole ∙ sym k.whole

pub returns-clause-list : goal.returns-clause-list
returns-clause-list c = list-unique
