use Rattle.std.proofs.Common.{take}
use Rattle.nx_log.proofs.lemmas.kept.Once.{held_once, stopped_once}
use Rattle.nx_log.proofs.laws.a_kept_log_is_read_in_one_way.Goals as goal

pub returns-clause-one_reading : goal.returns-clause-one_reading
returns-clause-one_reading c = held_once

pub returns-clause-stopped : goal.returns-clause-stopped
returns-clause-stopped c = stopped_once

pub returns-clause-before : goal.returns-clause-before
returns-clause-before c = λ from entries others bytes line stop held.
    held_once from entries others (take stop.place bytes) stop.before held
