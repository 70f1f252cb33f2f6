use Rattle.nx_log.proofs.lemmas.reading.Reads.{one_line, same_at_end, same_held, stopped_once}
use Rattle.nx_log.proofs.laws.bytes_are_read_in_one_way.Goals as goal

pub returns-clause-one_reading : goal.returns-clause-one_reading
returns-clause-one_reading c = λ entries others torn lines bytes h k.
    let same = same_held entries others torn lines bytes h k in
    (same.entries_are, same.torn_are)

pub returns-clause-one_end : goal.returns-clause-one_end
returns-clause-one_end c = λ entries others torn lines bytes h k.
    let same = same_at_end entries others torn lines bytes h k in
    (same.entries_are, same.torn_are)

pub returns-clause-one_line : goal.returns-clause-one_line
returns-clause-one_line c = one_line

pub returns-clause-stopped : goal.returns-clause-stopped
returns-clause-stopped c = stopped_once
