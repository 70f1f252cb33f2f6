use Rattle.nx_kept.proofs.lemmas.Calls.{file_of}
use Rattle.nx_kept.proofs.lemmas.Repairing.{keeps_either, keeps_records, keeps_records_err}
use Rattle.nx_kept.proofs.log.KeptLog.open.Goals as goal

pub returns-in-Err-clause-damaged : goal.returns-in-Err-clause-damaged
returns-in-Err-clause-damaged g c = λ start line first explains same.
    c.in-Err.ensures.damaged start line first explains (cc)

pub returns-in-Err-clause-first : goal.returns-in-Err-clause-first
returns-in-Err-clause-first g c = λ start line first explains same.
    c.in-Err.ensures.first start line first explains (cc)

pub returns-in-Ok-clause-any_moment : goal.returns-in-Ok-clause-any_moment
returns-in-Ok-clause-any_moment g c = λ start records explains stands.
    let d = g.D.DiskFile in
    let f = file_of (d.seen start) (d.may_leave start) d.moment (d.left_since start) in
    keeps_records f g.G.Grammar.is_record g.G.Grammar.LONGEST records
    (c.in-Ok.ensures.synced_first start records explains stands)

pub returns-in-Ok-clause-from_before : goal.returns-in-Ok-clause-from_before
returns-in-Ok-clause-from_before g c = λ start records others explains stands.
    let d = g.D.DiskFile in
    let f = file_of (d.seen start) (d.may_leave start) d.moment (d.left_since start) in
    keeps_either f g.G.Grammar.is_record g.G.Grammar.LONGEST records others
    (keeps_records f g.G.Grammar.is_record g.G.Grammar.LONGEST records
    (c.in-Ok.ensures.synced_first start records explains stands))

pub returns-in-Err-clause-any_moment_err : goal.returns-in-Err-clause-any_moment_err
returns-in-Err-clause-any_moment_err g c = λ start records explains stands.
    let d = g.D.DiskFile in
    let f = file_of (d.seen start) (d.may_leave start) d.moment (d.left_since start) in
    keeps_records_err f g.G.Grammar.is_record g.G.Grammar.LONGEST records
    (c.in-Err.ensures.synced_first_err start records explains stands)

pub returns-in-Err-clause-from_before_err : goal.returns-in-Err-clause-from_before_err
returns-in-Err-clause-from_before_err g c = λ start records others explains stands.
    let d = g.D.DiskFile in
    let f = file_of (d.seen start) (d.may_leave start) d.moment (d.left_since start) in
    keeps_either f g.G.Grammar.is_record g.G.Grammar.LONGEST records others
    (keeps_records_err f g.G.Grammar.is_record g.G.Grammar.LONGEST records
    (c.in-Err.ensures.synced_first_err start records explains stands))

pub returns-in-Ok-clause-opened : goal.returns-in-Ok-clause-opened
returns-in-Ok-clause-opened g c = λ start explains.
    let settled = c.in-Ok.ensures.settled start explains in
    record {
      all = settled.all;
      at_rest = record {
        file = settled.closed;
        gate = settled.place;
        durable = settled.durable;
      };
    }
