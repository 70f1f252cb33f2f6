use Rattle.std.proofs.Common.{ap}
use Rattle.nx_copies.specs.LockReader.{LockReading}
use Rattle.nx_copies.proofs.lemmas.locks.PlainPairs.{pair_heard}
use Rattle.nx_copies.proofs.lock_reader.LockReader.hear_pair.Goals as goal

pub returns : goal.returns
returns c =
    let mid : LockReading = record {
      diversity = c.dx_by_word.new.self;
      printer = c.self.inside.printer.printer;
      finder = c.self.inside.finder;
    } in
    pair_heard {old = c.args.self.now} {mid = mid}
    (rw (← c.self.view_is) c.dx_by_word.ensures.stands)
    (ap (λ r. r.printer) c.self.view_is) (ap (λ r. r.finder) c.self.view_is)
    (record { stands = c.take_word.ensures.stands; hears = c.take_word.ensures.hears })
