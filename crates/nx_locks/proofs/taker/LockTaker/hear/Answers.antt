use Rattle.std.proofs.Common.{subst}
use Rattle.nx_code.specs.Packed.{packed_part}
use Rattle.nx_locks.specs.private.Taker.{Hears}
use Rattle.nx_locks.proofs.taker.LockTaker.hear.Goals as goal

pub returns : goal.returns
returns c =
    let heard = c.hear_elements in
    subst (λ n. Hears c.args.synchroniser.now c.args.self.now (packed_part c.args.numbers.now 0 n)
    heard.new.synchroniser heard.new.taker) (heard.ensures.all c.in_default-None.is-1)
    heard.ensures.hears.hears
