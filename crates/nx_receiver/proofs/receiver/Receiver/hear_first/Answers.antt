use Rattle.std.proofs.Common.{◌≤◌, ◌∙◌, ◌++◌, ap, arith, length, length-take, subst, take}
use Rattle.std.proofs.Common.{take-take}
use Rattle.nx_copies.specs.Events.{elements}
use Rattle.nx_copies.specs.copies.Log.{HasPrinted}
use Rattle.nx_receiver.specs.private.Awaiting.{Awaits}
use Rattle.nx_receiver.proofs.receiver.Receiver.hear_first.Goals as goal

pub returns-clause-stands : goal.returns-clause-stands
returns-clause-stands g c start history log stands =
    let n = c.hear.result.0 in
    let few : n ≤ c.min.result =
    omega (
      arith,
      c.hear.ensures.within,
      ap length c.pack_bits.ensures,
      length-take c.min.result c.args.bits.now,
    ) in
    subst (λ l. Awaits g.M.Recall.content start c.hear.new.self (history ++ elements l) log
    c.hear.result.1)
    (ap (take n) c.pack_bits.ensures ∙ take-take n c.min.result c.args.bits.now few)
    (c.hear.ensures.stands start history log stands)

pub returns-clause-first : goal.returns-clause-first
returns-clause-first g c start history log stands k lt =
    let n = c.hear.result.0 in
    let few : n ≤ c.min.result =
    omega (
      arith,
      c.hear.ensures.within,
      ap length c.pack_bits.ensures,
      length-take c.min.result c.args.bits.now,
    ) in
    subst (λ l. HasPrinted start (history ++ elements l) log)
    (ap (take k) c.pack_bits.ensures
    ∙ take-take k c.min.result c.args.bits.now (omega (arith, lt, few)))
    (c.hear.ensures.first start history log stands k lt)
