use Rattle.std.proofs.lemmas.Grind.{common_steps}
use Rattle.std.proofs.Common.{refl, ap, arith, length}
use Rattle.nx_locks.proofs.lemmas.ReaderWords.{headers_kept}
use Rattle.nx_locks.proofs.reader.CountingReader.take.Goals as goal

pub returns-in_default : goal.returns-in_default
returns-in_default c = rw (← c.self.view_is) (record {
  headers = λ text finder hears. record {
    more = 0;
    few = omega arith;
    headers = omega (
      arith,
      ap length (headers_kept text c.args.byte finder c.args.event hears c.in_default.not-Header),
    );
    copies = λ few. omega arith;
  };
  kept = refl;
  few = omega arith;
})

pub returns-in-Header-clause-few : goal.returns-in-Header-clause-few
returns-in-Header-clause-few c = grind (arith, common_steps)

pub returns-in-Header-clause-headers : goal.returns-in-Header-clause-headers
returns-in-Header-clause-headers c = grind (arith, common_steps)
