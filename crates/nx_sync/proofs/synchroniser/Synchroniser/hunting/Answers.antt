use Rattle.std.proofs.Common.{refl, arith, []}
use Rattle.nx_code.specs.Word.{number_of}
use Rattle.nx_sync.specs.Locks.{hunting, Past}
use Rattle.nx_sync.proofs.synchroniser.Synchroniser.hunting.Goals as goal

-- nothing was heard, so nothing is there to be found
pub returns-clause-stands : goal.returns-clause-stands
unfolding Past number_of
returns-clause-stands c = record {
  locks = [];
  now = hunting 0;
  stands = record {
    past = refl;
    none = λ s after here. absurd (omega (arith, here.enough, here.heard));
  };
  recent = refl;
  seen = refl;
  tracks = refl;
}
