use Rattle.std.proofs.Common.{refl}
use Rattle.nx_code.specs.Word.{number_of, elements, elements_from}
use Rattle.nx_sync.specs.Locks.{before_dx, before_rx}
use Rattle.nx_sync.proofs.laws.patterns_have_these_numbers.Goals as goal

pub returns : goal.returns
unfolding number_of before_dx before_rx elements elements_from
returns c = record { before_dx = refl; before_rx = refl }
