use Rattle.std.proofs.Common.{ap, replicate}
use Rattle.nx_combine.specs.Families.{most_positions}
use Rattle.nx_combine.proofs.family_place.FamilyPlace.new.Goals as goal

pub returns-clause-behind : goal.returns-clause-behind
returns-clause-behind c = ap (replicate most_positions) c.of_class.ensures
