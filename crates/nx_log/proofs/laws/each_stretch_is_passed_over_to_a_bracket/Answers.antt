use Rattle.std.proofs.Common.{List, [], ◌∷◌, ◌++◌}
use Rattle.nx_log.specs.Salvage.{AreStretches, BeginsBehind, IsPassedOver, Stretch}
use Rattle.nx_log.proofs.laws.each_stretch_is_passed_over_to_a_bracket.Goals as goal

among : (later earlier : List Stretch) (one : Stretch) → AreStretches (later ++ one ∷ earlier)
    → IsPassedOver one × BeginsBehind earlier one.bytes
among [] earlier one are = (are.1, are.2)
among (stretch ∷ later) earlier one are = among later earlier one are.0

pub returns : goal.returns
returns c = λ bytes rest later earlier one cut. among later earlier one cut.are
