use Rattle.nx_station.proofs.lemmas.damage.Damage.{length-damaged, lines-elements, lines-kinds}
use Rattle.nx_station.proofs.lemmas.damage.Damage.{lines-others, lines-twice}
use Rattle.nx_station.proofs.lemmas.damage.DamageLaws.{files-twice}
use Rattle.nx_station.proofs.laws.damage_undoes_itself.Goals as goal

pub returns-clause-twice : goal.returns-clause-twice
returns-clause-twice c damage lines = lines-twice damage 0 lines

pub returns-clause-elements : goal.returns-clause-elements
returns-clause-elements c damage lines = lines-elements damage 0 lines

pub returns-clause-others : goal.returns-clause-others
returns-clause-others c damage lines = lines-others damage 0 lines

pub returns-clause-names : goal.returns-clause-names
returns-clause-names c damage lines = lines-kinds damage 0 lines

pub returns-clause-long : goal.returns-clause-long
returns-clause-long c = length-damaged

pub returns-clause-files : goal.returns-clause-files
returns-clause-files c = files-twice
