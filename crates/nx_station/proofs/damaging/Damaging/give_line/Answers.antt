use Rattle.std.proofs.Common.{◌∙◌}
use Rattle.nx_station.specs.Damage.{damaged_file}
use Rattle.nx_station.proofs.lemmas.damage.DamageLaws.{gave, taken-more}
use Rattle.nx_station.proofs.damaging.Damaging.give_line.Goals as goal

pub returns-clause-given : goal.returns-clause-given
returns-clause-given g c damage old lines line e kind h =
    let bytes = c.deref.result.now in
    let after = c.write_line.ensures in
    gave damage c.write_line.new.self lines line old _ _ bytes c.give.result
    (taken-more damage c.args.self.now c.write_line.new.self lines line bytes h.stands
    (λ place at. c.deref.ensures.0 ∙ after.bytes damage place line e kind at)
    (λ place at. after.at damage place line e kind at)
    (λ place total at k. after.counted damage place total line e kind at k))
    (c.give.ensures.bytes old (damaged_file damage lines) h.given)
