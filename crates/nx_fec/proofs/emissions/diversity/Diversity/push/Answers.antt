use Rattle.std.proofs.Common.{◌∙◌}
use Rattle.nx_fec.specs.private.WordClasses.{counted_by}
use Rattle.nx_fec.proofs.lemmas.emissions.Pairing.{latest-push}
use Rattle.nx_fec.proofs.emissions.diversity.Diversity.push.Goals as goal

pub returns-clause-stands : goal.returns-clause-stands
returns-clause-stands c words h =
    latest-push _ words (counted_by c.args.class) (c.self.view_is ∙ h)
