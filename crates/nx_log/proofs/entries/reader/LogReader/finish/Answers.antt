use Rattle.std.proofs.Common.{◌∙◌, ap, refl, subst, sym}
use Rattle.nx_log.specs.LogReading.{LogReading}
use Rattle.nx_log.specs.LogReader.{EndsSo}
use Rattle.nx_log.proofs.lemmas.reader.Steps.{ends_begun, ends_behind}
use Rattle.nx_log.proofs.entries.reader.LogReader.finish.Goals as goal

pub returns-in-Begun : goal.returns-in-Begun
returns-in-Begun c = λ bytes entries torn at.
    ends_begun c.args.self.now bytes entries torn c.in-Begun.entry _ at
    (ap (λ (r : LogReading). r.stage) (sym c.self.view_is) ∙ c.in-Begun.is) refl

pub returns-in-Behind : goal.returns-in-Behind
returns-in-Behind c = λ bytes entries torn at.
    subst (EndsSo bytes entries torn) (sym c.torn.ensures)
    (ends_behind c.args.self.now bytes entries torn c.in-Behind.tail at
    (ap (λ (r : LogReading). r.stage) (sym c.self.view_is) ∙ c.in-Behind.is))
