use Rattle.std.proofs.Common.{◌∙◌, ap, sym}
use Rattle.nx_log.specs.LogReading.{LogReading}
use Rattle.nx_log.proofs.lemmas.reader.Steps.{begun_opens, behind_at}
use Rattle.nx_log.proofs.entries.reader.LogReader.push.Goals as goal

pub returns-in-Begun : goal.returns-in-Begun
returns-in-Begun c = λ bytes entries torn at.
    c.go_on.ensures.takes bytes entries torn
    (begun_opens c.args.self.now bytes entries torn c.in-Begun.entry c.args.piece.now at
    (ap (λ (r : LogReading). r.stage) (sym c.self.view_is) ∙ c.in-Begun.is))

pub returns-in-Behind : goal.returns-in-Behind
returns-in-Behind c = λ bytes entries torn at.
    c.pass.ensures.takes bytes entries torn
    (behind_at c.args.self.now bytes entries torn c.in-Behind.tail c.args.piece.now at
    (ap (λ (r : LogReading). r.stage) (sym c.self.view_is) ∙ c.in-Behind.is))
