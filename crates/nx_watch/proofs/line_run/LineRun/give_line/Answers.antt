use Rattle.std.proofs.Common.{◌++◌, ◌∙◌, ap, subst, sym}
use Rattle.nx_watch.specs.Acting.{moments_behind}
use Rattle.nx_watch.specs.private.LineRun.{force_behind}
use Rattle.nx_watch.specs.private.Effects.{IsAnswer, acting_and_set}
use Rattle.nx_watch.specs.private.LoggingListener.{TakesLines, logging_to}
use Rattle.nx_watch.proofs.lemmas.lines.Acting.{acts-taken}
use Rattle.nx_watch.proofs.lemmas.lines.AnyLines.{said-kind, said-line}
use Rattle.nx_watch.proofs.lemmas.lines.Run.{acting-one, answer-behind}
use Rattle.nx_watch.proofs.line_run.LineRun.give_line.Goals as goal

pub returns-clause-taken : goal.returns-clause-taken
returns-clause-taken g c = λ start first lines line force is kept stood.
    let latest = c.args.self.now.lines.scanner.scanner.latest in
    let kind = said-kind latest c.args.kind line c.requires.line is in
    let answer = c.take-answer.result in
    let set = c.set_start.ensures.set start.logging first lines line stood.0 kind force kept.moments
    stood.1 in
    let taken = c.take-answer.ensures.taken start (acting_and_set first lines line) line
    (said-line latest c.args.kind c.elements.result.now line c.requires.line c.elements.ensures is)
    (stood.0, set.1, stood.2) in
    let is_answer = answer-behind first lines line answer
    (subst (λ m. IsAnswer (force_behind m (acting_and_set first lines line)) line answer) force
    taken.0) in
    let did = c.line.ensures.kept first lines line c.args.self.now.effects kind is_answer kept
    c.set_start.ensures.counts set.0 in (
      did.0,
      did.1,
      subst (TakesLines g.C.ChannelReceiver.kind g.D.DiskFile g.W.Write.contents start
          (logging_to c.take-answer.new.self c.take-answer.new.writer))
          (sym (acting-one first lines line
          ∙ ap (λ l. acting_and_set first lines line ++ l)
          (acts-taken first (moments_behind first lines) line answer is_answer))) taken.1,
    )
