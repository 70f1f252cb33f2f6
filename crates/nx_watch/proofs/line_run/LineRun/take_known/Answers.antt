use Rattle.std.proofs.Common.{◌≡◌, ◌+◌, ◌∙◌, ◌++◌, ◌∷◌, [], true, Option, Some, ap, refl, subst}
use Rattle.std.proofs.Common.{length-append}
use Rattle.nx_fec.specs.air_files.AirFile.{Line}
use Rattle.nx_watch.specs.Acting.{ends_watch, moments_behind}
use Rattle.nx_watch.specs.AnyLines.{AreLines}
use Rattle.nx_watch.specs.declared.lines.no_effect.NoEffect.TheVariants.{GoesBack}
use Rattle.nx_watch.specs.private.Running.{TellsFirst}
use Rattle.nx_watch.specs.private.LoggingListener.{TakesLines, logging_to}
use Rattle.nx_watch.proofs.lemmas.lines.Run.{acting-idle, ends-reason, on-one}
use Rattle.nx_watch.proofs.lemmas.lines.Told.{tells-acting, tells-idle}
use Rattle.nx_watch.proofs.line_run.LineRun.take_known.Goals as goal

pub returns-in-Acts-clause-taken : goal.returns-in-Acts-clause-taken
returns-in-Acts-clause-taken g c = λ start first old bytes lines line force is taken tells front are
    more whole.
    let e = c.in-Acts.ensures.taken start first lines line force is tells.kept_so taken.stood in (
      lines,
      line,
      record { front = front; more = more; whole = whole; are = are; on = taken.on },
      record { on = on-one first lines (Some line) taken.on e.1.1; stood = e.2 },
      tells-acting first c.args.self.now.effects c.give_line.new.self.effects old
          (g.F.Write.contents c.args.notices.now.inner) c.args.notices.now.failures bytes lines
          (Some line) e.0 (c.in-Acts.ensures.acting refl) tells,
    )

pub returns-in-Acts-2-clause-taken : goal.returns-in-Acts-2-clause-taken
returns-in-Acts-2-clause-taken g c = λ start first old bytes lines line force is taken tells.
    let e = c.in-Acts.ensures.taken start first lines line force is tells.kept_so taken.stood in (
      record { on = on-one first lines (Some line) taken.on e.1.1; stood = e.2 },
      tells-acting first c.args.self.now.effects c.give_line.new.self.effects old
          (g.F.Write.contents c.args.notices.now.inner) c.args.notices.now.failures bytes lines
          (Some line) e.0 (c.in-Acts.ensures.acting refl) tells,
    )

pub returns-in-Nothing-clause-taken : goal.returns-in-Nothing-clause-taken
returns-in-Nothing-clause-taken g c = λ start first old bytes lines line force is taken tells.
    let e = c.in-Nothing.ensures.taken start first lines line force is tells.kept_so taken.stood in (
      record { on = on-one first lines (Some line) taken.on e.1.1; stood = e.2 },
      tells-idle g.F.Write.contents c.args.notices.now c.tell_first.new.notices first
          c.args.self.now.effects c.give_line.new.self.effects old bytes lines (Some line)
          c.in-Nothing.why c.first_without-before.result c.lines.result
          c.first_without-before.ensures c.lines.ensures e.0
          (c.in-Nothing.ensures.lines ∙ ap (λ n. n + 1) tells.kept_so.counted)
          c.in-Nothing.ensures.first (c.in-Nothing.ensures.none refl) (e.1.2 bytes lines)
          c.tell_first.ensures.some c.tell_first.ensures.none tells,
    )

pub returns-in-Ends-clause-taken : goal.returns-in-Ends-clause-taken
returns-in-Ends-clause-taken g c = λ start first old bytes lines line force is taken tells front are
    more whole.
    let e = c.in-Ends.ensures.taken start first lines line force is tells.kept_so taken.stood in
    let said = e.1.3 in (
      lines,
      record {
        front = front;
        more = more;
        whole = whole;
        are = subst (λ (l : Option Line). AreLines front (lines ++ l ∷ []) []) said are;
        on = taken.on;
      },
      subst (λ l. ends_watch first.newest (moments_behind first lines) l ≡ true) said e.1.1,
      c.lines-in-Ends-2.ensures ∙ e.0.counted ∙ length-append lines (Some line ∷ []),
      e.1.2,
      subst (TakesLines g.C.ChannelReceiver.kind g.D.DiskFile g.W.Write.contents start
          (logging_to c.give_line.new.logging c.give_line.new.writer))
          (acting-idle first lines line e.1.0) e.2,
      subst (λ (l : Option Line). TellsFirst first c.give_line.new.self.effects old
          (g.F.Write.contents c.tell_first-in-Ends.new.notices.inner)
          c.tell_first-in-Ends.new.notices.failures bytes (lines ++ l ∷ [])) said
          (tells-idle g.F.Write.contents c.args.notices.now c.tell_first-in-Ends.new.notices first
          c.args.self.now.effects c.give_line.new.self.effects old bytes lines (Some line) GoesBack
          c.first_without-before.result c.lines-in-Ends.result c.first_without-before.ensures
          c.lines-in-Ends.ensures e.0
          (c.in-Ends.ensures.lines ∙ ap (λ n. n + 1) tells.kept_so.counted)
          c.in-Ends.ensures.first (c.in-Ends.ensures.none refl)
          (ends-reason first.newest (moments_behind first lines) (Some line) c.in-Ends.given said
          e.1.1 bytes lines) c.tell_first-in-Ends.ensures.some c.tell_first-in-Ends.ensures.none
          tells),
    )
