use Rattle.std.proofs.Common.{◌++◌, ◌∷◌, ◌∙◌, [], ap, append-nil, arith, refl, sym, subst}
use Rattle.std.proofs.lemmas.Result.{err_from_is_err_and}
use Rattle.nx_fec.specs.air_files.AirFile.{Line}
use Rattle.nx_fec.specs.air_files.Scanner.{kind_of, line_with}
use Rattle.nx_receiver.specs.Commands.{said}
use Rattle.nx_receiver.specs.air_file_runs.Listen.{given_by}
use Rattle.nx_receiver.specs.Listener.{starts_by}
use Rattle.nx_receiver.proofs.lemmas.listening.Lines.{kind-gives}
use Rattle.nx_watch.specs.private.LineRun.{MayAct, force_behind}
use Rattle.nx_watch.specs.private.LoggingListener.{TakesLines, logging_to}
use Rattle.nx_receiver.proofs.lemmas.listening.Lines.{kind-with}
use Rattle.nx_watch.proofs.lemmas.log.LoggingListener.{next-command, spared, with_listener}
use Rattle.nx_watch.specs.declared.logging_listener.LoggingListener.{LoggingListener}
use Rattle.nx_watch.proofs.logging_listener.LoggingListener+D+Listener+C.take.Goals as goal

pub returns-in-Elements-clause-taken : goal.returns-in-Elements-clause-taken
returns-in-Elements-clause-taken g c = λ start lines line is h.
    let disk = g.D.DiskFile in
    let bits = c.args.elements.now in
    subst (λ l. MayAct (force_behind (starts_by g.C.ChannelReceiver.kind
    start.logging.listener).moment lines) [] l
    × TakesLines g.C.ChannelReceiver.kind disk g.W.Write.contents start
    (logging_to c.hear.new.self c.hear.new.writer)
    (lines ++ l ∷ []))
    (sym (is ∙ ap (λ k. line_with k bits) c.in-Elements.is))
    (tt, c.hear.ensures.taken start lines h)

pub returns-in_ok-set_moment-in-Moment-clause-taken
    : goal.returns-in_ok-set_moment-in-Moment-clause-taken
returns-in_ok-set_moment-in-Moment-clause-taken g c = λ start lines line same h.
    let is = same ∙ ap (λ k. line_with k c.args.elements.now) c.in-Moment.is in
    let s = c.in_ok-set_moment-in-Moment.ensures.set start.logging lines h.0 h.1 in
    subst (λ l. MayAct (force_behind (starts_by g.C.ChannelReceiver.kind
    start.logging.listener).moment lines) [] l
    × TakesLines g.C.ChannelReceiver.kind g.D.DiskFile g.W.Write.contents start
    (logging_to c.set_moment.new.self c.args.writer.now) (lines ++ l ∷ [])) (sym is)
    (s.0, (h.0, s.1, h.2))

pub returns-in_err-set_moment-in-Moment-clause-taken
    : goal.returns-in_err-set_moment-in-Moment-clause-taken
returns-in_err-set_moment-in-Moment-clause-taken g c =
    let p = err_from_is_err_and c.from_residual.result c.from_residual.ensures.1 in
    rw p.1 (rw p.2 (λ start lines line same h.
    let is = same ∙ ap (λ k. line_with k c.args.elements.now) c.in-Moment.is in
    let s = c.in_err-set_moment-in-Moment.ensures.set start.logging lines h.0 h.1 in (
      (c.in-Moment.moment, is, s.0),
      subst (TakesLines g.C.ChannelReceiver.kind g.D.DiskFile g.W.Write.contents start
          (logging_to c.set_moment.new.self c.args.writer.now)) (sym (append-nil lines))
          (subst (λ (l : LoggingListener _ _). TakesLines g.C.ChannelReceiver.kind g.D.DiskFile
          g.W.Write.contents start
          (logging_to l c.args.writer.now) lines) (sym s.1) h),
    )))

pub returns-in_ok-command-in_default : goal.returns-in_ok-command-in_default
returns-in_ok-command-in_default g c = record {
  taken = λ start lines line is h.
      let on = c.of_line-channel.result in
      let given = said on.1 in
      let kind = ap (λ (l : Line). kind_of l) is ∙ kind-with c.args.kind c.args.elements.now in
      next-command g.C.ChannelReceiver.kind g.D.DiskFile g.W.Write.contents start c.args.self.now
      (with_listener c.args.self.now c.command.new.self) c.args.writer.now lines line on.0 given
      (kind-gives line _ on.0 given kind c.of_line-channel.ensures)
      (spared _ c.in_ok-command-in_default.ensures.vital.1) refl
      (λ copies heard. c.in_ok-command-in_default.ensures.heard
      (starts_by g.C.ChannelReceiver.kind start.logging.listener) (given_by lines) copies heard) h;
  refused = tt;
  once = omega (arith, c.requires.none);
  failed = λ h. h;
}
