use Rattle.std.proofs.Common.{◌≡◌, ◌∷◌, ◌++◌, ◌∙◌, [], false, refl, rules, subst, sym}
use Rattle.nx_fec.specs.Transfers.{Contents}
use Rattle.nx_fec.specs.air_files.AirFile.{Line}
use Rattle.nx_fec.specs.air_files.LineReading.{latest_of}
use Rattle.nx_fec.specs.air_files.LineRuns.{HasGiven}
use Rattle.nx_fec.specs.air_files.Scanner.{elements_kept}
use Rattle.nx_receiver.specs.Listener.{starts_by}
use Rattle.nx_receiver.specs.air_file_runs.Listen.{HasLoggedSome, IsLogOfLinesBy}
use Rattle.nx_receiver.specs.declared.air_file_runs.listen_fault.LineRefusal.TheVariants.{NoMoment}
use Rattle.nx_receiver.specs.private.Listener.{RefusesLine}
use Rattle.nx_receiver.proofs.lemmas.listening.Lines.{last-elements, last-kind, refused-line, taken-line}
use Rattle.nx_receiver.proofs.air_file_runs.listening.logged.take_line.Goals as goal

-- a line that sets something is taken
pub returns-in-Ok-clause-taken : goal.returns-in-Ok-clause-taken
returns-in-Ok-clause-taken g c = λ first old before line latest h.
    taken-line first c.args.listener.now c.take_setting.new.listener old _ c.args.batch.now before
    line h (λ bytes s. c.in-Ok.ensures (starts_by g.C.ChannelReceiver.kind first) before line bytes
    (last-kind _ _ line c.requires.line latest) s)

-- or refused
pub returns-in-Err-clause-taken : goal.returns-in-Err-clause-taken
returns-in-Err-clause-taken g c = λ first old before line latest h.
    let kind = g.C.ChannelReceiver.kind in
    refused-line first c.args.listener.now c.take_setting.new.listener before line c.in-Err.why
    (HasGiven old (g.W.Write.contents c.args.writer.now.inner) c.args.batch.now) h
    (λ bytes s. c.in-Err.ensures (starts_by kind first) before line bytes
    (last-kind _ _ line c.requires.line latest) s)

-- there was no moment before a line of elements
pub returns-then-not-has_moment-clause-taken : goal.returns-then-not-has_moment-clause-taken
returns-then-not-has_moment-clause-taken g c = λ first old before line latest h.
    let none : c.args.listener.now.has_moment ≡ false = search rules in
    let kind = g.C.ChannelReceiver.kind in
    let kept = elements_kept (latest_of c.args.lines.now) in (
      subst (λ (l : Line). RefusesLine (starts_by kind first) before l NoMoment)
          (sym (last-elements _ _ c.in-Elements.mark kept line c.requires.line latest
          c.in-Elements.is refl)) (sym h.stood.moment ∙ none),
      h,
    )

-- or a write fails
pub returns-in-Err-take_elements-clause-taken : goal.returns-in-Err-take_elements-clause-taken
returns-in-Err-take_elements-clause-taken g c = λ first old before line latest h.
    let kind = g.C.ChannelReceiver.kind in
    let written = c.in-Err-take_elements.lost.written in
    let contents : Contents =
    record { before = old; after = g.W.Write.contents c.take_elements.new.writer.inner } in
    subst (λ (l : Line). HasLoggedSome
    (IsLogOfLinesBy kind.printing (starts_by kind first) (before ++ l ∷ [])) contents written)
    (sym (last-elements _ _ c.in-Elements.mark c.elements.result.now line c.requires.line
    latest c.in-Elements.is c.elements.ensures))
    (c.in-Err-take_elements.ensures.taken first old before h)
