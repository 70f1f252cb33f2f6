use Rattle.std.proofs.Common.{◌∙◌, sym, Some, ap}
use Rattle.std.proofs.lemmas.Bool.{eqb-true, eq-eqb, false≢true}
use Rattle.nx_code.specs.Signal.{number_of_signal}
use Rattle.nx_fec.proofs.lemmas.emissions.Emission.{phasing_1-words}
use Rattle.nx_station.proofs.lemmas.broadcasts.Pair.{found-traffic, found-repeat, found-alpha, found-beta}
use Rattle.nx_station.proofs.lemmas.broadcasts.Pair.{found-none, pair-traffic, pair-repeat, pair-alpha}
use Rattle.nx_station.proofs.reading.is_pair.Goals as goal

pub returns-in-Some-Traffic : goal.returns-in-Some-Traffic
returns-in-Some-Traffic c =
    let which = c.in-Some-Traffic.field-0-is in
    let is = c.in-Some-Traffic.is ∙ ap Some which in (
      (λ e. pair-traffic c.in-Some-Traffic.field-0-0 c.args.dx c.args.rx
          (ap number_of_signal (sym which) ∙ c.in-Some-Traffic.ensures.value)
          (eqb-true c.args.rx c.args.dx (sym c.eq.ensures ∙ e))),
      (λ h. c.eq.ensures ∙ eq-eqb c.args.rx c.args.dx
          (h.second ∙ found-traffic c.signal_of.result c.args.dx h.position
          c.in-Some-Traffic.field-0-0 c.signal_of.ensures.only is h.in_code h.first)),
    )

pub returns-in-Some-Repeat : goal.returns-in-Some-Repeat
returns-in-Some-Repeat c =
    let which = c.in-Some-Repeat.field-0-is in
    let is = c.in-Some-Repeat.is ∙ ap Some which in (
      (λ e. pair-repeat c.args.dx c.args.rx
          (ap number_of_signal (sym which) ∙ c.in-Some-Repeat.ensures.value)
          (eqb-true c.args.rx c.word_of.result (sym c.eq-in-Some-Repeat.ensures ∙ e)
          ∙ c.word_of.ensures)),
      (λ h. c.eq-in-Some-Repeat.ensures
          ∙ eq-eqb c.args.rx c.word_of.result
          (h.second ∙ found-repeat c.signal_of.result c.args.dx h.position c.signal_of.ensures.only
          is h.in_code h.first ∙ sym phasing_1-words ∙ sym c.word_of.ensures)),
    )

pub returns-in-Some-Alpha : goal.returns-in-Some-Alpha
returns-in-Some-Alpha c =
    let which = c.in-Some-Alpha.field-0-is in
    let is = c.in-Some-Alpha.is ∙ ap Some which in (
      (λ e. pair-alpha c.args.dx c.args.rx
          (ap number_of_signal (sym which) ∙ c.in-Some-Alpha.ensures.value)
          (eqb-true c.args.rx c.args.dx (sym c.eq-in-Some-Alpha.ensures ∙ e))),
      (λ h. c.eq-in-Some-Alpha.ensures
          ∙ eq-eqb c.args.rx c.args.dx
          (h.second ∙ found-alpha c.signal_of.result c.args.dx h.position c.signal_of.ensures.only
          is h.in_code h.first)),
    )

pub returns-in-Some-Beta : goal.returns-in-Some-Beta
returns-in-Some-Beta c = (
  (λ e. absurd (false≢true e)),
  (λ h. absurd (found-beta c.signal_of.result c.args.dx h.position c.signal_of.ensures.only
      (c.in-Some-Beta.is ∙ ap Some c.in-Some-Beta.field-0-is) h.in_code h.first)),
)

pub returns-in-None : goal.returns-in-None
returns-in-None c = (
  (λ e. absurd (false≢true e)),
  (λ h. absurd (found-none c.signal_of.result c.args.dx h.position c.signal_of.ensures.only
      c.in-None.is h.in_code h.first)),
)
