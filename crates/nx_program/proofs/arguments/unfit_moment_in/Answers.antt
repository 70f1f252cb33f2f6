use Rattle.std.proofs.Common.{◌≡◌, ◌∙◌, Option, Some, None, Bor, ap, sym, rules, option_map}
use Rattle.clap.specs.Words.{Text, found_of}
use Rattle.nx_program.proofs.lemmas.arguments.ValuesRead.{if_none, moment-fit, moment-unfit, no_moment-fit}
use Rattle.nx_program.proofs.arguments.unfit_moment_in.Goals as goal

pub returns-in_err-text-clause-none : goal.returns-in_err-text-clause-none
returns-in_err-text-clause-none c =
    let absent : c.get_str.result ≡ None = search rules in
    if_none c.from_residual.result _
    (no_moment-fit (found_of c.args.values.now)
    (sym c.get_str.ensures ∙ ap (λ (o : Option (Bor Text)). option_map (λ (s : Bor Text). s.now) o)
    absent))

pub returns-in-Some-clause-none : goal.returns-in-Some-clause-none
returns-in-Some-clause-none c =
    let text : c.get_str.result ≡ Some c.in_ok-text.text = search rules in
    moment-fit (found_of c.args.values.now) c.in_ok-text.text.now c.in-Some.field-0
    (sym c.get_str.ensures ∙ ap (λ (o : Option (Bor Text)). option_map (λ
    (s : Bor Text). s.now) o) text) c.in-Some.ensures.some

pub returns-in-None-clause-some : goal.returns-in-None-clause-some
returns-in-None-clause-some c =
    let text : c.get_str.result ≡ Some c.in_ok-text.text = search rules in
    moment-unfit (found_of c.args.values.now) c.in_ok-text.text.now
    (sym c.get_str.ensures ∙ ap (λ (o : Option (Bor Text)). option_map (λ
    (s : Bor Text). s.now) o) text) c.in-None.ensures.none
