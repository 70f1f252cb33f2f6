use Rattle.std.proofs.Common.{◌≡◌, ◌∙◌, Option, Some, None, Bor, ap, sym, rules, option_map}
use Rattle.clap.specs.Words.{Text, found_of}
use Rattle.nx_program.proofs.lemmas.arguments.ValuesRead.{if_none, moment-absent, moment-read, moment-unread}
use Rattle.nx_program.proofs.arguments.moment_in.Goals as goal

pub returns-in_err-get_str-clause-none : goal.returns-in_err-get_str-clause-none
returns-in_err-get_str-clause-none c =
    let absent : c.get_str.result ≡ None = search rules in
    if_none c.from_residual.result _
    (moment-absent (found_of c.args.values.now)
    (sym c.get_str.ensures ∙ ap (λ (o : Option (Bor Text)). option_map (λ (s : Bor Text). s.now) o)
    absent))

pub returns-clause-some : goal.returns-clause-some
returns-clause-some c =
    let text : c.get_str.result ≡ Some c.in_ok-get_str.field-0 = search rules in
    moment-read (found_of c.args.values.now) c.in_ok-get_str.field-0.now
    (sym c.get_str.ensures ∙ ap (λ (o : Option (Bor Text)). option_map (λ
    (s : Bor Text). s.now) o) text) c.moment_by_digits.result c.moment_by_digits.ensures.some

pub returns-clause-none : goal.returns-clause-none
returns-clause-none c =
    let text : c.get_str.result ≡ Some c.in_ok-get_str.field-0 = search rules in
    moment-unread (found_of c.args.values.now) c.in_ok-get_str.field-0.now
    (sym c.get_str.ensures ∙ ap (λ (o : Option (Bor Text)). option_map (λ
    (s : Bor Text). s.now) o) text) c.moment_by_digits.result c.moment_by_digits.ensures.none
