use Rattle.std.proofs.Common.{◌≡◌, ◌∙◌, Option, Some, None, Bor, ap, sym, rules, option_map, codes}
use Rattle.clap.specs.Words.{Text, found_of}
use Rattle.clap.proofs.WalkLemmas.{first_value-rows}
use Rattle.nx_program.proofs.lemmas.arguments.ValuesRead.{if_none, text-absent}
use Rattle.nx_program.proofs.arguments.file_in.Goals as goal

abbrev itself : Text → Text
itself name = name

pub returns-in_err-name-clause-none : goal.returns-in_err-name-clause-none
returns-in_err-name-clause-none c =
    let absent : c.get_str.result ≡ None = search rules in
    if_none c.from_residual.result _
    (text-absent itself (codes "FILE") (found_of c.args.values.now)
    (sym c.get_str.ensures ∙ ap (λ (o : Option (Bor Text)). option_map (λ (s : Bor Text). s.now) o)
    absent))

pub returns-clause-some : goal.returns-clause-some
returns-clause-some c =
    let text : c.get_str.result ≡ Some c.in_ok-name.name = search rules in
    rw c.new.ensures (sym (first_value-rows (found_of c.args.values.now) (codes "FILE"))
    ∙ (sym c.get_str.ensures
    ∙ ap (λ (o : Option (Bor Text)). option_map (λ (s : Bor Text). s.now) o)
    text))
