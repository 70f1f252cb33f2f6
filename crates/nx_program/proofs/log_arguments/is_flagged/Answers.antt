use Rattle.std.proofs.Common.{◌≡◌, ◌∙◌, Some, None, ap, bytes_eq, codes, false, option_map, sym}
use Rattle.std.specs.Option.{option_map_or}
use Rattle.clap.specs.Words.{first_of, found_of, rows_of}
use Rattle.clap.proofs.WalkLemmas.{first_value-rows}
use Rattle.nx_program.proofs.log_arguments.is_flagged.Goals as goal

pub returns-in-Some : goal.returns-in-Some
returns-in-Some c =
    let found = found_of c.args.values.now in
    let name = c.args.name.now in
    let given : first_of name (rows_of found) ≡ Some c.in-Some.text.now =
    sym (first_value-rows found name) ∙ sym c.get_str.ensures
    ∙ ap (option_map (λ text. text.now)) c.in-Some.is in
    c.eq.ensures
    ∙ sym (ap (λ o. option_map_or (λ text. bytes_eq text (codes "true")) o false) given)

pub returns-in-None : goal.returns-in-None
returns-in-None c =
    let found = found_of c.args.values.now in
    let name = c.args.name.now in
    let given : first_of name (rows_of found) ≡ None =
    sym (first_value-rows found name) ∙ sym c.get_str.ensures
    ∙ ap (option_map (λ text. text.now)) c.in-None.is in
    sym (ap (λ o. option_map_or (λ text. bytes_eq text (codes "true")) o false) given)
