use Rattle.std.proofs.Common.{◌≡◌, ◌<◌, ap, rules, subst, sym, ◌∙◌}
use Rattle.nx_code.specs.private.Rows.{place_below}
use Rattle.nx_code.specs.Table.{place_of}
use Rattle.nx_code.proofs.lemmas.Place.{place_of-alpha, place_of-beta, place_of-other}
use Rattle.nx_code.proofs.lemmas.Place.{place_of-repeat}
use Rattle.nx_code.proofs.table_indexes.place_of_word.Goals as goal

pub returns-in-15-clause-place : goal.returns-in-15-clause-place
returns-in-15-clause-place c =
    sym (ap place_of (sym c.number.ensures.number ∙ c.in-15.is) ∙ place_of-alpha)

pub returns-in-51-clause-place : goal.returns-in-51-clause-place
returns-in-51-clause-place c =
    sym (ap place_of (sym c.number.ensures.number ∙ c.in-51.is) ∙ place_of-beta)

pub returns-in-102-clause-place : goal.returns-in-102-clause-place
returns-in-102-clause-place c =
    sym (ap place_of (sym c.number.ensures.number ∙ c.in-102.is) ∙ place_of-repeat)

pub returns-in_default-clause-place : goal.returns-in_default-clause-place
returns-in_default-clause-place c =
    let not_alpha : c.number.result ≡ 15 → ⊥ = search rules in
    let not_beta : c.number.result ≡ 51 → ⊥ = search rules in
    let not_repeat : c.number.result ≡ 102 → ⊥ = search rules in
    c.place_below.ensures ∙ ap place_below c.class_of.ensures.class
    ∙ sym (place_of-other c.args.word
    (subst (λ w. w < 128) c.number.ensures.number c.number.ensures.range)
    (λ e. not_alpha (c.number.ensures.number ∙ e)) (λ e. not_beta (c.number.ensures.number ∙ e))
    (λ e. not_repeat (c.number.ensures.number ∙ e)))
