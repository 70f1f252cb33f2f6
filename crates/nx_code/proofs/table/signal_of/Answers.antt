use Rattle.std.proofs.Common.{◌≡◌, false, eqb, Some, None, refl, sym, ap, ◌∙◌, eq-eqb}
use Rattle.std.specs.Option.{is_some}
use Rattle.std.proofs.lemmas.Bool.{eqb-true, both_ways}
use Rattle.nx_code.specs.Word.{weight}
use Rattle.nx_code.specs.Table.{place_of}
use Rattle.nx_code.proofs.lemmas.Table.{weight-place_of, place_of-Some, same_place, place-of_word}
use Rattle.nx_code.proofs.lemmas.Table.{not_nowhere, number_of_place}
use Rattle.nx_code.proofs.table.signal_of.Goals as goal

pub returns-in_err-place_of_word-clause-signals : goal.returns-in_err-place_of_word-clause-signals
returns-in_err-place_of_word-clause-signals c =
    let none : place_of c.args.word ≡ None =
    sym c.place_of_word.ensures.place ∙ c.in_err-place_of_word.was in
    let no_weight : eqb (weight c.args.word) 4 ≡ false =
    weight-place_of c.args.word c.place_of_word.ensures.range ∙ ap is_some none in (
      λ h. absurd (both_ways _ (ap is_some c.from_residual.ensures) h),
      λ h. absurd
          (both_ways _ no_weight (eq-eqb _ _ h)),
    )

pub returns-in_err-place_of_word-clause-only : goal.returns-in_err-place_of_word-clause-only
returns-in_err-place_of_word-clause-only c signal h =
    let none : place_of c.args.word ≡ None =
    sym c.place_of_word.ensures.place ∙ c.in_err-place_of_word.was in
    absurd (not_nowhere signal c.args.word h none)

pub signal_at-requires : goal.signal_at-requires
signal_at-requires c =
    (place_of-Some c.args.word c.in_ok-place_of_word.field-0
    (sym c.place_of_word.ensures.place ∙ c.in_ok-place_of_word.was)).0

pub returns-clause-signals : goal.returns-clause-signals
returns-clause-signals c =
    let found : place_of c.args.word ≡ Some c.in_ok-place_of_word.field-0 =
    sym c.place_of_word.ensures.place ∙ c.in_ok-place_of_word.was in (
      λ h. eqb-true (weight c.args.word) 4
          (weight-place_of c.args.word c.place_of_word.ensures.range ∙ ap is_some found),
      λ h. refl,
    )

pub returns-clause-value : goal.returns-clause-value
returns-clause-value c =
    let found : place_of c.args.word ≡ Some c.in_ok-place_of_word.field-0 =
    sym c.place_of_word.ensures.place ∙ c.in_ok-place_of_word.was in
    ap number_of_place c.signal_at.ensures ∙ (place_of-Some c.args.word _ found).1

pub returns-clause-only : goal.returns-clause-only
returns-clause-only c signal h =
    let found : place_of c.args.word ≡ Some c.in_ok-place_of_word.field-0 =
    sym c.place_of_word.ensures.place ∙ c.in_ok-place_of_word.was in
    ap Some (same_place _ _ (c.signal_at.ensures
    ∙ sym (place-of_word signal c.args.word _ found h)))
