use Rattle.std.proofs.Common.{◌≡◌, ◌-◌, ◌+◌, Some, None, refl, sym, ap, ◌∙◌, arith}
use Rattle.std.specs.Option.{is_some}
use Rattle.std.proofs.lemmas.Bool.{both_ways}
use Rattle.nx_code.specs.Reading.{character_of}
use Rattle.nx_code.proofs.lemmas.Character.{case_kept-right, in_code-printed, in_code-prints}
use Rattle.nx_code.proofs.characters.char_to_code.Goals as goal

pub returns-in_err-place-clause-in_code : goal.returns-in_err-place-clause-in_code
returns-in_err-place-clause-in_code c = (
  λ h. absurd (both_ways _ (ap is_some c.from_residual.ensures) h),
  λ h.
      let p = in_code-prints c.args.character h in
      let found : c.place_of_character.result ≡ Some (p.number - 1) =
      c.place_of_character.ensures.found p.number p.shift p.from_one p.to_thirty_two p.prints in
      let clash : None ≡ Some (p.number - 1) = sym c.in_err-place.was ∙ found in
      cc,
)

pub returns-clause-in_code : goal.returns-clause-in_code
returns-clause-in_code c =
    let there = c.in_ok-place.ensures.printed in (
      λ _. in_code-printed there.1 (c.in_ok-place.place + 1) c.args.character (omega arith)
          (omega (arith, there.0)) there.2,
      λ _. refl,
    )

pub returns-clause-found : goal.returns-clause-found
returns-clause-found c number shift low high h =
    let clash : Some c.in_ok-place.place ≡ Some (number - 1) =
    sym c.in_ok-place.was ∙ c.place_of_character.ensures.found number shift low high h in
    let same : c.in_ok-place.place ≡ number - 1 = cc in (
      c.comb_at.ensures ∙ omega (arith, same, low),
      (case_kept-right number c.args.character shift shift c.case_of.result c.case_of.ensures low
          high h).1 h,
    )

pub returns-clause-printed : goal.returns-clause-printed
returns-clause-printed c shift h =
    let there = c.in_ok-place.ensures.printed in
    ap (λ n. character_of n shift) c.comb_at.ensures
    ∙ (case_kept-right (c.in_ok-place.place + 1) c.args.character there.1 shift c.case_of.result
    c.case_of.ensures (omega arith) (omega (arith, there.0)) there.2).0 h
