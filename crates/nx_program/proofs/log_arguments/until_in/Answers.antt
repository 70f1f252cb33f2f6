use Rattle.std.proofs.Common.{◌≡◌, ◌∙◌, Some, None, ap, option_map, refl, sym}
use Rattle.nx_program.proofs.log_arguments.until_in.Goals as goal

pub returns-in-None-until_of-clause-wrong : goal.returns-in-None-until_of-clause-wrong
returns-in-None-until_of-clause-wrong c = (
  refl,
  (
    c.in-Some.text.now,
    sym c.given_in.ensures ∙ ap (option_map (λ text. text.now)) c.in-Some.is,
    λ moment named.
        let found : Some moment ≡ None = sym (c.until_of.ensures.found moment named)
        ∙ c.in-None-until_of.is in absurd (cc),
  ),
)
