use Rattle.std.proofs.Common.{◌≡◌, ◌∙◌, Some, None, ap, option_map, refl, sym}
use Rattle.nx_program.proofs.log_arguments.from_in.Goals as goal

pub returns-in-None-place_named-clause-wrong : goal.returns-in-None-place_named-clause-wrong
returns-in-None-place_named-clause-wrong c = (
  refl,
  (
    c.in-Some.text.now,
    sym c.given_in.ensures ∙ ap (option_map (λ text. text.now)) c.in-Some.is,
    λ place said.
        let found : Some place ≡ None = sym (c.place_named.ensures.found place said)
        ∙ c.in-None-place_named.is in absurd (cc),
  ),
)
