use Rattle.std.proofs.Common.{◌∙◌, sym, true≢false}
use Rattle.nx_fec.specs.declared.air_files.channel.Channel.TheVariants.{One, Two}
use Rattle.nx_handle.proofs.lemmas.Saving.{no-more}
use Rattle.nx_handle.proofs.saving.has_no_more.Goals as goal

pub returns-then-is_within : goal.returns-then-is_within
returns-then-is_within c = (
  λ t. no-more c.args.count c.args.states.now c.requires
      (c.is_within.ensures.0 c.if-is_within.true) (c.is_within-then-is_within.ensures.0 t),
  λ h. c.is_within-then-is_within.ensures.1 (λ le. h Two le),
)

pub returns-else-is_within : goal.returns-else-is_within
returns-else-is_within c = (
  λ t. absurd (true≢false (sym t ∙ c.if-is_within.false)),
  λ h. c.is_within.ensures.1 (λ le. h One le),
)
