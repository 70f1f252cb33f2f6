use Rattle.std.proofs.Common.{◌/◌, ◌%◌, ◌^◌, sym, ap, ◌∙◌}
use Rattle.nx_sync.proofs.lemmas.hunting.Blocks.{window_after-joined}
use Rattle.nx_sync.proofs.windows_after.window_after_number.Goals as goal

pub returns-clause-value : goal.returns-clause-value
returns-clause-value c =
    ap (λ j. j / 2 ^ c.args.count % 2 ^ 28) c.joined.ensures
    ∙ sym (window_after-joined c.args.count c.args.window c.args.number c.requires.window)
