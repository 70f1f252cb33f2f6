use Rattle.std.proofs.Common.{◌≡◌, ◌+◌, ◌*◌, ◌/◌, ◌%◌, ◌^◌, ◌∙◌, ap, arith, sym}
use Rattle.nx_sync.specs.private.Windows.{joined}
use Rattle.nx_sync.proofs.lemmas.hunting.Blocks.{window_after-joined}
use Rattle.nx_sync.proofs.windows_after.window_after_few.Goals as goal

pub returns-clause-value : goal.returns-clause-value
returns-clause-value c =
    let whole : c.from.result + c.args.number * 2 ^ 28 % 2 ^ 64
    ≡ joined c.args.window c.args.number =
    omega (arith, c.requires.few, c.requires.window, c.from.ensures) in
    ap (λ j. j / 2 ^ c.args.count % 2 ^ 28) whole
    ∙ sym (window_after-joined c.args.count c.args.window c.args.number c.requires.window)
