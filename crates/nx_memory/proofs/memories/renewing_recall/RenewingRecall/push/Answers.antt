use Rattle.std.proofs.Common.{◌≡◌, ◌≤◌, sym, subst, arith}
use Rattle.std.proofs.lemmas.Grind.{common_steps}
use Rattle.nx_memory.specs.Content.{IsRenewedContent}
use Rattle.nx_memory.specs.Memory.{content_after, newest_moment}
use Rattle.nx_memory.proofs.lemmas.Renewed.{renewed-after}
use Rattle.nx_memory.proofs.memories.renewing_recall.RenewingRecall.push.Goals as goal
use Rattle.nx_memory.proofs.memories.renewing_recall.RenewingRecall.push.Goals.{then-is_full, else-is_full}

pub invariant_of-self : goal.invariant_of-self
invariant_of-self c =
    let all = c.self.inside.entries.items in
    let made : c.push.new.self.items ≡ content_after all c.args.identity c.args.moment =
    elim c.if-is_full.branch [
      | then-is_full w ↦ grind (arith, common_steps)
      | else-is_full w ↦ grind (arith, common_steps)
    ] in
    subst IsRenewedContent (sym made)
    (renewed-after all c.args.identity c.args.moment c.self.invariant
    (subst (λ l. newest_moment l ≤ c.args.moment) (sym c.self.view_is) c.requires.not_before)
    c.requires.numbered)
