use Rattle.std.proofs.Common.{subst, sym, ap, ◌∙◌}
use Rattle.nx_memory.specs.Content.{IsContent}
use Rattle.nx_memory.specs.Memory.{content_after}
use Rattle.nx_memory.proofs.lemmas.Content.{content_after-IsContent}
use Rattle.nx_memory.proofs.memories.plain_recall.PlainRecallRecall.enter.Goals as goal

pub invariant_of-self : goal.invariant_of-self
invariant_of-self c =
    subst IsContent
    (sym (c.enter.ensures
    ∙ ap (λ l. content_after l c.args.identity c.args.moment) c.self.view_is))
    (content_after-IsContent c.args.self.now c.args.identity c.args.moment
    (subst IsContent c.self.view_is c.self.invariant) c.requires.not_before c.requires.unknown
    c.requires.numbered)
