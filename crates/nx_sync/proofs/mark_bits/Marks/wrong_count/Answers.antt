use Rattle.std.proofs.Common.{◌∙◌, ap, count_by, arith}
use Rattle.std.proofs.lemmas.Nat.{ones-le}
use Rattle.nx_sync.proofs.lemmas.words.MarkBits.{count_set}
use Rattle.nx_sync.proofs.mark_bits.Marks.wrong_count.Goals as goal

pub returns-clause-count : goal.returns-clause-count
returns-clause-count c =
    count_set c.self.inside.count c.self.inside.bits c.self.invariant.0 (omega arith)
    c.self.invariant.2 ∙ ap (count_by (λ b. b)) c.self.view_is

pub returns-clause-within : goal.returns-clause-within
returns-clause-within c = ones-le 64 c.self.inside.bits (omega arith)
