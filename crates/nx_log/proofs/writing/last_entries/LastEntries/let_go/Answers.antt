use Rattle.std.proofs.Common.{not, rules}
use Rattle.std.proofs.lemmas.Fn.{filter_same}
use Rattle.nx_log.specs.private.Heads.{head_replaces}
use Rattle.nx_log.specs.declared.writing.last_entries.HeldEntry.{HeldEntry}
use Rattle.nx_log.proofs.writing.last_entries.LastEntries.let_go.Goals as goal

pub returns : goal.returns
returns c =
    filter_same _ (λ (one : HeldEntry). not (head_replaces c.args.head.now one.head)) _
    (λ x b f' k. search rules) _ _ c.retain.ensures.filtered
