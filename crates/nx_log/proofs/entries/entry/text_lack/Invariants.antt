use Rattle.nx_log.proofs.lemmas.beginnings.Texts.{IsRead}
use Rattle.nx_log.proofs.entries.entry.text_lack.Given as goal

abbrev pub invariant-loop-left : goal.invariant-loop-left
invariant-loop-left l = IsRead l.bytes l.rest l.errors l.characters l.lacking l.left

abbrev pub decreases-loop-left : goal.decreases-loop-left
decreases-loop-left l = l.left
