use Rattle.std.proofs.Common.{◌≡◌, ℕ, Option, List, ◌++◌, take}
use Rattle.std.specs.Prelude.{map}
use Rattle.std.specs.List.{concat}
use Rattle.nx_fec.specs.air_files.LineRuns.{HasGiven}
use Rattle.nx_log.specs.private.Held.{held_text}
use Rattle.nx_log.proofs.writing.last_entries.LastEntries.give_to.Given as goal

-- the texts so far were given
abbrev pub invariant-loop-held : goal.invariant-loop-held
invariant-loop-held g l = record {
  writer : l.writer.failures ≡ 0;
  given : (first : Option (List ℕ)) (before : List ℕ)
      → HasGiven first (g.W.Write.contents l.fn.writer.inner) l.fn.batch before
      → HasGiven first (g.W.Write.contents l.writer.inner) l.batch
      (before ++ concat (map held_text (take l.held-index l.self.entries.items)));
}
