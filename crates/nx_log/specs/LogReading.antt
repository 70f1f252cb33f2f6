-- What contracts see of a reader of a log (this profile).
use Rattle.std.specs.Prelude.{ℕ, List}
use Rattle.nx_log.specs.declared.entries.reader.EntryStage.{EntryStage}

-- at which stage it is, the bytes that it holds, and the line
pub record LogReading : Type 0 where
  pub stage : EntryStage
  pub held : List ℕ
  pub line : ℕ
