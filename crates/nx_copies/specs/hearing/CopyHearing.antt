-- What contracts see of what a receiver keeps but its memory, and of what is in force (this
-- profile).
use Rattle.std.specs.Prelude.{ℕ}
use Rattle.nx_sync.specs.Synchroniser.{Held}
use Rattle.nx_memory.specs.Selection.{Refused}
use Rattle.nx_copies.specs.Events.{Setting}
use Rattle.nx_copies.specs.LockReader.{LockReading}
use Rattle.nx_copies.specs.declared.copy_taker.CopyTag.{CopyTag}

-- what contracts see of a hearer: the synchroniser, the reader of the lock's text, what is refused,
-- the moment, and what was in force at the header that was heard last
pub record CopyHearing : Type 0 where
  pub synchroniser : Held
  pub reader : LockReading
  pub refused : Refused
  pub moment : ℕ
  pub tag : CopyTag

-- what is in force
abbrev pub in_force : CopyHearing → Setting
in_force hearer = record { moment = hearer.moment; refused = hearer.refused }
