-- What contracts see of a finder.
use Rattle.std.specs.Prelude.{ℕ, List}
use Rattle.nx_envelope.specs.declared.found.HeldCopy.{HeldCopy}
use Rattle.nx_envelope.specs.declared.header_stage.HeaderStage.{HeaderStage}

-- the last four bytes of a text, how far a header has come at its end, and a copy that is open or
-- was not taken, with its text
pub record FinderView : Type 0 where
  pub recent : List ℕ
  pub stage : HeaderStage
  pub copy : HeldCopy
  pub text : List ℕ
