-- The room for the text of a copy.
use Rattle.std.specs.Prelude.{ℕ, ◌<◌, List, length}
use Rattle.nx_envelope.specs.Copies.{most_found}
use Rattle.nx_envelope.specs.declared.found.HeldCopy.{HeldCopy}
use Rattle.nx_envelope.specs.declared.found.HeldCopy.TheVariants.{Nothing, Open, Ready}

-- an open copy has room for one more character
abbrev pub HasRoom : HeldCopy → List ℕ → Type 0
HasRoom Nothing text = Unit {0}
HasRoom (Open identity fresh) text = length text < most_found
HasRoom (Ready identity how) text = Unit {0}
