-- What the parts of a finder do, of which the layers above know nothing.
use Rattle.std.specs.Prelude.{ℕ, ◌-◌, List, [], ◌∷◌, ◌++◌, length, take}
use Rattle.nx_envelope.specs.Finder.{HappensAt, HoldsCopy}
use Rattle.nx_envelope.specs.declared.finder.Finder.{Finder}
use Rattle.nx_envelope.specs.declared.found.How.{How}
use Rattle.nx_envelope.specs.declared.found.How.TheVariants.{Full, Cut, Long}
use Rattle.nx_envelope.specs.declared.found.TextEvent.{TextEvent}

-- the found text of a raw text and the byte at which it ended
abbrev pub found_text : How → List ℕ → ℕ → List ℕ
found_text Full raw byte = take (length raw - 3) raw
found_text Cut raw byte = take (length raw - 3) raw
found_text Long raw byte = raw ++ byte ∷ []

-- what the finder answered to the byte behind the text, and what it holds of the copies of both
pub record Hearing (text : List ℕ) (byte : ℕ) (answer : TextEvent) (now : Finder) : Type 0 where
  pub hears : HappensAt text byte now answer
  pub holds : HoldsCopy now.copy now.text (text ++ byte ∷ [])
