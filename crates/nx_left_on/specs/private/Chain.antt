-- What only private contracts and proofs cite, beside Chain (this profile).
use Rattle.std.specs.Prelude.{List}
use Rattle.nx_copies.specs.copies.Log.{plain}
use Rattle.nx_copies.specs.copies.Shares.{Given, MarkedCopy, Starts}
use Rattle.nx_left_on.specs.Chain.{Ending, PrintOfBy}

-- what a watch puts, where each copy is judged alone
abbrev pub PrintOf : Ending → Starts → List Given → List MarkedCopy → Type 0
PrintOf = PrintOfBy plain
