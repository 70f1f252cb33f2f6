-- The code's pieces of a spelling, one for each character.
use Rattle.std.specs.Prelude.{ℕ, List, [], ◌∷◌, ◌++◌, Option, Some, None}
use Rattle.nx_code.specs.declared.signals.Comb.{Comb}
use Rattle.nx_code.specs.declared.spelling.Piece.{Piece}

-- the number of a combination that may be there
abbrev pub numbers_of : Option Comb → List ℕ
numbers_of None = []
numbers_of (Some comb) = comb.number ∷ []

-- the combinations of a piece, by their numbers
abbrev pub numbers_of_piece : Piece → List ℕ
numbers_of_piece piece = numbers_of piece.ahead ++ piece.comb.number ∷ []
