-- Four of eight bytes, as numbers with the oldest byte lowest.
use Rattle.std.specs.Prelude.{◌≡◌, ℕ, ◌*◌, ◌^◌, ◌/◌, ◌%◌, ◌<◌, List, [], ◌∷◌, None}
use Rattle.std.specs.Int.{from_le_bytes, w32}
use Rattle.nx_envelope.specs.private.Backward.{last_four, marker_back}

-- the four of eight bytes that stand behind so many of them
abbrev pub four_behind : ℕ → ℕ → ℕ
four_behind eight count = eight / 2 ^ (8 * count) % 2 ^ 32

-- four bytes, and each is one
pub record Four (bytes : List ℕ) : Type 0 where
  pub first : ℕ
  pub second : ℕ
  pub third : ℕ
  pub last : ℕ
  pub spelled : bytes ≡ first ∷ second ∷ third ∷ last ∷ []
  pub first_fits : first < 256
  pub second_fits : second < 256
  pub third_fits : third < 256
  pub last_fits : last < 256

-- a text that ends with these four of the eight ends with no marker
abbrev pub IsUnmarked : ℕ → ℕ → Type 0
IsUnmarked eight count = (back : List ℕ) → Four (last_four back)
    → four_behind eight count ≡ from_le_bytes w32 (last_four back) → marker_back back ≡ None

-- The number is that of the last four bytes of a text, read from its back, and of the four that
-- come next. Those that stand behind so many of the eight are the last four of the text so much
-- later.
pub record IsEight (eight : ℕ) (back bytes : List ℕ) : Type 0 where
  pub old : Four (last_four back)
  pub new : Four bytes
  pub none : four_behind eight 0 ≡ from_le_bytes w32 (last_four back)
  pub one : four_behind eight 1 ≡ from_le_bytes w32 (last_four (new.first ∷ back))
  pub two : four_behind eight 2 ≡ from_le_bytes w32 (last_four (new.second ∷ new.first ∷ back))
  pub three :
      four_behind eight 3
      ≡ from_le_bytes w32 (last_four (new.third ∷ new.second ∷ new.first ∷ back))
  pub four :
      four_behind eight 4
      ≡ from_le_bytes w32 (last_four (new.last ∷ new.third ∷ new.second ∷ new.first ∷ back))
