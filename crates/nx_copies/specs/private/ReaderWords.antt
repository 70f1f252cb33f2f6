-- What only private contracts and proofs cite, beside ReaderWords (this profile).
use Rattle.std.specs.Prelude.{ℕ, ◌+◌, ◌*◌}

-- the place of word k of the lock at t: the index of its last bit
abbrev pub word_place : ℕ → ℕ → ℕ
word_place t k = t + 7 * k + 6
