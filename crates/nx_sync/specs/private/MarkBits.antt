-- The marks of the last words of a lock as the bits of one number, the newest in the highest place.
-- Marks that aren't there are bits that aren't set.
use Rattle.std.specs.Prelude.{ℕ, ◌-◌, ◌++◌, Bool, false, List, drop, replicate}
use Rattle.circular_buffer.specs.Buffer.{keep_last}
use Rattle.nx_code.specs.Word.{elements_from}
use Rattle.nx_sync.specs.Words.{marked_words}

-- the marks, so many of them, that the highest bits of a number are
abbrev pub marks_in : ℕ → ℕ → List Bool
marks_in count bits = drop (marked_words - count) (elements_from marked_words bits)

-- marks, at most as many as a lock keeps, behind as many that aren't set as are missing to those
abbrev pub padded : List Bool → List Bool
padded marks = keep_last marked_words (replicate marked_words false ++ marks)
