-- What is counted of a lock, and its text, by the bits (this profile). The words of a lock are of
-- seven elements, and a word is wrong where not four of them are B (ITU-R M.476, M.625).
use Rattle.std.specs.Prelude.{ℕ, Bool, List, length}
use Rattle.nx_envelope.specs.Copies.{headers}
use Rattle.nx_sync.specs.Words.{word_of_lock}
use Rattle.nx_code.specs.Word.{wrong_in}
use Rattle.nx_copies.specs.copies.LockText.{bytes_of, lock_text}

-- the text of the first n words of the lock at t, byte for byte
unfoldable pub shown_text : List Bool → ℕ → ℕ → List ℕ
shown_text bits t n = bytes_of (lock_text bits t n)

-- how many of the first n words of the lock at t have the wrong weight
unfoldable pub wrong_words : List Bool → ℕ → ℕ → ℕ
wrong_words bits t n = wrong_in (word_of_lock bits t) 0 n

-- how many headers stand in the text of the first n words of the lock at t
unfoldable pub headers_shown : List Bool → ℕ → ℕ → ℕ
headers_shown bits t n = length (headers (shown_text bits t n))
