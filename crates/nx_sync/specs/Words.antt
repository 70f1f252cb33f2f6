-- The words of a lock: where they stand, their roles, and how many of them have the wrong weight. A
-- bit is an element, B is true; words have seven elements (ITU-R M.476 and M.625).
use Rattle.std.specs.Prelude.{ℕ, zero, suc, ◌+◌, ◌-◌, ◌*◌, ◌/◌, ◌==◌, Bool, true, false, List, []}
use Rattle.std.specs.Prelude.{◌∷◌, ◌++◌, length, if◌then◌else◌}
use Rattle.nx_code.specs.Table.{phasing_1}
use Rattle.nx_code.specs.Word.{last_element, word_elements, word_from, wrong_in}
use Rattle.nx_sync.specs.declared.step.Role.{Role}
use Rattle.nx_sync.specs.declared.step.Role.TheVariants.{Dx, Rx}

-- of how many of its last words a lock counts the wrong ones (this profile)
abbrev pub marked_words : ℕ
marked_words = 64

-- how many wrong words among the last 64 lose a lock (this profile)
abbrev pub losing_count : ℕ
losing_count = 40

-- where word k of the lock at t begins (seven elements a word: M.476, M.625)
abbrev pub word_begin : ℕ → ℕ → ℕ
word_begin t k = t + word_elements * k

-- the index, among all bits, of the last bit of word k of the lock at t
abbrev pub last_bit : ℕ → ℕ → ℕ
last_bit t k = word_begin t k + last_element

-- the number of word k of the lock at t: its bits are those from where it begins
unfoldable pub word_of_lock : List Bool → ℕ → ℕ → ℕ
word_of_lock bits t k = word_from bits (word_begin t k)

-- the role of word 0 of the lock at t: DX where the pattern ended with phasing signal 1, else RX.
-- In M.625's mode B phasing signal 2 is sent as DX and phasing signal 1 as RX.
unfoldable pub first_role : List Bool → ℕ → Role
first_role bits t = if word_from bits (t - word_elements) == phasing_1 then Dx else Rx

abbrev pub other_role : Role → Role
other_role Dx = Rx
other_role Rx = Dx

-- The role of word k where word 0 has the role `first`: roles alternate (M.625, mode B).
unfoldable pub role_of : Role → ℕ → Role
role_of first zero = first
role_of first (suc k) = other_role (role_of first k)

abbrev pub is_dx : Role → Bool
is_dx Dx = true
is_dx Rx = false

-- the first of the last n words up to word k, or word 0 where they are fewer
abbrev pub first_of_last : ℕ → ℕ → ℕ
first_of_last n k = k + 1 - n

-- how many of the words from word i to word k, both among them, have the wrong weight
abbrev pub wrong_between : (ℕ → ℕ) → ℕ → ℕ → ℕ
wrong_between words i k = wrong_in words i (k + 1 - i)

-- how many of the last 64 words up to word k, or of all up to it where they are fewer, have the
-- wrong weight
abbrev pub wrong_until : (ℕ → ℕ) → ℕ → ℕ
wrong_until words k = wrong_between words (first_of_last marked_words k) k

-- word k of the lock at t, by its number and its role
abbrev pub heard_word : List Bool → ℕ → ℕ → ℕ × Role
heard_word bits t k = (word_of_lock bits t k, role_of (first_role bits t) k)

-- the first n words of the lock at t, each with its role, in order
unfoldable pub lock_words : List Bool → ℕ → ℕ → List (ℕ × Role)
lock_words bits t zero = []
lock_words bits t (suc n) = lock_words bits t n ++ heard_word bits t n ∷ []

-- how many words of the lock at t were heard whole
abbrev pub whole_words : List Bool → ℕ → ℕ
whole_words bits t = (length bits - t) / word_elements

-- the words of the lock at t that were heard whole
abbrev pub words_heard : List Bool → ℕ → List (ℕ × Role)
words_heard bits t = lock_words bits t (whole_words bits t)
