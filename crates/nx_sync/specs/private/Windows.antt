-- Windows, one after the other: what the private functions of the hunt answer.
use Rattle.std.specs.Prelude.{◌≡◌, ℕ, ◌+◌, ◌-◌, ◌*◌, ◌/◌, ◌%◌, ◌^◌, ◌<◌, ◌≤◌, ◌==◌, Bool, true, false}
use Rattle.std.specs.Prelude.{◌&&◌, ◌||◌, List, [], ◌∷◌, length, slice_index, Option, Some, None}
use Rattle.std.specs.Prelude.{if◌then◌else◌}
use Rattle.nx_code.specs.Word.{value_of}
use Rattle.nx_sync.specs.declared.step.Role.{Role}
use Rattle.nx_sync.specs.declared.step.Role.TheVariants.{Dx, Rx}
use Rattle.nx_sync.specs.Locks.{pattern_elements}
use Rattle.nx_sync.specs.Windows.{window_before_dx, window_before_rx, is_lock_window, HasNoLock}

-- so many windows come before the first pattern, all where there is none
pub record IsBeforeLock (windows : List ℕ) (count : ℕ) : Type 0 where
  pub within : count ≤ length windows
  pub clear : HasNoLock windows count
  pub here : count < length windows → is_lock_window (slice_index windows count) ≡ true

-- the role of the word that follows a window, where it is one of the two patterns
abbrev pub role_after : ℕ → Option Role
role_after window =
    if window == window_before_dx
    then Some Dx
    else (if window == window_before_rx then Some Rx else None)

-- the window after one more element
abbrev pub next_window : ℕ → Bool → ℕ
next_window window bit = window / 2 + 2 ^ (pattern_elements - 1) * value_of bit

-- the window after one more word, by its number
abbrev pub next_word_window : ℕ → ℕ → ℕ
next_word_window window word = window / 2 ^ 7 + 2 ^ 21 * word

-- the number of the last word of a window
abbrev pub last_word : ℕ → ℕ
last_word window = window / 2 ^ 21

-- bit n is set where the word n is seven elements in a row of phasing, at any place
abbrev pub in_phasing : ℕ
in_phasing = 0x52080042000010088001000081008080

abbrev pub is_in_phasing : ℕ → Bool
is_in_phasing word = in_phasing / 2 ^ word % 2 == 1

-- ten elements in a row of phasing, at any place, as numbers
unfoldable pub blocks : List ℕ
blocks =
    0x03F ∷ 0x07E ∷ 0x0C3 ∷ 0x0FC ∷ 0x187 ∷ 0x1F9 ∷ 0x21F
    ∷ 0x261 ∷ 0x30F ∷ 0x330 ∷ 0x398 ∷ 0x3CC ∷ 0x3E6 ∷ 0x3F3 ∷ []

unfoldable pub is_one_of : List ℕ → ℕ → Bool
is_one_of [] number = false
is_one_of (one ∷ more) number = number == one || is_one_of more number

abbrev pub is_block : ℕ → Bool
is_block block = is_one_of blocks block

-- a window, and above it the elements of the number that comes after it
abbrev pub joined : ℕ → ℕ → ℕ
joined window number = window + 2 ^ pattern_elements * number

-- the window from a place on
abbrev pub window_in : ℕ → ℕ → ℕ
window_in joined place = joined / 2 ^ place % 2 ^ pattern_elements

-- the ten elements from a place on
abbrev pub block_in : ℕ → ℕ → ℕ
block_in joined place = joined / 2 ^ place % 2 ^ 10

-- whether one of the four tens of elements stands in a pattern, one of which each window after one
-- of 64 elements has
abbrev pub may_lock_in_blocks : ℕ → Bool
may_lock_in_blocks joined =
    is_block (block_in joined 18) || is_block (block_in joined 37)
    || is_block (block_in joined 56) || is_block (block_in joined 75)

-- the same, and with it the ten before or the ten behind it, one of which each of these windows has
abbrev pub may_lock_in_both : ℕ → Bool
may_lock_in_both joined =
    (is_block (block_in joined 18)
    && (is_block (block_in joined 9) || is_block (block_in joined 28)))
    || (is_block (block_in joined 37)
    && (is_block (block_in joined 28) || is_block (block_in joined 47)))
    || (is_block (block_in joined 56)
    && (is_block (block_in joined 47) || is_block (block_in joined 66)))
    || (is_block (block_in joined 75) && is_block (block_in joined 66))

-- so many elements come before the first one, among the first `count`, after which the window is a
-- pattern, all where there is none
pub record IsBeforeLockIn (joined count heard : ℕ) : Type 0 where
  pub within : heard ≤ count
  pub clear : (k : ℕ) → k < heard → is_lock_window (window_in joined (k + 1)) ≡ false
  pub here : heard < count → is_lock_window (window_in joined (heard + 1)) ≡ true

-- the window after these elements
unfoldable pub window_after : ℕ → List Bool → ℕ
window_after window [] = window
window_after window (bit ∷ bits) = window_after (next_window window bit) bits
