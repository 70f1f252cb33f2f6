-- Windows: the last 28 elements as a number, the oldest in the least place. A law says that the two
-- patterns have the numbers here.
use Rattle.std.specs.Prelude.{◌≡◌, ℕ, ◌<◌, ◌==◌, Bool, true, false, ◌||◌, List, length, slice_index}

-- P2 P1 P2 P1, after which a DX word follows, and P1 P2 P1 P2, after which an RX word follows (this
-- profile)
abbrev pub window_before_dx : ℕ
window_before_dx = 0x1F987E6

abbrev pub window_before_rx : ℕ
window_before_rx = 0xCC3F30F

-- whether a window is one of the two patterns
abbrev pub is_lock_window : ℕ → Bool
is_lock_window window = window == window_before_dx || window == window_before_rx

-- none of the first n windows is a pattern
abbrev pub HasNoLock : List ℕ → ℕ → Type 0
HasNoLock windows n = (k : ℕ) → k < n → is_lock_window (slice_index windows k) ≡ false

-- the window at this index is a pattern, and none at a smaller one
pub record IsFirstLock (windows : List ℕ) (at : ℕ) : Type 0 where
  pub within : at < length windows
  pub here : is_lock_window (slice_index windows at) ≡ true
  pub least : HasNoLock windows at
