-- From the masks of eight lanes to the windows under them.
use Rattle.std.proofs.Common.{◌≡◌, ℕ, ◌+◌, ◌%◌, ◌^◌, ◌<◌, ◌≤◌, ◌==◌, false, cond, List, length}
use Rattle.std.proofs.Common.{get_or, map, replicate, w32, refl, sym, ◌∙◌, arith}
use Rattle.std.proofs.lemmas.Simd.{length-chunk, bitmask_splat, none_from_empty_mask}
use lib.Lanes.{chunk, mask_l, zip2, top}
use Rattle.nx_sync.specs.Windows.{is_lock_window, window_before_dx, window_before_rx}

-- the mask of a comparison with one number in all lanes
abbrev pub mask_of : List ℕ → ℕ → ℕ → ℕ
mask_of windows at number =
    mask_l (map (top 31) (zip2 (λ a b. cond (a == b) 4294967295 0) (chunk at 8 windows)
    (replicate 8 number))) % 2 ^ 64

no_lane : (windows : List ℕ) (at number : ℕ) → at + 8 ≤ length windows
    → mask_of windows at number ≡ 0 → (k : ℕ) → at ≤ k → k < at + 8
    → (get_or windows k 0 == number) ≡ false
no_lane windows at number room none =
    let long = length-chunk at 8 windows room in
    none_from_empty_mask (λ x. x == number) windows at 8 0 room
    (sym (bitmask_splat w32 (λ x y. x == y) (chunk at 8 windows) 8 number long (omega arith))
    ∙ none)

-- where both masks are empty, none of the eight windows is a pattern
pub no_lock_by_masks : (windows : List ℕ) (at : ℕ) → at + 8 ≤ length windows
    → mask_of windows at window_before_dx ≡ 0 → mask_of windows at window_before_rx ≡ 0
    → (k : ℕ) → at ≤ k → k < at + 8 → is_lock_window (get_or windows k 0) ≡ false
no_lock_by_masks windows at room dx rx k low high =
    rw (
      no_lane windows at window_before_dx room dx k low high,
      no_lane windows at window_before_rx
          room rx k low high,
    ) refl
