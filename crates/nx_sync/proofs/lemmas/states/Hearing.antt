-- What is held after several elements were heard, before any is looked at.
use Rattle.std.proofs.Common.{◌≡◌, ℕ, ◌+◌, ◌^◌, ◌<◌, ◌≤◌, min, List, [], ◌∷◌, ◌++◌, length, take}
use Rattle.std.proofs.Common.{drop, get_or, set, Bool, false, refl, sym, ap, ap₂, ◌∙◌, arith}
use Rattle.std.proofs.Common.{length-append, length-take}
use Rattle.std.proofs.Math.Seq.{take-add}
use Rattle.std.proofs.lemmas.List.{take_more, get_or-set_same, get_or-set_other}
use Rattle.nx_code.proofs.lemmas.Word.{value_of-le}
use Rattle.nx_sync.specs.private.Windows.{next_window, window_after}
use Rattle.nx_sync.specs.Synchroniser.{Held}
use Rattle.nx_sync.specs.private.Calls.{heard_all}

-- one element and then more
pub window_after-append : (xs ys : List Bool) (window : ℕ)
    → window_after window (xs ++ ys) ≡ window_after (window_after window xs) ys
unfolding window_after
window_after-append [] ys window = refl
window_after-append (x ∷ xs) ys window = window_after-append xs ys (next_window window x)

pub window_after-one : (window : ℕ) (b : Bool) → window_after window (b ∷ []) ≡ next_window window b
unfolding window_after
window_after-one window b = refl

pub window_after-none : (window : ℕ) → window_after window [] ≡ window
unfolding window_after
window_after-none window = refl

-- the window at the next place
pub window_after-more : (bits : List Bool) (i : ℕ) (window : ℕ) → i < length bits
    → window_after window (take (i + 1) bits)
    ≡ next_window (window_after window (take i bits)) (get_or bits i false)
window_after-more bits i window h =
    ap (window_after window) (take_more bits i false h)
    ∙ (window_after-append (take i bits) (get_or bits i false ∷ []) window
    ∙ window_after-one (window_after window (take i bits)) (get_or bits i false))

-- a list with another item at one place
pub set_here : (xs : List ℕ) (i k x : ℕ) → k ≡ i → i < length xs → get_or (set xs i x) k 0 ≡ x
set_here xs i k x e h = ap (λ j. get_or (set xs i x) j 0) e ∙ get_or-set_same xs i x 0 h

pub set_before : (xs : List ℕ) (i k x : ℕ) → k < i → get_or (set xs i x) k 0 ≡ get_or xs k 0
set_before xs i k x h = get_or-set_other xs i k x 0 (λ e. omega arith)

-- a window stays within 28 places
pub next_window-lt : (window : ℕ) (b : Bool) → window < 2 ^ 28 → next_window window b < 2 ^ 28
next_window-lt window b h = omega (arith, value_of-le b)

pub window_after-lt : (bits : List Bool) (window : ℕ) → window < 2 ^ 28
    → window_after window bits < 2 ^ 28
unfolding window_after
window_after-lt [] window h = h
window_after-lt (b ∷ bits) window h =
    window_after-lt bits (next_window window b) (next_window-lt window b h)

pub same_parts : (held : Held) (r q : ℕ) (m n : ℕ) → r ≡ q → m ≡ n
    → record held { recent = r; seen = m } ≡ record held { recent = q; seen = n }
same_parts held r q m n e d = ap₂ (λ r m. record held { recent = r; seen = m }) e d

-- nothing heard
pub heard_all-none : (held : Held) → held.seen ≤ 28 → heard_all held [] ≡ held
heard_all-none held h =
    same_parts held (window_after held.recent []) held.recent (min (held.seen + 0) 28) held.seen
    (window_after-none held.recent) (omega arith)

-- some elements and then more
pub heard_all-append : (held : Held) (xs ys : List Bool)
    → heard_all (heard_all held xs) ys ≡ heard_all held (xs ++ ys)
heard_all-append held xs ys =
    same_parts held (window_after (window_after held.recent xs) ys)
    (window_after held.recent (xs ++ ys))
    (min (min (held.seen + length xs) 28 + length ys) 28) (min (held.seen + length (xs ++ ys)) 28)
    (sym (window_after-append xs ys held.recent)) (simp length-append (omega arith))

-- some of a list and then some of the rest
pub heard_all-add : (held : Held) (bits : List Bool) (i n : ℕ)
    → heard_all (heard_all held (take i bits)) (take n (drop i bits))
    ≡ heard_all held (take (i + n) bits)
heard_all-add held bits i n =
    heard_all-append held (take i bits) (take n (drop i bits))
    ∙ ap (heard_all held) (sym (take-add i n bits))

-- the next one
pub heard_all-more : (held : Held) (bits : List Bool) (i : ℕ) → i < length bits
    → record (heard_all held (take i bits)) {
      recent = next_window (window_after held.recent (take i bits)) (get_or bits i false);
      seen = min (min (held.seen + length (take i bits)) 28 + 1) 28;
    }
    ≡ heard_all held (take (i + 1) bits)
heard_all-more held bits i h =
    let l : length (take i bits) ≡ i = simp length-take (omega arith) in
    let m : length (take (i + 1) bits) ≡ i + 1 = simp length-take (omega arith) in
    same_parts held (next_window (window_after held.recent (take i bits)) (get_or bits i false))
    (window_after held.recent (take (i + 1) bits))
    (min (min (held.seen + length (take i bits)) 28 + 1) 28)
    (min (held.seen + length (take (i + 1) bits)) 28)
    (sym (window_after-more bits i held.recent h)) (omega (arith, l, m))
