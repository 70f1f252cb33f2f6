-- The two patterns: which one stands, and what role the first word has after it.
use Rattle.std.proofs.Common.{◌≡◌, ℕ, ◌+◌, ◌-◌, ◌/◌, ◌^◌, ◌≤◌, List, ◌++◌, length, take, drop}
use Rattle.std.proofs.Common.{replicate, Bool, false, refl, sym, ap, ◌∙◌, inl, inr, arith, Some}
use Rattle.std.proofs.Common.{None, length-drop, length-take, take_all, drop-drop}
use Rattle.std.proofs.lemmas.Bool.{cases_eq, ne_eqb}
use Rattle.std.proofs.lemmas.List.{drop-take}
use Rattle.circular_buffer.specs.Buffer.{keep_last}
use Rattle.nx_code.specs.Word.{number_of, elements, elements_from}
use Rattle.nx_sync.specs.declared.step.Role.TheVariants.{Dx, Rx}
use Rattle.nx_sync.specs.Words.{first_role}
use Rattle.nx_sync.specs.Locks.{before_dx, before_rx, last_elements}
use Rattle.nx_sync.specs.Windows.{window_before_dx, window_before_rx}
use Rattle.nx_sync.specs.private.Windows.{role_after}
use Rattle.nx_sync.proofs.lemmas.states.Lists.{keep_last-padded}
use Rattle.nx_sync.proofs.lemmas.hunting.Numbers.{number_of-same, number_of-drop}

-- the numbers of the two patterns
pub number_of-before_dx : number_of before_dx ≡ window_before_dx
unfolding number_of before_dx elements elements_from
number_of-before_dx = refl

pub number_of-before_rx : number_of before_rx ≡ window_before_rx
unfolding number_of before_rx elements elements_from
number_of-before_rx = refl

pub is_dx_window : (w : List Bool) → length w ≡ 28 → number_of w ≡ window_before_dx → w ≡ before_dx
unfolding before_dx elements elements_from
is_dx_window w l e = number_of-same w before_dx l (e ∙ sym number_of-before_dx)

pub is_rx_window : (w : List Bool) → length w ≡ 28 → number_of w ≡ window_before_rx → w ≡ before_rx
unfolding before_rx elements elements_from
is_rx_window w l e = number_of-same w before_rx l (e ∙ sym number_of-before_rx)

-- what the two tests of a window say
pub role_after-dx : (window : ℕ) → window ≡ window_before_dx → role_after window ≡ Some Dx
role_after-dx window e = rw e refl

pub role_after-rx : (window : ℕ) → window ≡ window_before_rx → role_after window ≡ Some Rx
role_after-rx window e = rw e refl

pub role_after-none : (window : ℕ) → (window ≡ window_before_dx → ⊥)
    → (window ≡ window_before_rx → ⊥) → role_after window ≡ None
role_after-none window d r =
    rw (ne_eqb window window_before_dx d, ne_eqb window window_before_rx r) refl

-- which of the two patterns these 28 bits are, by what the tests of their number answer
pub record IsNeither (w : List Bool) : Type 0 where
  pub not_dx : w ≡ before_dx → ⊥
  pub not_rx : w ≡ before_rx → ⊥

pub data Which (w : List Bool) : Type 0 where
  dx : w ≡ before_dx → role_after (number_of w) ≡ Some Dx → Which w
  rx : w ≡ before_rx → role_after (number_of w) ≡ Some Rx → Which w
  neither : IsNeither w → role_after (number_of w) ≡ None → Which w

pub which : (w : List Bool) → length w ≡ 28 → Which w
which w l = elim (cases_eq (number_of w) window_before_dx) [
  | inl d ↦ dx (is_dx_window w l d) (role_after-dx (number_of w) d)
  | inr nd ↦ elim (cases_eq (number_of w) window_before_rx) [
    | inl r ↦ rx (is_rx_window w l r) (role_after-rx (number_of w) r)
    | inr nr ↦ neither (record {
      not_dx = λ e. nd (ap number_of e ∙ number_of-before_dx);
      not_rx = λ e. nr (ap number_of e ∙ number_of-before_rx);
    }) (role_after-none (number_of w) nd nr)
  ]
]

pub length-last_elements : (bits : List Bool) (t : ℕ) → 28 ≤ t → t ≤ length bits
    → length (last_elements bits t) ≡ 28
length-last_elements bits t low h = simp (length-take, length-drop) (omega arith)

-- the word before the bit count t is the last of the 28 bits before it
pub last_word-window : (bits : List Bool) (t : ℕ) → 28 ≤ t → t ≤ length bits
    → take 7 (drop (t - 7) bits) ≡ drop 21 (last_elements bits t)
last_word-window bits t low h =
    let e : t - 28 + 21 ≡ t - 7 = omega arith in
    ap (λ i. take 7 (drop i bits)) (sym e)
    ∙ (ap (take 7) (sym (drop-drop 21 (t - 28) bits))
    ∙ sym (drop-take 21 7 (drop (t - 28) bits)))

-- the role that follows a pattern
pub first_role-dx : (bits : List Bool) (t : ℕ) → 28 ≤ t → t ≤ length bits
    → last_elements bits t ≡ before_dx → first_role bits t ≡ Dx
unfolding first_role before_dx number_of elements elements_from
first_role-dx bits t low h e = rw (last_word-window bits t low h ∙ ap (drop 21) e) refl

pub first_role-rx : (bits : List Bool) (t : ℕ) → 28 ≤ t → t ≤ length bits
    → last_elements bits t ≡ before_rx → first_role bits t ≡ Rx
unfolding first_role before_rx number_of elements elements_from
first_role-rx bits t low h e = rw (last_word-window bits t low h ∙ ap (drop 21) e) refl

-- the last 28 bits behind the padding, where so many were heard
pub window-heard : (bits : List Bool) → 28 ≤ length bits
    → keep_last 28 (replicate 28 false ++ bits) ≡ last_elements bits (length bits)
window-heard bits h =
    keep_last-padded 28 bits h
    ∙ sym (take_all 28 (drop (length bits - 28) bits) (simp length-drop (omega arith)))

-- the number of the last seven of them
pub newest_word : (bits : List Bool) → 28 ≤ length bits
    → number_of (keep_last 28 (replicate 28 false ++ bits)) / 2 ^ 21
    ≡ number_of (take 7 (drop (length bits - 7) bits))
newest_word bits h =
    sym (number_of-drop 21 (keep_last 28 (replicate 28 false ++ bits)))
    ∙ ap number_of (ap (drop 21) (window-heard bits h)
    ∙ sym (last_word-window bits (length bits) h (omega arith)))
