-- 21 elements heard at once: what is held after them, and that none of them ends a pattern where
-- the seven elements before them do not stand in one.
use Rattle.std.proofs.Common.{◌≡◌, ℕ, suc, ◌+◌, ◌-◌, ◌*◌, ◌/◌, ◌%◌, ◌^◌, ◌<◌, ◌≤◌, ◌==◌, min, List}
use Rattle.std.proofs.Common.{[], ◌∷◌, ◌++◌, length, take, drop, get_or, Bool, true, false, refl}
use Rattle.std.proofs.Common.{sym, ap, subst, ◌∙◌, inl, inr, arith, append_assoc, append-nil}
use Rattle.std.proofs.Common.{length-append, length-drop, length-take, drop-drop}
use Rattle.std.proofs.Math.Nat.{pow-succ'}
use Rattle.std.proofs.Math.Seq.{drop-cons}
use Rattle.std.proofs.lemmas.Bool.{cases_eq, cases_Bool, both_ways, agree_below_at, ne_eqb}
use Rattle.std.proofs.lemmas.List.{drop-append-le, take_at, take_all, drop_all}
use Rattle.nx_code.specs.Word.{number_of, value_of, elements_from, elements}
use Rattle.nx_sync.specs.Locks.{before_dx, before_rx}
use Rattle.nx_sync.specs.Windows.{window_before_dx, window_before_rx, is_lock_window}
use Rattle.nx_sync.specs.private.Windows.{is_in_phasing, window_after}
use Rattle.nx_sync.specs.Synchroniser.{Held}
use Rattle.nx_sync.specs.private.Calls.{Skips}
use Rattle.nx_code.proofs.lemmas.Packed.{length-elements_from, number_of-elements_from}
use Rattle.nx_code.proofs.lemmas.Packed.{number_of-append}
use Rattle.nx_sync.proofs.lemmas.hunting.Numbers.{number_of-drop, number_of-next}
use Rattle.nx_sync.proofs.lemmas.hunting.Patterns.{is_dx_window, is_rx_window}
use Rattle.nx_sync.proofs.lemmas.states.Hearing.{same_parts}
use Rattle.nx_sync.proofs.lemmas.hunting.Hunting.{quiet_window}

-- one more element at the front of those that count already
pub number_of-front : (bits : List Bool) (place : ℕ) → 0 < place → place ≤ length bits
    → number_of (drop (place - 1) bits)
    ≡ value_of (get_or bits (place - 1) false) + 2 * number_of (drop place bits)
unfolding number_of
number_of-front bits place h k =
    let lt : place - 1 < length bits = omega arith in
    let e : suc (place - 1) ≡ place = omega arith in
    let P : ℕ → Type 0 = λ q. number_of (drop (place - 1) bits)
    ≡ value_of (get_or bits (place - 1) false) + 2 * number_of (drop q bits) in
    subst P e (ap number_of (drop-cons bits (place - 1) false lt))

-- the bound doubles with each element
pub twice-lt : (number bit place : ℕ) → 0 < place → place ≤ 21 → bit ≤ 1 → number < 2 ^ (21 - place)
    → 2 * number + bit < 2 ^ (21 - (place - 1))
twice-lt number bit place h k b lt =
    let e : 21 - (place - 1) ≡ suc (21 - place) = omega arith in
    rw (e, pow-succ' 2 (21 - place)) (omega arith)

pub number_of-none : (bits : List Bool) → length bits ≡ 21 → number_of (drop 21 bits) ≡ 0
unfolding number_of
number_of-none bits h = ap number_of (drop_all 21 bits (omega arith))

-- windows by lists
pub window_after-list : (bits xs : List Bool) → length xs ≡ 28 → length bits ≤ 28
    → window_after (number_of xs) bits ≡ number_of (drop (length bits) xs ++ bits)
unfolding window_after
window_after-list [] xs l h = ap number_of (sym (append-nil xs))
window_after-list (b ∷ bits) xs l h =
    let ys : List Bool = drop 1 xs ++ b ∷ [] in
    let m : length (drop 1 xs ++ b ∷ []) ≡ 28 = simp (length-append, length-drop) (omega arith) in
    let d : length (drop 1 xs) ≡ 27 = simp length-drop (omega arith) in
    let i : 1 + length bits ≡ length (b ∷ bits) = omega arith in
    ap (λ w. window_after w bits) (sym (number_of-next 27 xs b l))
    ∙ (window_after-list bits (drop 1 xs ++ b ∷ []) m (omega arith)
    ∙ ap number_of (
    ap (λ zs. zs ++ bits) (drop-append-le (length bits) (drop 1 xs) (b ∷ []) (omega arith))
    ∙ (append_assoc (drop (length bits) (drop 1 xs)) (b ∷ []) bits
    ∙ ap (λ zs. zs ++ b ∷ bits) (drop-drop (length bits) 1 xs ∙ ap (λ j. drop j xs) i))))

-- the seven elements before the others, in a pattern that these complete
module _ (xs bits : List Bool) (l : length xs ≡ 28) (some : 0 < length bits)
    (few : length bits ≤ 21) where
  last_seven : (pattern : List Bool) → drop (length bits) xs ++ bits ≡ pattern
      → drop 21 xs ≡ take 7 (drop (21 - length bits) pattern)
  last_seven pattern e =
      let i : length bits + (21 - length bits) ≡ 21 = omega arith in
      let m : length (drop 21 xs) ≡ 7 = simp length-drop (omega arith) in
      let n : 21 - length bits ≤ length (drop (length bits) xs) = simp length-drop (omega arith) in
      sym (take_at (drop 21 xs) bits 7 m)
      ∙ ap (take 7) (
      ap (λ zs. zs ++ bits) (ap (λ j. drop j xs) (sym i)
      ∙ sym (drop-drop (21 - length bits) (length bits) xs))
      ∙ (sym (drop-append-le (21 - length bits) (drop (length bits) xs) bits n)
      ∙ ap (drop (21 - length bits)) e))

-- seven elements in a row of the patterns
in_before_dx : (i : ℕ) → i < 21 → is_in_phasing (number_of (take 7 (drop i before_dx))) ≡ true
unfolding number_of before_dx elements elements_from
in_before_dx i h = agree_below_at (λ i. is_in_phasing (number_of (take 7 (drop i before_dx))))
    (λ _. true) 21 i refl h

in_before_rx : (i : ℕ) → i < 21 → is_in_phasing (number_of (take 7 (drop i before_rx))) ≡ true
unfolding number_of before_rx elements elements_from
in_before_rx i h = agree_below_at (λ i. is_in_phasing (number_of (take 7 (drop i before_rx))))
    (λ _. true) 21 i refl h

locks_in_phasing : (xs bits : List Bool) → length xs ≡ 28 → 0 < length bits → length bits ≤ 21
    → is_lock_window (number_of (drop (length bits) xs ++ bits)) ≡ true
    → is_in_phasing (number_of xs / 2 ^ 21) ≡ true
locks_in_phasing xs bits l some few h =
    let m : length (drop (length bits) xs ++ bits) ≡ 28 =
    simp (length-append, length-drop) (omega arith) in
    let w : ℕ = number_of (drop (length bits) xs ++ bits) in
    let last = ap is_in_phasing (sym (number_of-drop 21 xs)) in
    elim (cases_eq w window_before_dx) [
      | inl d ↦ last ∙ (ap (λ zs. is_in_phasing (number_of zs))
          (last_seven xs bits l some few before_dx
          (is_dx_window (drop (length bits) xs ++ bits) m d))
          ∙ in_before_dx (21 - length bits) (omega arith))
      | inr nd ↦ elim (cases_eq w window_before_rx) [
        | inl r ↦ last ∙ (ap (λ zs. is_in_phasing (number_of zs))
            (last_seven xs bits l some few before_rx
            (is_rx_window (drop (length bits) xs ++ bits) m r))
            ∙ in_before_rx (21 - length bits) (omega arith))
        | inr nr ↦ absurd (both_ways _
            (rw (ne_eqb w window_before_dx nd, ne_eqb w window_before_rx nr) refl) h)
      ]
    ]

-- the table of the code
pub in_table : (word : ℕ) → word < 128
    → (get_or (0x81008080 ∷ 0x80010000 ∷ 0x00001008 ∷ 0x52080042 ∷ []) (word / 32)
    0 / 2 ^ (word % 32) % 2 == 1) ≡ is_in_phasing word
in_table word h = agree_below_at
    (λ w. get_or (0x81008080 ∷ 0x80010000 ∷ 0x00001008 ∷ 0x52080042 ∷ []) (w / 32)
    0 / 2 ^ (w % 32) % 2 == 1) is_in_phasing 128 word refl h

-- so no element of a stride ends a pattern
pub stride_clear : (window : ℕ) (bits : List Bool) → window < 2 ^ 28
    → is_in_phasing (window / 2 ^ 21) ≡ false → 0 < length bits → length bits ≤ 21
    → is_lock_window (window_after window bits) ≡ false
stride_clear window bits h out some few =
    let xs : List Bool = elements_from 28 window in
    let l = length-elements_from 28 window in
    let e = number_of-elements_from 28 window h in
    let f = ap (λ w. window_after w bits) (sym e)
    ∙ window_after-list bits (elements_from 28 window) l (omega arith) in
    elim (cases_Bool (is_lock_window (window_after window bits))) [
      | inr none ↦ none
      | inl here ↦ absurd (both_ways _ out
          (ap (λ w. is_in_phasing (w / 2 ^ 21)) (sym e)
          ∙ locks_in_phasing (elements_from 28 window) bits l some few
          (ap is_lock_window (sym f) ∙ here)))
    ]

-- the window after a stride
pub window_after-stride : (window : ℕ) (bits : List Bool) → window < 2 ^ 28 → length bits ≡ 21
    → window_after window bits ≡ window / 2 ^ 21 + 2 ^ 7 * number_of bits
window_after-stride window bits h m =
    let xs : List Bool = elements_from 28 window in
    let l = length-elements_from 28 window in
    let e = number_of-elements_from 28 window h in
    let d : length (drop 21 (elements_from 28 window)) ≡ 7 = simp length-drop (omega arith) in
    let make : ℕ → ℕ → ℕ = λ a k. a + 2 ^ k * number_of bits in
    ap (λ w. window_after w bits) (sym e)
    ∙ (window_after-list bits (elements_from 28 window) l (omega arith)
    ∙ (ap (λ n. number_of (drop n (elements_from 28 window) ++ bits)) m
    ∙ (number_of-append (drop 21 (elements_from 28 window)) bits
    ∙ (ap (make (number_of (drop 21 (elements_from 28 window)))) d
    ∙ ap (λ a. make a 7) (number_of-drop 21 (elements_from 28 window) ∙ ap (λ w. w / 2 ^ 21) e)))))

-- what a stride is to a hunt
pub stride_skips : (held : Held) (part : List Bool) → 27 ≤ held.seen → held.recent < 2 ^ 28
    → length part ≡ 21 → is_in_phasing (held.recent / 2 ^ 21) ≡ false
    → Skips held part 21 (record held { recent = window_after held.recent part; seen = 28 })
stride_skips held part late h m out = record {
  within = omega arith;
  held =
      let e : take 21 part ≡ part = take_all 21 part (omega arith) in
      same_parts held (window_after held.recent part) (window_after held.recent (take 21 part)) 28
      (min (held.seen + length (take 21 part)) 28) (ap (window_after held.recent) (sym e))
      (omega (arith, ap length e));
  quiet = λ k short.
      let l : length (take (k + 1) part) ≡ k + 1 = simp length-take (omega arith) in
      inr (quiet_window (window_after held.recent (take (k + 1) part))
      (stride_clear held.recent (take (k + 1) part) h out (omega arith) (omega arith)));
  stops = λ short. absurd (omega arith);
}
