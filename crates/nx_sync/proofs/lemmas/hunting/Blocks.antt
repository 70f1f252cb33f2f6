-- Tens of elements, one of which each window after one of 64 elements has: where none of the four
-- tens stands in a pattern, no window is one.
use Rattle.std.proofs.Common.{◌≡◌, ℕ, ◌+◌, ◌-◌, ◌/◌, ◌%◌, ◌^◌, ◌<◌, ◌≤◌, ◌==◌, zero, suc, min, List}
use Rattle.std.proofs.Common.{length, take, get_or, Bool, true, false, not, ◌&&◌, ◌||◌, refl, sym}
use Rattle.std.proofs.Common.{ap, ◌∙◌, inl, inr, arith, length-take}
use Rattle.std.proofs.lemmas.Bool.{cases_eq, cases_lt, cases_Bool, both_ways, or_parts}
use Rattle.std.proofs.lemmas.Bool.{agree_below_at, ne_eqb}
use Rattle.std.proofs.lemmas.Nat.{shr-shr, field_of}
use Rattle.std.proofs.Math.Pow.{mod-mod-pow}
use Rattle.nx_code.specs.Word.{elements_from}
use Rattle.nx_code.proofs.lemmas.Packed.{length-elements_from, elements_from-take, value_of-odd}
use Rattle.nx_sync.specs.declared.phasing.TheConstants.{BLOCKS}
use Rattle.nx_sync.specs.Windows.{window_before_dx, window_before_rx, is_lock_window}
use Rattle.nx_sync.specs.private.Windows.{blocks, is_one_of, is_block, joined, window_in, block_in}
use Rattle.nx_sync.specs.private.Windows.{may_lock_in_blocks, may_lock_in_both, IsBeforeLockIn}
use Rattle.nx_sync.specs.private.Windows.{next_window, window_after}
use Rattle.nx_sync.specs.Synchroniser.{Held}
use Rattle.nx_sync.specs.private.Calls.{Skips}
use Rattle.nx_sync.proofs.lemmas.states.Hearing.{next_window-lt, same_parts}
use Rattle.nx_sync.proofs.lemmas.hunting.Hunting.{quiet_window, lock_role}

-- the table of the code
pub in_table : (elements : ℕ) → elements < 1024
    → not (get_or BLOCKS elements 0 == 0) ≡ is_block elements
unfolding blocks is_one_of
in_table elements h =
    agree_below_at (λ n. not (get_or BLOCKS n 0 == 0)) is_block 1024 elements refl h

-- ten elements in a row of the patterns
in_before_dx : (i : ℕ) → i < 19 → is_block (window_before_dx / 2 ^ i % 2 ^ 10) ≡ true
unfolding blocks is_one_of
in_before_dx i h = agree_below_at (λ i. is_block (window_before_dx / 2 ^ i % 2 ^ 10)) (λ _. true) 19
    i refl h

in_before_rx : (i : ℕ) → i < 19 → is_block (window_before_rx / 2 ^ i % 2 ^ 10) ≡ true
unfolding blocks is_one_of
in_before_rx i h = agree_below_at (λ i. is_block (window_before_rx / 2 ^ i % 2 ^ 10)) (λ _. true) 19
    i refl h

block_of_pattern : (window i : ℕ) → i < 19 → is_lock_window window ≡ true
    → is_block (window / 2 ^ i % 2 ^ 10) ≡ true
block_of_pattern window i h lock = elim (cases_eq window window_before_dx) [
  | inl d ↦ ap (λ w. is_block (w / 2 ^ i % 2 ^ 10)) d ∙ in_before_dx i h
  | inr nd ↦ elim (cases_eq window window_before_rx) [
    | inl r ↦ ap (λ w. is_block (w / 2 ^ i % 2 ^ 10)) r ∙ in_before_rx i h
    | inr nr ↦ absurd (both_ways _
        (rw (ne_eqb window window_before_dx nd, ne_eqb window window_before_rx nr) refl) lock)
  ]
]

-- some places of a number that has lost its highest ones
part_of_part : (x n k m : ℕ) → k + m ≤ n → x % 2 ^ n / 2 ^ k % 2 ^ m ≡ x / 2 ^ k % 2 ^ m
part_of_part x n k m h =
    let all : n - k + k ≡ n = omega arith in
    let rest : n - k - m + m ≡ n - k = omega arith in
    ap (λ i. x % 2 ^ i / 2 ^ k % 2 ^ m) (sym all)
    ∙ (ap (λ v. v % 2 ^ m) (field_of x (n - k) k)
    ∙ (ap (λ i. x / 2 ^ k % 2 ^ i % 2 ^ m) (sym rest) ∙ mod-mod-pow (x / 2 ^ k) (n - k - m) m))

-- so no window that has such ten elements is a pattern
clear_round : (joined place k : ℕ) → k ≤ place → place ≤ k + 18
    → is_block (block_in joined place) ≡ false → is_lock_window (window_in joined k) ≡ false
clear_round joined place k low high out =
    let i : k + (place - k) ≡ place = omega arith in
    let e : window_in joined k / 2 ^ (place - k) % 2 ^ 10 ≡ block_in joined place =
    part_of_part (joined / 2 ^ k) 28 (place - k) 10 (omega arith)
    ∙ (ap (λ v. v % 2 ^ 10) (shr-shr joined k (place - k)) ∙ ap (block_in joined) i) in
    elim (cases_Bool (is_lock_window (window_in joined k))) [
      | inr none ↦ none
      | inl here ↦ absurd (both_ways _ out (ap is_block (sym e)
          ∙ block_of_pattern (window_in joined k) (place - k) (omega arith) here))
    ]

module _ (joined : ℕ) where
  here : ℕ → Bool
  here place = is_block (block_in joined place)

  quiet_windows : (k : ℕ) → may_lock_in_blocks joined ≡ false → 0 < k → k ≤ 64
      → is_lock_window (window_in joined k) ≡ false
  unfolding here
  quiet_windows k out some few =
      let last = or_parts (here 18 || here 37 || here 56) (here 75) out in
      let third = or_parts (here 18 || here 37) (here 56) last.0 in
      let two = or_parts (here 18) (here 37) third.0 in
      elim (cases_lt 18 k) [
        | inr one ↦ clear_round joined 18 k one (omega arith) two.0
        | inl later ↦ elim (cases_lt 37 k) [
          | inr one ↦ clear_round joined 37 k one (omega arith) two.1
          | inl later ↦ elim (cases_lt 56 k) [
            | inr one ↦ clear_round joined 56 k one (omega arith) third.1
            | inl later ↦ clear_round joined 75 k (omega arith) (omega arith) last.1
          ]
        ]
      ]

  -- by two tens
  clear_by_two : (place k : ℕ) → 9 ≤ place → k ≤ place → place ≤ k + 18
      → (here place && (here (place - 9) || here (place + 10))) ≡ false
      → is_lock_window (window_in joined k) ≡ false
  unfolding here
  clear_by_two place k nine low high out = elim (cases_Bool (here place)) [
    | inr none ↦ clear_round joined place k low high none
    | inl this ↦
        let others = or_parts (here (place - 9)) (here (place + 10))
        (sym (ap (λ b. b && (here (place - 9) || here (place + 10))) this) ∙ out) in
        elim (cases_lt (place - 9) k) [
          | inr before ↦ clear_round joined (place - 9) k before (omega arith) others.0
          | inl behind ↦ clear_round joined (place + 10) k (omega arith) (omega arith) others.1
        ]
  ]

  quiet_by_two : (k : ℕ) → may_lock_in_both joined ≡ false → 0 < k → k ≤ 64
      → is_lock_window (window_in joined k) ≡ false
  unfolding here
  quiet_by_two k out some few =
      let one : Bool = here 18 && (here 9 || here 28) in
      let next : Bool = here 37 && (here 28 || here 47) in
      let other : Bool = here 56 && (here 47 || here 66) in
      let last = or_parts (one || next || other) (here 75 && here 66) out in
      let third = or_parts (one || next) other last.0 in
      let two = or_parts one next third.0 in
      elim (cases_lt 18 k) [
        | inr low ↦ clear_by_two 18 k (omega arith) low (omega arith) two.0
        | inl later ↦ elim (cases_lt 37 k) [
          | inr low ↦ clear_by_two 37 k (omega arith) low (omega arith) two.1
          | inl later ↦ elim (cases_lt 56 k) [
            | inr low ↦ clear_by_two 56 k (omega arith) low (omega arith) third.1
            | inl later ↦ elim (cases_Bool (here 75)) [
              | inr none ↦ clear_round joined 75 k (omega arith) (omega arith) none
              | inl this ↦ clear_round joined 66 k (omega arith) (omega arith)
                  (sym (ap (λ b. b && here 66) this) ∙ last.1)
            ]
          ]
        ]
      ]

  pub all_quiet : may_lock_in_blocks joined ≡ false → (count : ℕ) → count ≤ 64
      → IsBeforeLockIn joined count count
  all_quiet out count few = record {
    within = omega arith;
    clear = λ k h. quiet_windows (k + 1) out (omega arith) (omega arith);
    here = λ h. absurd (omega arith);
  }

  pub all_quiet_by_two : may_lock_in_both joined ≡ false → (count : ℕ) → count ≤ 64
      → IsBeforeLockIn joined count count
  all_quiet_by_two out count few = record {
    within = omega arith;
    clear = λ k h. quiet_by_two (k + 1) out (omega arith) (omega arith);
    here = λ h. absurd (omega arith);
  }

-- the window after so many elements of a number
pub window_after-joined : (k window number : ℕ) → window < 2 ^ 28
    → window_after window (elements_from k number) ≡ window_in (joined window number) k
unfolding window_after elements_from
window_after-joined zero window number h = omega arith
window_after-joined (suc k) window number h =
    let next : ℕ = next_window window (number % 2 == 1) in
    let e : joined (next_window window (number % 2 == 1)) (number / 2)
    ≡ joined window number / 2 ^ 1 = omega (arith, value_of-odd number) in
    let s : 1 + k ≡ suc k = omega arith in
    window_after-joined k next (number / 2) (next_window-lt window (number % 2 == 1) h)
    ∙ (ap (λ j. window_in j k) e
    ∙ ap (λ v. v % 2 ^ 28)
    (shr-shr (joined window number) 1 k ∙ ap (λ n. joined window number / 2 ^ n) s))

pub window_after-all : (window number : ℕ) → window < 2 ^ 28 → number < 2 ^ 64
    → window_after window (elements_from 64 number) ≡ number / 2 ^ 36
window_after-all window number h fits = window_after-joined 64 window number h ∙ omega arith

-- what the elements of a number are to a hunt
pub skips_number : (held : Held) (number count heard : ℕ) → 27 ≤ held.seen → held.recent < 2 ^ 28
    → IsBeforeLockIn (joined held.recent number) count heard
    → Skips held (elements_from count number) heard (record held {
      recent = window_after held.recent (elements_from heard number);
      seen = min (held.seen + heard) 28;
    })
skips_number held number count heard late h b =
    let bits : List Bool = elements_from count number in
    let m : length (elements_from count number) ≡ count = length-elements_from count number in
    let within = b.within in
    let window : (n : ℕ) → n ≤ count
    → window_after held.recent (take n (elements_from count number))
    ≡ window_in (joined held.recent number) n =
    λ n few. ap (window_after held.recent) (elements_from-take n count number few)
    ∙ window_after-joined n held.recent number h in
    record {
      within = omega (arith, m);
      held =
          let e = elements_from-take heard count number within in
          let l = length-elements_from heard number in
          same_parts held (window_after held.recent (elements_from heard number))
          (window_after held.recent (take heard bits)) (min (held.seen + heard) 28)
          (min (held.seen + length (take heard bits)) 28)
          (ap (window_after held.recent) (sym e)) (omega (arith, ap length e, l));
      quiet = λ k short. inr (quiet_window (window_after held.recent (take (k + 1) bits))
          (ap is_lock_window (window (k + 1) (omega arith)) ∙ b.clear k short));
      stops = λ short.
          let l : length (take (heard + 1) (elements_from count number)) ≡ heard + 1 =
          simp length-take (omega (arith, m)) in
          let role = lock_role (window_after held.recent (take (heard + 1) bits))
          (ap is_lock_window (window (heard + 1) (omega (arith, m))) ∙ b.here (omega (arith, m))) in
          record { enough = omega (arith, l); role = role.0; here = role.1 };
    }
