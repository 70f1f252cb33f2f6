-- The elements of a line that are named for damage: where they stand, and the walk over them.
use Rattle.std.proofs.Common.{◌≡◌, ℕ, suc, ◌+◌, ◌-◌, ◌*◌, ◌%◌, ◌<◌, ◌≤◌, ◌⊎◌, IsTrue, Bool, true}
use Rattle.std.proofs.Common.{false, not, List, length, map, get_or, set, inl, inr, refl, sym, ap}
use Rattle.std.proofs.Common.{◌∙◌, subst, arith}
use lib.Bits.{bit_xor}
use Rattle.std.proofs.lemmas.List.{length-map, map-set, get_or-map}
use Rattle.nx_fec.specs.air_files.AirFile.{element_digit}
use Rattle.nx_station.specs.Damage.{Damage, damaged_elements, inverted_count, inverts}
use Rattle.nx_station.specs.private.DamageTaker.{AreNamed}
use Rattle.nx_station.specs.private.DamageWalk.{IsOnWalk, front, front_count}
use Rattle.nx_station.specs.declared.damaging.Named.{Named}
use Rattle.nx_station.proofs.lemmas.damage.Damage.{front-all, front-inverted, front-same, front_count-all}
use Rattle.nx_station.proofs.lemmas.damage.Damage.{front_count-inverted, front_count-same, length-front}

-- ---- strides

abbrev pub IsStride : ℕ → Type 0
IsStride s = (s ≡ 7) ⊎ (s ≡ 14)

stride-next : (s x : ℕ) → IsStride s → x % s ≡ 0 → (x + s) % s ≡ 0
stride-next s x stride h =
    elim stride [
      | inl e ↦ subst (λ s. (x + s) % s ≡ 0) (sym e)
          (let here = subst (λ s. x % s ≡ 0) e h in omega (arith, here))
      | inr e ↦ subst (λ s. (x + s) % s ≡ 0) (sym e)
          (let here = subst (λ s. x % s ≡ 0) e h in omega (arith, here))
    ]

stride-between : (s x d : ℕ) → IsStride s → x % s ≡ 0 → 0 < d → d < s → (x + d) % s ≡ 0 → ⊥
stride-between s x d stride h some few k =
    elim stride [
      | inl e ↦ let here = subst (λ s. x % s ≡ 0) e h in let there =
          subst (λ s. (x + d) % s ≡ 0) e k in absurd (omega (arith, here, there, some, few, e))
      | inr e ↦ let here = subst (λ s. x % s ≡ 0) e h in let there =
          subst (λ s. (x + d) % s ≡ 0) e k in absurd (omega (arith, here, there, some, few, e))
    ]

false-unless : (b : Bool) → (IsTrue b → ⊥) → b ≡ false
false-unless true never = absurd (never refl)
false-unless false never = refl

stride-some : (s : ℕ) → IsStride s → suc (s - 1) ≡ s
stride-some s stride = elim stride [ inl e ↦ omega (arith, e) | inr e ↦ omega (arith, e) ]

pub stride-few : (s : ℕ) → IsStride s → (1 ≤ s) × (s ≤ 14)
stride-few s stride = elim stride [
  | inl e ↦ (omega (arith, e), omega (arith, e))
  | inr e ↦
      (omega (arith, e), omega (arith, e))
]

stride-none : (s : ℕ) → IsStride s → 0 % s ≡ 0
stride-none s stride = elim stride [ inl e ↦ ap (λ s. 0 % s) e | inr e ↦ ap (λ s. 0 % s) e ]

-- ---- the walk

pub walk-starts : (named : Named) → IsStride named.stride → IsOnWalk named named.first
walk-starts named stride = record {
  from = omega arith;
  by_strides = let e : named.first - named.first ≡ 0 = omega arith in
      ap (λ x. x % named.stride) e ∙ stride-none named.stride stride;
}

pub walk-next : (named : Named) (at : ℕ) → IsStride named.stride → IsOnWalk named at
    → IsOnWalk named (at + named.stride)
walk-next named at stride h = record {
  from = omega (arith, h.from);
  by_strides = let e : (at - named.first) + named.stride ≡ (at + named.stride) - named.first =
      omega (arith, h.from) in
      subst (λ x. x % named.stride ≡ 0) e
      (stride-next named.stride (at - named.first) stride h.by_strides);
}

pub walk-by : (named : Named) (at next : ℕ) → IsStride named.stride → IsOnWalk named at
    → next ≡ at + named.stride → IsOnWalk named next
walk-by named at next stride h e =
    subst (λ n. IsOnWalk named n) (sym e) (walk-next named at stride h)

-- before the first, and behind the last, nothing is inverted
pub walk-begins : (damage : Damage) (place : ℕ) (named : Named) (bits : List Bool)
    → AreNamed damage place named bits
    → (front damage place named.first bits ≡ bits) × (front_count damage place named.first bits ≡ 0)
walk-begins damage place named bits are =
    let e : 0 + named.first ≡ named.first = omega arith in
    let quiet : (k : ℕ) → 0 ≤ k → k < 0 + named.first → k < length bits
    → inverts damage (place + k) ≡ false =
    λ k from to lt. false-unless _
    (λ yes. absurd (omega (arith, to, ((are k lt).0 yes).from))) in (
      sym (ap (λ k. front damage place k bits) e)
          ∙ front-same damage place 0 named.first bits quiet,
      sym (ap (λ k. front_count damage place k bits) e)
          ∙ front_count-same damage place 0 named.first bits quiet,
    )

pub walk-ends : (damage : Damage) (place : ℕ) (named : Named) (bits : List Bool) (at : ℕ)
    → AreNamed damage place named bits → named.end ≤ at
    → (front damage place at bits ≡ damaged_elements damage place bits)
    × (front_count damage place at bits ≡ inverted_count damage place bits)
walk-ends damage place named bits at are end =
    let quiet : (k : ℕ) → at ≤ k → k < at + length bits → k < length bits
    → inverts damage (place + k) ≡ false =
    λ k from to lt. false-unless _
    (λ yes. absurd (omega (arith, end, from, ((are k lt).0 yes).before))) in (
      sym (front-same damage place at (length bits) bits quiet)
          ∙ front-all damage place (at + length bits) bits (omega arith),
      sym (front_count-same damage place at (length bits) bits quiet)
          ∙ front_count-all damage place (at + length bits) bits (omega arith),
    )

-- the element at which it stands is inverted, and none between it and the next
walk-quiet : (damage : Damage) (place : ℕ) (named : Named) (bits : List Bool) (at n : ℕ)
    → IsStride named.stride → AreNamed damage place named bits → IsOnWalk named at
    → suc n ≡ named.stride
    → (k : ℕ) → suc at ≤ k → k < suc at + n → k < length bits → inverts damage (place + k) ≡ false
walk-quiet damage place named bits at n stride are h long k from to lt =
    let e : (at - named.first) + (k - at) ≡ k - named.first = omega (arith, h.from, from) in
    false-unless _ (λ yes. stride-between named.stride (at - named.first) (k - at) stride
    h.by_strides (omega (arith, from)) (omega (arith, from, to, long))
    (subst (λ x. x % named.stride ≡ 0) (sym e) ((are k lt).0 yes).by_strides))

pub walk-more : (damage : Damage) (place : ℕ) (named : Named) (bits : List Bool) (at : ℕ)
    → IsStride named.stride → AreNamed damage place named bits → IsOnWalk named at → at < named.end
    → at < length bits
    → (front damage place (at + named.stride) bits
    ≡ set (front damage place at bits) at (not (get_or (front damage place at bits) at false)))
    × (front_count damage place (at + named.stride) bits ≡ front_count damage place at bits + 1)
walk-more damage place named bits at stride are h before lt =
    let n = named.stride - 1 in
    let long = stride-some named.stride stride in
    let e : at + named.stride ≡ suc at + n = omega (arith, long) in
    let loud : inverts damage (place + at) ≡ true =
    ((are at lt).1 record { from = h.from; before = before; by_strides = h.by_strides }) in
    let quiet = walk-quiet damage place named bits at n stride are h long in (
      ap (λ k. front damage place k bits) e ∙ front-same damage place (suc at) n bits quiet
          ∙ front-inverted damage place at bits lt loud,
      ap (λ k. front_count damage place k bits) e
          ∙ front_count-same damage place (suc at) n bits quiet
          ∙ front_count-inverted damage place at bits lt loud,
    )

digit-turned : (b : Bool) → bit_xor (element_digit b) 1 ≡ element_digit (not b)
digit-turned true = refl
digit-turned false = refl

-- the digits of one step
pub digits-more : (damage : Damage) (place : ℕ) (named : Named) (bits : List Bool) (at : ℕ)
    (first digits : List ℕ) → IsStride named.stride → AreNamed damage place named bits
    → IsOnWalk named at → at < named.end → named.end ≤ length first
    → first ≡ map element_digit bits → digits ≡ map element_digit (front damage place at bits)
    → set digits at (bit_xor (get_or digits at 0) 1)
    ≡ map element_digit (front damage place (at + named.stride) bits)
digits-more damage place named bits at first digits stride are h before end is e =
    let all : length first ≡ length bits = ap length is ∙ length-map bits element_digit in
    let lt : at < length bits = omega (arith, before, end, all) in
    let before_it = front damage place at bits in
    let here : at < length before_it = omega (arith, lt, length-front damage place at bits) in
    let digit : bit_xor (get_or digits at 0) 1 ≡ element_digit (not (get_or before_it at false)) =
    ap (λ l. bit_xor (get_or l at 0) 1) e
    ∙ ap (λ d. bit_xor d 1) (get_or-map element_digit before_it at false 0 here)
    ∙ digit-turned (get_or before_it at false) in
    ap (λ l. set l at (bit_xor (get_or digits at 0) 1)) e
    ∙ ap (λ d. set (map element_digit before_it) at d) digit
    ∙ sym (map-set element_digit before_it at (not (get_or before_it at false)))
    ∙ ap (map element_digit) (sym (walk-more damage place named bits at stride are h before lt).0)

pub count-more : (damage : Damage) (place : ℕ) (named : Named) (bits : List Bool) (at count : ℕ)
    (first : List ℕ) → IsStride named.stride → AreNamed damage place named bits → IsOnWalk named at
    → at < named.end → named.end ≤ length first
    → first ≡ map element_digit bits → count ≡ front_count damage place at bits
    → count + 1 ≡ front_count damage place (at + named.stride) bits
count-more damage place named bits at count first stride are h before end is e =
    let all : length first ≡ length bits = ap length is ∙ length-map bits element_digit in
    ap (λ n. n + 1) e ∙ sym (walk-more damage place named bits at stride are h before
    (omega (arith, before, end, all))).1

-- the same where only the digits at hand are known
pub digits-at : (damage : Damage) (place : ℕ) (named : Named) (bits : List Bool) (at next : ℕ)
    (digits : List ℕ) → IsStride named.stride → AreNamed damage place named bits
    → IsOnWalk named at → at < named.end → named.end ≤ length digits → next ≡ at + named.stride
    → digits ≡ map element_digit (front damage place at bits)
    → set digits at (bit_xor (get_or digits at 0) 1)
    ≡ map element_digit (front damage place next bits)
digits-at damage place named bits at next digits stride are h before end same e =
    let all : length digits ≡ length (map element_digit bits) =
    ap length e ∙ length-map (front damage place at bits) element_digit
    ∙ length-front damage place at bits ∙ sym (length-map bits element_digit) in
    digits-more damage place named bits at (map element_digit bits) digits stride are h before
    (omega (arith, end, all)) refl e
    ∙ ap (λ n. map element_digit (front damage place n bits)) (sym same)

-- the count of four steps
pub count-fours : (damage : Damage) (place : ℕ) (named : Named) (bits : List Bool) (at count : ℕ)
    (first : List ℕ) → IsStride named.stride → AreNamed damage place named bits → IsOnWalk named at
    → at + 3 * named.stride < named.end → named.end ≤ length first
    → first ≡ map element_digit bits → count ≡ front_count damage place at bits
    → count + 4 ≡ front_count damage place (at + 4 * named.stride) bits
count-fours damage place named bits at count first stride are h before end is e =
    let s = named.stride in
    let h1 = walk-next named at stride h in
    let h2 = walk-next named (at + s) stride h1 in
    let h3 = walk-next named ((at + s) + s) stride h2 in
    let n1 = count-more damage place named bits at count first stride are h
    (omega (arith, before)) end is e in
    let n2 = count-more damage place named bits (at + s) (count + 1) first stride are h1
    (omega (arith, before)) end is n1 in
    let n3 = count-more damage place named bits ((at + s) + s) ((count + 1) + 1) first stride are
    h2 (omega (arith, before)) end is n2 in
    let n4 = count-more damage place named bits (((at + s) + s) + s) (((count + 1) + 1) + 1) first
    stride are h3 (omega (arith, before)) end is n3 in
    let far : (((at + s) + s) + s) + s ≡ at + 4 * s = omega arith in
    let four : count + 4 ≡ (((count + 1) + 1) + 1) + 1 = omega arith in
    four ∙ n4 ∙ ap (λ k. front_count damage place k bits) far
