-- Numbers by their digits: what bytes lack of one.
use Rattle.std.proofs.Common.{◌≡◌, ◌≢◌, ◌⊎◌, inl, inr, ℕ, ◌+◌, ◌*◌, ◌/◌, ◌%◌, ◌<◌, ◌≤◌, List, [], ◌∷◌, ◌++◌, Option, None, Some, ap, drop, get_or, length, max, sym, ◌∙◌, refl, arith, append-nil, append_assoc, subst, lit<}
use Rattle.std.specs.Prelude.{IfSome, decimal}
use Rattle.std.specs.Str.Parse.{AllDigits}
use Rattle.std.proofs.lemmas.Bool.{cases_lt}
use Rattle.std.proofs.lemmas.Fmt.{decimal_digit, decimal_injective, decimal_is_IsNumeral, decimal_nonempty, decimal_step, first_decimal}
use Rattle.std.proofs.lemmas.List.{append_cancel_left, length-append}
use Rattle.std.proofs.lemmas.Str.Parse.{digit_from_value}
use Rattle.nx_log.specs.private.Stages.{BeginsSome, BreakOff, CanEnd, Extends, IsCount, Spells, written}
use Rattle.nx_log.proofs.lemmas.beginnings.Lists.{ends_with_one}
use Rattle.nx_log.proofs.lemmas.reading.Pieces.{same_text}

-- ---- the digits with which a number begins

extends_more : (xs ys zs : List ℕ) → Extends xs ys → Extends ys zs → Extends xs zs
extends_more xs ys zs f g = record {
  more = f.more ++ g.more;
  is = g.is ∙ ap (λ l. l ++ g.more) f.is ∙ append_assoc xs f.more g.more;
}

-- those without the last
tenth : (n v : ℕ) → 10 ≤ n → n ≤ 4100 → n / 10 ≡ v → Extends (decimal v) (decimal n)
tenth n v ten few is = subst (λ k. Extends (decimal k) (decimal n)) is
    (record { more = (48 + n % 10) ∷ []; is = decimal_step n ten (omega arith) })

-- the number itself, and those that have one digit more, two or three
pub begins_itself : (v least : ℕ) → v ≤ 4100 → least ≤ v → BeginsSome least (decimal v)
begins_itself v least few enough = record {
  number = v;
  enough = enough;
  few = few;
  begins = record { more = []; is = sym (append-nil (decimal v)) };
}

pub begins_ten : (v least : ℕ) → 1 ≤ v → least ≤ 4100 → v * 10 ≤ 4100 → least < (v + 1) * 10
    → BeginsSome least (decimal v)
begins_ten v least some top few enough =
    let n = max least (v * 10) in
    record {
      number = n;
      enough = omega arith;
      few = omega arith;
      begins = tenth n v (omega arith) (omega arith) (omega arith);
    }

pub begins_hundred : (v least : ℕ) → 1 ≤ v → least ≤ 4100 → v * 100 ≤ 4100
    → least < (v + 1) * 100 → BeginsSome least (decimal v)
begins_hundred v least some top few enough =
    let n = max least (v * 100) in
    record {
      number = n;
      enough = omega arith;
      few = omega arith;
      begins = extends_more (decimal v) (decimal (n / 10)) (decimal n)
          (tenth (n / 10) v (omega arith) (omega arith) (omega arith))
          (tenth n (n / 10) (omega arith) (omega arith) refl);
    }

pub begins_thousand : (v least : ℕ) → 1 ≤ v → least ≤ 4100 → v * 1000 ≤ 4100
    → least < (v + 1) * 1000 → BeginsSome least (decimal v)
begins_thousand v least some top few enough =
    let n = max least (v * 1000) in
    record {
      number = n;
      enough = omega arith;
      few = omega arith;
      begins = extends_more (decimal v) (decimal (n / 10 / 10)) (decimal n)
          (tenth (n / 10 / 10) v (omega arith) (omega arith) (omega arith))
          (extends_more (decimal (n / 10 / 10)) (decimal (n / 10)) (decimal n)
          (tenth (n / 10) (n / 10 / 10) (omega arith) (omega arith) refl)
          (tenth n (n / 10) (omega arith) (omega arith) refl));
    }

-- a list has a last element, or is empty
last_of : (xs : List ℕ) → (xs ≡ []) ⊎ ((ys : List ℕ) × (y : ℕ) × (xs ≡ ys ++ y ∷ []))
last_of [] = inl refl
last_of (x ∷ xs) = elim (last_of xs) [
  | inl none ↦ inr ([], x, ap (λ l. x ∷ l) none)
  | inr some ↦ inr (x ∷ some.0, some.1, ap (λ l. x ∷ l) some.2)
]

-- of a number that begins with the digits of one, it is that, or its tenth begins so too
one_less : (n v : ℕ) → n ≤ 4100 → v < 65536 → Extends (decimal v) (decimal n)
    → (n ≡ v) ⊎ ((10 ≤ n) × Extends (decimal v) (decimal (n / 10)))
one_less n v few small f = elim (last_of f.more) [
  | inl none ↦ inl (decimal_injective n v (omega arith) (omega arith)
      (f.is ∙ ap (λ l. decimal v ++ l) none ∙ append-nil (decimal v)))
  | inr some ↦
      let whole : decimal n ≡ (decimal v ++ some.0) ++ some.1 ∷ [] =
      f.is ∙ ap (λ l. decimal v ++ l) some.2
      ∙ sym (append_assoc (decimal v) some.0 (some.1 ∷ [])) in
      let front = length-append (decimal v) some.0 in
      let long = ap length whole ∙ length-append (decimal v ++ some.0) (some.1 ∷ []) in
      let has = decimal_nonempty v (omega arith) in
      elim (cases_lt n 10) [
        | inl one ↦ absurd (omega (arith, ap length (decimal_digit n one)))
        | inr more ↦
            let ten : 10 ≤ n = omega arith in
            let step = decimal_step n ten (omega arith) in
            let tenth_long = ap length step
            ∙ length-append (decimal (n / 10)) ((48 + n % 10) ∷ []) in
            inr (
              ten,
              record {
                more = some.0;
                is = (same_text (decimal (n / 10)) (decimal v ++ some.0) ((48 + n % 10) ∷ [])
                    (some.1 ∷ []) (omega arith) (sym step ∙ whole)).piece;
              },
            )
      ]
]

-- so it is that, or its tenth, its hundredth or its thousandth is
pub front_is : (n v : ℕ) → n ≤ 4100 → v < 65536 → Extends (decimal v) (decimal n)
    → (n ≡ v) ⊎ ((n / 10 ≡ v) ⊎ ((n / 100 ≡ v) ⊎ (n / 1000 ≡ v)))
front_is n v few small f = elim (one_less n v few small f) [
  | inl is ↦ inl is
  | inr f1 ↦ elim (one_less (n / 10) v (omega arith) small f1.1) [
    | inl is ↦ inr (inl is)
    | inr f2 ↦ elim (one_less (n / 10 / 10) v (omega arith) small f2.1) [
      | inl is ↦ inr (inr (inl (omega arith)))
      | inr f3 ↦ elim (one_less (n / 10 / 10 / 10) v (omega arith) small f3.1) [
        | inl is ↦ inr (inr (inr (omega arith)))
        | inr f4 ↦ let ten = f4.0 in absurd (omega arith)
      ]
    ]
  ]
]

-- of those that begin with a zero
pub zero_front : (n : ℕ) → n ≤ 4100 → (more : List ℕ) → decimal n ≡ decimal 0 ++ more
    → (n ≡ 0) × (more ≡ [])
zero_front n few more e = elim (cases_lt 0 n) [
  | inl some ↦
      let first = first_decimal n some (omega arith) in
      let here : get_or (decimal n) 0 0 ≡ 48 = ap (λ (l : List ℕ). get_or l 0 0)
      (e ∙ ap (λ l. l ++ more) (decimal_digit 0 (lit< tt))) in
      absurd (omega (arith, first, here))
  | inr none ↦
      let zero : n ≡ 0 = omega arith in (
        zero,
        append_cancel_left (decimal 0) more []
            (sym e ∙ ap decimal zero ∙ sym (append-nil (decimal 0))),
      )
]

-- ---- one digit more

digits_of : (number : Option ℕ) → IfSome number (λ n. n ≤ 4100) → AllDigits 10 (written number)
digits_of None few = tt
digits_of (Some n) few = (decimal_is_IsNumeral n (omega arith)).0.1

digit_in : (xs ys : List ℕ) (c : ℕ) → AllDigits 10 (xs ++ c ∷ ys) → (48 ≤ c) × (c ≤ 57)
digit_in [] ys c d = digit_from_value c d.0
digit_in (x ∷ xs) ys c d = digit_in xs ys c d.1

-- behind digits of which some number begins there is a digit
pub is_digit : (least byte : ℕ) (digits : List ℕ) → BeginsSome least (digits ++ byte ∷ [])
    → (48 ≤ byte) × (byte ≤ 57)
is_digit least byte digits b =
    let few = b.few in
    digit_in digits b.begins.more byte (subst (AllDigits 10)
    (b.begins.is ∙ append_assoc digits (byte ∷ []) b.begins.more)
    (decimal_is_IsNumeral b.number (omega arith)).0.1)

pub first_digit : (digit : ℕ) → digit ≤ 9 → (48 + digit) ∷ [] ≡ decimal digit
first_digit digit small = sym (decimal_digit digit (omega arith))

pub next_digit : (front digit : ℕ) → front ≢ 0 → front ≤ 4100 → digit ≤ 9
    → decimal front ++ (48 + digit) ∷ [] ≡ decimal (front * 10 + digit)
next_digit front digit some few small =
    let next = front * 10 + digit in
    let tens : next / 10 ≡ front = omega (arith, some) in
    let units : 48 + next % 10 ≡ 48 + digit = omega arith in
    sym (decimal_step next (omega (arith, some)) (omega arith)
    ∙ ap (λ k. decimal k ++ (48 + next % 10) ∷ []) tens
    ∙ ap (λ b. decimal front ++ b ∷ []) units)

-- ---- what is lacked

-- digits with an end behind them that begin one list with other digits begin with these
longer_digits : (ds es : List ℕ) (s : ℕ) (x y : List ℕ) → AllDigits 10 es
    → (s < 48) ⊎ (57 < s) → ds ++ (s ∷ x) ≡ es ++ y → Extends es ds
longer_digits ds [] s x y d none e = record { more = ds; is = refl }
longer_digits [] (c ∷ es) s x y d none e =
    let here : s ≡ c = ap (λ (l : List ℕ). get_or l 0 0) e in
    let digit = digit_from_value c d.0 in absurd (omega (arith, digit))
longer_digits (b ∷ ds) (c ∷ es) s x y d none e =
    let here : b ≡ c = ap (λ (l : List ℕ). get_or l 0 0) e in
    let f = longer_digits ds es s x y d.1 none (ap (drop 1) e) in
    record { more = f.more; is = ap (λ h. h ∷ ds) here ∙ ap (λ l. c ∷ l) f.is }

module _ (least end : ℕ) where
  pub count_to_come : (bytes digits : List ℕ) → bytes ≡ digits → BeginsSome least digits
      → CanEnd (Spells (IsCount least end)) bytes
  count_to_come bytes digits is b = (
    b.begins.more ++ end ∷ [],
    (
      b.number,
      record {
        enough = b.enough;
        few = b.few;
        is_spelled = ap (λ l. l ++ (b.begins.more ++ end ∷ [])) is
            ∙ sym (append_assoc digits b.begins.more (end ∷ []))
            ∙ ap (λ l. l ++ end ∷ []) (sym b.begins.is);
      },
    ),
    ends_with_one b.begins.more end,
  )

  -- no digit goes on there, and no number ends
  count_never : (number : Option ℕ) (byte : ℕ) → (end < 48) ⊎ (57 < end)
      → IfSome number (λ n. n ≤ 4100) → (BeginsSome least (written number ++ byte ∷ []) → ⊥)
      → ((n : ℕ) → number ≡ Some n → byte ≡ end → least ≤ n → ⊥)
      → (n : ℕ) → least ≤ n → n ≤ 4100 → (rest x y : List ℕ)
      → decimal n ≡ written number ++ rest → rest ++ (end ∷ y) ≡ byte ∷ x → ⊥
  count_never None byte no_digit small no_more no_end n enough few [] x y is e =
      omega (arith, decimal_nonempty n (omega arith), ap length is)
  count_never (Some k) byte no_digit small no_more no_end n enough few [] x y is e =
      let same : n ≡ k = decimal_injective n k (omega arith) (omega arith)
      (is ∙ append-nil (decimal k)) in
      no_end k refl (sym (ap (λ (l : List ℕ). get_or l 0 0) e)) (omega arith)
  count_never number byte no_digit small no_more no_end n enough few (b ∷ rest) x y is e =
      let here : b ≡ byte = ap (λ (l : List ℕ). get_or l 0 0) e in
      no_more (record {
        number = n;
        enough = enough;
        few = few;
        begins = record {
          more = rest;
          is = is ∙ ap (λ c. written number ++ (c ∷ rest)) here
              ∙ sym (append_assoc (written number) (byte ∷ []) rest);
        };
      })

  pub count_breaks : (number : Option ℕ) (byte : ℕ) (bytes rest behind : List ℕ)
      → (end < 48) ⊎ (57 < end) → IfSome number (λ n. n ≤ 4100)
      → BeginsSome least (written number) → (BeginsSome least (written number ++ byte ∷ []) → ⊥)
      → ((n : ℕ) → number ≡ Some n → byte ≡ end → least ≤ n → ⊥)
      → bytes ≡ written number ++ rest → rest ≡ byte ∷ behind
      → BreakOff (Spells (IsCount least end)) bytes rest
  count_breaks number byte bytes rest behind no_digit small begun no_more no_end split first =
      record {
        front = written number;
        byte = byte;
        behind = behind;
        split = split;
        first = first;
        can = count_to_come (written number) (written number) refl begun;
        never = λ more s y h e.
            let n = h.0 in
            let whole : decimal n ++ (end ∷ y) ≡ written number ++ (byte ∷ more) =
            sym (append_assoc (decimal n) (end ∷ []) y)
            ∙ ap (λ l. l ++ y) (sym h.1.is_spelled) ∙ sym e
            ∙ append_assoc (written number) (byte ∷ []) more in
            let f = longer_digits (decimal n) (written number) end y (byte ∷ more)
            (digits_of number small) no_digit whole in
            count_never number byte no_digit small no_more no_end n h.1.enough h.1.few f.more
            more y f.is (append_cancel_left (written number) _ _
            (sym (append_assoc (written number) f.more (end ∷ y))
            ∙ ap (λ l. l ++ (end ∷ y)) (sym f.is) ∙ whole));
      }
