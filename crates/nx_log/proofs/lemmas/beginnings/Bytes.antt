-- Single bytes, fixed texts and numbers of two digits: what bytes lack of one.
use Rattle.std.proofs.Common.{◌≡◌, ℕ, ◌+◌, ◌-◌, ◌*◌, ◌/◌, ◌%◌, ◌<◌, ◌≤◌, List, [], ◌∷◌, ◌++◌, ap, get_or, length, max, min, sym, ◌∙◌, refl, arith, append-nil, append_assoc}
use Rattle.std.proofs.lemmas.List.{append_cancel_left, nil_from_length}
use Rattle.nx_envelope.specs.Identity.{two_digits}
use Rattle.nx_log.specs.declared.entries.lack.Lack.{Lack}
use Rattle.nx_log.specs.private.Stages.{BreakOff, CanEnd, IsByte, IsNumber, Lacks, Spells}
use Rattle.nx_log.proofs.lemmas.beginnings.Joins.{lacks_at}

module _ (least most : ℕ) where
  pub byte_to_come : (bytes : List ℕ) → least ≤ most → length bytes ≡ 0
      → CanEnd (Spells (IsByte least most)) bytes
  byte_to_come bytes range none = (
    least ∷ [],
    (
      least,
      record {
        enough = omega arith;
        few = range;
        is_spelled =
            ap (λ l. l ++ least ∷ []) (nil_from_length bytes none);
      },
    ),
    λ n. omega (arith, ap length n),
  )

  pub byte_breaks : (bytes : List ℕ) → least ≤ most → 1 ≤ length bytes
      → (least ≤ get_or bytes 0 0 → get_or bytes 0 0 ≤ most → ⊥)
      → BreakOff (Spells (IsByte least most)) bytes bytes
  byte_breaks [] range some out = absurd (omega (arith, some))
  byte_breaks (byte ∷ rest) range some out = record {
    front = [];
    byte = byte;
    behind = rest;
    split = refl;
    first = refl;
    can = byte_to_come [] range refl;
    never = λ more s y h e.
        let one = h.1 in
        let same : byte ≡ h.0 = ap (λ (l : List ℕ). get_or l 0 0) (e ∙ ap (λ l. l ++ y)
        one.is_spelled) in
        out (omega (arith, one.enough)) (omega (arith, one.few));
  }

-- behind the part of a fixed text that stands there, its next byte is lacked
pub literal_lacks : (literal done after bytes rest : List ℕ) (byte : ℕ) (lack : Lack)
    → literal ≡ done ++ byte ∷ after → bytes ≡ done ++ rest
    → Lacks (Spells (IsByte byte byte)) rest lack
    → Lacks (λ spelled. spelled ≡ literal) bytes lack
literal_lacks literal done after bytes rest byte lack whole split =
    lacks_at (Spells (IsByte byte byte)) (λ spelled. spelled ≡ literal) done
    (λ s h.
    let one = h.1 in
    let same : h.0 ≡ byte = omega (arith, one.enough, one.few) in
    (after, ap (λ l. done ++ (l ++ after)) (one.is_spelled ∙ ap (λ b. b ∷ []) same) ∙ sym whole))
    (λ s x y is e. (
      byte ∷ [],
      after,
      (byte, record { enough = omega arith; few = omega arith; is_spelled = refl }),
      is ∙ whole,
    ))
    bytes rest lack split

-- of a number the fixed text before it
pub number_lacks_before : (before bytes : List ℕ) (least most : ℕ) (lack : Lack) → least ≤ most
    → Lacks (λ spelled. spelled ≡ before) bytes lack
    → Lacks (Spells (IsNumber before least most)) bytes lack
number_lacks_before before bytes least most lack range =
    lacks_at (λ spelled. spelled ≡ before) (Spells (IsNumber before least most)) []
    (λ s h. (
      two_digits least,
      (
        least,
        record {
          enough = omega arith;
          few = range;
          is_spelled = ap (λ l. l ++ two_digits least) h;
        },
      ),
    ))
    (λ s x y is e. (before, two_digits is.0, refl, is.1.is_spelled))
    bytes bytes lack refl

-- its first digit
pub number_lacks_tens : (before bytes rest : List ℕ) (least most : ℕ) (lack : Lack) → least ≤ most
    → most < 100 → bytes ≡ before ++ rest
    → Lacks (Spells (IsByte (48 + least / 10) (48 + most / 10))) rest lack
    → Lacks (Spells (IsNumber before least most)) bytes lack
number_lacks_tens before bytes rest least most lack range two split =
    lacks_at (Spells (IsByte (48 + least / 10) (48 + most / 10)))
    (Spells (IsNumber before least most)) before
    (λ s h.
    let one = h.1 in
    let enough = one.enough in
    let few = one.few in
    let n = max least ((h.0 - 48) * 10) in
    let tens : h.0 ≡ 48 + n / 10 = omega arith in (
      (48 + n % 10) ∷ [],
      (
        n,
        record {
          enough = omega arith;
          few = omega arith;
          is_spelled = ap (λ l. before ++ (l ++ (48 + n % 10) ∷ []))
              (one.is_spelled ∙ ap (λ b. b ∷ []) tens);
        },
      ),
    ))
    (λ s x y is e.
    let enough = is.1.enough in
    let few = is.1.few in (
      (48 + is.0 / 10) ∷ [],
      (48 + is.0 % 10) ∷ [],
      (
        48 + is.0 / 10,
        record { enough = omega arith; few = omega arith; is_spelled = refl },
      ),
      is.1.is_spelled,
    ))
    bytes rest lack split

-- its last digit
pub number_lacks_units : (before bytes rest : List ℕ) (least most tens from to : ℕ) (lack : Lack)
    → most < 100 → tens ≤ 9 → bytes ≡ before ++ ((48 + tens) ∷ rest)
    → from ≡ max least (tens * 10) → to ≡ min most (tens * 10 + 9) → from ≤ to
    → Lacks (Spells (IsByte (48 + from % 10) (48 + to % 10))) rest lack
    → Lacks (Spells (IsNumber before least most)) bytes lack
number_lacks_units before bytes rest least most tens from to lack two small split low high range =
    lacks_at (Spells (IsByte (48 + from % 10) (48 + to % 10)))
    (Spells (IsNumber before least most)) (before ++ (48 + tens) ∷ [])
    (λ s h.
    let one = h.1 in
    let enough = one.enough in
    let few = one.few in
    let n = tens * 10 + (h.0 - 48) in
    let first : 48 + n / 10 ≡ 48 + tens = omega arith in
    let last : 48 + n % 10 ≡ h.0 = omega arith in (
      [],
      (
        n,
        record {
          enough = omega arith;
          few = omega arith;
          is_spelled = append_assoc before ((48 + tens) ∷ []) (s ++ [])
              ∙ ap (λ l. before ++ ((48 + tens) ∷ l))
              (append-nil s ∙ one.is_spelled ∙ ap (λ b. b ∷ []) (sym last))
              ∙ ap (λ b. before ++ (b ∷ (48 + n % 10) ∷ [])) (sym first);
        },
      ),
    ))
    (λ s x y is e.
    let enough = is.1.enough in
    let few = is.1.few in
    let n = is.0 in
    let f : (48 + tens) ∷ x ≡ two_digits n ++ y = append_cancel_left before _ _
    (sym (append_assoc before ((48 + tens) ∷ []) x) ∙ e ∙ ap (λ l. l ++ y) is.1.is_spelled
    ∙ append_assoc before (two_digits n) y) in
    let same : 48 + tens ≡ 48 + n / 10 = ap (λ (l : List ℕ). get_or l 0 0) f in (
      (48 + n % 10) ∷ [],
      [],
      (
        48 + n % 10,
        record { enough = omega arith; few = omega arith; is_spelled = refl },
      ),
      is.1.is_spelled ∙ ap (λ b. before ++ (b ∷ (48 + n % 10) ∷ [])) (sym same)
          ∙ sym (append_assoc before ((48 + tens) ∷ []) ((48 + n % 10) ∷ [])),
    ))
    bytes rest lack (split ∙ sym (append_assoc before ((48 + tens) ∷ []) rest))
