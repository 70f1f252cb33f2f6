-- A header and a marker at the back of a text, and as they are spelled.
use Rattle.std.proofs.Common.{◌≡◌, ◌≢◌, ℕ, zero, suc, ◌+◌, ◌-◌, ◌*◌, ◌/◌, ◌%◌, ◌≤◌, ◌==◌, ◌&&◌}
use Rattle.std.proofs.Common.{◌||◌, Bool, true, false, inl, inr, if◌then◌else◌, Option, Some, None}
use Rattle.std.proofs.Common.{List, [], ◌∷◌, ◌++◌, drop, reverse, refl, sym, ap, subst, ◌∙◌, arith}
use Rattle.std.proofs.Common.{add-one}
use Rattle.std.proofs.lemmas.Bool.{and_parts, or_right}
use Rattle.std.specs.Prelude.{replicate}
use Rattle.std.proofs.lemmas.Bool.Decides.{leb_tells, nat_tests}
use Rattle.std.proofs.lemmas.List.{reverse-append, reverse-reverse, replicate_more}
use Rattle.nx_envelope.specs.Header.{EndsWithHeader, EndsWith, start_marker, end_marker}
use Rattle.nx_envelope.specs.private.Letters.{letter_of, digit_of, both, identity_of, identity_with}
use Rattle.nx_envelope.specs.private.Backward.{ends_in, spaces_back, station_back, subject_back}
use Rattle.nx_envelope.specs.private.Backward.{tens_back, header_back}
use Rattle.nx_envelope.specs.Identity.{identity_bytes}
use Rattle.nx_envelope.specs.declared.digit.Digit.{Digit}
use Rattle.nx_envelope.specs.declared.identity.Identity.{Identity}
use Rattle.nx_envelope.specs.declared.letter.Letter.{Letter}
use Rattle.nx_envelope.proofs.lemmas.headers.LettersAndDigits.{letter_at, digit_at, letter_of-byte, letter_of-none}
use Rattle.nx_envelope.proofs.lemmas.headers.LettersAndDigits.{digit_of-value, same_identity_at, both_first}
use Rattle.nx_envelope.proofs.lemmas.headers.LettersAndDigits.{both_second, identity_some, digit_of-some}

-- Words of four letters.

pub eq_is : (a b : ℕ) → (a == b) ≡ true → a ≡ b
eq_is a b e = grind (arith, nat_tests)

pub record Four (a b c d : Bool) : Type 0 where
  pub first : a ≡ true
  pub second : b ≡ true
  pub third : c ≡ true
  pub fourth : d ≡ true

four : (a b c d : Bool) → (a && (b && (c && (d && true)))) ≡ true → Four a b c d
four true true true true e = record { first = refl; second = refl; third = refl; fourth = refl }
four true true true false e = absurd (cc)
four true true false d e = absurd (cc)
four true false c d e = absurd (cc)
four false b c d e = absurd (cc)

-- the letters of a word are no byte 0, which stands for those that are missing
pub record IsWord (a b c d : ℕ) : Type 0 where
  pub first : 0 ≢ a
  pub second : 0 ≢ b
  pub third : 0 ≢ c
  pub fourth : 0 ≢ d

pub ends_in-true : (a b c d : ℕ) → IsWord a b c d → (back : List ℕ)
    → ends_in (a ∷ b ∷ c ∷ d ∷ []) back ≡ true → back ≡ d ∷ c ∷ b ∷ a ∷ drop 4 back
ends_in-true a b c d w [] e =
    absurd (w.fourth (eq_is 0 d (four (0 == a) (0 == b) (0 == c) (0 == d) e).fourth))
ends_in-true a b c d w (x ∷ []) e =
    absurd (w.third (eq_is 0 c (four (0 == a) (0 == b) (0 == c) (x == d) e).third))
ends_in-true a b c d w (x ∷ y ∷ []) e =
    absurd (w.second (eq_is 0 b (four (0 == a) (0 == b) (y == c) (x == d) e).second))
ends_in-true a b c d w (x ∷ y ∷ z ∷ []) e =
    absurd (w.first (eq_is 0 a (four (0 == a) (z == b) (y == c) (x == d) e).first))
ends_in-true a b c d w (x ∷ y ∷ z ∷ v ∷ back) e =
    let f = four (v == a) (z == b) (y == c) (x == d) e in
    let p = eq_is v a f.first in
    let q = eq_is z b f.second in
    let r = eq_is y c f.third in
    let s = eq_is x d f.fourth in
    cc

eq_self : (a : ℕ) → (a == a) ≡ true
eq_self a = grind (arith, nat_tests)

pub ends_in-is : (a b c d : ℕ) (back : List ℕ)
    → ends_in (a ∷ b ∷ c ∷ d ∷ []) (d ∷ c ∷ b ∷ a ∷ back) ≡ true
ends_in-is a b c d back = rw (eq_self a, eq_self b, eq_self c, eq_self d) refl

-- a text that ends with the word, both ways
word_forth : (a b c d : ℕ) → IsWord a b c d → (text : List ℕ)
    → ends_in (a ∷ b ∷ c ∷ d ∷ []) (reverse text) ≡ true → EndsWith text (a ∷ b ∷ c ∷ d ∷ [])
word_forth a b c d w text e =
    let back = ends_in-true a b c d w (reverse text) e in
    let rest = drop 4 (reverse text) in
    record {
      front = reverse rest;
      spelled =
          sym (reverse-reverse text) ∙ ap reverse back ∙ reverse-append (d ∷ c ∷ b ∷ a ∷ []) rest;
    }

word_back : (a b c d : ℕ) (text : List ℕ) → EndsWith text (a ∷ b ∷ c ∷ d ∷ [])
    → ends_in (a ∷ b ∷ c ∷ d ∷ []) (reverse text) ≡ true
word_back a b c d text h =
    ap (λ (xs : List ℕ). ends_in (a ∷ b ∷ c ∷ d ∷ []) (reverse xs)) h.spelled
    ∙ ap (ends_in (a ∷ b ∷ c ∷ d ∷ [])) (reverse-append h.front (a ∷ b ∷ c ∷ d ∷ []))
    ∙ ends_in-is a b c d (reverse h.front)

pub zczc_word : IsWord 90 67 90 67
zczc_word = record {
  first = λ e. omega arith;
  second = λ e. omega arith;
  third =
      λ e. omega arith;
  fourth = λ e. omega arith;
}

pub nnnn_word : IsWord 78 78 78 78
nnnn_word = record {
  first = λ e. omega arith;
  second = λ e. omega arith;
  third =
      λ e. omega arith;
  fourth = λ e. omega arith;
}

pub starts_both : (text : List ℕ)
    → (ends_in start_marker (reverse text) ≡ true → EndsWith text start_marker)
    × (EndsWith text start_marker → ends_in start_marker (reverse text) ≡ true)
starts_both text = (word_forth 90 67 90 67 zczc_word text, word_back 90 67 90 67 text)

pub ends_both : (text : List ℕ)
    → (ends_in end_marker (reverse text) ≡ true → EndsWith text end_marker)
    × (EndsWith text end_marker → ends_in end_marker (reverse text) ≡ true)
ends_both text = (word_forth 78 78 78 78 nnnn_word text, word_back 78 78 78 78 text)

-- Headers.

-- the back of a text that ends with ZCZC and spaces
pub record Spaced (back : List ℕ) : Type 0 where
  pub more : ℕ
  pub rest : List ℕ
  pub is : back ≡ replicate (more + 1) 32 ++ 67 ∷ 90 ∷ 67 ∷ 90 ∷ rest

pub replicate-one : (n x : ℕ) → replicate (n + 1) x ≡ x ∷ replicate n x
replicate-one n x = rw add-one refl

spaced_more : (start : Bool) (b : ℕ) (back : List ℕ) → b ≡ 32 → ends_in start_marker back ≡ start
    → (start || spaces_back back) ≡ true → (spaces_back back ≡ true → Spaced back)
    → Spaced (b ∷ back)
spaced_more true b back is e found rest =
    let word = ends_in-true 90 67 90 67 zczc_word back e in
    record { more = 0; rest = drop 4 back; is = cc }
spaced_more false b back is e found rest =
    let r = rest found in
    let spaces : replicate (r.more + 1 + 1) 32 ≡ 32 ∷ replicate (r.more + 1) 32 =
    replicate-one (r.more + 1) 32 in
    record {
      more = r.more + 1;
      rest = r.rest;
      is =
          rw (spaces, is) (ap (λ (xs : List ℕ). 32 ∷ xs) r.is);
    }

spaced : (back : List ℕ) → spaces_back back ≡ true → Spaced back
unfolding spaces_back
spaced [] e = absurd (cc)
spaced (b ∷ back) e =
    let p = and_parts (b == 32) (ends_in start_marker back || spaces_back back) e in
    spaced_more _ b back (eq_is b 32 p.0) refl p.1 (spaced back)

spaces_back-true : (n : ℕ) (rest : List ℕ)
    → spaces_back (replicate (n + 1) 32 ++ 67 ∷ 90 ∷ 67 ∷ 90 ∷ rest) ≡ true
unfolding spaces_back
spaces_back-true zero rest = refl
spaces_back-true (suc n) rest =
    let one : suc n + 1 ≡ (n + 1) + 1 = omega arith in
    let more = replicate-one (n + 1) 32 in
    let below = spaces_back-true n rest in
    rw (one, more) (or_right (ends_in start_marker
    (replicate (n + 1) 32 ++ 67 ∷ 90 ∷ 67 ∷ 90 ∷ rest)) _ below)

pub letter_of-some : (b : ℕ) (l : Letter) → letter_of b ≡ Some l → b ≡ l.byte
letter_of-some b l e =
    elim (leb_tells 65 b) [
      | inl p ↦ elim (leb_tells b 90) [
        | inl q ↦ let is = letter_of-byte (letter_at b (p.1, q.1)) in
            let same : letter_at b (p.1, q.1) ≡ l = cc in ap (λ (m : Letter). m.byte) same
        | inr q ↦ absurd (let none = letter_of-none b (λ h. absurd (omega (arith, q.1))) in cc)
      ]
      | inr p ↦ absurd (let none = letter_of-none b (λ h. absurd (omega (arith, p.1))) in cc)
    ]

pub digit_of-is : (b : ℕ) (d : Digit) → digit_of b ≡ Some d → b ≡ 48 + d.value
digit_of-is b d e =
    let in_range = digit_of-some b d e in
    let small : b - 48 ≤ 9 = omega arith in
    let is = digit_of-value b (digit_at (b - 48) small) in_range.0 refl in
    let same : digit_at (b - 48) small ≡ d = cc in
    let value : b - 48 ≡ d.value = ap (λ (m : Digit). m.value) same in
    omega arith

pub record StationBack (back : List ℕ) (l : Letter) : Type 0 where
  pub rest : List ℕ
  pub spaces : Spaced rest
  pub is : back ≡ l.byte ∷ rest

pub if_some : {A : Type 0} (c : Bool) (o : Option A) (l : A) → (if c then o else None) ≡ Some l
    → (c ≡ true) × (o ≡ Some l)
if_some true o l e = (refl, e)
if_some false o l e = absurd (cc)

station_inverse : (back : List ℕ) (l : Letter) → station_back back ≡ Some l → StationBack back l
unfolding station_back
station_inverse [] l e = absurd (cc)
station_inverse (b ∷ back) l e =
    let p = if_some (spaces_back back) (letter_of b) l e in
    record {
      rest = back;
      spaces = spaced back p.0;
      is =
          ap (λ (x : ℕ). x ∷ back) (letter_of-some b l p.1);
    }

pub record SubjectBack (back : List ℕ) (p : Letter × Letter) : Type 0 where
  pub rest : List ℕ
  pub station : StationBack rest p.0
  pub is : back ≡ p.1.byte ∷ rest

subject_inverse : (back : List ℕ) (p : Letter × Letter) → subject_back back ≡ Some p
    → SubjectBack back p
unfolding subject_back
subject_inverse [] p e = absurd (cc)
subject_inverse (b ∷ back) p e = record {
  rest = back;
  station = station_inverse back p.0 (both_first (station_back back) (letter_of b) p e);
  is = ap (λ (x : ℕ). x ∷ back)
      (letter_of-some b p.1 (both_second (station_back back) (letter_of b) p e));
}

pub record TensBack (back : List ℕ) (q : (Letter × Letter) × Digit) : Type 0 where
  pub rest : List ℕ
  pub subject : SubjectBack rest q.0
  pub is : back ≡ (48 + q.1.value) ∷ rest

tens_inverse : (back : List ℕ) (q : (Letter × Letter) × Digit) → tens_back back ≡ Some q
    → TensBack back q
unfolding tens_back
tens_inverse [] q e = absurd (cc)
tens_inverse (b ∷ back) q e = record {
  rest = back;
  subject = subject_inverse back q.0 (both_first (subject_back back) (digit_of b) q e);
  is = ap (λ (x : ℕ). x ∷ back)
      (digit_of-is b q.1 (both_second (subject_back back) (digit_of b) q e));
}

-- the back of a text that ends with a header
abbrev header_reversed : ℕ → List ℕ → ℕ → ℕ → ℕ → ℕ → List ℕ
header_reversed more rest b s t u =
    u ∷ t ∷ s ∷ b ∷ (replicate (more + 1) 32 ++ 67 ∷ 90 ∷ 67 ∷ 90 ∷ rest)

pub record HeaderBack (back : List ℕ) (i : Identity) : Type 0 where
  pub more : ℕ
  pub rest : List ℕ
  pub is : back ≡ header_reversed more rest i.b1.byte i.b2.byte (48 + i.number / 10)
      (48 + i.number % 10)

header_parts : (back : List ℕ) (q : (Letter × Letter) × Digit) (units : Digit) → TensBack back q
    → HeaderBack ((48 + units.value) ∷ back) (identity_of q.0.0 q.0.1 q.1 units)
header_parts back q units h =
    let subject = h.subject in
    let station = subject.station in
    let spaces = station.spaces in
    let tens : (q.1.value * 10 + units.value) / 10 ≡ q.1.value =
    omega (arith, q.1.below_ten, units.below_ten) in
    let ones : (q.1.value * 10 + units.value) % 10 ≡ units.value =
    omega (arith, q.1.below_ten, units.below_ten) in
    record {
      more = spaces.more;
      rest = spaces.rest;
      is =
          rw (tens, ones, h.is, subject.is, station.is, spaces.is) refl;
    }

header_with : (b : ℕ) (back : List ℕ) (units : Digit) (j : Identity) → b ≡ 48 + units.value
    → HeaderBack ((48 + units.value) ∷ back) j → HeaderBack (b ∷ back) j
header_with b back units j e h = rw e h

header_inverse : (back : List ℕ) (i : Identity) → header_back back ≡ Some i → HeaderBack back i
unfolding header_back
header_inverse [] i e = absurd (cc)
header_inverse (b ∷ back) i e =
    let w = identity_some (both (tens_back back) (digit_of b)) i e in
    let tens = tens_inverse back w.found.0
    (both_first (tens_back back) (digit_of b) w.found w.is) in
    let digit = digit_of-is b w.found.1 (both_second (tens_back back) (digit_of b) w.found w.is) in
    let whole : Some (identity_of w.found.0.0.0 w.found.0.0.1 w.found.0.1 w.found.1) ≡ Some i =
    ap identity_with (sym w.is) ∙ e in
    let same : identity_of w.found.0.0.0 w.found.0.0.1 w.found.0.1 w.found.1 ≡ i = cc in
    let P : Identity → Type 0 = λ (j : Identity). HeaderBack (b ∷ back) j in
    subst P same (header_with b back w.found.1 _ digit (header_parts back w.found.0 w.found.1 tens))

-- turned round

reverse-replicate : (n x : ℕ) → reverse (replicate n x) ≡ replicate n x
reverse-replicate zero x = refl
reverse-replicate (suc n) x =
    let one : suc n ≡ n + 1 = omega arith in
    reverse-append (x ∷ []) (replicate n x)
    ∙ ap (λ (xs : List ℕ). xs ++ x ∷ []) (reverse-replicate n x) ∙ replicate_more n x
    ∙ replicate-one n x

turned : (more : ℕ) (rest : List ℕ) (b s t u : ℕ)
    → reverse (header_reversed more rest b s t u)
    ≡ reverse rest ++ start_marker ++ replicate (more + 1) 32 ++ b ∷ s ∷ t ∷ u ∷ []
turned more rest b s t u =
    let R : List ℕ = replicate (more + 1) 32 in
    let W : List ℕ = 67 ∷ 90 ∷ 67 ∷ 90 ∷ rest in
    let outer = reverse-append (u ∷ t ∷ s ∷ b ∷ []) (R ++ W) in
    let inner = reverse-append R W in
    let word = reverse-append (67 ∷ 90 ∷ 67 ∷ 90 ∷ []) rest in
    let spaces = reverse-replicate (more + 1) 32 in
    outer ∙ ap (λ (xs : List ℕ). xs ++ b ∷ s ∷ t ∷ u ∷ [])
    (inner ∙ ap (λ (xs : List ℕ). xs ++ reverse R) word
    ∙ ap (λ (xs : List ℕ). (reverse rest ++ start_marker) ++ xs) spaces)

header_forth : (text : List ℕ) (i : Identity) → header_back (reverse text) ≡ Some i
    → EndsWithHeader text i
header_forth text i e =
    let h = header_inverse (reverse text) i e in
    record {
      front = reverse h.rest;
      more_spaces = h.more;
      spelled =
          sym (reverse-reverse text) ∙ ap reverse h.is
          ∙ turned h.more h.rest i.b1.byte i.b2.byte (48 + i.number / 10) (48 + i.number % 10);
    }

header_reads : (more : ℕ) (rest : List ℕ) (i : Identity)
    → header_back (header_reversed more rest i.b1.byte i.b2.byte (48 + i.number / 10)
    (48 + i.number % 10)) ≡ Some i
unfolding header_back station_back subject_back tens_back
header_reads more rest i =
    let tens_small : i.number / 10 ≤ 9 = omega (arith, i.two_digits) in
    let units_small : i.number % 10 ≤ 9 = omega arith in
    let tens = digit_of-value (48 + i.number / 10) (digit_at (i.number / 10) tens_small)
    (omega arith) (omega arith) in
    let units = digit_of-value (48 + i.number % 10) (digit_at (i.number % 10) units_small)
    (omega arith) (omega arith) in
    let spaces = spaces_back-true more rest in
    let number : i.number / 10 * 10 + i.number % 10 ≡ i.number = omega arith in
    rw (spaces, letter_of-byte i.b1, letter_of-byte i.b2, tens, units)
    (ap Some (same_identity_at i.b1 i.b2 _ i.number number _ i.two_digits))

header_converse : (text : List ℕ) (i : Identity) → EndsWithHeader text i
    → header_back (reverse text) ≡ Some i
header_converse text i h =
    let X : List ℕ = header_reversed h.more_spaces (reverse h.front) i.b1.byte i.b2.byte
    (48 + i.number / 10) (48 + i.number % 10) in
    let round : reverse X ≡ text =
    turned h.more_spaces (reverse h.front) i.b1.byte i.b2.byte (48 + i.number / 10)
    (48 + i.number % 10) ∙ ap
    (λ (xs : List ℕ). xs ++ start_marker ++ replicate (h.more_spaces + 1) 32
    ++ identity_bytes i) (reverse-reverse h.front) ∙ sym h.spelled in
    let back : reverse text ≡ X = ap reverse (sym round) ∙ reverse-reverse X in
    ap header_back back ∙ header_reads h.more_spaces (reverse h.front) i

pub header_both : (text : List ℕ) (i : Identity)
    → (header_back (reverse text) ≡ Some i → EndsWithHeader text i)
    × (EndsWithHeader text i → header_back (reverse text) ≡ Some i)
header_both text i = (header_forth text i, header_converse text i)
