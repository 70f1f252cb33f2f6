-- Eight bytes as one number, of which four are a number too.
use Rattle.std.proofs.Common.{◌≡◌, ℕ, ◌+◌, ◌*◌, ◌^◌, ◌/◌, ◌%◌, ◌<◌, ◌≤◌, zero, suc, List, [], ◌∷◌}
use Rattle.std.proofs.Common.{◌++◌, length, take, reverse, refl, sym, ap, ◌∙◌, arith, get_or}
use Rattle.std.specs.Prelude.{slice_index}
use Rattle.std.specs.Int.{from_le_bytes, to_le_bytes, w32}
use Rattle.std.proofs.lemmas.List.{reverse-append}
use Rattle.std.proofs.lemmas.Nat.{le_bytes_4}
use Rattle.nx_envelope.specs.private.Backward.{last_four}
use Rattle.nx_envelope.specs.private.FourBytes.{Four, IsEight, four_behind}

pub four_of : (xs : List ℕ) → length xs ≡ 4 → ((i : ℕ) → get_or xs i 0 < 256) → Four xs
four_of [] e small = absurd (omega arith)
four_of (a ∷ []) e small = absurd (omega arith)
four_of (a ∷ b ∷ []) e small = absurd (omega arith)
four_of (a ∷ b ∷ c ∷ []) e small = absurd (omega arith)
four_of (a ∷ b ∷ c ∷ d ∷ []) e small = record {
  first = a;
  second = b;
  third = c;
  last = d;
  spelled = refl;
  first_fits = small 0;
  second_fits = small 1;
  third_fits = small 2;
  last_fits = small 3;
}
four_of (a ∷ b ∷ c ∷ d ∷ x ∷ xs) e small = absurd (omega arith)

div-one : (n : ℕ) → n / 1 ≡ n
div-one n = omega arith

-- four digits to the base 256, and what stands above them
abbrev number : ℕ → ℕ → ℕ → ℕ → ℕ
number a b c d = a + b * 256 + c * 65536 + d * 16777216

pub record AreFours (eight a b c d e f g h : ℕ) : Type 0 where
  pub none : eight % 4294967296 ≡ number a b c d
  pub one : eight / 256 % 4294967296 ≡ number b c d e
  pub two : eight / 65536 % 4294967296 ≡ number c d e f
  pub three : eight / 16777216 % 4294967296 ≡ number d e f g
  pub four : eight / 4294967296 % 4294967296 ≡ number e f g h

fours : (eight a b c d e f g h : ℕ) → a < 256 → b < 256 → c < 256 → d < 256 → e < 256 → f < 256
    → g < 256 → h < 256 → eight ≡ number a b c d + number e f g h * 4294967296
    → AreFours eight a b c d e f g h
fours eight a b c d e f g h a< b< c< d< e< f< g< h< is = record {
  none = omega arith;
  one = omega arith;
  two = omega arith;
  three = omega arith;
  four = omega arith;
}

-- the number of the last four and of the next four
eight_at : (back bytes : List ℕ) (old : Four (last_four back)) (new : Four bytes) (eight : ℕ)
    → eight ≡ from_le_bytes w32 (last_four back) + from_le_bytes w32 bytes * 2 ^ 32
    → IsEight eight back bytes
eight_at back bytes old new eight e =
    let p3 : slice_index back 3 ≡ old.first = cc (old.spelled) in
    let p2 : slice_index back 2 ≡ old.second = cc (old.spelled) in
    let p1 : slice_index back 1 ≡ old.third = cc (old.spelled) in
    let p0 : slice_index back 0 ≡ old.last = cc (old.spelled) in
    let is = rw new.spelled at e in
    let w : AreFours eight (slice_index back 3) (slice_index back 2) (slice_index back 1)
    (slice_index back 0) new.first new.second new.third new.last =
    fours eight _ _ _ _ _ _ _ _ (rw p3 old.first_fits) (rw p2 old.second_fits)
    (rw p1 old.third_fits) (rw p0 old.last_fits) new.first_fits new.second_fits new.third_fits
    new.last_fits is in
    record {
      old = old;
      new = new;
      none = ap (λ (n : ℕ). n % 4294967296) (div-one eight) ∙ w.none;
      one = w.one;
      two = w.two;
      three = w.three;
      four = w.four;
    }

pub is_eight : (recent back bytes : List ℕ) (eight : ℕ) → Four recent → Four bytes
    → eight ≡ from_le_bytes w32 recent + from_le_bytes w32 bytes * 2 ^ 32 → recent ≡ last_four back
    → IsEight eight back bytes
is_eight recent back bytes eight old new e is =
    eight_at back bytes (rw (← is) old) new eight (rw is at e)

four_small : (a b c d : ℕ) → a < 256 → b < 256 → c < 256 → d < 256
    → (i : ℕ) → get_or (a ∷ b ∷ c ∷ d ∷ []) i 0 < 256
four_small a b c d a< b< c< d< zero = a<
four_small a b c d a< b< c< d< (suc zero) = b<
four_small a b c d a< b< c< d< (suc (suc zero)) = c<
four_small a b c d a< b< c< d< (suc (suc (suc zero))) = d<
four_small a b c d a< b< c< d< (suc (suc (suc (suc i)))) = omega arith

-- the four as bytes
bytes_of : (n : ℕ) (back : List ℕ) → n ≡ from_le_bytes w32 (last_four back)
    → slice_index back 3 < 256 → slice_index back 2 < 256 → slice_index back 1 < 256
    → slice_index back 0 < 256 → to_le_bytes w32 n ≡ last_four back
bytes_of n back e r3 r2 r1 r0 = le_bytes_4 (last_four back) n refl
    (four_small (slice_index back 3) (slice_index back 2) (slice_index back 1) (slice_index back 0)
    r3 r2 r1 r0) e

-- the number of four bytes, as bytes again
pub four_bytes : (n : ℕ) (back : List ℕ) → Four (last_four back)
    → n ≡ from_le_bytes w32 (last_four back) → to_le_bytes w32 n ≡ last_four back
four_bytes n back four e =
    let p3 : slice_index back 3 ≡ four.first = cc (four.spelled) in
    let p2 : slice_index back 2 ≡ four.second = cc (four.spelled) in
    let p1 : slice_index back 1 ≡ four.third = cc (four.spelled) in
    let p0 : slice_index back 0 ≡ four.last = cc (four.spelled) in
    bytes_of n back e (rw p3 four.first_fits) (rw p2 four.second_fits) (rw p1 four.third_fits)
    (rw p0 four.last_fits)

four_last : (back : List ℕ) → slice_index back 3 < 256 → slice_index back 2 < 256
    → slice_index back 1 < 256 → slice_index back 0 < 256 → Four (last_four back)
four_last back r3 r2 r1 r0 = record {
  first = slice_index back 3;
  second = slice_index back 2;
  third = slice_index back 1;
  last = slice_index back 0;
  spelled = refl;
  first_fits = r3;
  second_fits = r2;
  third_fits = r1;
  last_fits = r0;
}

-- the last four bytes of a text, one byte later and more
pub record AllFour (a b c d : ℕ) (back : List ℕ) : Type 0 where
  pub one : Four (last_four (a ∷ back))
  pub two : Four (last_four (b ∷ a ∷ back))
  pub three : Four (last_four (c ∷ b ∷ a ∷ back))
  pub four : Four (last_four (d ∷ c ∷ b ∷ a ∷ back))

pub all_four : (eight : ℕ) (back bytes : List ℕ) (w : IsEight eight back bytes)
    → AllFour w.new.first w.new.second w.new.third w.new.last back
all_four eight back bytes w =
    let p2 : slice_index back 2 ≡ w.old.second = cc (w.old.spelled) in
    let p1 : slice_index back 1 ≡ w.old.third = cc (w.old.spelled) in
    let p0 : slice_index back 0 ≡ w.old.last = cc (w.old.spelled) in
    let r2 : slice_index back 2 < 256 = rw p2 w.old.second_fits in
    let r1 : slice_index back 1 < 256 = rw p1 w.old.third_fits in
    let r0 : slice_index back 0 < 256 = rw p0 w.old.last_fits in
    let a = w.new.first in
    let b = w.new.second in
    let c = w.new.third in
    record {
      one = four_last (a ∷ back) r2 r1 r0 w.new.first_fits;
      two = four_last (b ∷ a ∷ back) r1 r0 w.new.first_fits w.new.second_fits;
      three = four_last (c ∷ b ∷ a ∷ back) r0 w.new.first_fits w.new.second_fits
          w.new.third_fits;
      four = four_last (w.new.last ∷ c ∷ b ∷ a ∷ back) w.new.first_fits w.new.second_fits
          w.new.third_fits w.new.last_fits;
    }

-- the last four bytes of the text so many bytes later
later_by : (eight : ℕ) (back bytes : List ℕ) (w : IsEight eight back bytes) (count : ℕ) → count ≤ 4
    → slice_index back 3 < 256 → slice_index back 2 < 256 → slice_index back 1 < 256
    → slice_index back 0 < 256
    → to_le_bytes w32 (four_behind eight count)
    ≡ last_four
    (reverse (take count (w.new.first ∷ w.new.second ∷ w.new.third ∷ w.new.last ∷ [])) ++ back)
later_by eight back bytes w zero few r3 r2 r1 r0 =
    bytes_of (four_behind eight 0) back w.none r3 r2 r1 r0
later_by eight back bytes w (suc zero) few r3 r2 r1 r0 =
    bytes_of (four_behind eight 1) (w.new.first ∷ back) w.one r2 r1 r0 w.new.first_fits
later_by eight back bytes w (suc (suc zero)) few r3 r2 r1 r0 =
    bytes_of (four_behind eight 2) (w.new.second ∷ w.new.first ∷ back) w.two r1 r0
    w.new.first_fits w.new.second_fits
later_by eight back bytes w (suc (suc (suc zero))) few r3 r2 r1 r0 =
    bytes_of (four_behind eight 3) (w.new.third ∷ w.new.second ∷ w.new.first ∷ back)
    w.three r0 w.new.first_fits w.new.second_fits w.new.third_fits
later_by eight back bytes w (suc (suc (suc (suc zero)))) few r3 r2 r1 r0 =
    bytes_of (four_behind eight 4)
    (w.new.last ∷ w.new.third ∷ w.new.second ∷ w.new.first ∷ back) w.four w.new.first_fits
    w.new.second_fits w.new.third_fits w.new.last_fits
later_by eight back bytes w (suc (suc (suc (suc (suc count))))) few r3 r2 r1 r0 =
    absurd (omega arith)

four_later : (eight : ℕ) (back bytes : List ℕ) → IsEight eight back bytes → (count : ℕ)
    → count ≤ 4
    → to_le_bytes w32 (four_behind eight count) ≡ last_four (reverse (take count bytes) ++ back)
four_later eight back bytes w count few =
    let p3 : slice_index back 3 ≡ w.old.first = cc (w.old.spelled) in
    let p2 : slice_index back 2 ≡ w.old.second = cc (w.old.spelled) in
    let p1 : slice_index back 1 ≡ w.old.third = cc (w.old.spelled) in
    let p0 : slice_index back 0 ≡ w.old.last = cc (w.old.spelled) in
    later_by eight back bytes w count few (rw p3 w.old.first_fits) (rw p2 w.old.second_fits)
    (rw p1 w.old.third_fits) (rw p0 w.old.last_fits)
    ∙ ap (λ (bs : List ℕ). last_four (reverse (take count bs) ++ back)) (sym w.new.spelled)

-- and as the text is read from its front
pub four_on : (eight : ℕ) (text bytes : List ℕ) → IsEight eight (reverse text) bytes → (count : ℕ)
    → count ≤ 4
    → to_le_bytes w32 (four_behind eight count) ≡ last_four (reverse (text ++ take count bytes))
four_on eight text bytes w count few =
    four_later eight (reverse text) bytes w count few
    ∙ ap last_four (sym (reverse-append text (take count bytes)))
