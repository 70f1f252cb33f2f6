-- The texts by which a query names moments.
use Rattle.std.proofs.Common.{◌≡◌, ◌⊎◌, inl, inr, ℕ, ◌+◌, ◌<◌, ◌≤◌, List, [], ◌++◌, codes, length, get_or, take, drop, ap, sym, refl, ◌∙◌, arith}
use Rattle.std.proofs.Common.{Option, Some, None}
use Rattle.std.specs.Char.{IsAsciiDigit}
use Rattle.std.specs.Prelude.{All, IfNone, IfSome}
use Rattle.std.proofs.Math.ListN.{set}
use Rattle.std.proofs.lemmas.List.{get_or_append_left, get_or-set_other, length-append, length-set, take-append-drop}
use Rattle.std.proofs.lemmas.List.{append_cancel_left, take-append-le, take_all}
use Rattle.std.proofs.lemmas.List.{set-set, set-get_or}
use Rattle.std.proofs.lemmas.List.Elements.{All-nil, All-head, All-tail, All-cons}
use Rattle.std.proofs.lemmas.Str.Parse.{IsDigitsTest, IsNumeralModel, digit_at, numerals_by_value}
use Rattle.std.specs.Str.Parse.{AllDigits, digits_value}
use Rattle.nx_envelope.specs.Moment.{IsShownAs, last_moment}
use Rattle.nx_log.proofs.lemmas.texts.Moments.{same_time}
use Rattle.nx_log.specs.Times.{WritesTime, joined_by}

-- a civil time has 19 bytes, a hyphen (45) behind its year, and a space behind its date
pub shown-length : (m : ℕ) (t : List ℕ) → IsShownAs m t → length t ≡ 19
shown-length m t s = ap length s.is_text

pub shown-hyphen : (m : ℕ) (t : List ℕ) → IsShownAs m t → get_or t 4 0 ≡ 45
shown-hyphen m t s = ap (λ l. get_or l 4 0) s.is_text

pub shown-space : (m : ℕ) (t : List ℕ) → IsShownAs m t → get_or t 10 0 ≡ 32
shown-space m t s = ap (λ l. get_or l 10 0) s.is_text

-- no hyphen stands among digits
pub no_hyphen : (t : List ℕ) → AllDigits 10 t → 4 < length t → get_or t 4 0 ≡ 45 → ⊥
no_hyphen t digits long e = let d = digit_at t 4 digits long in omega (arith, d, e)

-- with a space between its date and its time of day, a civil time is what it was
pub joined-back : (m between : ℕ) (t rest : List ℕ) → IsShownAs m (t ++ rest) → 10 < length t
    → set (joined_by between t) 10 32 ≡ t
joined-back m between t rest s long =
    set-set t 10 between 32
    ∙ ap (set t 10) (sym (sym (get_or_append_left t rest 0 10 long) ∙ shown-space m (t ++ rest) s))
    ∙ set-get_or t 10 0

pub joined-length : (between : ℕ) (t : List ℕ) → length (joined_by between t) ≡ length t
joined-length between t = length-set t 10 between

-- the bytes of a date and a time of day, without the rest, and of the text that names them
pub time-length : (rest text : List ℕ) (m : ℕ) → (w : WritesTime rest text m)
    → length w.civil + length rest ≡ 19
time-length rest text m w =
    sym (length-append w.civil rest) ∙ shown-length m (w.civil ++ rest) w.shown

zone-length : (zone : List ℕ) → (zone ≡ []) ⊎ (zone ≡ codes "Z") → length zone ≤ 1
zone-length zone (inl none) = omega (arith, ap length none)
zone-length zone (inr utc) = omega (arith, ap length utc)

pub record IsLong (rest text : List ℕ) : Type 0 where
  pub least : 19 ≤ length text + length rest
  pub most : length text + length rest ≤ 20

pub time-long : (rest text : List ℕ) (m : ℕ) → WritesTime rest text m → IsLong rest text
time-long rest text m w =
    let size = ap length w.spelled ∙ length-append (joined_by w.between w.civil) w.zone in
    let joined_long = joined-length w.between w.civil in
    let all = time-length rest text m w in
    let zone = zone-length w.zone w.utc in
    record {
      least = omega (arith, size, joined_long, all);
      most = omega (arith, size, joined_long, all, zone);
    }

-- its first bytes, without the zone
pub first_bytes : (rest text : List ℕ) (m n : ℕ) → (w : WritesTime rest text m)
    → n ≡ length w.civil → take n text ≡ joined_by w.between w.civil
first_bytes rest text m n w e =
    let long = joined-length w.between w.civil in
    ap (take n) w.spelled
    ∙ take-append-le n (joined_by w.between w.civil) w.zone (omega (arith, long, e))
    ∙ take_all n (joined_by w.between w.civil) (omega (arith, long, e))

-- and the zone behind them
pub zone-is : (rest text : List ℕ) (m n : ℕ) → (w : WritesTime rest text m) → n ≡ length w.civil
    → drop n text ≡ w.zone
zone-is rest text m n w e =
    append_cancel_left (joined_by w.between w.civil) (drop n text) w.zone
    (ap (λ l. l ++ drop n text) (sym (first_bytes rest text m n w e)) ∙ take-append-drop n text
    ∙ w.spelled)

-- what is read of a text that shows a moment is the moment
pub told : (r : Option ℕ) (t : List ℕ) (m : ℕ) → IfSome r (λ n. IsShownAs n t)
    → IfNone r ((n : ℕ) → n ≤ last_moment → ¬ IsShownAs n t) → m ≤ last_moment
    → IsShownAs m t → r ≡ Some m
told None t m some none small s = absurd (none m small s)
told (Some n) t m some none small s = ap Some (same_time n m t t [] [] some s refl).moment

-- digits, each in turn and as a numeral
tells_all : IsDigitsTest (All IsAsciiDigit)
tells_all = record {
  empty = All-nil IsAsciiDigit;
  parts = λ c cs d. (All-head IsAsciiDigit c cs d, All-tail IsAsciiDigit c cs d);
  more = λ c cs k d. All-cons IsAsciiDigit c cs k d;
}

pub numeral : IsNumeralModel (All IsAsciiDigit) (digits_value 10)
numeral = numerals_by_value (All IsAsciiDigit) tells_all

-- a text of digits shows no time
pub digits_show_none : (t more : List ℕ) (m : ℕ) → AllDigits 10 t → length more ≡ 9
    → IsShownAs m (t ++ more) → ⊥
digits_show_none t more m digits nine s =
    let long : 4 < length t =
    omega (arith, nine, shown-length m (t ++ more) s, length-append t more) in
    no_hyphen t digits long
    (sym (get_or_append_left t more 0 4 long) ∙ shown-hyphen m (t ++ more) s)

pub digits_write_no_time : (rest t : List ℕ) (m : ℕ) → length rest ≤ 3 → AllDigits 10 t
    → WritesTime rest t m → ⊥
digits_write_no_time rest t m short digits w =
    let all = time-length rest t m w in
    let long : 4 < length t = omega (arith, (time-long rest t m w).least, short) in
    let early : 4 < length w.civil = omega (arith, all, short) in
    no_hyphen t digits long
    (ap (λ l. get_or l 4 0) w.spelled
    ∙ get_or_append_left (joined_by w.between w.civil) w.zone 0 4
    (omega (arith, joined-length w.between w.civil, early))
    ∙ get_or-set_other w.civil 10 4 w.between 0 (λ e. omega (arith, e))
    ∙ sym (get_or_append_left w.civil rest 0 4 early)
    ∙ shown-hyphen m (w.civil ++ rest) w.shown)
