-- Whether a text names a moment is known, and it names at most one.
use Rattle.std.proofs.Common.{◌≡◌, ◌∙◌, ◌⊎◌, ◌+◌, ◌≤◌, ◌/◌, ◌%◌, ℕ, pos, List, [], ◌∷◌, ◌++◌, ap, arith}
use Rattle.std.proofs.Common.{codes, inl, inr, length, refl, subst, suc, sym, take}
use Rattle.std.proofs.Math.ListN.{set}
use Rattle.std.proofs.lemmas.List.{length-append, take-append-le, take_all}
use Rattle.std.specs.Char.{digit_value}
use Rattle.std.specs.Str.Parse.{AllDigits, digits_value}
use Rattle.jiff_core.proofs.SignedLemmas.{signed_arith}
use Rattle.jiff_core.specs.Calendar.{IsCivilDate, IsYear, days_from_civil, days_in_month}
use Rattle.nx_envelope.specs.Identity.{two_digits}
use Rattle.nx_envelope.specs.Moment.{IsShownAs, last_moment}
use Rattle.nx_log.proofs.lemmas.texts.Moments.{months_small, same_time, year_small}
use Rattle.nx_log.proofs.lemmas.texts.TimeTexts.{digits_show_none, digits_write_no_time, first_bytes}
use Rattle.nx_log.proofs.lemmas.texts.TimeTexts.{joined-back, shown-length, time-length, time-long}
use Rattle.nx_log.specs.Times.{CouldBeDate, IsBetween, NamesMoment, WritesMoment, WritesTime}
use Rattle.nx_log.specs.Times.{joined_by}
use Rattle.nx_log.specs.LogRun.{most_read}
use Rattle.nx_log.specs.Places.{SaysPlace}
use Rattle.nx_program.proofs.lemmas.Known.{IsKnown, UpTo, at_most, both, either, same_integer, same_text}
use Rattle.nx_program.proofs.lemmas.Known.{up_to}

-- digits
digits_known : (text : List ℕ) → IsKnown (AllDigits 10 text)
digits_known [] = inl tt
digits_known (c ∷ cs) = both _ _ (at_most (suc (digit_value c)) 10) (digits_known cs)

number_known : (m n : ℕ) → IsKnown (m ≡ n)
number_known m n = elim (both _ _ (at_most m n) (at_most n m)) [
  | inl is ↦ inl (let low = is.0 in let high = is.1 in omega arith)
  | inr fails ↦ inr (λ e. fails (omega (arith, e), omega (arith, e)))
]

not_known : (A : Type 0) → IsKnown A → IsKnown (¬ A)
not_known A (inl is) = inr (λ fails. fails is)
not_known A (inr fails) = inl fails

date_digits_known : (text : List ℕ) → IsKnown (¬ CouldBeDate text)
date_digits_known text =
    not_known (CouldBeDate text)
    (either _ _ (number_known (length text) 4) (number_known (length text) 8))

moment_known : (text : List ℕ) (m : ℕ) → IsKnown (WritesMoment text m)
moment_known text m = elim (both _ _
    (both _ _ (both _ _ (at_most 1 (length text)) (digits_known text)) (date_digits_known text))
    (number_known m (digits_value 10 text))) [
      | inl is ↦ inl (record { digits = is.0.0; no_date = is.0.1; value = is.1 })
      | inr fails ↦ inr (λ w. fails ((w.digits, w.no_date), w.value))
    ]

-- places
pub place_known : (text : List ℕ)
    → ((place : ℕ) × SaysPlace text place) ⊎ ((place : ℕ) → SaysPlace text place → ⊥)
place_known text = elim (both _ _ (both _ _ (at_most 1 (length text)) (digits_known text))
    (at_most (digits_value 10 text) most_read)) [
      | inl is ↦ inl (
        digits_value 10 text,
        record { digits = is.0; value = refl; in_range = is.1 },
      )
      | inr fails ↦ inr (λ place said.
          fails (said.digits, omega (arith, said.in_range, said.value)))
    ]

-- civil times
abbrev shown : ℕ → ℕ → ℕ → ℕ → List ℕ
shown moment year month day = two_digits (year / 100) ++ two_digits (year % 100)
    ++ 45 ∷ two_digits month ++ 45 ∷ two_digits day
    ++ 32 ∷ two_digits (moment % 86400 / 3600)
    ++ 58 ∷ two_digits (moment % 3600 / 60) ++ 58 ∷ two_digits (moment % 60)

year_known : (year : ℕ) → IsKnown (IsYear (pos year))
year_known year = elim (at_most year 9999) [
  | inl small ↦ inl (omega (arith, signed_arith), omega (arith, signed_arith))
  | inr fails ↦ inr (λ is. fails (omega (arith, signed_arith, is.1)))
]

in_range_known : (low high n : ℕ) → IsKnown ((low ≤ n) × (n ≤ high))
in_range_known low high n = both _ _ (at_most low n) (at_most n high)

date_known : (year month day : ℕ) → IsKnown (IsCivilDate (pos year) month day)
date_known year month day = elim (both _ _ (year_known year) (both _ _ (in_range_known 1 12 month)
    (in_range_known 1 (days_in_month (pos year) month) day))) [
      | inl is ↦ inl (is.0, is.1.0, is.1.1)
      | inr fails ↦ inr (λ is. fails (is.0, (is.1, is.2)))
    ]

-- of the civil times that show a moment, one of which this holds
abbrev ShowsOf : ℕ → (List ℕ → Type 0) → Type 0
ShowsOf m Q = (civil : List ℕ) × IsShownAs m civil × Q civil

abbrev IsDayOf : ℕ → (List ℕ → Type 0) → ℕ → ℕ → ℕ → Type 0
IsDayOf m Q year month day = (IsCivilDate (pos year) month day
    × (days_from_civil (pos year) month day ≡ pos (m / 86400))) × Q (shown m year month day)

shows_known : (m : ℕ) (Q : List ℕ → Type 0) → ((c : List ℕ) → IsKnown (Q c))
    → IsKnown (ShowsOf m Q)
shows_known m Q known = elim (up_to 9999 (λ y. UpTo 12 (λ month. UpTo 31 (IsDayOf m Q y month)))
    (λ y. up_to 12 (λ month. UpTo 31 (IsDayOf m Q y month))
    (λ month. up_to 31 (IsDayOf m Q y month) (λ day. both _ _
    (both _ _ (date_known y month day)
    (same_integer (days_from_civil (pos y) month day) (pos (m / 86400))))
    (known (shown m y month day)))))) [
      | inl found ↦
          let year = found.0 in
          let month = found.2.0 in
          let day = found.2.2.0 in
          let is = found.2.2.2 in
          inl (
            shown m year month day,
            record {
              year = year;
              month = month;
              day = day;
              date = is.0.0;
              is_day = is.0.1;
              is_text = refl;
            },
            is.1,
          )
      | inr none ↦ inr (λ x.
          let s = x.1 in
          let small = months_small m x.0 s in
          none (
            s.year,
            year_small m x.0 s,
            (s.month, small.0, (s.day, small.1, ((s.date, s.is_day), subst Q s.is_text x.2))),
          ))
    ]

-- the text is these first bytes of a civil time, and with the rest it shows it
abbrev IsSpelled : List ℕ → List ℕ → ℕ → List ℕ → Type 0
IsSpelled rest text between front =
    (text ≡ joined_by between front ++ []) ⊎ (text ≡ joined_by between front ++ codes "Z")

abbrev IsTimeAt : List ℕ → List ℕ → ℕ → List ℕ → Type 0
IsTimeAt rest text n civil = (take n civil ++ rest ≡ civil)
    × (IsSpelled rest text 84 (take n civil) ⊎ IsSpelled rest text 32 (take n civil))

spelled_known : (rest text front : List ℕ) (between : ℕ)
    → IsKnown (IsSpelled rest text between front)
spelled_known rest text front between =
    either _ _ (same_text text (joined_by between front ++ []))
    (same_text text (joined_by between front ++ codes "Z"))

spelled_so : (rest text civil : List ℕ) (m between : ℕ) → IsShownAs m (civil ++ rest)
    → IsBetween between → IsSpelled rest text between civil → WritesTime rest text m
spelled_so rest text civil m between s is (inl bare) = record {
  civil = civil;
  shown = s;
  between = between;
  is_between = is;
  zone = [];
  utc = inl refl;
  spelled = bare;
}
spelled_so rest text civil m between s is (inr zoned) = record {
  civil = civil;
  shown = s;
  between = between;
  is_between = is;
  zone = codes "Z";
  utc = inr refl;
  spelled = zoned;
}

is_spelled : (rest text civil zone : List ℕ) (between : ℕ) → (zone ≡ []) ⊎ (zone ≡ codes "Z")
    → text ≡ joined_by between civil ++ zone → IsSpelled rest text between civil
is_spelled rest text civil zone between (inl bare) e =
    inl (e ∙ ap (λ (zone : List ℕ). joined_by between civil ++ zone) bare)
is_spelled rest text civil zone between (inr zoned) e =
    inr (e ∙ ap (λ (zone : List ℕ). joined_by between civil ++ zone) zoned)

-- so many bytes of the civil time stand in the text
time_in : (rest text : List ℕ) (m n : ℕ) → n + length rest ≡ 19 → (w : WritesTime rest text m)
    → IsTimeAt rest text n (w.civil ++ rest)
time_in rest text m n all w =
    let long = time-length rest text m w in
    let same : take n (w.civil ++ rest) ≡ w.civil =
    take-append-le n w.civil rest (omega (arith, all, long))
    ∙ take_all n w.civil (omega (arith, all, long)) in
    let spelled = is_spelled rest text w.civil w.zone w.between w.utc w.spelled in (
      ap (λ l. l ++ rest) same,
      subst (λ l. IsSpelled rest text 84 l ⊎ IsSpelled rest text 32 l) (sym same)
          (elim w.is_between [
            | inl t ↦ inl (subst (λ b. IsSpelled rest text b w.civil) t spelled)
            | inr space ↦ inr (subst (λ b. IsSpelled rest text b w.civil) space spelled)
          ]),
    )

second_known : (rest text : List ℕ) (m n : ℕ) → n + length rest ≡ 19
    → IsKnown (WritesTime rest text m)
second_known rest text m n all = elim (shows_known m (IsTimeAt rest text n)
    (λ c. both _ _ (same_text (take n c ++ rest) c)
    (either _ _ (spelled_known rest text (take n c) 84)
    (spelled_known rest text (take n c) 32)))) [
      | inl found ↦
          let front = take n found.0 in
          let shown = subst (IsShownAs m) (sym found.2.0) found.1 in
          inl (elim found.2.1 [
            | inl t ↦ spelled_so rest text front m 84 shown (inl refl) t
            | inr space ↦ spelled_so rest text front m 32 shown (inr refl) space
          ])
      | inr none ↦ inr (λ w. none (w.civil ++ rest, w.shown, time_in rest text m n all w))
    ]

day_known : (text : List ℕ) (m : ℕ) → IsKnown (IsShownAs m text)
day_known text m = elim (shows_known m (λ c. c ≡ text) (λ c. same_text c text)) [
  | inl found ↦ inl (subst (IsShownAs m) found.2 found.1)
  | inr none ↦ inr (λ s. none (text, s, refl))
]

-- whether a text names a moment, and which
pub time_known : (of_day of_minute : List ℕ) → length of_minute ≡ 3 → (text : List ℕ)
    → ((m : ℕ) × NamesMoment of_day of_minute text m)
    ⊎ ((m : ℕ) → NamesMoment of_day of_minute text m → ⊥)
time_known of_day of_minute three text = elim (up_to last_moment
    (λ m. WritesMoment text m ⊎ (WritesTime [] text m ⊎ (WritesTime of_minute text m
    ⊎ IsShownAs m (text ++ of_day))))
    (λ m. either _ _ (moment_known text m)
    (either _ _ (second_known [] text m 19 (omega arith))
    (either _ _ (second_known of_minute text m 16 (omega (arith, three)))
    (day_known (text ++ of_day) m))))) [
      | inl found ↦ inl (found.0, (found.1, found.2))
      | inr none ↦ inr (λ m named. none (m, named.0, named.1))
    ]

same_civil : (rest text : List ℕ) (a b : ℕ) → length rest ≤ 3 → (w : WritesTime rest text a)
    → (v : WritesTime rest text b) → w.civil ≡ v.civil
same_civil rest text a b short w v =
    let one = time-length rest text a w in
    let other = time-length rest text b v in
    sym (joined-back a w.between w.civil rest w.shown (omega (arith, one, short)))
    ∙ ap (λ t. set t 10 32)
    (sym (first_bytes rest text a (length w.civil) w refl)
    ∙ first_bytes rest text b (length w.civil) v (omega (arith, one, other)))
    ∙ joined-back b v.between v.civil rest v.shown (omega (arith, other, short))

same_moment : (rest text : List ℕ) (a b : ℕ) → length rest ≤ 3 → WritesTime rest text a
    → WritesTime rest text b → a ≡ b
same_moment rest text a b short w v =
    (same_time a b (w.civil ++ rest) (v.civil ++ rest) [] [] w.shown v.shown
    (ap (λ c. (c ++ rest) ++ []) (same_civil rest text a b short w v))).moment

-- it names at most one
module _ (day minute text : List ℕ) (nine : length day ≡ 9) (three : length minute ≡ 3)
  where
    -- the forms of a text, of which it has one
    writes_alone : (a b : ℕ) → WritesMoment text a → NamesMoment day minute text b → a ≡ b
    writes_alone a b one named = elim named.1 [
      | inl other ↦ one.value ∙ sym other.value
      | inr (inl other) ↦
          absurd (digits_write_no_time [] text b (omega arith) one.digits.1 other)
      | inr (inr (inl other)) ↦
          absurd (digits_write_no_time minute text b (omega (arith, three)) one.digits.1 other)
      | inr (inr (inr other)) ↦ absurd (digits_show_none text day b one.digits.1 nine other)
    ]

    no_second_and_minute : (a b : ℕ) → WritesTime [] text a → WritesTime minute text b → ⊥
    no_second_and_minute a b one other =
        omega (arith, (time-long [] text a one).least, (time-long minute text b other).most, three)

    no_date_and_time : (rest : List ℕ) (a b : ℕ) → length rest ≤ 3 → WritesTime rest text a
        → IsShownAs b (text ++ day) → ⊥
    no_date_and_time rest a b short one other =
        omega (
          arith,
          short,
          nine,
          (time-long rest text a one).least,
          shown-length b (text ++ day) other,
          length-append text day,
        )

    pub time_once : (a b : ℕ) → NamesMoment day minute text a
        → NamesMoment day minute text b → a ≡ b
    time_once a b one other = elim one.1 [
      | inl written ↦ writes_alone a b written other
      | inr (inl w) ↦ elim other.1 [
        | inl written ↦ sym (writes_alone b a written one)
        | inr (inl v) ↦ same_moment [] text a b (omega arith) w v
        | inr (inr (inl v)) ↦ absurd (no_second_and_minute a b w v)
        | inr (inr (inr s)) ↦ absurd (no_date_and_time [] a b (omega arith) w s)
      ]
      | inr (inr (inl w)) ↦ elim other.1 [
        | inl written ↦ sym (writes_alone b a written one)
        | inr (inl v) ↦ absurd (no_second_and_minute b a v w)
        | inr (inr (inl v)) ↦ same_moment minute text a b (omega (arith, three)) w v
        | inr (inr (inr s)) ↦ absurd (no_date_and_time minute a b (omega (arith, three)) w s)
      ]
      | inr (inr (inr s)) ↦ elim other.1 [
        | inl written ↦ sym (writes_alone b a written one)
        | inr (inl v) ↦ absurd (no_date_and_time [] b a (omega arith) v s)
        | inr (inr (inl v)) ↦ absurd (no_date_and_time minute b a (omega (arith, three)) v s)
        | inr (inr (inr t)) ↦
            (same_time a b (text ++ day) (text ++ day) [] [] s t refl).moment
      ]
    ]
