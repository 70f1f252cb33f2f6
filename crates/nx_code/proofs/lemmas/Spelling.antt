-- Spellings of more characters, and that a text has one spelling.
use Rattle.std.proofs.Common.{◌≡◌, ◌≢◌, ◌⊎◌, ℕ, ◌+◌, ◌<◌, ◌≤◌, Bool, true, false, cond, ◌&&◌, ◌||◌}
use Rattle.std.proofs.Common.{not, eqb, List, [], ◌∷◌, ◌++◌, length, get_or, map, Option, Some}
use Rattle.std.proofs.Common.{None, inl, inr, refl, sym, ap, ◌∙◌, subst, arith, length-append}
use Rattle.std.specs.List.{position, position_or_len, slice_get}
use Rattle.std.proofs.lemmas.List.Sums.{fails_before_first}
use Rattle.std.proofs.lemmas.List.{map-append}
use Rattle.std.specs.Option.{is_some}
use Rattle.std.proofs.lemmas.Bool.{agree_below_at, and_parts, eqb-true, ne_eqb, false≢true}
use Rattle.std.proofs.lemmas.Bool.{not-true, both_ways, eq-eqb, cases_lt, lt-ltb, cond-true}
use Rattle.nx_code.specs.Table.{table, row_of}
use Rattle.nx_code.specs.Reading.{combination, character_of, shift_set, shift_after}
use Rattle.nx_code.specs.Reading.{shift_after_all, text, holds_in}
use Rattle.nx_code.specs.declared.shifts.Case.{Case}
use Rattle.nx_code.specs.declared.shifts.Case.TheVariants as cases
use Rattle.nx_code.specs.Spelling.{other, IsOnlyIn, Fits, EachFits, Spells}
use Rattle.nx_code.specs.declared.shifts.Shift.{Shift}
use Rattle.nx_code.specs.declared.shifts.Shift.TheVariants.{Letters, Figures}
use Rattle.nx_code.proofs.lemmas.Reading.{text-append, shift_after_all-append}
use Rattle.nx_code.proofs.lemmas.Character.{if_some, if_some-at}

-- the first combination of some, if there is one
abbrev pub first_of : List ℕ → Option ℕ
first_of numbers = slice_get numbers 0

-- ---- what prints is no shift, no carriage return and no blank

abbrev pub not_mark : ℕ → Bool
not_mark n = not (eqb n 27) && (not (eqb n 29) && (not (eqb n 30) && not (eqb n 32)))

printed-mark : (shift : Shift) (n : ℕ) → n < 33
    → if_some (λ c. not_mark n) (character_of n shift) ≡ true
unfolding character_of row_of table
printed-mark Letters n h =
    agree_below_at (λ k. if_some (λ c. not_mark k) (character_of k Letters)) (λ _. true) 33 n refl h
printed-mark Figures n h =
    agree_below_at (λ k. if_some (λ c. not_mark k) (character_of k Figures)) (λ _. true) 33 n refl h

-- only the line feed prints a newline
pub printed-newline : (shift : Shift) (n : ℕ) → n < 33
    → if_some (λ c. not (eqb c 10) || eqb n 28) (character_of n shift) ≡ true
unfolding character_of row_of table
printed-newline Letters n h =
    agree_below_at (λ k. if_some (λ c. not (eqb c 10) || eqb k 28) (character_of k Letters))
    (λ _. true) 33 n refl h
printed-newline Figures n h =
    agree_below_at (λ k. if_some (λ c. not (eqb c 10) || eqb k 28) (character_of k Figures))
    (λ _. true) 33 n refl h

not_eqb : (n m : ℕ) → not (eqb n m) ≡ true → n ≢ m
not_eqb n m h e = both_ways (eqb n m) (not-true (eqb n m) h)
    (subst (λ k. eqb n k ≡ true) e (eq-eqb n n refl))

record IsNoMark (n : ℕ) : Type 0 where
  pub return : n ≢ 27
  pub letters : n ≢ 29
  pub figures : n ≢ 30
  pub blank : n ≢ 32

IsNoMark-not_mark : (n : ℕ) → not_mark n ≡ true → IsNoMark n
IsNoMark-not_mark n h =
    let a = and_parts (not (eqb n 27)) _ h in
    let b = and_parts (not (eqb n 29)) _ a.1 in
    let c = and_parts (not (eqb n 30)) _ b.1 in
    record {
      return = not_eqb n 27 a.0;
      letters = not_eqb n 29 b.0;
      figures =
          not_eqb n 30 c.0;
      blank = not_eqb n 32 c.1;
    }

IsNoMark-printed : (shift : Shift) (n c : ℕ) → n ≤ 32 → character_of n shift ≡ Some c → IsNoMark n
IsNoMark-printed shift n c high h =
    IsNoMark-not_mark n (if_some-at (λ d. not_mark n) (character_of n shift) c
    (printed-mark shift n (omega arith)) h)

pub shift_set-None : (n : ℕ) → n ≢ 29 → n ≢ 30 → shift_set (combination n) ≡ None
shift_set-None n no_letters no_figures =
    let letters = ne_eqb n 29 no_letters in
    let figures = ne_eqb n 30 no_figures in
    rw (letters, figures) refl

-- ---- how each kind fits

pub fits_character : (shift : Shift) (n c : ℕ) (rest : List ℕ) → 1 ≤ n → n ≤ 32
    → character_of n shift ≡ Some c → first_of rest ≢ Some 28 → Fits shift n rest
fits_character shift n c rest low high h begins =
    let plain = IsNoMark-printed shift n c high h in
    record {
      from_one = low;
      to_thirty_two = high;
      not_silent = λ s. let clash : Some c ≡ None = sym h ∙ s.prints_nothing in cc;
      carriage_return = (λ e. absurd (plain.return e), λ e. absurd (begins e));
      needed = λ s e. let none : Some s ≡ None =
          sym e ∙ shift_set-None n plain.letters plain.figures in cc;
    }

pub fits_return : (shift : Shift) (rest : List ℕ) → Fits shift 27 (28 ∷ rest)
fits_return shift rest = record {
  from_one = omega arith;
  to_thirty_two = omega arith;
  not_silent = λ s. s.no_return refl;
  carriage_return = (λ _. refl, λ _. refl);
  needed = λ s e. cc;
}

-- the number of the combination that sets a shift
abbrev pub number_of_shift : Shift → ℕ
number_of_shift Letters = 29
number_of_shift Figures = 30

chosen : (a b : Bool) (s : Shift) → cond a (Some Letters) (cond b (Some Figures) None) ≡ Some s
    → ((a ≡ true) × (s ≡ Letters)) ⊎ ((b ≡ true) × (s ≡ Figures))
chosen true b s h = let e : Letters ≡ s = cc in inl (refl, sym e)
chosen false true s h = let e : Figures ≡ s = cc in inr (refl, sym e)
chosen false false s h = cc

pub number_of_shift-set : (k : ℕ) (s : Shift) → shift_set (combination k) ≡ Some s
    → k ≡ number_of_shift s
number_of_shift-set k s h =
    elim (chosen (eqb k 29) (eqb k 30) s h) [
      | inl e ↦ eqb-true k 29 e.0 ∙ sym (ap number_of_shift e.1)
      | inr e ↦ eqb-true k 30 e.0 ∙ sym (ap number_of_shift e.1)
    ]

not_number_of_shift : (s : Shift) → number_of_shift s ≢ 28
not_number_of_shift Letters e = omega arith
not_number_of_shift Figures e = omega arith

pub shift_set-number : (s : Shift) → shift_set (combination (number_of_shift s)) ≡ Some s
shift_set-number Letters = refl
shift_set-number Figures = refl

-- neither a carriage return nor a shift prints
pub printed-return : (shift : Shift) → character_of 27 shift ≡ None
unfolding character_of row_of table
printed-return Letters = refl
printed-return Figures = refl

pub printed-shift : (s shift : Shift) → character_of (number_of_shift s) shift ≡ None
unfolding character_of row_of table
printed-shift Letters Letters = refl
printed-shift Letters Figures = refl
printed-shift Figures Letters = refl
printed-shift Figures Figures = refl

pub printed-line_feed : (shift : Shift) → character_of 28 shift ≡ Some 10
unfolding character_of
printed-line_feed shift = refl

-- a character that is no newline is of no line feed
pub not_line_feed : (shift : Shift) (n c : ℕ) → character_of n shift ≡ Some c → c ≢ 10 → n ≢ 28
not_line_feed shift n c h no_newline e =
    let f : Some c ≡ Some 10 = sym h ∙ ap (λ k. character_of k shift) e ∙ printed-line_feed shift in
    let g : c ≡ 10 = cc in
    no_newline g

pub fits_shift : (s shift : Shift) (n c : ℕ) (rest : List ℕ) → s ≢ shift → character_of n s ≡ Some c
    → character_of n (other s) ≢ Some c → n ≢ 28 → Fits shift (number_of_shift s) (n ∷ rest)
fits_shift Letters shift n c rest differs h elsewhere line = record {
  from_one = omega arith;
  to_thirty_two = omega arith;
  not_silent = λ s. let clash = s.sets_no_shift in cc;
  carriage_return = (λ e. absurd (omega arith), λ e. let f : n ≡ 28 = cc in absurd (line f));
  needed = λ t e. let f : Letters ≡ t = cc in
      subst (λ r. (r ≢ shift) × IsOnlyIn r n) f
      (differs, (ap is_some h, λ g. elsewhere (sym g ∙ h)));
}
fits_shift Figures shift n c rest differs h elsewhere line = record {
  from_one = omega arith;
  to_thirty_two = omega arith;
  not_silent = λ s. let clash = s.sets_no_shift in cc;
  carriage_return = (λ e. absurd (omega arith), λ e. let f : n ≡ 28 = cc in absurd (line f));
  needed = λ t e. let f : Figures ≡ t = cc in
      subst (λ r. (r ≢ shift) × IsOnlyIn r n) f (differs, (ap is_some h, λ g. elsewhere (g ∙ h)));
}

-- ---- one character

not_first : (n : ℕ) → n ≡ 27 → Some n ≢ Some 28
not_first n e h = let f : n ≡ 28 = cc in omega arith

pub spells_newline : (shift : Shift) → Spells (10 ∷ []) shift (27 ∷ 28 ∷ [])
spells_newline shift = record {
  reads = rw (printed-return shift, printed-line_feed shift) refl;
  begins = not_first 27 refl;
  fits = (
    fits_return shift [],
    (
      fits_character shift 28 10 [] (omega arith) (omega arith) (printed-line_feed shift)
          (λ e. cc),
      tt,
    ),
  );
}

pub spells_here : (shift : Shift) (n c : ℕ) → 1 ≤ n → n ≤ 32 → character_of n shift ≡ Some c
    → c ≢ 10 → Spells (c ∷ []) shift (n ∷ [])
spells_here shift n c low high h no_newline = record {
  reads = rw h refl;
  begins = λ e. let f : n ≡ 28 = cc in not_line_feed shift n c h no_newline f;
  fits = (fits_character shift n c [] low high h (λ e. cc), tt);
}

pub after_character : (shift : Shift) (n c : ℕ) → n ≤ 32 → character_of n shift ≡ Some c
    → shift_after (combination n) shift ≡ shift
after_character shift n c high h = let plain = IsNoMark-printed shift n c high h in let none =
    shift_set-None n plain.letters plain.figures in rw none refl

pub after_shift : (s shift : Shift) → shift_after (combination (number_of_shift s)) shift ≡ s
after_shift Letters shift = refl
after_shift Figures shift = refl

pub other-differs : (shift : Shift) → other shift ≢ shift
other-differs Letters e = cc
other-differs Figures e = cc

pub other-other : (shift : Shift) → other (other shift) ≡ shift
other-other Letters = refl
other-other Figures = refl

pub differs-other : (s shift : Shift) → s ≢ shift → s ≡ other shift
differs-other Letters Letters h = absurd (h refl)
differs-other Letters Figures h = refl
differs-other Figures Letters h = refl
differs-other Figures Figures h = absurd (h refl)

pub spells_there : (s shift : Shift) (k n c : ℕ) → s ≡ other shift
    → shift_set (combination k) ≡ Some s → 1 ≤ n → n ≤ 32 → character_of n s ≡ Some c
    → character_of n shift ≢ Some c → c ≢ 10
    → Spells (c ∷ []) shift (k ∷ n ∷ [])
spells_there s shift k n c differs sets low high h elsewhere no_newline =
    let line = not_line_feed s n c h no_newline in
    let e = number_of_shift-set k s sets in
    let back : other s ≡ shift = ap other differs ∙ other-other shift in
    let here : Spells (c ∷ []) shift (number_of_shift s ∷ n ∷ []) = record {
      reads = rw (printed-shift s shift, after_shift s shift, h) refl;
      begins = λ f. let g : number_of_shift s ≡ 28 = cc in not_number_of_shift s g;
      fits = (
        fits_shift s shift n c [] (λ f. other-differs shift (sym differs ∙ f)) h
            (λ f. elsewhere (ap (character_of n) (sym back) ∙ f)) line,
        (rw (after_shift s shift) (fits_character s n c [] low high h (λ f. cc)), tt),
      );
    } in
    subst (λ m. Spells (c ∷ []) shift (m ∷ n ∷ [])) (sym e) here

pub after_there : (s shift : Shift) (k n c : ℕ) → shift_set (combination k) ≡ Some s → n ≤ 32
    → character_of n s ≡ Some c
    → s ≡ shift_after (combination n) (shift_after (combination k) shift)
after_there s shift k n c sets high h =
    rw sets (sym (after_character s n c high h))

-- what does not stand in a shift stands in the other
pub holds_in-other : (case : Case) (shift : Shift) → holds_in case shift ≡ false
    → holds_in case (other shift) ≡ true
holds_in-other cases.Letters Letters h = absurd (false≢true (sym h))
holds_in-other cases.Letters Figures h = refl
holds_in-other cases.Figures Letters h = refl
holds_in-other cases.Figures Figures h = absurd (false≢true (sym h))
holds_in-other cases.Either shift h = absurd (false≢true (sym h))

-- ---- spellings one after the other

-- the last combination fits before whatever does not begin with a line feed
Fits-before : (shift : Shift) (n : ℕ) (ys : List ℕ) → Fits shift n [] → first_of ys ≢ Some 28
    → Fits shift n ys
Fits-before shift n ys fits begins = record {
  from_one = fits.from_one;
  to_thirty_two = fits.to_thirty_two;
  not_silent = fits.not_silent;
  carriage_return = (λ e. let f = fits.carriage_return.0 e in cc, λ e. absurd (begins e));
  needed = λ s e. absurd (fits.needed s e).1;
}

-- a combination is asked only what follows it directly
Fits-first : (shift : Shift) (n m : ℕ) (xs ys : List ℕ) → Fits shift n (m ∷ xs)
    → Fits shift n (m ∷ ys)
Fits-first shift n m xs ys fits = record {
  from_one = fits.from_one;
  to_thirty_two = fits.to_thirty_two;
  not_silent = fits.not_silent;
  carriage_return = fits.carriage_return;
  needed = fits.needed;
}

pub EachFits-append : (shift : Shift) (xs ys : List ℕ) → EachFits shift xs
    → EachFits (shift_after_all (map combination xs) shift) ys → first_of ys ≢ Some 28
    → EachFits shift (xs ++ ys)
EachFits-append shift [] ys h k begins = k
EachFits-append shift (x ∷ []) ys h k begins = (Fits-before shift x ys h.0 begins, k)
EachFits-append shift (x ∷ (y ∷ xs)) ys h k begins = (
  Fits-first shift x y xs (xs ++ ys) h.0,
  EachFits-append (shift_after (combination x) shift)
      (y ∷ xs) ys h.1 k begins,
)

begins-append : (xs ys : List ℕ) → first_of xs ≢ Some 28 → first_of ys ≢ Some 28
    → first_of (xs ++ ys) ≢ Some 28
begins-append [] ys h k = k
begins-append (x ∷ xs) ys h k = h

pub Spells-append : (front back : List ℕ) (shift : Shift) (xs ys : List ℕ) → Spells front shift xs
    → Spells back (shift_after_all (map combination xs) shift) ys
    → Spells (front ++ back) shift (xs ++ ys)
Spells-append front back shift xs ys h k = record {
  reads =
      ap (λ l. text l shift) (map-append combination xs ys)
      ∙ text-append (map combination xs) (map combination ys) shift
      ∙ ap (λ l. l ++ text (map combination ys) (shift_after_all (map combination xs) shift))
      h.reads
      ∙ ap (λ l. front ++ l) k.reads;
  begins = begins-append xs ys h.begins k.begins;
  fits = EachFits-append shift xs ys h.fits k.fits k.begins;
}

pub shift_after_all-map_append : (xs ys : List ℕ) (shift : Shift)
    → shift_after_all (map combination (xs ++ ys)) shift
    ≡ shift_after_all (map combination ys) (shift_after_all (map combination xs) shift)
shift_after_all-map_append xs ys shift =
    ap (λ l. shift_after_all l shift) (map-append combination xs ys)
    ∙ shift_after_all-append (map combination xs) (map combination ys) shift

pub Spells-nil : (shift : Shift) → Spells [] shift []
Spells-nil shift = record { reads = refl; begins = λ e. cc; fits = tt }

-- one more character
pub Spells-push : (bytes : List ℕ) (c : ℕ) (from shift : Shift) (xs ys zs : List ℕ)
    → Spells bytes from xs → shift ≡ shift_after_all (map combination xs) from
    → Spells (c ∷ []) shift ys → zs ≡ xs ++ ys
    → Spells (bytes ++ c ∷ []) from zs
Spells-push bytes c from shift xs ys zs h e k z =
    subst (Spells (bytes ++ c ∷ []) from) (sym z)
    (Spells-append bytes (c ∷ []) from xs ys h (subst (λ s. Spells (c ∷ []) s ys) e k))

pub shift-push : (from shift after : Shift) (xs ys zs : List ℕ)
    → shift ≡ shift_after_all (map combination xs) from
    → after ≡ shift_after_all (map combination ys) shift → zs ≡ xs ++ ys
    → after ≡ shift_after_all (map combination zs) from
shift-push from shift after xs ys zs e a z =
    a ∙ ap (shift_after_all (map combination ys)) e ∙ sym (shift_after_all-map_append xs ys from)
    ∙ ap (λ l. shift_after_all (map combination l) from) (sym z)

-- where no element passes, none does at any place
pub position-None : (p : ℕ → Bool) (xs : List ℕ) (k d : ℕ) → position p xs ≡ None → k < length xs
    → p (get_or xs k d) ≡ false
position-None p xs k d h lt =
    elim (cases_lt (position_or_len p xs) (length xs)) [
      | inl below ↦ let there = lt-ltb (position_or_len p xs) (length xs) below in
          let found : Some (position_or_len p xs) ≡ None =
          sym (cond-true _ (Some (position_or_len p xs)) None there) ∙ h in
          cc
      | inr above ↦ fails_before_first p xs k d (omega arith)
    ]

-- how long the spelling of these bytes is, and the shift in force after it
pub record Extends (bytes : List ℕ) (from : Shift) (count : ℕ) (shift : Shift) : Type 0 where
  pub numbers : List ℕ
  pub spells : Spells bytes from numbers
  pub long : count ≡ length numbers
  pub after : shift ≡ shift_after_all (map combination numbers) from

-- one more character
pub Extends-push : (bytes : List ℕ) (c : ℕ) (from shift after : Shift) (count : ℕ) (ys : List ℕ)
    → Extends bytes from count shift → Spells (c ∷ []) shift ys
    → after ≡ shift_after_all (map combination ys) shift
    → Extends (bytes ++ c ∷ []) from (count + length ys) after
Extends-push bytes c from shift after count ys h k e = record {
  numbers = h.numbers ++ ys;
  spells = Spells-push bytes c from shift h.numbers ys (h.numbers ++ ys) h.spells h.after k refl;
  long = ap (λ n. n + length ys) h.long ∙ sym (length-append h.numbers ys);
  after = shift-push from shift after h.numbers ys (h.numbers ++ ys) h.after e refl;
}
