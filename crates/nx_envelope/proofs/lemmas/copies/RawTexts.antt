-- What stands behind a header when one more byte comes, and the markers in it.
use Rattle.std.proofs.Common.{◌≡◌, ◌≢◌, ℕ, ◌+◌, ◌-◌, ◌<◌, ◌≤◌, ◌==◌, ◌&&◌, Bool, true, false, inl}
use Rattle.std.proofs.Common.{inr, if◌then◌else◌, Some, None, List, [], ◌∷◌, ◌++◌, length, take}
use Rattle.std.proofs.Common.{drop, reverse, refl, sym, ap, ◌∙◌, arith, length-append, append_assoc}
use Rattle.std.specs.Prelude.{slice_index}
use Rattle.std.proofs.lemmas.Bool.Decides.{leb_tells, nat_tests}
use Rattle.std.proofs.lemmas.List.{reverse-append, take-append-le, take_all, drop-append-le}
use Rattle.std.proofs.lemmas.List.{drop_all}
use Rattle.nx_envelope.specs.Header.{Header, start_marker, end_marker}
use Rattle.nx_envelope.specs.private.Reading.{marker_read}
use Rattle.nx_envelope.specs.private.Backward.{marker_back, ends_in}
use Rattle.nx_envelope.specs.Copies.{Ending, less_newline, raw_text, ending_by_marker, beginnings}
use Rattle.nx_envelope.specs.Copies.{ending_of}
use Rattle.nx_envelope.specs.private.Within.{ending_within}
use Rattle.nx_envelope.specs.Finder.{is_empty}
use Rattle.nx_envelope.specs.private.Finding.{found_text}
use Rattle.nx_envelope.specs.declared.found.How.{How}
use Rattle.nx_envelope.specs.declared.found.How.TheVariants.{Full, Cut, Long}
use Rattle.nx_envelope.proofs.lemmas.headers.ReadAtTheEnd.{marker_read-back}
use Rattle.nx_envelope.proofs.lemmas.copies.Beginnings.{ending_of-within, long_at, not_long, ending-push}
use Rattle.nx_envelope.proofs.lemmas.copies.Beginnings.{ending_stays, ending-short, open_is_short}

pub empty_is : (xs : List ℕ) → is_empty xs ≡ true → xs ≡ []
empty_is [] e = refl
empty_is (x ∷ xs) e = cc

if-append : (c : Bool) (xs zs ys : List ℕ)
    → (if c then xs ++ ys else zs ++ ys) ≡ (if c then xs else zs) ++ ys
if-append true xs zs ys = refl
if-append false xs zs ys = refl

pub not_eq : (a b : ℕ) → a ≢ b → (a == b) ≡ false
not_eq a b apart = grind (arith, nat_tests)

less_newline-push : (xs : List ℕ) (b : ℕ) → (is_empty xs ≡ true → b ≢ 10)
    → less_newline (xs ++ b ∷ []) ≡ less_newline xs ++ b ∷ []
less_newline-push [] b apart = rw (not_eq b 10 (apart refl)) refl
less_newline-push (x ∷ xs) b apart = if-append (x == 10) xs (x ∷ xs) (b ∷ [])

-- one more byte behind a header, but for a newline directly there
pub raw-push : (text : List ℕ) (b : ℕ) (h : Header) → h.behind ≤ length text
    → (is_empty (drop h.behind text) ≡ true → b ≢ 10)
    → raw_text (text ++ b ∷ []) h ≡ raw_text text h ++ b ∷ []
unfolding raw_text
raw-push text b h within apart =
    ap less_newline (drop-append-le h.behind text (b ∷ []) within)
    ∙ less_newline-push (drop h.behind text) b apart

-- that newline is no part of it
pub raw-newline : (text : List ℕ) (b : ℕ) (h : Header) → h.behind ≤ length text
    → is_empty (drop h.behind text) ≡ true → b ≡ 10 → raw_text (text ++ b ∷ []) h ≡ []
unfolding raw_text
raw-newline text b h within e is =
    let none = empty_is (drop h.behind text) e in
    rw (drop-append-le h.behind text (b ∷ []) within, none, is) refl

pub raw-none : (text : List ℕ) (h : Header) → drop h.behind text ≡ [] → raw_text text h ≡ []
unfolding raw_text
raw-none text h e = rw e refl

ending_by_marker-none : ending_by_marker [] ≡ None
unfolding ending_by_marker marker_read
ending_by_marker-none = refl

pub ending_of-nil : ending_of [] ≡ None
unfolding beginnings
ending_of-nil = ending_of-within [] ∙ ending-short 4100 [] (omega arith)
    ∙ rw ending_by_marker-none refl

no_end : (text : List ℕ) (h : Header) (e : Ending) → drop h.behind text ≡ []
    → ending_of (raw_text text h) ≢ Some e
no_end text h e none is =
    let raw = raw-none text h none in
    let nil = ending_of-nil in
    let same : ending_of (raw_text text h) ≡ ending_of [] = ap ending_of raw in
    cc

ended_stays_within : (text : List ℕ) (b : ℕ) (h : Header) (e : Ending) → h.behind ≤ length text
    → (c : Bool) → is_empty (drop h.behind text) ≡ c → ending_of (raw_text text h) ≡ Some e
    → ending_of (raw_text (text ++ b ∷ []) h) ≡ Some e
ended_stays_within text b h e within true nil is = absurd (no_end text h e (empty_is _ nil) is)
ended_stays_within text b h e within false nil is =
    let more = raw-push text b h within
    (λ yes. absurd (let contra : true ≡ false = sym yes ∙ nil in cc)) in
    let within = sym (ending_of-within (raw_text text h)) ∙ is in
    ending_of-within (raw_text (text ++ b ∷ []) h)
    ∙ ap (ending_within 4100) more ∙ ending_stays 4100 (raw_text text h) b e within

-- a copy that has ended stays as it is
pub ended_stays : (text : List ℕ) (b : ℕ) (h : Header) (e : Ending)
    → ending_of (raw_text text h) ≡ Some e → ending_of (raw_text (text ++ b ∷ []) h) ≡ Some e
ended_stays text b h e is =
    elim (leb_tells h.behind (length text)) [
      | inl p ↦ ended_stays_within text b h e p.1 _ refl is
      | inr p ↦ absurd (no_end text h e (drop_all h.behind text (omega (arith, p.1))) is)
    ]

-- no letter of a marker
pub record IsPlain (b : ℕ) : Type 0 where
  pub no_n : b ≢ 78
  pub no_z : b ≢ 90
  pub no_c : b ≢ 67

first_false : (a b c d : Bool) → a ≡ false → (a && (b && (c && (d && true)))) ≡ false
first_false a b c d e = rw e refl

second_false : (a b c d : Bool) → b ≡ false → (a && (b && (c && (d && true)))) ≡ false
second_false true b c d e = rw e refl
second_false false b c d e = refl

third_false : (a b c d : Bool) → c ≡ false → (a && (b && (c && (d && true)))) ≡ false
third_false true true c d e = rw e refl
third_false true false c d e = refl
third_false false b c d e = refl

fourth_false : (a b c d : Bool) → d ≡ false → (a && (b && (c && (d && true)))) ≡ false
fourth_false true true true d e = rw e refl
fourth_false true true false d e = refl
fourth_false true false c d e = refl
fourth_false false b c d e = refl

ends_in-first : (a b c d : ℕ) (back : List ℕ) → slice_index back 3 ≢ a
    → ends_in (a ∷ b ∷ c ∷ d ∷ []) back ≡ false
ends_in-first a b c d back apart =
    first_false (slice_index back 3 == a) (slice_index back 2 == b) (slice_index back 1 == c)
    (slice_index back 0 == d) (not_eq (slice_index back 3) a apart)

ends_in-second : (a b c d : ℕ) (back : List ℕ) → slice_index back 2 ≢ b
    → ends_in (a ∷ b ∷ c ∷ d ∷ []) back ≡ false
ends_in-second a b c d back apart =
    second_false (slice_index back 3 == a) (slice_index back 2 == b) (slice_index back 1 == c)
    (slice_index back 0 == d) (not_eq (slice_index back 2) b apart)

ends_in-third : (a b c d : ℕ) (back : List ℕ) → slice_index back 1 ≢ c
    → ends_in (a ∷ b ∷ c ∷ d ∷ []) back ≡ false
ends_in-third a b c d back apart =
    third_false (slice_index back 3 == a) (slice_index back 2 == b) (slice_index back 1 == c)
    (slice_index back 0 == d) (not_eq (slice_index back 1) c apart)

ends_in-fourth : (a b c d : ℕ) (back : List ℕ) → slice_index back 0 ≢ d
    → ends_in (a ∷ b ∷ c ∷ d ∷ []) back ≡ false
ends_in-fourth a b c d back apart =
    fourth_false (slice_index back 3 == a) (slice_index back 2 == b) (slice_index back 1 == c)
    (slice_index back 0 == d) (not_eq (slice_index back 0) d apart)

no_marker : (back : List ℕ) → ends_in end_marker back ≡ false → ends_in start_marker back ≡ false
    → marker_back back ≡ None
no_marker back e f = rw (e, f) refl

-- a byte that is no letter of a marker parts the markers behind it from what stands before it
apart_back : (q s : List ℕ) (d : ℕ) → IsPlain d → marker_back (q ++ d ∷ s) ≡ marker_back q
apart_back [] s d p =
    no_marker (d ∷ s) (ends_in-fourth 78 78 78 78 (d ∷ s) p.no_n)
    (ends_in-fourth 90 67 90 67 (d ∷ s) p.no_c)
apart_back (w ∷ []) s d p =
    no_marker (w ∷ d ∷ s) (ends_in-third 78 78 78 78 (w ∷ d ∷ s) p.no_n)
    (ends_in-third 90 67 90 67 (w ∷ d ∷ s) p.no_z)
apart_back (w ∷ x ∷ []) s d p =
    no_marker (w ∷ x ∷ d ∷ s) (ends_in-second 78 78 78 78 (w ∷ x ∷ d ∷ s) p.no_n)
    (ends_in-second 90 67 90 67 (w ∷ x ∷ d ∷ s) p.no_c)
apart_back (w ∷ x ∷ y ∷ []) s d p =
    no_marker (w ∷ x ∷ y ∷ d ∷ s) (ends_in-first 78 78 78 78 (w ∷ x ∷ y ∷ d ∷ s) p.no_n)
    (ends_in-first 90 67 90 67 (w ∷ x ∷ y ∷ d ∷ s) p.no_z)
apart_back (w ∷ x ∷ y ∷ z ∷ q) s d p = refl

pub marker_apart : (front raw : List ℕ) (d : ℕ) → IsPlain d
    → marker_back (reverse (front ++ d ∷ raw)) ≡ marker_back (reverse raw)
marker_apart front raw d p =
    let whole : reverse (front ++ d ∷ raw) ≡ reverse (d ∷ raw) ++ reverse front =
    reverse-append front (d ∷ raw) in
    let inner : reverse (d ∷ raw) ≡ reverse raw ++ d ∷ [] = reverse-append (d ∷ []) raw in
    let joined : reverse (front ++ d ∷ raw) ≡ reverse raw ++ d ∷ reverse front =
    whole ∙ ap (λ (xs : List ℕ). xs ++ reverse front) inner
    ∙ append_assoc (reverse raw) (d ∷ []) (reverse front) in
    ap marker_back joined ∙ apart_back (reverse raw) (reverse front) d p

if_none : (a b : Bool) (x y : How) → (if a then Some x else (if b then Some y else None)) ≡ None
    → b ≡ false
if_none true b x y e = cc
if_none false true x y e = cc
if_none false false x y e = refl

-- without a marker there is no ZCZC
pub no_start : (back : List ℕ) → marker_back back ≡ None → ends_in start_marker back ≡ false
no_start back e = if_none (ends_in end_marker back) (ends_in start_marker back) Full Cut e

if_long : (a b : Bool) → (if a then Some Full else (if b then Some Cut else None)) ≢ Some Long
if_long true b e = cc
if_long false true e = cc
if_long false false e = cc

shorter : (raw : List ℕ) (b : ℕ)
    → take (length (raw ++ b ∷ []) - 4) (raw ++ b ∷ []) ≡ take (length raw - 3) raw
shorter raw b =
    let long : length (raw ++ b ∷ []) - 4 ≡ length raw - 3 =
    omega (arith, length-append raw (b ∷ [])) in
    rw long (take-append-le (length raw - 3) raw (b ∷ []) (omega arith))

pub found_is : (back raw : List ℕ) (b : ℕ) (how : How) → marker_back back ≡ Some how
    → found_text how raw b ≡ take (length raw - 3) raw
found_is back raw b Full e = refl
found_is back raw b Cut e = refl
found_is back raw b Long e =
    absurd (if_long (ends_in end_marker back) (ends_in start_marker back) e)

-- the marker that the byte completes ends the raw text
pub ending-marker : (raw : List ℕ) (b : ℕ) (how : How) → ending_of raw ≡ None
    → marker_back (reverse (raw ++ b ∷ [])) ≡ Some how
    → ending_of (raw ++ b ∷ []) ≡ Some (record { how = how; text = found_text how raw b })
unfolding ending_by_marker
ending-marker raw b how none m =
    let within = sym (ending_of-within raw) ∙ none in
    let push = ending_of-within (raw ++ b ∷ [])
    ∙ ending-push 4100 raw b (open_is_short 4100 raw within) in
    let marked = marker_read-back (raw ++ b ∷ []) in
    let text = sym (found_is (reverse (raw ++ b ∷ [])) raw b how m) in
    let short = shorter raw b in
    push ∙ rw (within, marked, m, short, text) refl

-- without one the 4,100th byte ends it
pub ending-long : (raw : List ℕ) (b : ℕ) → ending_of raw ≡ None
    → marker_back (reverse (raw ++ b ∷ [])) ≡ None → length raw + 1 ≡ 4100
    → ending_of (raw ++ b ∷ []) ≡ Some (record { how = Long; text = raw ++ b ∷ [] })
unfolding ending_by_marker
ending-long raw b none m full =
    let within = sym (ending_of-within raw) ∙ none in
    let push = ending_of-within (raw ++ b ∷ [])
    ∙ ending-push 4100 raw b (open_is_short 4100 raw within) in
    let marked = marker_read-back (raw ++ b ∷ []) in
    let long = long_at 4100 (raw ++ b ∷ []) (omega (arith, length-append raw (b ∷ []))) in
    let whole = take_all 4100 (raw ++ b ∷ []) (omega (arith, length-append raw (b ∷ []))) in
    push ∙ rw (within, marked, m, long, whole) refl

-- and below that it stays open
pub ending-open : (raw : List ℕ) (b : ℕ) → ending_of raw ≡ None
    → marker_back (reverse (raw ++ b ∷ [])) ≡ None → length raw + 1 < 4100
    → ending_of (raw ++ b ∷ []) ≡ None
unfolding ending_by_marker
ending-open raw b none m short =
    let within = sym (ending_of-within raw) ∙ none in
    let push = ending_of-within (raw ++ b ∷ [])
    ∙ ending-push 4100 raw b (open_is_short 4100 raw within) in
    let marked = marker_read-back (raw ++ b ∷ []) in
    let long = not_long 4100 (raw ++ b ∷ []) (omega (arith, length-append raw (b ∷ []))) in
    push ∙ rw (within, marked, m, long) refl
