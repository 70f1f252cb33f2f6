-- A full text with no error stays letter for letter.
use Rattle.std.proofs.Common.{◌≡◌, ◌≢◌, ℕ, zero, suc, ◌+◌, ◌-◌, ◌<◌, ◌≤◌, inl, inr, Bool, true, false}
use Rattle.std.proofs.Common.{if◌then◌else◌, Option, Some, None, unwrap_or, is_some, List, [], ◌∷◌, ◌++◌}
use Rattle.std.proofs.Common.{length, take, drop, get_or, refl, sym, ap, ap₂, ◌∙◌, subst, arith}
use Rattle.std.proofs.Common.{drop-cons, length-append, lit≤, cond}
use Rattle.std.specs.Prelude.{slice_get, ◌==◌}
use Rattle.std.proofs.Math.Seq.{take-length, take-suc}
use Rattle.std.proofs.Common.{eqb}
use Rattle.std.proofs.lemmas.Bool.{agree_below_at, eq-eqb}
use Rattle.std.proofs.lemmas.Bool.Decides.{leb_tells}
use Rattle.std.proofs.lemmas.List.{length-take, take-append-drop, take-append-le, get_or-take}
use Rattle.std.proofs.lemmas.List.{get_or-append-add}
use Rattle.std.proofs.lemmas.List.Sums.{sum_by-append, sum_by-cons}
use Rattle.std.proofs.lemmas.Option.{slice_get_within, slice_get-get_or}
use Rattle.nx_code.specs.Reading.{Reception, asterisk, combination, idle, lost, shift_after_all, text}
use Rattle.nx_code.specs.declared.shifts.Shift.TheVariants.{Figures}
use Rattle.nx_code.proofs.lemmas.Reading.{text-append}
use Rattle.nx_envelope.specs.Copies.{Ending, ending_of, errors_of, less_newline}
use Rattle.nx_envelope.specs.Ending.{EndsAtMarker}
use Rattle.nx_envelope.specs.Header.{EndsWith, EndsWithMarker, end_marker}
use Rattle.nx_envelope.specs.declared.found.How.TheVariants.{Cut, Full, Long}
use Rattle.nx_envelope.specs.declared.identity.Identity.{Identity}
use Rattle.nx_envelope.proofs.lemmas.copies.Endings.{ended_both, open_both}
use Rattle.nx_envelope.proofs.lemmas.copies.RawTexts.{ending_of-nil}
use Rattle.nx_combine.specs.Joining.{joined}
use Rattle.nx_combine.specs.Laws.{AreAllTakenAlike, AreTakenAlike, IsWhole, LosesNoIdle, joined_where}
use Rattle.nx_combine.specs.PositionEnds.{closed, ending_by, has_ended, raw_text_of}
use Rattle.nx_combine.proofs.lemmas.Joined.{length-joined, slice_get-joined}
use Rattle.nx_combine.specs.private.laws.ReadOn.{ending-more, ending-positions, text_of}
use Rattle.nx_combine.proofs.lemmas.Worse.{combination_stays}

-- An asterisk in a text that ends full is an error of it.

-- a list with an asterisk has errors
has_error : (bytes : List ℕ) (k : ℕ) → k < length bytes → get_or bytes k 0 ≡ 42
    → 0 < errors_of bytes
has_error bytes k within is =
    let parts : bytes ≡ take k bytes ++ 42 ∷ drop (suc k) bytes =
    sym (take-append-drop k bytes)
    ∙ ap (λ l. take k bytes ++ l) (drop-cons bytes k 0 within)
    ∙ ap (λ x. take k bytes ++ x ∷ drop (suc k) bytes) is in
    let f : ℕ → ℕ = λ b. cond (b == asterisk) 1 0 in
    let whole : errors_of bytes ≡ errors_of (take k bytes) + (1 + errors_of (drop (suc k) bytes)) =
    ap errors_of parts
    ∙ sum_by-append f (take k bytes) (42 ∷ drop (suc k) bytes)
    ∙ ap (λ n. errors_of (take k bytes) + n) (sum_by-cons f 42 (drop (suc k) bytes)) in
    omega arith

either_newline : (c : Bool) (b : ℕ) (front rest : List ℕ)
    → (if c then front ++ 42 ∷ rest else b ∷ (front ++ 42 ∷ rest))
    ≡ (if c then front else b ∷ front) ++ 42 ∷ rest
either_newline true b front rest = refl
either_newline false b front rest = refl

-- behind an asterisk the newline at the beginning is no matter
less_newline-star : (front rest : List ℕ)
    → less_newline (front ++ 42 ∷ rest) ≡ less_newline front ++ 42 ∷ rest
less_newline-star [] rest = refl
less_newline-star (b ∷ front) rest = either_newline (b == 10) b front rest

-- no letter of the marker is an asterisk
abbrev four_n : List ℕ
four_n = 78 ∷ 78 ∷ 78 ∷ 78 ∷ []

no_star : (k : ℕ) → k < 4 → get_or four_n k 0 ≡ 42 → ⊥
no_star k low is =
    let same : eqb (get_or four_n k 0) 42 ≡ false =
    agree_below_at (λ n. eqb (get_or four_n n 0) 42) (λ n. false) 4 k refl low in
    absurd (let contra : true ≡ false = sym (eq-eqb (get_or four_n k 0) 42 is) ∙ same in cc)

-- the byte behind a beginning
get_or-behind : (front rest : List ℕ) (b : ℕ) → get_or (front ++ b ∷ rest) (length front) 0 ≡ b
get_or-behind [] rest b = refl
get_or-behind (x ∷ front) rest b = get_or-behind front rest b

-- a marker ends behind an asterisk that stands behind a text without an end: so the asterisk is in
-- the text that is found
star_in : (raw rest : List ℕ) (ending : Ending) → ending_of raw ≡ None
    → EndsAtMarker (raw ++ 42 ∷ rest) ending → ending.how ≡ Full → 0 < errors_of ending.text
star_in raw rest ending unended ends full =
    let whole : List ℕ = raw ++ 42 ∷ rest in
    let none = (open_both raw).0 unended in
    let at : ℕ = ends.place in
    let marker : EndsWith (take at whole) end_marker =
    subst (EndsWithMarker (take at whole)) full ends.marker in
    elim (leb_tells at (length raw)) [
      | inl early ↦
          let same : take at whole ≡ take at raw = take-append-le at raw (42 ∷ rest) early.1 in
          absurd (none.unmarked at Full early.1 ends.in_reach
          (subst (λ t. EndsWith t end_marker) same marker))
      | inr late ↦
          let cut = length-take at whole in
          let long = length-append marker.front end_marker in
          let same_long = ap length marker.spelled in
          let here : get_or (take at whole) (length raw) 0 ≡ 42 =
          get_or-take at whole (length raw) 0 (omega (arith, late.1))
          ∙ get_or-behind raw rest 42 in
          elim (leb_tells (length marker.front) (length raw)) [
            | inl behind ↦
                let k : ℕ = length raw - length marker.front in
                let there : length raw ≡ length marker.front + k = omega (arith, behind.1) in
                let letter : get_or end_marker k 0 ≡ 42 =
                sym (get_or-append-add marker.front end_marker k 0)
                ∙ ap (λ n. get_or (marker.front ++ end_marker) n 0) (sym there)
                ∙ ap (λ l. get_or l (length raw) 0) (sym marker.spelled)
                ∙ here in
                absurd (no_star k (omega (arith, late.1, behind.1)) letter)
            | inr before ↦
                let found : ending.text ≡ take (at - 4) whole = ends.text in
                let shorter = length-take (at - 4) whole in
                let inside : get_or (take (at - 4) whole) (length raw) 0 ≡ 42 =
                get_or-take (at - 4) whole (length raw) 0 (omega (arith, late.1, before.1))
                ∙ get_or-behind raw rest 42 in
                rw found (has_error (take (at - 4) whole) (length raw)
                (omega (arith, late.1, before.1)) inside)
          ]
    ]

-- a full ending is by a marker
by_marker : (raw : List ℕ) (ending : Ending) → ending_of raw ≡ Some ending → ending.how ≡ Full
    → EndsAtMarker raw ending
by_marker raw ending is full =
    elim ((ended_both raw ending).0 is) [
      | inl marker ↦ marker
      | inr long ↦ absurd (let contra : Long ≡ Full = sym long.how ∙ full in cc)
    ]

-- Positions that give a full text with no error.

-- some identity
pub any_identity : Identity
any_identity = record {
  b1 = record { byte = 65; in_range = (lit≤ tt, lit≤ tt) };
  b2 = record { byte = 65; in_range = (lit≤ tt, lit≤ tt) };
  number = 1;
  two_digits = lit≤ tt;
}

-- the text that they give is one that has ended
record EndsSo (positions : List Reception) : Type 0 where
  ending : Ending
  is : ending_of (less_newline (text positions Figures)) ≡ Some ending
  full : ending.how ≡ Full
  none : errors_of ending.text ≡ 0

ends_so_at : (positions : List Reception) (o : Option Ending)
    → ending_of (less_newline (text positions Figures)) ≡ o
    → (unwrap_or o (closed (less_newline (text positions Figures)))).how ≡ Full
    → errors_of (unwrap_or o (closed (less_newline (text positions Figures)))).text ≡ 0
    → EndsSo positions
ends_so_at positions None is full none = absurd (let contra : Cut ≡ Full = full in cc)
ends_so_at positions (Some ending) is full none =
    record { ending = ending; is = is; full = full; none = none }

ends_so : (positions : List Reception) → IsWhole positions → EndsSo positions
unfolding ending_by raw_text_of
ends_so positions whole =
    ends_so_at positions (ending_of (less_newline (text positions Figures))) refl whole.full
    whole.no_error

not_some : (o : Option Ending) → is_some o ≡ false → o ≡ None
not_some None is = refl
not_some (Some ending) is = cc

pub yes_some : (o : Option Ending) → is_some o ≡ true → (ending : Ending) × (o ≡ Some ending)
yes_some None is = cc
yes_some (Some ending) is = (ending, refl)

-- a beginning of them that has not ended
unended : (positions : List Reception) (n : ℕ) → has_ended (take n positions) ≡ false
    → ending_of (less_newline (text_of positions n)) ≡ None
unfolding raw_text_of
unended positions n is = not_some (ending_of (less_newline (text_of positions n))) is

pub ended : (positions : List Reception) (n : ℕ) → has_ended (take n positions) ≡ true
    → (ending : Ending) × (ending_of (less_newline (text_of positions n)) ≡ Some ending)
unfolding raw_text_of
ended positions n is = yes_some (ending_of (less_newline (text_of positions n))) is

has_ended-some : (positions : List Reception) (ending : Ending)
    → ending_of (less_newline (text positions Figures)) ≡ Some ending
    → has_ended positions ≡ true
unfolding raw_text_of
has_ended-some positions ending is = ap is_some is

-- behind one that has not ended no position is lost
not_lost : (positions : List Reception) (n : ℕ) → EndsSo positions → n < length positions
    → has_ended (take n positions) ≡ false → get_or positions n lost ≢ lost
not_lost positions n so within open_still is =
    let front : List Reception = take n positions in
    let parts : positions ≡ front ++ lost ∷ drop (suc n) positions =
    sym (take-append-drop n positions)
    ∙ ap (λ l. front ++ l) (drop-cons positions n lost within)
    ∙ ap (λ x. front ++ x ∷ drop (suc n) positions) is in
    let rest : List ℕ = text (drop (suc n) positions) (shift_after_all front Figures) in
    let spelled : text positions Figures ≡ text front Figures ++ 42 ∷ rest =
    ap (λ l. text l Figures) parts ∙ text-append front (lost ∷ drop (suc n) positions) Figures in
    let raw : less_newline (text positions Figures) ≡ less_newline (text front Figures) ++ 42 ∷ rest
    = ap less_newline spelled ∙ less_newline-star (text front Figures) rest in
    let marker : EndsAtMarker (less_newline (text front Figures) ++ 42 ∷ rest) so.ending =
    by_marker (less_newline (text front Figures) ++ 42 ∷ rest) so.ending
    (ap ending_of (sym raw) ∙ so.is) so.full in
    let some = star_in (less_newline (text front Figures)) rest so.ending
    (unended positions n open_still) marker so.full in
    let none = so.none in
    omega arith

-- What joining leaves as it is.

stays_if : (first second : List Reception) (n : ℕ) (x : Reception) → slice_get first n ≡ Some x
    → AreAllTakenAlike first second → LosesNoIdle first second → x ≢ lost
    → slice_get (joined first second) n ≡ Some x
stays_if first second n (combination number) there alike keeps some =
    combination_stays first second n number alike there
stays_if first second n lost there alike keeps some = absurd (some refl)
stays_if first second n idle there alike keeps some =
    slice_get-joined first second n
    ∙ ap (λ o. joined_where o (slice_get second n)) there
    ∙ idle_stays (slice_get second n) (λ y is. alike n idle y there is) (keeps n there) where
      idle_stays : (o : Option Reception) → ((y : Reception) → o ≡ Some y → AreTakenAlike idle y)
          → (o ≡ Some lost → ⊥) → joined_where (Some idle) o ≡ Some idle
      idle_stays None alike keeps = refl
      idle_stays (Some (combination number)) alike keeps = absurd (alike (combination number) refl)
      idle_stays (Some idle) alike keeps = refl
      idle_stays (Some lost) alike keeps = absurd (keeps refl)

get_or-of : (xs : List Reception) (n : ℕ) (x d : Reception) → slice_get xs n ≡ Some x
    → get_or xs n d ≡ x
get_or-of xs n x d is =
    let within = slice_get_within xs n x is in
    let both : Some (get_or xs n d) ≡ Some x = sym (slice_get-get_or xs n d within) ∙ is in
    cc

-- one more position stays, behind a beginning that stays and has not ended
one_more : (first second : List Reception) (n : ℕ) → EndsSo first → AreAllTakenAlike first second
    → LosesNoIdle first second → n < length first → has_ended (take n first) ≡ false
    → take n (joined first second) ≡ take n first
    → take (suc n) (joined first second) ≡ take (suc n) first
one_more first second n so alike keeps within open_still same =
    let x : Reception = get_or first n lost in
    let there : slice_get first n ≡ Some x = slice_get-get_or first n lost within in
    let here = stays_if first second n x there alike keeps
    (not_lost first n so within open_still) in
    let long = length-joined first second in
    take-suc (joined first second) n lost (omega arith)
    ∙ ap₂ (λ l y. l ++ y ∷ []) same (get_or-of (joined first second) n x lost here)
    ∙ sym (take-suc first n lost within)

grows : (positions : List Reception) (n : ℕ) → n < length positions
    → has_ended (take (suc n) positions) ≡ false → has_ended (take n positions) ≡ false
unfolding raw_text_of
grows positions n within is = go (has_ended (take n positions)) refl where
  go : (b : Bool) → has_ended (take n positions) ≡ b → has_ended (take n positions) ≡ false
  go false same = same
  go true same =
      let e = ended positions n same in
      let x : Reception = get_or positions n lost in
      let more : text_of positions (suc n)
      ≡ text_of positions n ++ text (x ∷ []) (shift_after_all (take n positions) Figures) =
      ap (λ l. text l Figures) (take-suc positions n lost within)
      ∙ text-append (take n positions) (x ∷ []) Figures in
      let after : ending_of (less_newline (text_of positions (suc n))) ≡ Some e.0 =
      ap (λ t. ending_of (less_newline t)) more
      ∙ ending-more any_identity (text_of positions n)
      (text (x ∷ []) (shift_after_all (take n positions) Figures)) e.0 e.1 in
      absurd (let contra : true ≡ false = sym (ap is_some after) ∙ is in cc)

stays_to : (first second : List Reception) (n : ℕ) → EndsSo first → AreAllTakenAlike first second
    → LosesNoIdle first second → n ≤ length first → has_ended (take n first) ≡ false
    → take n (joined first second) ≡ take n first
stays_to first second zero so alike keeps within open_still = refl
stays_to first second (suc n) so alike keeps within open_still =
    let before = grows first n (omega arith) open_still in
    one_more first second n so alike keeps (omega arith) before
    (stays_to first second n so alike keeps (omega arith) before)

-- the first beginning that has ended
record FirstEnded (positions : List Reception) : Type 0 where
  last : ℕ
  within : last < length positions
  before : has_ended (take last positions) ≡ false
  here : has_ended (take (suc last) positions) ≡ true

first_ended : (positions : List Reception) (n : ℕ) → n ≤ length positions
    → has_ended (take n positions) ≡ true → FirstEnded positions
unfolding raw_text_of
first_ended positions zero within is =
    absurd (let contra : false ≡ true = sym (ap is_some ending_of-nil) ∙ is in cc)
first_ended positions (suc n) within is =
    go (has_ended (take n positions)) refl (λ yes. first_ended positions n (omega arith) yes) where
      go : (b : Bool) → has_ended (take n positions) ≡ b
          → (has_ended (take n positions) ≡ true → FirstEnded positions) → FirstEnded positions
      go true same rest = rest same
      go false same rest = record { last = n; within = omega arith; before = same; here = is }

pub whole_stays : (first second : List Reception) → AreAllTakenAlike first second
    → LosesNoIdle first second → IsWhole first → ending_by (joined first second) ≡ ending_by first
whole_stays first second alike keeps whole =
    let so = ends_so first whole in
    let all : has_ended (take (length first) first) ≡ true =
    ap has_ended (take-length first) ∙ has_ended-some first so.ending so.is in
    let f = first_ended first (length first) (omega arith) all in
    let same = one_more first second f.last so alike keeps f.within f.before
    (stays_to first second f.last so alike keeps (omega (arith, f.within)) f.before) in
    let e = ended first (suc f.last) f.here in
    let there : ending_of (less_newline (text_of (joined first second) (suc f.last))) ≡ Some e.0 =
    ap (λ l. ending_of (less_newline (text l Figures))) same ∙ e.1 in
    ending-positions any_identity (joined first second) (suc f.last) e.0 there
    ∙ sym (ending-positions any_identity first (suc f.last) e.0 e.1)
