-- Where the copy with a raw text ends.
use Rattle.std.proofs.Common.{◌≡◌, ℕ, ◌+◌, ◌-◌, ◌<◌, ◌≤◌, inl, inr}
use Rattle.std.proofs.Common.{Option, Some, None, List, [], ◌∷◌, ◌++◌, length, take}
use Rattle.std.proofs.Common.{reverse, refl, sym, ap, subst, ◌∙◌, arith, min, length-append}
use Rattle.std.specs.Option.{option_map, option_or}
use Rattle.std.proofs.lemmas.Bool.Decides.{leb_tells}
use Rattle.std.proofs.lemmas.List.{reverse-append, reverse-reverse, take-append-le, take-take}
use Rattle.std.proofs.lemmas.List.{take_all, length-take}
use Rattle.nx_envelope.specs.private.Reading.{marker_read}
use Rattle.nx_envelope.specs.private.Backward.{marker_back}
use Rattle.nx_envelope.specs.Copies.{Ending, beginnings, ending_by_marker, ending_of, most_found}
use Rattle.nx_envelope.specs.private.Within.{first_value, long_within, ending_within}
use Rattle.nx_envelope.specs.Ending.{MarkerEndsAt, EndsAtMarker, HasNoMarker}
use Rattle.nx_envelope.specs.Header.{EndsWithMarker}
use Rattle.nx_envelope.specs.Ending.{IsEnding, IsUnended}
use Rattle.nx_envelope.specs.declared.found.How.{How}
use Rattle.nx_envelope.proofs.lemmas.copies.Beginnings.{beginnings-push, ending_of-within, first_value-push}
use Rattle.nx_envelope.proofs.lemmas.copies.Beginnings.{long_at, not_long}
use Rattle.nx_envelope.proofs.lemmas.headers.ReadAtTheEnd.{marker_read-back, marks, marker_is}

-- No marker at the end of a text.

no_marker_at : (text : List ℕ) (how : How) → marker_back (reverse text) ≡ None
    → ¬ EndsWithMarker text how
no_marker_at text how e h = let is = marker_is text how h in cc

-- The first marker of a text.

pub record FirstMarker (whole : List ℕ) (ending : Ending) : Type 0 where
  pub place : ℕ
  pub within : place ≤ length whole
  pub marker : MarkerEndsAt whole place ending.how
  pub least : (earlier : ℕ) (how : How) → earlier < place → ¬ MarkerEndsAt whole earlier how
  pub text : ending.text ≡ take (place - 4) whole

abbrev IsUnmarked : List ℕ → Type 0
IsUnmarked text = (place : ℕ) (how : How) → place ≤ length text → ¬ MarkerEndsAt text place how

abbrev FirstIs : List ℕ → Option Ending → Type 0
FirstIs text None = IsUnmarked text
FirstIs text (Some ending) = FirstMarker text ending

-- with one more byte
stays_first : (text : List ℕ) (b : ℕ) (ending : Ending) → FirstMarker text ending
    → FirstMarker (text ++ b ∷ []) ending
stays_first text b ending f =
    let same = take-append-le f.place text (b ∷ []) f.within in
    let shorter = take-append-le (f.place - 4) text (b ∷ []) (omega (arith, f.within)) in
    record {
      place = f.place;
      within = omega (arith, f.within, length-append text (b ∷ []));
      marker = rw same f.marker;
      least = λ earlier how lt. rw
          (take-append-le earlier text (b ∷ []) (omega (arith, f.within, lt)))
          (f.least earlier how lt);
      text = rw shorter f.text;
    }

whole_at : (text : List ℕ) (b place : ℕ) → length text < place
    → take place (text ++ b ∷ []) ≡ text ++ b ∷ []
whole_at text b place lt =
    take_all place (text ++ b ∷ []) (omega (arith, lt, length-append text (b ∷ [])))

completes : (text : List ℕ) (b : ℕ) (how : How) → IsUnmarked text
    → marker_back (reverse (text ++ b ∷ [])) ≡ Some how
    → FirstMarker (text ++ b ∷ [])
    (record { how = how; text = take (length (text ++ b ∷ []) - 4) (text ++ b ∷ []) })
completes text b how none m =
    let whole = whole_at text b (length text + 1) (omega arith) in
    let long : length (text ++ b ∷ []) ≡ length text + 1 =
    omega (arith, length-append text (b ∷ [])) in
    record {
      place = length text + 1;
      within = omega (arith, long);
      marker = rw whole (marks (text ++ b ∷ []) how m);
      least = λ earlier other lt. rw (take-append-le earlier text (b ∷ []) (omega (arith, lt)))
          (none earlier other (omega (arith, lt)));
      text = ap (λ (n : ℕ). take (n - 4) (text ++ b ∷ [])) long;
    }

unmarked_at : (text : List ℕ) (b : ℕ) → IsUnmarked text
    → marker_back (reverse (text ++ b ∷ [])) ≡ None → IsUnmarked (text ++ b ∷ [])
unmarked_at text b none m place how le h =
    elim (leb_tells place (length text)) [
      | inl p ↦ none place how p.1 (rw (take-append-le place text (b ∷ []) p.1) at h)
      | inr p ↦ no_marker_at (text ++ b ∷ []) how m (rw (whole_at text b place p.1) at h)
    ]

last_gives : (text : List ℕ) (b : ℕ) (m : Option How) → marker_back (reverse (text ++ b ∷ [])) ≡ m
    → IsUnmarked text → FirstIs (text ++ b ∷ [])
    (option_map (λ how. record
    { how = how; text = take (length (text ++ b ∷ []) - 4) (text ++ b ∷ []) }) m)
last_gives text b None m none = unmarked_at text b none m
last_gives text b (Some how) m none = completes text b how none m

gives_push : (text : List ℕ) (b : ℕ) (o : Option Ending) → FirstIs text o
    → FirstIs (text ++ b ∷ []) (option_or o (ending_by_marker (text ++ b ∷ [])))
unfolding ending_by_marker
gives_push text b None none =
    last_gives text b (marker_read (text ++ b ∷ [])) (sym (marker_read-back (text ++ b ∷ [])))
    none
gives_push text b (Some ending) f = stays_first text b ending f

first_nil : FirstIs [] (first_value ending_by_marker (beginnings []))
unfolding ending_by_marker marker_read beginnings
first_nil place how le h =
    no_marker_at [] how refl (rw (take_all {A = ℕ} place [] (omega arith)) at h)

first_back : (back : List ℕ)
    → FirstIs (reverse back) (first_value ending_by_marker (beginnings (reverse back)))
first_back [] = first_nil
first_back (b ∷ back) =
    let whole : reverse (b ∷ back) ≡ reverse back ++ b ∷ [] = reverse-append (b ∷ []) back in
    let push : first_value ending_by_marker (beginnings (reverse back ++ b ∷ []))
    ≡ option_or (first_value ending_by_marker (beginnings (reverse back)))
    (ending_by_marker (reverse back ++ b ∷ [])) =
    ap (first_value ending_by_marker) (beginnings-push (reverse back) b)
    ∙ first_value-push ending_by_marker (beginnings (reverse back)) (reverse back ++ b ∷ []) in
    rw (whole, push) (gives_push (reverse back) b _ (first_back back))

first_is : (text : List ℕ) → FirstIs text (first_value ending_by_marker (beginnings text))
first_is text = rw (← reverse-reverse text) (first_back (reverse text))

-- The end of a raw text.

abbrev EndIs : List ℕ → Option Ending → Type 0
EndIs raw None = IsUnended raw
EndIs raw (Some ending) = IsEnding raw ending

reach : (most : ℕ) (raw : List ℕ) → length (take most raw) ≡ min most (length raw)
reach most raw = length-take most raw

at_earlier : (most : ℕ) (raw : List ℕ) (earlier : ℕ) (how : How) → earlier ≤ most
    → ¬ MarkerEndsAt (take most raw) earlier how → ¬ MarkerEndsAt raw earlier how
at_earlier most raw earlier how le none h =
    let same = take-take earlier most raw le in
    none (rw same h)

at_marker : (most : ℕ) (raw : List ℕ) (ending : Ending) → most ≡ most_found
    → FirstMarker (take most raw) ending → EndsAtMarker raw ending
at_marker most raw ending is f =
    let within : f.place ≤ most = omega (arith, f.within, reach most raw) in
    let same = take-take f.place most raw within in
    let shorter = take-take (f.place - 4) most raw (omega (arith, within)) in
    record {
      place = f.place;
      within = omega (arith, f.within, reach most raw);
      in_reach = omega (arith, within, is);
      marker = rw same at f.marker;
      least = λ earlier how lt. at_earlier most raw earlier how (omega (arith, within, lt))
          (f.least earlier how lt);
      text = rw shorter at f.text;
    }

without : (most : ℕ) (raw : List ℕ) → most ≡ most_found → IsUnmarked (take most raw)
    → HasNoMarker raw
without most raw is none place how within in_reach h =
    let same = take-take place most raw (omega (arith, in_reach, is)) in
    none place how (omega (arith, within, in_reach, is, reach most raw)) (rw same h)

end_gives : (raw : List ℕ) (o : Option Ending) → FirstIs (take most_found raw) o
    → EndIs raw (option_or o (long_within most_found raw))
end_gives raw (Some ending) f = inl (at_marker most_found raw ending refl f)
end_gives raw None none =
    elim (leb_tells most_found (length raw)) [
      | inl p ↦ let long = long_at most_found raw p.1 in
          rw long (inr (record {
            how = refl;
            unmarked = without most_found raw refl none;
            stand =
                p.1;
            text = refl;
          }))
      | inr p ↦ let short = not_long most_found raw p.1 in
          rw short (record { unmarked = without most_found raw refl none; short = p.1 })
    ]

end_is : (raw : List ℕ) → EndIs raw (ending_of raw)
unfolding ending_within
end_is raw = subst (EndIs raw) (sym (ending_of-within raw))
    (end_gives raw _ (first_is (take most_found raw)))

-- The end is one.

same_place : (raw : List ℕ) (a b : Ending) (p : EndsAtMarker raw a) (q : EndsAtMarker raw b)
    → p.place ≡ q.place
same_place raw a b p q =
    elim (leb_tells p.place q.place) [
      | inl le ↦ elim (leb_tells q.place p.place) [
        | inl ge ↦ omega (arith, le.1, ge.1)
        | inr lt ↦ absurd (q.least p.place a.how lt.1 p.marker)
      ]
      | inr lt ↦ absurd (p.least q.place b.how lt.1 q.marker)
    ]

abbrev ending_with : How → List ℕ → Ending
ending_with how text = record { how = how; text = text }

same_how : (text other : List ℕ) (how also : How) → text ≡ other → EndsWithMarker text how
    → EndsWithMarker other also → how ≡ also
same_how text other how also e h g =
    let x = marker_is text how h in
    let y = marker_is other also g in
    let z : marker_back (reverse text) ≡ marker_back (reverse other) =
    ap (λ (xs : List ℕ). marker_back (reverse xs)) e in
    cc

same_ending : (a b : Ending) → a.how ≡ b.how → a.text ≡ b.text → a ≡ b
same_ending a b how text =
    ap (λ (h : How). ending_with h a.text) how ∙ ap (ending_with b.how) text

same_marker : (raw : List ℕ) (a b : Ending) → EndsAtMarker raw a → EndsAtMarker raw b → a ≡ b
same_marker raw a b p q =
    let place = same_place raw a b p q in
    same_ending a b (same_how (take p.place raw) (take q.place raw) a.how b.how
    (ap (λ (n : ℕ). take n raw) place) p.marker q.marker)
    (p.text ∙ ap (λ (n : ℕ). take (n - 4) raw) place ∙ sym q.text)

pub one_ending : (raw : List ℕ) (a b : Ending) → IsEnding raw a → IsEnding raw b → a ≡ b
one_ending raw a b (inl p) (inl q) = same_marker raw a b p q
one_ending raw a b (inl p) (inr q) = absurd (q.unmarked p.place a.how p.within p.in_reach p.marker)
one_ending raw a b (inr p) (inl q) = absurd (p.unmarked q.place b.how q.within q.in_reach q.marker)
one_ending raw a b (inr p) (inr q) = same_ending a b (p.how ∙ sym q.how) (p.text ∙ sym q.text)

pub ended_or_not : (raw : List ℕ) (a : Ending) → IsEnding raw a → ¬ IsUnended raw
ended_or_not raw a (inl p) u = u.unmarked p.place a.how p.within p.in_reach p.marker
ended_or_not raw a (inr p) u = omega (arith, p.stand, u.short)

is_end : (raw : List ℕ) (o : Option Ending) (ending : Ending) → EndIs raw o → IsEnding raw ending
    → o ≡ Some ending
is_end raw None ending u e = absurd (ended_or_not raw ending e u)
is_end raw (Some other) ending f e = ap Some (one_ending raw other ending f e)

is_open : (raw : List ℕ) (o : Option Ending) → EndIs raw o → IsUnended raw → o ≡ None
is_open raw None u e = refl
is_open raw (Some other) f u = absurd (ended_or_not raw other f u)

-- so the end that is computed is the end by places
pub ended_both : (raw : List ℕ) (ending : Ending)
    → (ending_of raw ≡ Some ending → IsEnding raw ending)
    × (IsEnding raw ending → ending_of raw ≡ Some ending)
ended_both raw ending =
    let is : EndIs raw (ending_of raw) = end_is raw in
    (λ e. subst (EndIs raw) e is, λ e. is_end raw _ ending is e)

pub open_both : (raw : List ℕ)
    → (ending_of raw ≡ None → IsUnended raw) × (IsUnended raw → ending_of raw ≡ None)
open_both raw =
    let is : EndIs raw (ending_of raw) = end_is raw in
    (λ e. subst (EndIs raw) e is, λ u. is_open raw _ is u)
