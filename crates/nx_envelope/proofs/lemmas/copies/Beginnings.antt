-- The beginnings of a text, its headers and the end of a raw text, when one more byte comes.
use Rattle.std.proofs.Common.{◌≡◌, ◌≢◌, ℕ, ◌+◌, ◌<◌, ◌≤◌, nat_le, if◌then◌else◌, false, inl, inr}
use Rattle.std.proofs.Common.{Option, Some, None, List, [], ◌∷◌, ◌++◌, length, take, map, reverse}
use Rattle.std.proofs.Common.{refl, sym, ap, ◌∙◌, arith, length-append}
use Rattle.std.specs.List.{filter_map, slice_get}
use Rattle.std.specs.Option.{option_map, option_or, option_to_list}
use Rattle.std.proofs.lemmas.Bool.{le-leb}
use Rattle.std.proofs.lemmas.Bool.Decides.{leb_tells}
use Rattle.std.proofs.lemmas.List.{map_push, reverse-append, take_all, take-append-le}
use Rattle.std.proofs.lemmas.List.Elements.{filter_map-append}
use Rattle.nx_envelope.specs.Header.{Header}
use Rattle.nx_envelope.specs.private.Reading.{identity_read}
use Rattle.nx_envelope.specs.private.Backward.{header_back}
use Rattle.nx_envelope.specs.Copies.{Ending, beginnings, header_at_end, headers, ending_by_marker}
use Rattle.nx_envelope.specs.Copies.{ending_of, most_found}
use Rattle.nx_envelope.specs.private.Within.{first_value, long_within, ending_within}
use Rattle.nx_envelope.specs.declared.found.How.TheVariants.{Long}
use Rattle.nx_envelope.proofs.lemmas.headers.ReadAtTheEnd.{identity_read-back}

-- the back of a text with one more byte
pub reverse-push : (text : List ℕ) (b : ℕ) → reverse (text ++ b ∷ []) ≡ b ∷ reverse text
reverse-push text b = reverse-append text (b ∷ [])

-- the longest beginning is the text itself
pub beginnings-push : (text : List ℕ) (b : ℕ)
    → beginnings (text ++ b ∷ []) ≡ beginnings text ++ (text ++ b ∷ []) ∷ []
unfolding beginnings
beginnings-push [] b = refl
beginnings-push (x ∷ text) b =
    ap (λ (ps : List (List ℕ)). [] ∷ ps)
    (ap (map (λ p. x ∷ p)) (beginnings-push text b)
    ∙ map_push (λ p. x ∷ p) (beginnings text) (text ++ b ∷ []))

or_none : {A : Type 0} (o : Option A) → option_or o None ≡ o
or_none None = refl
or_none (Some x) = refl

or_assoc : {A : Type 0} (o p q : Option A)
    → option_or o (option_or p q) ≡ option_or (option_or o p) q
or_assoc None p q = refl
or_assoc (Some x) p q = refl

pub first_value-push : {A B : Type 0} (f : A → Option B) (xs : List A) (x : A)
    → first_value f (xs ++ x ∷ []) ≡ option_or (first_value f xs) (f x)
first_value-push f [] x = or_none (f x)
first_value-push f (y ∷ ys) x =
    ap (option_or (f y)) (first_value-push f ys x) ∙ or_assoc (f y) (first_value f ys) (f x)

filter_map-one : {A B : Type 0} (f : A → Option B) (x : A) (o : Option B) → f x ≡ o
    → filter_map f (x ∷ []) ≡ option_to_list o
filter_map-one f x None e = rw e refl
filter_map-one f x (Some y) e = rw e refl

-- the headers of a text with one more byte are those before, and the one that the byte completes
pub headers-push : (text : List ℕ) (b : ℕ)
    → headers (text ++ b ∷ []) ≡ headers text ++ option_to_list (header_at_end (text ++ b ∷ []))
unfolding headers
headers-push text b =
    ap (filter_map header_at_end) (beginnings-push text b)
    ∙ filter_map-append header_at_end (beginnings text) ((text ++ b ∷ []) ∷ [])
    ∙ ap (λ (hs : List Header). filter_map header_at_end (beginnings text) ++ hs)
    (filter_map-one header_at_end (text ++ b ∷ []) _ refl)

-- what the byte completes
pub header_at_end-push : (text : List ℕ) (b : ℕ)
    → header_at_end (text ++ b ∷ [])
    ≡ option_map (λ identity. record { identity = identity; behind = length text + 1 })
    (header_back (b ∷ reverse text))
unfolding header_at_end
header_at_end-push text b =
    let read : identity_read (text ++ b ∷ []) ≡ header_back (b ∷ reverse text) =
    identity_read-back (text ++ b ∷ []) ∙ ap header_back (reverse-push text b) in
    let long : length (text ++ b ∷ []) ≡ length text + 1 =
    omega (arith, length-append text (b ∷ [])) in
    rw (read, long) refl

-- The end of a raw text.

-- the first that gives something is the first of what they give
first_in : {A B : Type 0} (f : A → Option B) (x : A) (xs : List A) (o : Option B) → f x ≡ o
    → slice_get (filter_map f xs) 0 ≡ first_value f xs
    → slice_get (filter_map f (x ∷ xs)) 0 ≡ option_or (f x) (first_value f xs)
first_in f x xs None e later = rw e later
first_in f x xs (Some y) e later = rw e refl

first_value-first : {A B : Type 0} (f : A → Option B) (xs : List A)
    → slice_get (filter_map f xs) 0 ≡ first_value f xs
first_value-first f [] = refl
first_value-first f (x ∷ xs) = first_in f x xs (f x) refl (first_value-first f xs)

pub ending_of-within : (raw : List ℕ) → ending_of raw ≡ ending_within most_found raw
unfolding ending_of ending_within long_within
ending_of-within raw =
    ap (λ (o : Option Ending). option_or o
    (if nat_le most_found (length raw) then Some
    (record { how = Long; text = take most_found raw }) else None))
    (first_value-first ending_by_marker (beginnings (take most_found raw)))

pub long_at : (most : ℕ) (raw : List ℕ) → most ≤ length raw
    → long_within most raw ≡ Some (record { how = Long; text = take most raw })
unfolding long_within
long_at most raw le = rw (le-leb most (length raw) le) refl

not_leb : (a b : ℕ) → b < a → nat_le a b ≡ false
not_leb a b lt = elim (leb_tells a b) [ inl p ↦ absurd (omega (arith, p.1)) | inr p ↦ p.0 ]

pub not_long : (most : ℕ) (raw : List ℕ) → length raw < most → long_within most raw ≡ None
unfolding long_within
not_long most raw lt = rw (not_leb most (length raw) lt) refl

-- beyond the limit a byte changes nothing
ending-past : (most : ℕ) (raw : List ℕ) (b : ℕ) → most ≤ length raw
    → ending_within most (raw ++ b ∷ []) ≡ ending_within most raw
unfolding ending_within
ending-past most raw b le =
    let same = take-append-le most raw (b ∷ []) le in
    let more : most ≤ length (raw ++ b ∷ []) = omega (arith, length-append raw (b ∷ [])) in
    rw (long_at most raw le, long_at most (raw ++ b ∷ []) more, same) refl

-- below it the end is the first that a marker makes
pub ending-short : (most : ℕ) (raw : List ℕ) → length raw < most
    → ending_within most raw ≡ first_value ending_by_marker (beginnings raw)
unfolding ending_within
ending-short most raw lt =
    let whole = take_all most raw (omega arith) in
    rw (not_long most raw lt, whole) (or_none _)

-- and one more byte may end it
pub ending-push : (most : ℕ) (raw : List ℕ) (b : ℕ) → length raw < most
    → ending_within most (raw ++ b ∷ [])
    ≡ option_or (option_or (ending_within most raw) (ending_by_marker (raw ++ b ∷ [])))
    (long_within most (raw ++ b ∷ []))
unfolding ending_within
ending-push most raw b lt =
    let long : length (raw ++ b ∷ []) ≡ length raw + 1 =
    omega (arith, length-append raw (b ∷ [])) in
    let whole = take_all most (raw ++ b ∷ []) (omega arith) in
    let short : ending_within most raw ≡ first_value ending_by_marker (beginnings raw) =
    ending-short most raw lt in
    let first : first_value ending_by_marker (beginnings (raw ++ b ∷ []))
    ≡ option_or (ending_within most raw) (ending_by_marker (raw ++ b ∷ [])) =
    ap (first_value ending_by_marker) (beginnings-push raw b)
    ∙ first_value-push ending_by_marker (beginnings raw) (raw ++ b ∷ [])
    ∙ ap (λ (o : Option Ending). option_or o (ending_by_marker (raw ++ b ∷ []))) (sym short) in
    let start : option_or (first_value ending_by_marker (beginnings (take most (raw ++ b ∷ []))))
    (long_within most (raw ++ b ∷ []))
    ≡ option_or (first_value ending_by_marker (beginnings (raw ++ b ∷ [])))
    (long_within most (raw ++ b ∷ [])) = rw whole refl in
    start ∙ ap (λ (o : Option Ending). option_or o (long_within most (raw ++ b ∷ []))) first

or_some : {A : Type 0} (o : Option A) (x : A) → option_or o (Some x) ≢ None
or_some None x e = cc
or_some (Some y) x e = cc

open_past : (most : ℕ) (raw : List ℕ) → most ≤ length raw → ending_within most raw ≢ None
unfolding ending_within
open_past most raw le e = or_some _ _ (ap (option_or _) (sym (long_at most raw le)) ∙ e)

-- a raw text without an end is below the limit
pub open_is_short : (most : ℕ) (raw : List ℕ) → ending_within most raw ≡ None → length raw < most
open_is_short most raw e =
    elim (leb_tells most (length raw)) [ inl p ↦ absurd (open_past most raw p.1 e) | inr p ↦ p.1 ]

-- an end stays the end
pub ending_stays : (most : ℕ) (raw : List ℕ) (b : ℕ) (ending : Ending)
    → ending_within most raw ≡ Some ending → ending_within most (raw ++ b ∷ []) ≡ Some ending
ending_stays most raw b ending e =
    elim (leb_tells most (length raw)) [
      | inl p ↦ ending-past most raw b p.1 ∙ e
      | inr p ↦ ending-push most raw b p.1 ∙ rw e refl
    ]
