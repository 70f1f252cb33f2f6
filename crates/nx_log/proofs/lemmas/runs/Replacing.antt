-- The last entries of a log, with one more.
use Rattle.std.proofs.Common.{◌≡◌, ℕ, ◌+◌, ◌≤◌, Bool, true, false, cond, List, [], ◌∷◌, ◌++◌, length, refl, sym, ap, ◌∙◌, arith}
use Rattle.std.specs.Prelude.{not, ◌||◌, filter}
use Rattle.std.specs.List.{AllZip, list_any}
use Rattle.std.proofs.lemmas.List.Folds.{list_any-append}
use Rattle.nx_copies.specs.copies.Shares.{MarkedCopy}
use Rattle.nx_log.specs.Last.{last_by, replaces}
use Rattle.nx_log.specs.Places.{PlacedCopy, copy_of}
use Rattle.nx_log.specs.private.Heads.{head_replaces}
use Rattle.nx_log.specs.private.Held.{SaysHead}
use Rattle.nx_log.specs.declared.entries.head.LoggedHead.{LoggedHead}

-- an entry that one more doesn't replace
abbrev pub stays : PlacedCopy → PlacedCopy → Bool
stays one other = not (replaces one.one other.one)

-- of entries those that none behind them replaces
abbrev pub last_entries : List PlacedCopy → List PlacedCopy
last_entries entries = last_by copy_of entries

abbrev Element : Type 0
Element = PlacedCopy

-- of a list with one element in front the last ones, where it is known whether one replaces it
in_front : (b r : Bool) (e one : Element) (kept : List Element) (any now : Bool)
    → any ≡ (b || (r || false)) → now ≡ b
    → cond any (kept ++ one ∷ []) (e ∷ (kept ++ one ∷ []))
    ≡ cond now kept (cond (not r) (e ∷ kept) kept) ++ one ∷ []
in_front true r e one kept any now f g = rw (f, g) refl
in_front false true e one kept any now f g = rw (f, g) refl
in_front false false e one kept any now f g = rw (f, g) refl

filter-cond : (p : Element → Bool) (b : Bool) (e : Element) (xs : List Element)
    → filter p (cond b xs (e ∷ xs))
    ≡ cond b (filter p xs) (cond (p e) (e ∷ filter p xs) (filter p xs))
filter-cond p true e xs = refl
filter-cond p false e xs = refl

pub last-more : (entries : List PlacedCopy) (one : PlacedCopy)
    → last_entries (entries ++ one ∷ []) ≡ filter (stays one) (last_entries entries) ++ one ∷ []
last-more [] one = refl
last-more (e ∷ entries) one =
    let test = λ (other : PlacedCopy). replaces other.one e.one in
    let kept = filter (stays one) (last_entries entries) in
    let any : list_any test (entries ++ one ∷ []) ≡ (list_any test entries
    || (replaces one.one e.one || false)) = list_any-append test entries (one ∷ []) in
    ap (λ l. cond (list_any test (entries ++ one ∷ [])) l (e ∷ l)) (last-more entries one)
    ∙ in_front (list_any test entries) (replaces one.one e.one) e one kept
    (list_any test (entries ++ one ∷ [])) (list_any test entries) any refl
    ∙ ap (λ l. l ++ one ∷ [])
    (sym (filter-cond (stays one) (list_any test entries) e (last_entries entries)))

-- there are no more of them than entries
few-cond : (b : Bool) (e : Element) (xs : List Element) (n : ℕ) → length xs ≤ n
    → length (cond b xs (e ∷ xs)) ≤ n + 1
few-cond true e xs n h = omega (arith, h)
few-cond false e xs n h = omega (arith, h)

pub last-few : (entries : List PlacedCopy) → length (last_entries entries) ≤ length entries
last-few [] = omega arith
last-few (e ∷ entries) =
    let test = λ (other : PlacedCopy). replaces other.one e.one in
    let few = few-cond (list_any test entries) e (last_entries entries) (length entries)
    (last-few entries) in
    omega (arith, few)

-- heads say which entry replaces another
pub replaces-by-heads : (head other : LoggedHead) (one before : MarkedCopy) → SaysHead head one
    → SaysHead other before → head_replaces head other ≡ replaces one before
unfolding replaces
replaces-by-heads head other one before h k =
    rw (← h.said, ← k.said, ← h.errors, ← k.errors) refl

-- of two lists that fit place by place, what two like tests leave fits too
module _ {A B : Type 0} (R : A → B → Type 0) (p : A → Bool) (q : B → Bool)
    (same : (x : A) (y : B) → R x y → p x ≡ q y) where
  filtered_step : (b c : Bool) (x : A) (y : B) (xs : List A) (ys : List B) → b ≡ c → R x y
      → AllZip R xs ys → AllZip R (cond b (x ∷ xs) xs) (cond c (y ∷ ys) ys)
  filtered_step true true x y xs ys e h k = (h, k)
  filtered_step false false x y xs ys e h k = k
  filtered_step true false x y xs ys e h k = absurd (cc)
  filtered_step false true x y xs ys e h k = absurd (cc)

  pub AllZip-filter : (xs : List A) (ys : List B) → AllZip R xs ys
      → AllZip R (filter p xs) (filter q ys)
  AllZip-filter [] [] h = tt
  AllZip-filter [] (y ∷ ys) h = absurd h
  AllZip-filter (x ∷ xs) [] h = absurd h
  AllZip-filter (x ∷ xs) (y ∷ ys) h =
      filtered_step (p x) (q y) x y (filter p xs) (filter q ys) (same x y h.0) h.0
      (AllZip-filter xs ys h.1)
