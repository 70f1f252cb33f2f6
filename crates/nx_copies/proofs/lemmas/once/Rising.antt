-- Lists whose items have rising keys: each key is that of one item.
use Rattle.std.proofs.Common.{◌≡◌, ℕ, zero, suc, ◌<◌, ◌≤◌, cond, eqb, List, [], ◌∷◌, ◌++◌, map}
use Rattle.std.proofs.Common.{filter, length, get_or, Option, Some, None, refl, sym, ap, ◌∙◌, subst}
use Rattle.std.proofs.Common.{arith, append_assoc, eq-eqb}
use Rattle.std.specs.List.{All, Contains, filter_map, cons_option}
use Rattle.std.proofs.lemmas.Bool.{ne_eqb}
use Rattle.std.proofs.lemmas.List.Elements.{All-head, All-tail, All-contains_itself, All-weaker}

-- the keys of all items are above the number
abbrev pub Above : {A : Type 0} → (A → ℕ) → ℕ → List A → Type 0
Above key n [] = Unit {0}
Above key n (x ∷ xs) = (n < key x) × Above key n xs

-- each key is above those before it
abbrev pub Rises : {A : Type 0} → (A → ℕ) → List A → Type 0
Rises key [] = Unit {0}
Rises key (x ∷ xs) = Above key (key x) xs × Rises key xs

pub above_append : {A : Type 0} (key : A → ℕ) (n : ℕ) (xs ys : List A) → Above key n xs
    → Above key n ys
    → Above key n (xs ++ ys)
above_append key n [] ys h k = k
above_append key n (x ∷ xs) ys h k = (h.0, above_append key n xs ys h.1 k)

pub above_all : {A : Type 0} (key : A → ℕ) (n : ℕ) (xs : List A) → All (λ x. n < key x) xs
    → Above key n xs
above_all key n [] h = tt
above_all key n (x ∷ xs) h =
    (All-head (λ x. n < key x) x xs h, above_all key n xs (All-tail (λ x. n < key x) x xs h))

-- two such lists, the second of which has its keys from where those of the first end
pub rises_append : {A : Type 0} (key : A → ℕ) (n : ℕ) (xs ys : List A) → Rises key xs → Rises key ys
    → All (λ x. key x < n) xs → All (λ y. n ≤ key y) ys → Rises key (xs ++ ys)
rises_append key n [] ys h k below above = k
rises_append key n (x ∷ xs) ys h k below above =
    let first = All-head (λ x. key x < n) x xs below in
    let rest : All (λ y. key x < key y) ys =
    All-weaker (λ y. n ≤ key y) (λ y. key x < key y) (λ y le. omega arith) ys above in (
      above_append key (key x) xs ys h.0 (above_all key (key x) ys rest),
      rises_append key n xs ys
          h.1 k (All-tail (λ x. key x < n) x xs below) above,
    )

none_above : {A : Type 0} (key : A → ℕ) (n : ℕ) (xs : List A) → Above key n xs
    → filter (λ y. eqb (key y) n) xs ≡ []
none_above key n [] h = refl
none_above key n (x ∷ xs) h =
    ap (λ b. cond b (x ∷ filter (λ y. eqb (key y) n) xs) (filter (λ y. eqb (key y) n) xs))
    (ne_eqb (key x) n (λ e. absurd (omega (arith, h.0, e))))
    ∙ none_above key n xs h.1

-- in such a list a later item has a greater key
pub above_later : {A : Type 0} (key : A → ℕ) (n : ℕ) (xs : List A) (k : ℕ) (d : A) → Above key n xs
    → k < length xs
    → n < key (get_or xs k d)
above_later key n [] k d h lt = absurd (omega arith)
above_later key n (x ∷ xs) zero d h lt = h.0
above_later key n (x ∷ xs) (suc k) d h lt = above_later key n xs k d h.1 (omega arith)

one_at : {A : Type 0} (key : A → ℕ) (xs : List A) (k : ℕ) (d : A) → Rises key xs → k < length xs
    → filter (λ y. eqb (key y) (key (get_or xs k d))) xs ≡ get_or xs k d ∷ []
one_at key [] k d h lt = absurd (omega arith)
one_at key (x ∷ xs) zero d h lt =
    ap (λ b. cond b (x ∷ filter (λ y. eqb (key y) (key x)) xs)
    (filter (λ y. eqb (key y) (key x)) xs)) (eq-eqb (key x) (key x) refl)
    ∙ ap (λ l. x ∷ l) (none_above key (key x) xs h.0)
one_at key (x ∷ xs) (suc k) d h lt =
    let apart = above_later key (key x) xs k d h.0 (omega arith) in
    ap (λ b. cond b (x ∷ filter (λ y. eqb (key y) (key (get_or xs k d))) xs)
    (filter (λ y. eqb (key y) (key (get_or xs k d))) xs))
    (ne_eqb (key x) (key (get_or xs k d)) (λ e. absurd (omega (arith, apart, e))))
    ∙ one_at key xs k d h.1 (omega arith)

-- so of an item that is there, the key is its own alone
pub one_of_key : {A : Type 0} (key : A → ℕ) (xs : List A) (x : A) → Rises key xs → Contains xs x
    → filter (λ y. eqb (key y) (key x)) xs ≡ x ∷ []
one_of_key key xs x h c =
    subst (λ y. filter (λ z. eqb (key z) (key y)) xs ≡ y ∷ []) c.2 (one_at key xs c.0 x h c.1)

-- a list of which each later item has a greater key
pub rises_from : {A : Type 0} (key : A → ℕ) (xs : List A)
    → ((front between back : List A) (earlier later : A)
    → xs ≡ front ++ earlier ∷ (between ++ later ∷ back) → key earlier < key later)
    → Rises key xs
rises_from key [] h = tt
rises_from key (x ∷ xs) h = (
  above_from key x [] xs (λ between back later e. h [] between back x later (ap (λ l. x ∷ l) e)),
  rises_from key xs (λ front between back earlier later e. h (x ∷ front) between back earlier
      later (ap (λ l. x ∷ l) e)),
)
  where
    above_from : {A : Type 0} (key : A → ℕ) (x : A) (before xs : List A)
        → ((between back : List A) (later : A) → before ++ xs ≡ between ++ later ∷ back
        → key x < key later)
        → Above key (key x) xs
    above_from key x before [] h = tt
    above_from key x before (y ∷ xs) h = (
      h before xs y refl,
      above_from key x (before ++ y ∷ []) xs
          (λ between back later e. h between back later
          (sym (append_assoc before (y ∷ []) xs) ∙ e)),
    )

-- the items that are made of such items, with rising keys of their own
pub rises_map : {A B : Type 0} (f : A → B) (key : A → ℕ) (of : B → ℕ) (xs : List A)
    → ((x y : A) → Contains xs x → Contains xs y → key x < key y → of (f x) < of (f y))
    → Rises key xs
    → Rises of (map f xs)
rises_map {A = A} {B = B} f key of xs keeps h = rises_in xs (All-contains_itself xs) h
  where
    above_in : (x : A) → Contains xs x → (ys : List A) → All (Contains xs) ys → Above key (key x) ys
        → Above of (of (f x)) (map f ys)
    above_in x c [] all h = tt
    above_in x c (y ∷ ys) all h = (
      keeps x y c (All-head (Contains xs) y ys all) h.0,
      above_in x c ys
          (All-tail (Contains xs) y ys all) h.1,
    )

    rises_in : (ys : List A) → All (Contains xs) ys → Rises key ys → Rises of (map f ys)
    rises_in [] all h = tt
    rises_in (y ∷ ys) all h = (
      above_in y (All-head (Contains xs) y ys all) ys (All-tail (Contains xs) y ys all) h.0,
      rises_in ys (All-tail (Contains xs) y ys all) h.1,
    )

-- what is made of an item that is there is there
pub contains_map : {A B : Type 0} (f : A → B) (xs : List A) (x : A) → Contains xs x
    → Contains (map f xs) (f x)
contains_map f xs x c = contains_at f xs x c.0 c.1 c.2
  where
    contains_at : {A B : Type 0} (f : A → B) (xs : List A) (x : A) (k : ℕ) → k < length xs
        → get_or xs k x ≡ x
        → Contains (map f xs) (f x)
    contains_at f [] x k lt e = absurd (omega arith)
    contains_at f (y ∷ xs) x zero lt e = (0, omega arith, ap f e)
    contains_at f (y ∷ xs) x (suc k) lt e = let c = contains_at f xs x k (omega arith) e in
        (suc c.0, omega (arith, c.1), c.2)

contains_tail : {A : Type 0} (o : Option A) (ys : List A) (y : A) → Contains ys y
    → Contains (cons_option o ys) y
contains_tail None ys y c = c
contains_tail (Some x) ys y c = (suc c.0, omega (arith, c.1), c.2)

contains_head : {A : Type 0} (o : Option A) (ys : List A) (y : A) → o ≡ Some y
    → Contains (cons_option o ys) y
contains_head None ys y e = cc
contains_head (Some x) ys y e = (0, omega arith, cc)

pub contains_filter_map : {A B : Type 0} (f : A → Option B) (xs : List A) (x : A) (y : B)
    → Contains xs x
    → f x ≡ Some y → Contains (filter_map f xs) y
contains_filter_map f xs x y c made = contains_at f xs x y c.0 c.1 c.2 made
  where
    contains_at : {A B : Type 0} (f : A → Option B) (xs : List A) (x : A) (y : B) (k : ℕ)
        → k < length xs
        → get_or xs k x ≡ x → f x ≡ Some y → Contains (filter_map f xs) y
    contains_at f [] x y k lt e made = absurd (omega arith)
    contains_at f (z ∷ xs) x y zero lt e made =
        contains_head (f z) (filter_map f xs) y (ap f e ∙ made)
    contains_at f (z ∷ xs) x y (suc k) lt e made =
        contains_tail (f z) (filter_map f xs) y (contains_at f xs x y k (omega arith) e made)
