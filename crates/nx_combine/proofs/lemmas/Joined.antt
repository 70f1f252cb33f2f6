-- The joined list of two lists of positions, by index.
use Rattle.std.proofs.Common.{◌≡◌, ℕ, zero, suc, ◌+◌, ◌<◌, ◌≤◌, max, List, [], ◌∷◌, ◌++◌, length}
use Rattle.std.proofs.Common.{take, drop, get_or, refl, sym, ap, ap₂, ◌∙◌, arith, add-one}
use Rattle.std.proofs.Math.ListN.{set}
use Rattle.std.proofs.Math.Seq.{take-append_seam, take-set-lt}
use Rattle.std.proofs.lemmas.List.{get_or-take, length-set, length-take, take_more_set}
use Rattle.std.specs.List.{refill}
use Rattle.std.specs.Prelude.{slice_get, Option, Some, None}
use Rattle.nx_code.specs.Reading.{Reception}
use Rattle.nx_combine.specs.Joining.{joined, joined_position}
use Rattle.nx_combine.specs.Laws.{joined_where}

pub joined-nil : (first : List Reception) → joined first [] ≡ first
unfolding joined
joined-nil [] = refl
joined-nil (x ∷ first) = refl

pub length-joined : (first second : List Reception)
    → length (joined first second) ≡ max (length first) (length second)
unfolding joined
length-joined [] second = omega arith
length-joined (x ∷ first) [] = omega arith
length-joined (x ∷ first) (y ∷ second) =
    let rest = length-joined first second in omega arith

-- one more position of the second list, within the first: it is joined where it stands
pub joined-suc-within : (first second : List Reception) (i : ℕ) (d e : Reception)
    → i < length second → i < length (joined first (take i second))
    → joined first (take (suc i) second)
    ≡ set (joined first (take i second)) i
    (joined_position (get_or (joined first (take i second)) i d) (get_or second i e))
unfolding joined
joined-suc-within [] second i d e there within =
    let short = length-take i second in absurd (omega arith)
joined-suc-within (x ∷ first) [] i d e there within = absurd (omega arith)
joined-suc-within (x ∷ first) (y ∷ second) zero d e there within =
    ap (λ rest. joined_position x y ∷ rest) (joined-nil first)
joined-suc-within (x ∷ first) (y ∷ second) (suc i) d e there within =
    ap (λ rest. joined_position x y ∷ rest)
    (joined-suc-within first second i d e (omega arith) (omega arith))

-- one more position of the second list, behind the first: it stands at the end
pub joined-suc-behind : (first second : List Reception) (i : ℕ) (e : Reception)
    → i < length second → length (joined first (take i second)) ≤ i
    → joined first (take (suc i) second) ≡ joined first (take i second) ++ get_or second i e ∷ []
unfolding joined
joined-suc-behind [] [] i e there behind = absurd (omega arith)
joined-suc-behind [] (y ∷ second) zero e there behind = refl
joined-suc-behind [] (y ∷ second) (suc i) e there behind =
    ap (λ rest. y ∷ rest) (joined-suc-behind [] second i e (omega arith) (omega arith))
joined-suc-behind (x ∷ first) [] i e there behind = absurd (omega arith)
joined-suc-behind (x ∷ first) (y ∷ second) zero e there behind = absurd (omega arith)
joined-suc-behind (x ∷ first) (y ∷ second) (suc i) e there behind =
    ap (λ rest. joined_position x y ∷ rest)
    (joined-suc-behind first second i e (omega arith) (omega arith))

-- a list filled up from another one of its length is itself
refill-same : (xs ws : List Reception) → length ws ≡ length xs → refill (length xs) xs ws ≡ ws
refill-same xs ws same =
    ap (λ n. take n (ws ++ drop (length ws) xs)) (sym same)
    ∙ take-append_seam ws (drop (length ws) xs)

-- the two steps as a loop makes them
pub joined-step-within : (first second held : List Reception) (i : ℕ) (x y : Reception)
    → held ≡ joined first (take i second) → i < length second → i < length held
    → x ≡ get_or held i x → y ≡ get_or second i y
    → refill (length held) held (set held i (joined_position x y))
    ≡ joined first (take (i + 1) second)
joined-step-within first second held i x y stands there within x_is y_is =
    let long = ap length stands in
    refill-same held (set held i (joined_position x y)) (length-set held i (joined_position x y))
    ∙ ap₂ (λ l r. set l i r) stands
    (ap₂ joined_position (x_is ∙ ap (λ l. get_or l i x) stands) y_is)
    ∙ sym (joined-suc-within first second i x y there (omega arith))
    ∙ ap (λ n. joined first (take n second)) (sym (add-one i))

pub joined-step-behind : (first second held : List Reception) (i : ℕ) (y : Reception)
    → held ≡ joined first (take i second) → i < length second → length held ≤ i
    → y ≡ get_or second i y → held ++ y ∷ [] ≡ joined first (take (i + 1) second)
joined-step-behind first second held i y stands there behind y_is =
    let long = ap length stands in
    ap₂ (λ l r. l ++ r ∷ []) stands y_is
    ∙ sym (joined-suc-behind first second i y there (omega arith))
    ∙ ap (λ n. joined first (take n second)) (sym (add-one i))

-- the same in a room, of which so many places are taken first
pub joined-place-within : (first second room : List Reception) (count i : ℕ) (x y : Reception)
    → take (max count i) room ≡ joined first (take i second) → i < length second → i < count
    → count ≤ length room → x ≡ get_or room i x → y ≡ get_or second i y
    → take (max count (i + 1)) (set room i (joined_position x y))
    ≡ joined first (take (i + 1) second)
joined-place-within first second room count i x y stands there within fits x_is y_is =
    let same : max count (i + 1) ≡ count = omega arith in
    let one : max count i ≡ count = omega arith in
    let held : take count room ≡ joined first (take i second) =
    ap (λ n. take n room) (sym one) ∙ stands in
    let long = ap length held in
    let cut = length-take count room in
    ap (λ n. take n (set room i (joined_position x y))) same
    ∙ take-set-lt count room i (joined_position x y) within
    ∙ ap₂ (λ l r. set l i r) held
    (ap₂ joined_position
    (x_is ∙ sym (get_or-take count room i x within) ∙ ap (λ l. get_or l i x) held) y_is)
    ∙ sym (joined-suc-within first second i x y there (omega arith))
    ∙ ap (λ n. joined first (take n second)) (sym (add-one i))

pub joined-place-behind : (first second room : List Reception) (count i : ℕ) (y : Reception)
    → take (max count i) room ≡ joined first (take i second) → i < length second → count ≤ i
    → i < length room → y ≡ get_or second i y
    → take (max count (i + 1)) (set room i y) ≡ joined first (take (i + 1) second)
joined-place-behind first second room count i y stands there behind fits y_is =
    let same : max count (i + 1) ≡ i + 1 = omega arith in
    let one : max count i ≡ i = omega arith in
    let held : take i room ≡ joined first (take i second) =
    ap (λ n. take n room) (sym one) ∙ stands in
    let long = ap length held in
    let cut = length-take i room in
    ap (λ n. take n (set room i y)) same
    ∙ take_more_set room i y fits
    ∙ ap₂ (λ l r. l ++ r ∷ []) held y_is
    ∙ sym (joined-suc-behind first second i y there (omega arith))
    ∙ ap (λ n. joined first (take n second)) (sym (add-one i))

joined_where-None : (o : Option Reception) → o ≡ joined_where o None
joined_where-None None = refl
joined_where-None (Some x) = refl

-- what it has at an index
pub slice_get-joined : (first second : List Reception) (index : ℕ)
    → slice_get (joined first second) index
    ≡ joined_where (slice_get first index) (slice_get second index)
unfolding joined
slice_get-joined [] second index = refl
slice_get-joined (x ∷ first) [] index = joined_where-None (slice_get (x ∷ first) index)
slice_get-joined (x ∷ first) (y ∷ second) zero = refl
slice_get-joined (x ∷ first) (y ∷ second) (suc index) = slice_get-joined first second index
