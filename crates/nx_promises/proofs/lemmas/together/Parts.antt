-- Parts of lists, by index; and the positions of a copy, which are the first of those behind its
-- header.
use Rattle.std.proofs.Common.{◌≡◌, ℕ, zero, suc, ◌+◌, Bool, true, false, cond, List, [], ◌∷◌, ◌++◌}
use Rattle.std.proofs.Common.{Some, None, drop, take, slice_get, refl, sym, ap, ◌∙◌}
use Rattle.std.proofs.Common.{arith}
use Rattle.nx_code.specs.Reading.{Reception}
use Rattle.nx_envelope.specs.Header.{Header}
use Rattle.nx_sync.specs.declared.step.Change.{Change}
use Rattle.nx_sync.specs.declared.step.Change.TheVariants.{Ended, Locked, LostLock}
use Rattle.nx_combine.specs.CopyPositions.{LockPositions, behind_header, positions_for, positions_in_lost}
use Rattle.nx_combine.specs.CopyPositions.{positions_in_past, positions_of, sure_count}
use Rattle.nx_combine.specs.PositionEnds.{end_of, has_ended}

pub get-take : {A : Type 0} (n : ℕ) (xs : List A) (i : ℕ) (x : A) → slice_get (take n xs) i ≡ Some x
    → slice_get xs i ≡ Some x
get-take zero xs i x e = let contra : None ≡ Some x = e in cc
get-take (suc n) [] i x e = e
get-take (suc n) (y ∷ xs) zero x e = e
get-take (suc n) (y ∷ xs) (suc i) x e = get-take n xs i x e

pub get-drop : {A : Type 0} (n : ℕ) (xs : List A) (i : ℕ)
    → slice_get (drop n xs) i ≡ slice_get xs (n + i)
get-drop zero xs i = let e : 0 + i ≡ i = omega arith in ap (slice_get xs) (sym e)
get-drop (suc n) [] i = refl
get-drop (suc n) (x ∷ xs) i =
    let e : suc n + i ≡ suc (n + i) = omega arith in
    get-drop n xs i ∙ ap (slice_get (x ∷ xs)) (sym e)

-- a list up to an element, the element, and behind it
pub split_at : {A : Type 0} (xs : List A) (i : ℕ) (x : A) → slice_get xs i ≡ Some x
    → xs ≡ take i xs ++ x ∷ drop (suc i) xs
split_at [] i x e = let contra : None ≡ Some x = e in cc
split_at (y ∷ xs) zero x e = let same : y ≡ x = cc in ap (λ z. z ∷ xs) same
split_at (y ∷ xs) (suc i) x e = ap (λ l. y ∷ l) (split_at xs i x e)

of_lost : (lock : LockPositions) (header : Header) (is : Bool) (i : ℕ) (x : Reception)
    → slice_get (cond is (positions_of lock.taken header)
    (drop (positions_for lock.taken header.behind) (take (sure_count lock.alike) lock.taken))) i
    ≡ Some x → slice_get (behind_header lock.taken header) i ≡ Some x
of_lost lock header true i x e =
    get-take (end_of (behind_header lock.taken header)) (behind_header lock.taken header) i x e
of_lost lock header false i x e =
    let count = positions_for lock.taken header.behind in
    get-drop count lock.taken i
    ∙ get-take (sure_count lock.alike) lock.taken (count + i) x
    (sym (get-drop count (take (sure_count lock.alike) lock.taken) i) ∙ e)

-- however a lock ended, the positions of a copy are those behind its header, up to some
pub positions_behind : (how : Change) (lock : LockPositions) (header : Header) (i : ℕ)
    (x : Reception)
    → slice_get (positions_in_past how lock header) i ≡ Some x
    → slice_get (behind_header lock.taken header) i ≡ Some x
unfolding positions_in_lost
positions_behind LostLock lock header i x e =
    of_lost lock header (has_ended (behind_header lock.taken header)) i x e
positions_behind Locked lock header i x e =
    get-take (end_of (behind_header lock.taken header)) (behind_header lock.taken header) i x e
positions_behind Ended lock header i x e =
    get-take (end_of (behind_header lock.taken header)) (behind_header lock.taken header) i x e
