-- What a hearer of copies and of their positions has heard, as it goes on.
use Rattle.std.proofs.Common.{◌≡◌, ℕ, ◌+◌, ◌≤◌, Bool, List, [], ◌∷◌, ◌++◌}
use Rattle.std.proofs.Common.{length, refl, sym, ap, ap₂, ◌∙◌, subst, arith, map}
use Rattle.std.proofs.Common.{length-append, drop}
use Rattle.std.specs.List.{All}
use Rattle.std.proofs.lemmas.List.{get_or_append_left, map-append}
use Rattle.std.proofs.lemmas.List.Elements.{All-head, All-tail}
use Rattle.nx_code.specs.Reading.{Reception}
use Rattle.nx_envelope.specs.Copies.{Copy, copies, ended_copies}
use Rattle.nx_sync.specs.Locks.{IsNow, Lock, Now, hunting, locked}
use Rattle.nx_sync.specs.Words.{first_role, whole_words, word_of_lock}
use Rattle.nx_copies.specs.Events.{Setting}
use Rattle.nx_copies.specs.copies.FoundCopies.{FoundCopy, ended_so_far, found_copy, tag}
use Rattle.nx_copies.specs.copies.FoundCopies.{past_copies}
use Rattle.nx_copies.specs.copies.AlikeWords.{alike}
use Rattle.nx_copies.specs.copies.LockText.{lock_text, positions}
use Rattle.nx_copies.specs.hearing.CopyHearer.{copies_by, setting_in}
use Rattle.nx_copies.proofs.lemmas.locks.Found.{IsCopyIn}
use Rattle.nx_copies.proofs.lemmas.locks.Growing.{ended_in-nil}
use Rattle.nx_copies.proofs.lemmas.printing.Logged.{ended_placed as all_placed}
use Rattle.nx_combine.specs.CombinedHearing.{copies_of, heard_by}
use Rattle.nx_combine.specs.CopyPositions.{LockPositions, PlacedCopy, ended_placed}
use Rattle.nx_combine.specs.CopyPositions.{lock_bytes, past_placed, placed, positions_in_past, positions_of}
use Rattle.nx_envelope.specs.Header.{Header}
use Rattle.nx_combine.specs.private.laws.PlacedGrow.{placed_as}

-- the copies that were found, without their positions
abbrev pub found_of : List PlacedCopy → List FoundCopy
found_of all = map (λ one. one.found) all

map-map : {A B C : Type 0} (g : B → C) (f : A → B) (xs : List A)
    → map g (map f xs) ≡ map (λ x. g (f x)) xs
map-map g f [] = refl
map-map g f (x ∷ xs) = ap (λ ys. g (f x) ∷ ys) (map-map g f xs)

pub found-placed : (rule : LockPositions → Header → List Reception) (bits : List Bool) (t n : ℕ)
    (some : List Copy)
    → found_of (placed rule bits t n some) ≡ map (found_copy (lock_text bits t n)) some
found-placed rule bits t n some =
    map-map (λ (one : PlacedCopy). one.found)
    (placed_as rule (lock_text bits t n)
    (record {
      taken = positions (first_role bits t) (word_of_lock bits t) n;
      alike = alike (first_role bits t) (word_of_lock bits t) n;
    })) some

pub found-past : (bits : List Bool) (locks : List Lock)
    → found_of (past_placed bits locks) ≡ past_copies bits locks
unfolding past_placed past_copies
found-past bits [] = refl
found-past bits (lock ∷ older) =
    map-append (λ (one : PlacedCopy). one.found) (past_placed bits older)
    (placed (positions_in_past lock.how) bits lock.at (lock.last + 1)
    (copies (lock_bytes bits lock.at (lock.last + 1))))
    ∙ ap₂ (λ x y. x ++ y) (found-past bits older)
    (found-placed (positions_in_past lock.how) bits lock.at (lock.last + 1)
    (copies (lock_bytes bits lock.at (lock.last + 1))))

-- they are those that have ended
pub found-ended : (bits : List Bool) (locks : List Lock) (now : Now)
    → found_of (ended_placed bits locks now) ≡ ended_so_far bits locks now
unfolding ended_placed ended_so_far
found-ended bits locks (hunting p) =
    map-append (λ (one : PlacedCopy). one.found) (past_placed bits locks) []
    ∙ ap₂ (λ x y. x ++ y) (found-past bits locks) (sym ended_in-nil)
found-ended bits locks (locked p t) =
    map-append (λ (one : PlacedCopy). one.found) (past_placed bits locks)
    (placed (λ lock header. positions_of lock.taken header) bits t (whole_words bits t)
    (ended_copies (lock_bytes bits t (whole_words bits t))))
    ∙ ap₂ (λ x y. x ++ y) (found-past bits locks)
    (found-placed (λ lock header. positions_of lock.taken header) bits t (whole_words bits t)
    (ended_copies (lock_bytes bits t (whole_words bits t))))

-- without their positions those that were heard are the copies that have ended
pub copies-heard : (first : Setting) (settings : List Setting) (all : List PlacedCopy)
    → copies_of (heard_by first settings all) ≡ copies_by first settings (found_of all)
unfolding heard_by copies_by
copies-heard first settings [] = refl
copies-heard first settings (one ∷ all) =
    ap (λ l. tag (setting_in first settings one.found.place) one.found ∷ l)
    (copies-heard first settings all)

pub heard-append : (first : Setting) (settings : List Setting) (xs ys : List PlacedCopy)
    → heard_by first settings (xs ++ ys)
    ≡ heard_by first settings xs ++ heard_by first settings ys
unfolding heard_by
heard-append first settings xs ys =
    map-append (λ (one : PlacedCopy). record {
      copy = tag (setting_in first settings one.found.place) one.found;
      positions = one.positions;
    }) xs ys

-- copies whose second digits were heard keep their tags
heard-later : (first : Setting) (settings later : List Setting) (n : ℕ) → n ≤ length settings
    → (all : List PlacedCopy) → All (IsCopyIn 0 n) (found_of all)
    → heard_by first (settings ++ later) all ≡ heard_by first settings all
unfolding heard_by
heard-later first settings later n h [] k = refl
heard-later first settings later n h (one ∷ all) k =
    let here = All-head (IsCopyIn 0 n) one.found (found_of all) k in
    ap (λ s. record { copy = tag s one.found; positions = one.positions }
    ∷ heard_by first (settings ++ later) all)
    (get_or_append_left settings later first one.found.place (omega (arith, here.1, h)))
    ∙ ap (λ l. record {
      copy = tag (setting_in first settings one.found.place) one.found;
      positions = one.positions;
    } ∷ l)
    (heard-later first settings later n h all (All-tail (IsCopyIn 0 n) one.found (found_of all) k))

-- those that had ended keep their tags where more elements come
pub heard_stays : (first : Setting) (bits : List Bool) (settings later : List Setting)
    (locks : List Lock) (now : Now) → IsNow bits locks now → length settings ≡ length bits
    → heard_by first (settings ++ later) (ended_placed bits locks now)
    ≡ heard_by first settings (ended_placed bits locks now)
heard_stays first bits settings later locks now is many =
    heard-later first settings later (length bits) (omega (arith, many))
    (ended_placed bits locks now)
    (subst (All (IsCopyIn 0 (length bits))) (sym (found-ended bits locks now))
    (all_placed bits locks now is))

-- Lists that begin alike.

-- what both begin with
pub longer_begins : {A : Type 0} (xs ys es rs : List A) → xs ++ ys ≡ es ++ rs
    → length es ≤ length xs → xs ≡ es ++ drop (length es) xs
longer_begins xs ys [] rs e h = refl
longer_begins [] ys (x ∷ es) rs e h = absurd (omega (arith, h))
longer_begins (y ∷ xs) ys (x ∷ es) rs e h =
    let both : y ∷ (xs ++ ys) ≡ x ∷ (es ++ rs) = e in
    let one : y ≡ x = cc in
    let rest : xs ++ ys ≡ es ++ rs = cc in
    ap₂ (λ a l. a ∷ l) one (longer_begins xs ys es rs rest (omega (arith, h)))

pub none_left : {A : Type 0} (xs : List A) → length xs ≡ 0 → xs ≡ []
none_left [] e = refl
none_left (x ∷ xs) e = absurd (omega (arith, e))

-- the last ones
pub same_last : {A : Type 0} (xs ys : List A) (x y : A) → xs ++ x ∷ [] ≡ ys ++ y ∷ []
    → (xs ≡ ys) × (x ≡ y)
same_last [] [] x y e = let both : x ∷ [] ≡ y ∷ [] = e in (refl, cc)
same_last [] (b ∷ ys) x y e = absurd (omega (arith, ap length e, length-append ys (y ∷ [])))
same_last (a ∷ xs) [] x y e = absurd (omega (arith, ap length e, length-append xs (x ∷ [])))
same_last (a ∷ xs) (b ∷ ys) x y e =
    let both : a ∷ (xs ++ x ∷ []) ≡ b ∷ (ys ++ y ∷ []) = e in
    let one : a ≡ b = cc in
    let rest : xs ++ x ∷ [] ≡ ys ++ y ∷ [] = cc in
    let below = same_last xs ys x y rest in
    (ap₂ (λ c l. c ∷ l) one below.0, below.1)
