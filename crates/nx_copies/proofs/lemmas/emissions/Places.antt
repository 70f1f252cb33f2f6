-- The places of the bytes of a lock's text, and of the copies in it, rise.
use Rattle.std.proofs.Common.{ℕ, zero, suc, ◌+◌, ◌-◌, ◌*◌, ◌<◌, ◌≤◌, Bool, List, [], ◌∷◌, ◌++◌, map}
use Rattle.std.proofs.Common.{length, get_or, Option, Some, None, arith}
use Rattle.std.specs.List.{All}
use Rattle.std.specs.Option.{option_to_list}
use Rattle.std.proofs.lemmas.List.Elements.{All-weaker, All-nil, All-cons, All-append}
use Rattle.nx_code.specs.Reading.{Reception, shift_after_all, text}
use Rattle.nx_code.specs.declared.shifts.Shift.{Shift}
use Rattle.nx_code.specs.declared.shifts.Shift.TheVariants.{Letters}
use Rattle.nx_envelope.specs.Copies.{Copy, copies}
use Rattle.nx_sync.specs.declared.step.Role.{Role}
use Rattle.nx_sync.specs.Locks.{Lock, Past, Now, hunting, locked, IsNow}
use Rattle.nx_sync.specs.Words.{word_of_lock, first_role, whole_words}
use Rattle.nx_copies.specs.private.ReaderWords.{word_place}
use Rattle.nx_copies.specs.copies.LockText.{PlacedByte, positions, taken_at, printed_by, text_by}
use Rattle.nx_copies.specs.copies.LockText.{lock_text, bytes_of}
use Rattle.nx_copies.specs.copies.FoundCopies.{FoundCopy, place_in, found_copy, all_in, past_text}
use Rattle.nx_copies.specs.copies.FoundCopies.{past_copies, found_to_end}
use Rattle.nx_copies.proofs.lemmas.locks.Found.{text_placed, place_in-get_or, all_in_placed}
use Rattle.nx_copies.proofs.lemmas.locks.Found.{length-bytes_of}
use Rattle.nx_copies.proofs.lemmas.locks.Texts.{one_taken}
use Rattle.nx_copies.proofs.lemmas.once.Rising.{Rises, above_later, rises_append, rises_map}
use Rattle.nx_copies.proofs.lemmas.emissions.Copies.{copies_rise, copies_within}

-- what a word prints is one byte at most, at the end of the word
one_placed : (place : ℕ) (bs : List ℕ) → length bs ≤ 1
    → Rises (λ (b : PlacedByte). b.place) (map (λ b. record { byte = b; place = place }) bs)
one_placed place [] h = tt
one_placed place (b ∷ []) h = (tt, tt)
one_placed place (b ∷ (c ∷ bs)) h = absurd (omega arith)

placed_at : (place : ℕ) (bs : List ℕ)
    → All (λ (b : PlacedByte). place ≤ b.place) (map (λ b. record { byte = b; place = place }) bs)
placed_at place [] = All-nil (λ (b : PlacedByte). place ≤ b.place)
placed_at place (b ∷ bs) =
    All-cons (λ (b : PlacedByte). place ≤ b.place) _ _ (omega arith) (placed_at place bs)

one_byte : (o : Option ℕ) → length (option_to_list o ++ []) ≤ 1
one_byte None = omega arith
one_byte (Some b) = omega arith

one_printed : (taken : List Reception) (shift : Shift) → length taken ≤ 1
    → length (text taken shift) ≤ 1
one_printed [] shift h = omega arith
one_printed (p ∷ []) shift h = one_byte _
one_printed (p ∷ q ∷ more) shift h = absurd (omega arith)

pub text_rises : (first : Role) (f : ℕ → ℕ) (t n : ℕ)
    → Rises (λ (b : PlacedByte). b.place) (text_by first f t n)
unfolding text_by printed_by
text_rises first f t zero = tt
text_rises first f t (suc n) =
    rises_append (λ (b : PlacedByte). b.place) (t + 7 * n) (text_by first f t n)
    (printed_by first f t n) (text_rises first f t n)
    (one_placed (word_place t n)
    (text (taken_at first f n) (shift_after_all (positions first f n) Letters))
    (one_printed (taken_at first f n) _ (one_taken first f n)))
    (All-weaker (λ (b : PlacedByte). (t ≤ b.place) × (b.place < t + 7 * n))
    (λ (b : PlacedByte). b.place < t + 7 * n) (λ b h. h.1) (text_by first f t n)
    (text_placed first f t n))
    (All-weaker (λ (b : PlacedByte). word_place t n ≤ b.place)
    (λ (b : PlacedByte). t + 7 * n ≤ b.place) (λ b h. omega arith) (printed_by first f t n)
    (placed_at (word_place t n)
    (text (taken_at first f n) (shift_after_all (positions first f n) Letters))))

pub rises_at : {A : Type 0} (key : A → ℕ) (xs : List A) (i j : ℕ) (d : A) → Rises key xs → i < j
    → j < length xs
    → key (get_or xs i d) < key (get_or xs j d)
rises_at key [] i j d h lt in' = absurd (omega arith)
rises_at key (x ∷ xs) i zero d h lt in' = absurd (omega arith)
rises_at key (x ∷ xs) zero (suc j) d h lt in' = above_later key (key x) xs j d h.0 (omega arith)
rises_at key (x ∷ xs) (suc i) (suc j) d h lt in' =
    rises_at key xs i j d h.1 (omega arith) (omega arith)

places_rise : (text : List PlacedByte) (i j : ℕ) → Rises (λ (b : PlacedByte). b.place) text → i < j
    → j < length text
    → place_in text i < place_in text j
places_rise text i j h lt in' =
    let d : PlacedByte = record { byte = 0; place = 0 } in
    omega (
      arith,
      place_in-get_or text i d (omega arith),
      place_in-get_or text j d in',
      rises_at
          (λ (b : PlacedByte). b.place) text i j d h lt in',
    )

-- the copies of such a text
pub all_in_rises : (text : List PlacedByte) → Rises (λ (b : PlacedByte). b.place) text
    → Rises (λ (c : FoundCopy). c.place) (all_in text)
unfolding found_copy
all_in_rises text h =
    rises_map (found_copy text) (λ (c : Copy). c.header.behind) (λ (c : FoundCopy). c.place)
    (copies (bytes_of text))
    (λ x y cx cy lt.
    let a = copies_within (bytes_of text) x cx in
    let b = copies_within (bytes_of text) y cy in
    places_rise text (x.header.behind - 1) (y.header.behind - 1) h (omega (arith, a.0, b.0))
    (omega (arith, b.0, b.1, length-bytes_of text)))
    (copies_rise (bytes_of text))

-- the copies of past locks
past_below : (bits : List Bool) (locks : List Lock) (p : ℕ) → Past bits locks p
    → All (λ (c : FoundCopy). c.place < p) (past_copies bits locks)
unfolding Past past_copies
past_below bits [] p past = All-nil (λ (c : FoundCopy). c.place < p)
past_below bits (lock ∷ older) p past =
    let after = past.0.found.after in
    let next = past.0.next in
    let within = text_placed (first_role bits lock.at) (word_of_lock bits lock.at) lock.at
    (lock.last + 1) in
    All-append (λ (c : FoundCopy). c.place < p) (past_copies bits older)
    (all_in (past_text bits lock))
    (All-weaker (λ (c : FoundCopy). c.place < lock.from) (λ (c : FoundCopy). c.place < p)
    (λ c h. omega arith) (past_copies bits older) (past_below bits older lock.from past.1))
    (All-weaker (λ (c : FoundCopy). (lock.at ≤ c.place) × (c.place < lock.at + 7 * (lock.last + 1)))
    (λ (c : FoundCopy). c.place < p) (λ c h. omega (arith, h.1)) (all_in (past_text bits lock))
    (all_in_placed lock.at (lock.at + 7 * (lock.last + 1)) (past_text bits lock) within))

from_lock : (bits : List Bool) (t n low : ℕ) → low < t
    → All (λ (c : FoundCopy). low ≤ c.place) (all_in (lock_text bits t n))
from_lock bits t n low lt =
    All-weaker (λ (c : FoundCopy). (t ≤ c.place) × (c.place < t + 7 * n))
    (λ (c : FoundCopy). low ≤ c.place) (λ c h. omega (arith, h.0)) (all_in (lock_text bits t n))
    (all_in_placed t (t + 7 * n) (lock_text bits t n)
    (text_placed (first_role bits t) (word_of_lock bits t) t n))

past_rises : (bits : List Bool) (locks : List Lock) (p : ℕ) → Past bits locks p
    → Rises (λ (c : FoundCopy). c.place) (past_copies bits locks)
unfolding Past past_copies
past_rises bits [] p past = tt
past_rises bits (lock ∷ older) p past =
    rises_append (λ (c : FoundCopy). c.place) lock.from (past_copies bits older)
    (all_in (past_text bits lock)) (past_rises bits older lock.from past.1)
    (all_in_rises (past_text bits lock)
    (text_rises (first_role bits lock.at) (word_of_lock bits lock.at) lock.at (lock.last + 1)))
    (past_below bits older lock.from past.1)
    (from_lock bits lock.at (lock.last + 1) lock.from past.0.found.after)

-- all copies that are found stand in the order of their places, each at a place of its own
pub found_rise : (bits : List Bool) (locks : List Lock) (now : Now) → IsNow bits locks now
    → Rises (λ (c : FoundCopy). c.place) (found_to_end bits locks now)
unfolding found_to_end
found_rise bits locks (hunting p) is =
    rises_append (λ (c : FoundCopy). c.place) p (past_copies bits locks) (all_in [])
    (past_rises bits locks p is.past) (all_in_rises [] tt) (past_below bits locks p is.past)
    (All-weaker (λ (c : FoundCopy). (p ≤ c.place) × (c.place < p)) (λ (c : FoundCopy). p ≤ c.place)
    (λ c h. h.0) (all_in []) (all_in_placed p p []
    (All-nil (λ (b : PlacedByte). (p ≤ b.place) × (b.place < p)))))
found_rise bits locks (locked p t) is =
    rises_append (λ (c : FoundCopy). c.place) p (past_copies bits locks)
    (all_in (lock_text bits t (whole_words bits t))) (past_rises bits locks p is.past)
    (all_in_rises (lock_text bits t (whole_words bits t))
    (text_rises (first_role bits t) (word_of_lock bits t) t (whole_words bits t)))
    (past_below bits locks p is.past)
    (from_lock bits t (whole_words bits t) p is.found.after)
