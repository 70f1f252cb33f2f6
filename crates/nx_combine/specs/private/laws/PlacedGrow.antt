-- More bits: the copies that have ended stay with their positions, and others come behind them.
use Rattle.std.proofs.Common.{◌≡◌, ℕ, zero, suc, ◌+◌, ◌-◌, ◌*◌, ◌≤◌, Bool, List, [], ◌∷◌, ◌++◌, length}
use Rattle.std.proofs.Common.{refl, sym, ap, ap₂, ◌∙◌, subst, arith, append-nil, append_assoc, map}
use Rattle.std.proofs.Common.{add-zero, add-suc}
use Rattle.std.specs.List.{All}
use Rattle.std.proofs.lemmas.List.{map-append}
use Rattle.std.proofs.lemmas.List.Elements.{All-cons, All-head, All-nil, All-tail}
use Rattle.nx_code.specs.Reading.{Reception, text}
use Rattle.nx_envelope.specs.Copies.{Copy, closed_copy, copies, ended_copies, open_headers}
use Rattle.nx_envelope.specs.Header.{Header}
use Rattle.nx_envelope.specs.Laws.{Grows}
use Rattle.nx_envelope.proofs.lemmas.copies.OneOpenCopy.{copies_parts, grown}
use Rattle.nx_sync.specs.Locks.{IsNow, IsPattern, Lock, Now, Past, hunting, locked}
use Rattle.nx_sync.specs.Words.{first_role, whole_words, word_of_lock}
use Rattle.nx_sync.specs.declared.step.Change.{Change}
use Rattle.nx_sync.specs.declared.step.Role.{Role}
use Rattle.nx_sync.proofs.lemmas.states.KeptPast.{first_role-more, word_at-more}
use Rattle.nx_copies.specs.copies.FoundCopies.{FoundCopy, found_copy}
use Rattle.nx_copies.specs.copies.LockText.{PlacedByte, bytes_of, lock_text, positions, taken_at}
use Rattle.nx_copies.proofs.lemmas.locks.AlikeWords.{alike-same}
use Rattle.nx_copies.proofs.lemmas.locks.Found.{IsHeaderIn, ended_headers_in, found-same}
use Rattle.nx_copies.proofs.lemmas.locks.Told.{AddsToEnd, Telling, told, told_goes_on, told_past}
use Rattle.nx_copies.proofs.lemmas.locks.Told.{told_standing, whole_heard}
use Rattle.nx_copies.proofs.lemmas.locks.Texts.{GoesOnAs, bytes_are_reading, bytes_of-append}
use Rattle.nx_copies.proofs.lemmas.locks.Texts.{goes_on_as_is, goes_on_then}
use Rattle.nx_copies.proofs.lemmas.locks.Texts.{lock_text-more, positions-same, text_by-grows}
use Rattle.nx_combine.specs.CombinedTaker.{positions_after}
use Rattle.nx_combine.specs.CopyPositions.{LockPositions, PlacedCopy, ended_placed, lock_bytes}
use Rattle.nx_combine.specs.CopyPositions.{lock_positions, past_placed, placed, positions_in_past}
use Rattle.nx_combine.specs.CopyPositions.{positions_of, standing_placed}
use Rattle.nx_combine.specs.private.laws.EndedPositions.{EndedIn, all_ended, past-ended, positions_of-more}

-- a copy of a lock with this text and these positions
abbrev pub placed_as : (LockPositions → Header → List Reception) → List PlacedByte → LockPositions
    → Copy → PlacedCopy
placed_as rule text lock copy =
    record { found = found_copy text copy; positions = rule lock copy.header }

-- by which the copies of a lock that stands have their positions
abbrev pub all_of : LockPositions → Header → List Reception
all_of lock header = positions_of lock.taken header

-- more bits leave the positions of the words that were heard whole
lock_positions-more : (bits more : List Bool) (t n : ℕ) → IsPattern bits t
    → t + 7 * n ≤ length bits → lock_positions (bits ++ more) t n ≡ lock_positions bits t n
lock_positions-more bits more t n here h =
    let same : (j : ℕ) → j + 1 ≤ n → word_of_lock (bits ++ more) t j ≡ word_of_lock bits t j =
    λ j lt. word_at-more bits more t j (omega arith) in
    ap (λ first. positions_after first (word_of_lock (bits ++ more) t) n)
    (first_role-more bits more t here.enough here.heard)
    ∙ ap₂ (λ (x : List Reception) (y : List Bool). record { taken = x; alike = y })
    (positions-same (first_role bits t) (word_of_lock (bits ++ more) t) (word_of_lock bits t) n
    (λ j lt. same j (omega (arith, lt))))
    (alike-same (first_role bits t) (word_of_lock (bits ++ more) t) (word_of_lock bits t) n
    (λ j lt. same j (omega (arith, lt))))

-- so they leave the copies
placed-more : (rule : LockPositions → Header → List Reception) (chosen : List ℕ → List Copy)
    (bits more : List Bool) (t n : ℕ) → IsPattern bits t → t + 7 * n ≤ length bits
    → placed rule (bits ++ more) t n (chosen (lock_bytes (bits ++ more) t n))
    ≡ placed rule bits t n (chosen (lock_bytes bits t n))
placed-more rule chosen bits more t n here h =
    ap₂ (λ text lock. map (placed_as rule text lock) (chosen (bytes_of text)))
    (lock_text-more bits more t n here h) (lock_positions-more bits more t n here h)

pub past_placed-more : (bits more : List Bool) (locks : List Lock) (p : ℕ) → Past bits locks p
    → past_placed (bits ++ more) locks ≡ past_placed bits locks
unfolding past_placed Past
past_placed-more bits more [] p past = refl
past_placed-more bits more (lock ∷ older) p past =
    let one = placed-more (positions_in_past lock.how) copies bits more lock.at (lock.last + 1)
    past.0.found.here past.0.released.heard in
    ap (λ xs. xs ++ placed (positions_in_past lock.how) (bits ++ more) lock.at (lock.last + 1)
    (copies (lock_bytes (bits ++ more) lock.at (lock.last + 1))))
    (past_placed-more bits more older lock.from past.1)
    ∙ ap (λ l. past_placed bits older ++ l) one

-- more words add to the positions
positions-on : (first : Role) (f : ℕ → ℕ) (n m : ℕ)
    → GoesOnAs (positions first f n) (positions first f (n + m))
unfolding positions
positions-on first f n zero = rw (add-zero n) (goes_on_as_is (positions first f n))
positions-on first f n (suc m) =
    let before = positions-on first f n m in
    record {
      rest = before.rest ++ taken_at first f (n + m);
      whole = ap (positions first f) (add-suc n m)
          ∙ ap (λ xs. xs ++ taken_at first f (n + m)) before.whole
          ∙ append_assoc (positions first f n) before.rest (taken_at first f (n + m));
    }

positions-grow : (first : Role) (f : ℕ → ℕ) (n k : ℕ) → n ≤ k
    → GoesOnAs (positions first f n) (positions first f k)
positions-grow first f n k h =
    let e : n + (k - n) ≡ k = omega arith in
    subst (λ (m : ℕ). GoesOnAs (positions first f n) (positions first f m)) e
    (positions-on first f n (k - n))

-- a rule by which a copy that has ended in a lock has the positions that it has while it stands
pub record IsRule (rule : LockPositions → Header → List Reception) : Type 0 where
  pub ended : (lock : LockPositions) (copy : Copy) → EndedIn lock.taken copy
      → rule lock copy.header ≡ positions_of lock.taken copy.header

pub rule_past : (how : Change) → IsRule (positions_in_past how)
rule_past how = record { ended = λ lock copy is. past-ended how lock copy is }

pub rule_all : IsRule all_of
rule_all = record { ended = λ lock copy is. refl }

-- the copies that have ended stay where a lock goes on
module _ (rule : LockPositions → Header → List Reception) (is_rule : IsRule rule)
    (text more : List PlacedByte) (lock later : LockPositions) (extra : List Reception)
    (goes : later.taken ≡ lock.taken ++ extra) where
  same_one : (copy : Copy) → EndedIn lock.taken copy → EndedIn later.taken copy
      → IsHeaderIn (bytes_of text) copy.header
      → placed_as rule (text ++ more) later copy ≡ placed_as all_of text lock copy
  same_one copy ended still in_text =
      let both = found-same text more (copy ∷ [])
      (All-cons (λ (c : Copy). IsHeaderIn (bytes_of text) c.header) copy [] in_text
      (All-nil (λ (c : Copy). IsHeaderIn (bytes_of text) c.header))) in
      let found : found_copy (text ++ more) copy ≡ found_copy text copy = cc in
      ap₂ (λ (f : FoundCopy) (p : List Reception). record { found = f; positions = p }) found
      (is_rule.ended later copy still ∙ ap (λ l. positions_of l copy.header) goes
      ∙ positions_of-more lock.taken extra copy ended)

  pub same_placed : (ended : List Copy) → All (EndedIn lock.taken) ended
      → All (EndedIn later.taken) ended
      → All (λ (c : Copy). IsHeaderIn (bytes_of text) c.header) ended
      → map (placed_as rule (text ++ more) later) ended ≡ map (placed_as all_of text lock) ended
  same_placed [] was still in_text = refl
  same_placed (copy ∷ ended) was still in_text =
      let P : Copy → Type 0 = λ (c : Copy). IsHeaderIn (bytes_of text) c.header in
      ap₂ (λ x xs. x ∷ xs)
      (same_one copy (All-head (EndedIn lock.taken) copy ended was)
      (All-head (EndedIn later.taken) copy ended still) (All-head P copy ended in_text))
      (same_placed ended (All-tail (EndedIn lock.taken) copy ended was)
      (All-tail (EndedIn later.taken) copy ended still) (All-tail P copy ended in_text))

-- the first of some with P have P
All-first : {A : Type 0} (P : A → Type 0) (xs ys : List A) → All P (xs ++ ys) → All P xs
All-first P [] ys k = All-nil P
All-first P (x ∷ xs) ys k =
    All-cons P x xs (All-head P x (xs ++ ys) k) (All-first P xs ys (All-tail P x (xs ++ ys) k))

-- what has ended in a lock, after n words and after more
words_more : (rule : LockPositions → Header → List Reception) → IsRule rule → (bits : List Bool)
    (t n m : ℕ) → n ≤ m
    → GoesOnAs (placed all_of bits t n (ended_copies (lock_bytes bits t n)))
    (placed rule bits t m (ended_copies (lock_bytes bits t m)))
words_more rule is_rule bits t n m h =
    let first : Role = first_role bits t in
    let words : ℕ → ℕ = word_of_lock bits t in
    let short : List PlacedByte = lock_text bits t n in
    let long : List PlacedByte = lock_text bits t m in
    let lock : LockPositions = lock_positions bits t n in
    let later : LockPositions = lock_positions bits t m in
    let grows = text_by-grows first words t n m h in
    let takes = positions-grow first words n m h in
    let short_bytes = bytes_are_reading first words t n in
    let long_bytes = bytes_are_reading first words t m in
    let g : Grows (bytes_of short) (bytes_of grows.rest) =
    grown (bytes_of short) (bytes_of grows.rest) in
    let all : ended_copies (bytes_of long) ≡ ended_copies (bytes_of short) ++ g.later_copies =
    ap ended_copies (ap bytes_of grows.whole ∙ bytes_of-append short grows.rest) ∙ g.ended in
    let was : All (EndedIn lock.taken) (ended_copies (bytes_of short)) =
    subst (λ l. All (EndedIn lock.taken) (ended_copies l)) (sym short_bytes)
    (all_ended lock.taken) in
    let still : All (EndedIn later.taken) (ended_copies (bytes_of short)) =
    All-first (EndedIn later.taken) (ended_copies (bytes_of short)) g.later_copies
    (subst (All (EndedIn later.taken)) all
    (subst (λ l. All (EndedIn later.taken) (ended_copies l)) (sym long_bytes)
    (all_ended later.taken))) in
    record {
      rest = map (placed_as rule long later) g.later_copies;
      whole = ap (map (placed_as rule long later)) all
          ∙ map-append (placed_as rule long later) (ended_copies (bytes_of short)) g.later_copies
          ∙ ap (λ l. l ++ map (placed_as rule long later) g.later_copies)
          (ap (λ l. map (placed_as rule l later) (ended_copies (bytes_of short))) grows.whole
          ∙ same_placed rule is_rule short grows.rest lock later takes.rest takes.whole
          (ended_copies (bytes_of short)) was still (ended_headers_in (bytes_of short)));
    }

-- what has ended in a lock that stands, after more bits
standing_more : (rule : LockPositions → Header → List Reception) → IsRule rule
    → (bits more : List Bool) (t n : ℕ) → IsPattern bits t → whole_words bits t ≤ n
    → GoesOnAs (placed all_of bits t (whole_words bits t)
    (ended_copies (lock_bytes bits t (whole_words bits t))))
    (placed rule (bits ++ more) t n (ended_copies (lock_bytes (bits ++ more) t n)))
standing_more rule is_rule bits more t n here h =
    let w = whole_words bits t in
    subst (λ x. GoesOnAs x
    (placed rule (bits ++ more) t n (ended_copies (lock_bytes (bits ++ more) t n))))
    (placed-more all_of ended_copies bits more t w here (whole_heard bits t here.heard))
    (words_more rule is_rule (bits ++ more) t w n h)

-- all copies of a lock: those that have ended, and the one that stands open, closed
pub placed-parts : (rule : LockPositions → Header → List Reception) (bits : List Bool) (t n : ℕ)
    → placed rule bits t n (copies (lock_bytes bits t n))
    ≡ placed rule bits t n (ended_copies (lock_bytes bits t n))
    ++ placed rule bits t n
    (map (closed_copy (lock_bytes bits t n)) (open_headers (lock_bytes bits t n)))
placed-parts rule bits t n =
    let one = placed_as rule (lock_text bits t n) (lock_positions bits t n) in
    let bytes : List ℕ = lock_bytes bits t n in
    ap (map one) (copies_parts bytes)
    ∙ map-append one (ended_copies bytes) (map (closed_copy bytes) (open_headers bytes))

pub placed-hunted : (bits : List Bool) (ls : List Lock) (p : ℕ)
    → past_placed bits ls ≡ ended_placed bits ls (hunting p)
unfolding ended_placed
placed-hunted bits ls p = sym (append-nil (past_placed bits ls))

-- the copies of the locks with their positions, as they are told
abbrev placed_told : Telling PlacedCopy
placed_told = record {
  past = λ bits lock. placed (positions_in_past lock.how) bits lock.at (lock.last + 1)
      (copies (lock_bytes bits lock.at (lock.last + 1)));
  standing = λ bits t n. placed all_of bits t n (ended_copies (lock_bytes bits t n));
}

over-adds : (bits : List Bool) (lock : Lock)
    → GoesOnAs (placed_told.standing bits lock.at (lock.last + 1)) (placed_told.past bits lock)
over-adds bits lock =
    let n = lock.last + 1 in
    let bytes = lock_bytes bits lock.at n in
    let rule = positions_in_past lock.how in
    subst (λ (xs : List PlacedCopy). GoesOnAs (placed_told.standing bits lock.at n) xs)
    (sym (placed-parts rule bits lock.at n))
    (goes_on_then (placed_told.standing bits lock.at n)
    (placed rule bits lock.at n (ended_copies bytes))
    (placed rule bits lock.at n (map (closed_copy bytes) (open_headers bytes)))
    (words_more rule (rule_past lock.how) bits lock.at n n (omega arith)))

placed_adds : AddsToEnd placed_told
placed_adds = record {
  past_more = λ bits more lock p past. placed-more (positions_in_past lock.how) copies bits more
      lock.at (lock.last + 1) past.found.here past.released.heard;
  standing_more = standing_more all_of rule_all;
  over = over-adds;
}

past_told : (bits : List Bool) (locks : List Lock)
    → told_past placed_told bits locks ≡ past_placed bits locks
unfolding told_past past_placed
past_told bits [] = refl
past_told bits (lock ∷ older) =
    ap (λ xs. xs ++ placed_told.past bits lock) (past_told bits older)

standing_told : (bits : List Bool) (now : Now)
    → told_standing placed_told bits now ≡ standing_placed ended_copies bits now
standing_told bits (hunting p) = refl
standing_told bits (locked p t) = refl

are_told : (bits : List Bool) (locks : List Lock) (now : Now)
    → told placed_told bits locks now ≡ ended_placed bits locks now
unfolding ended_placed
are_told bits locks now =
    ap (λ xs. xs ++ told_standing placed_told bits now) (past_told bits locks)
    ∙ ap (λ xs. past_placed bits locks ++ xs) (standing_told bits now)

-- The copies that have ended stay with their positions, and later ones come behind them.
pub placed_go_on : (bits more : List Bool) (ls ks : List Lock) (m n : Now) → IsNow bits ls m
    → IsNow (bits ++ more) ks n
    → GoesOnAs (ended_placed bits ls m) (ended_placed (bits ++ more) ks n)
placed_go_on bits more ls ks m n is now =
    let on = told_goes_on placed_told placed_adds bits more ls ks m n is now in
    record {
      rest = on.rest;
      whole = sym (are_told (bits ++ more) ks n) ∙ on.whole
          ∙ ap (λ xs. xs ++ on.rest) (are_told bits ls m);
    }
