-- More bits and more events: what was found stays, and so does what was printed.
use Rattle.std.proofs.Common.{◌≡◌, ℕ, ◌+◌, ◌≤◌, Bool, List, [], ◌∷◌, ◌++◌, refl, sym, ap, ◌∙◌}
use Rattle.std.proofs.Common.{subst, append-nil}
use Rattle.nx_sync.specs.Words.{whole_words, first_role, word_of_lock}
use Rattle.nx_sync.specs.Locks.{Lock, Now, hunting, locked, IsNow, Past, IsPattern}
use Rattle.nx_envelope.specs.Copies.{ended_copies, headers, beginnings, header_at_end}
use Rattle.nx_envelope.specs.private.Reading.{identity_read}
use Rattle.nx_copies.specs.copies.LockText.{PlacedByte, bytes_of, lock_text}
use Rattle.nx_copies.specs.copies.FoundCopies.{FoundCopy, ended_in, open_in, all_in, past_text}
use Rattle.nx_copies.specs.copies.FoundCopies.{past_copies, standing_text, ended_so_far}
use Rattle.nx_copies.proofs.lemmas.locks.Texts.{GoesOnAs, lock_text-more, text_by-grows}
use Rattle.nx_copies.proofs.lemmas.locks.Told.{AddsToEnd, Telling, told, told_goes_on, told_past}
use Rattle.nx_copies.proofs.lemmas.locks.Told.{told_standing}
pub use Rattle.nx_copies.proofs.lemmas.locks.Told.{whole_heard}
use Rattle.nx_copies.proofs.lemmas.locks.Found.{all_in-parts, ended_in-grows}

-- more bits leave the copies of the locks that are past
pub past_copies-more : (bits more : List Bool) (locks : List Lock) (p : ℕ) → Past bits locks p
    → past_copies (bits ++ more) locks ≡ past_copies bits locks
unfolding past_copies Past
past_copies-more bits more [] p past = refl
past_copies-more bits more (lock ∷ older) p past =
    let text = lock_text-more bits more lock.at (lock.last + 1) past.0.found.here
    past.0.released.heard in
    ap (λ xs. xs ++ all_in (past_text (bits ++ more) lock))
    (past_copies-more bits more older lock.from past.1)
    ∙ ap (λ w. past_copies bits older ++ all_in w) text

-- what has ended in the text of a lock that stands
standing_more : (bits more : List Bool) (t n : ℕ) → IsPattern bits t → whole_words bits t ≤ n
    → GoesOnAs (ended_in (lock_text bits t (whole_words bits t)))
    (ended_in (lock_text (bits ++ more) t n))
standing_more bits more t n here h =
    let w = whole_words bits t in
    let kept = lock_text-more bits more t w here (whole_heard bits t here.heard) in
    let grows = text_by-grows (first_role (bits ++ more) t) (word_of_lock (bits ++ more) t) t w n
    h in
    subst (λ (x : List PlacedByte). GoesOnAs (ended_in x) (ended_in (lock_text (bits ++ more) t n)))
    kept (ended_in-grows (lock_text (bits ++ more) t w) (lock_text (bits ++ more) t n) grows)

-- an empty text has no copies
pub ended_in-nil : ended_in [] ≡ []
unfolding bytes_of ended_copies headers beginnings header_at_end identity_read
ended_in-nil = refl

pub hunted : (bits : List Bool) (ls : List Lock) (p : ℕ)
    → past_copies bits ls ≡ ended_so_far bits ls (hunting p)
unfolding ended_so_far
hunted bits ls p = sym (append-nil (past_copies bits ls))
    ∙ ap (λ xs. past_copies bits ls ++ xs) (sym ended_in-nil)

-- the copies of the locks, as they are told
abbrev copies_told : Telling FoundCopy
copies_told = record {
  past = λ bits lock. all_in (past_text bits lock);
  standing = λ bits t n. ended_in (lock_text bits t n);
}

copies_add : AddsToEnd copies_told
copies_add = record {
  past_more = λ bits more lock p past. ap all_in (lock_text-more bits more lock.at (lock.last + 1)
      past.found.here past.released.heard);
  standing_more = standing_more;
  over = λ bits lock. let text = past_text bits lock in
      record { rest = open_in text; whole = all_in-parts text };
}

past_told : (bits : List Bool) (locks : List Lock)
    → told_past copies_told bits locks ≡ past_copies bits locks
unfolding told_past past_copies
past_told bits [] = refl
past_told bits (lock ∷ older) = ap (λ xs. xs ++ all_in (past_text bits lock)) (past_told bits older)

standing_told : (bits : List Bool) (now : Now)
    → told_standing copies_told bits now ≡ ended_in (standing_text bits now)
standing_told bits (hunting p) = sym ended_in-nil
standing_told bits (locked p t) = refl

are_told : (bits : List Bool) (locks : List Lock) (now : Now)
    → told copies_told bits locks now ≡ ended_so_far bits locks now
unfolding ended_so_far
are_told bits locks now =
    ap (λ xs. xs ++ told_standing copies_told bits now) (past_told bits locks)
    ∙ ap (λ xs. past_copies bits locks ++ xs) (standing_told bits now)

-- The copies that have ended stay, and later ones come behind them.
pub ended_go_on : (bits more : List Bool) (ls ks : List Lock) (m n : Now) → IsNow bits ls m
    → IsNow (bits ++ more) ks n
    → GoesOnAs (ended_so_far bits ls m) (ended_so_far (bits ++ more) ks n)
ended_go_on bits more ls ks m n is now =
    let on = told_goes_on copies_told copies_add bits more ls ks m n is now in
    record {
      rest = on.rest;
      whole = sym (are_told (bits ++ more) ks n) ∙ on.whole
          ∙ ap (λ xs. xs ++ on.rest) (are_told bits ls m);
    }
