-- Locks share nothing.
use Rattle.std.proofs.Common.{◌≡◌, ℕ, ◌+◌, ◌-◌, ◌*◌, ◌<◌, ◌≤◌, Bool, List, ◌∷◌, take, drop, cond}
use Rattle.std.proofs.Common.{◌==◌, sym, ap, ◌∙◌, arith}
use Rattle.std.proofs.lemmas.List.{drop-take, drop-drop, take-take}
use Rattle.nx_code.specs.Word.{number_of}
use Rattle.nx_code.specs.Table.{phasing_1}
use Rattle.nx_sync.specs.Words.{word_of_lock, first_role}
use Rattle.nx_sync.specs.Locks.{Lock, IsLocked, Past}
use Rattle.nx_sync.specs.declared.step.Role.TheVariants.{Dx, Rx}
use Rattle.nx_copies.specs.copies.LockText.{lock_text, text_by}
use Rattle.nx_copies.specs.laws.LawTerms.{own_bits}
use Rattle.nx_copies.proofs.lemmas.locks.Texts.{text_by-same}

part : (bits : List Bool) (i m k : ℕ) → k + 7 ≤ m
    → take 7 (drop k (take m (drop i bits))) ≡ take 7 (drop (i + k) bits)
part bits i m k h =
    let e : k + (m - k) ≡ m = omega arith in
    ap (λ j. take 7 (drop k (take j (drop i bits)))) (sym e)
    ∙ ap (take 7) (drop-take k (m - k) (drop i bits))
    ∙ take-take 7 (m - k) (drop k (drop i bits)) (omega arith)
    ∙ ap (take 7) (drop-drop k i bits)

same_part : (bits others : List Bool) (i m k j : ℕ) → take m (drop i bits) ≡ take m (drop i others)
    → k + 7 ≤ m → i + k ≡ j → take 7 (drop j bits) ≡ take 7 (drop j others)
same_part bits others i m k j e h at =
    ap (λ x. take 7 (drop x bits)) (sym at) ∙ sym (part bits i m k h)
    ∙ ap (λ xs. take 7 (drop k xs)) e ∙ part others i m k h
    ∙ ap (λ x. take 7 (drop x others)) at

-- the text of a lock is made of its own bits alone
pub own_text : (bits others : List Bool) (t n : ℕ) → 7 ≤ t → own_bits bits t n ≡ own_bits others t n
    → lock_text bits t n ≡ lock_text others t n
unfolding word_of_lock first_role
own_text bits others t n h e =
    let role : first_role bits t ≡ first_role others t =
    ap (λ w. cond (number_of w == phasing_1) Dx Rx)
    (same_part bits others (t - 7) (7 * n + 7) 0 (t - 7) e (omega arith) (omega arith)) in
    ap (λ first. text_by first (word_of_lock bits t) t n) role
    ∙ text_by-same (first_role others t) (word_of_lock bits t) (word_of_lock others t) t n
    (λ k lt. ap number_of (same_part bits others (t - 7) (7 * n + 7) (7 + 7 * k) (t + 7 * k) e
    (omega arith) (omega arith)))

-- a lock's last word is over before the next lock begins
pub apart : (bits : List Bool) (newer older : Lock) (locks : List Lock) (p : ℕ)
    → Past bits (newer ∷ older ∷ locks) p → older.at + 7 * (older.last + 1) < newer.at
unfolding Past
apart bits newer older locks p past = omega (arith, past.1.0.next, past.0.found.after)

pub apart_now : (bits : List Bool) (lock : Lock) (locks : List Lock) (p t : ℕ)
    → IsLocked bits (lock ∷ locks) p t → lock.at + 7 * (lock.last + 1) < t
unfolding Past
apart_now bits lock locks p t is = omega (arith, is.past.0.next, is.found.after)
