-- What is told of the locks in bits, lock by lock: more bits leave it as it was, and add to its
-- end.
use Rattle.std.proofs.Common.{◌≡◌, ℕ, ◌+◌, ◌*◌, ◌≤◌, Bool, List, [], ◌∷◌, ◌++◌, length, refl, sym}
use Rattle.std.proofs.Common.{ap, ◌∙◌, subst, arith, inl, inr, append-nil}
use Rattle.std.proofs.lemmas.List.{length-append}
use Rattle.std.proofs.lemmas.Bool.{cases_lt}
use Rattle.nx_sync.specs.Words.{whole_words}
use Rattle.nx_sync.specs.Locks.{Lock, Now, hunting, locked, IsNow, Past, IsPast, IsPattern}
use Rattle.nx_sync.specs.Laws.{Extends, same, newer, GoesOn, hunts_on, finds_one, stands_still}
use Rattle.nx_sync.specs.Laws.{found_and_past, is_past}
use Rattle.nx_sync.proofs.lemmas.states.StateChanges.{goes-on, Extends-trans}
use Rattle.nx_sync.proofs.lemmas.states.KeptPast.{IsReleased-less}
use Rattle.nx_copies.proofs.lemmas.locks.Texts.{GoesOnAs, goes_on_as_is, goes_on_twice, goes_on_then}
use Rattle.nx_copies.proofs.lemmas.locks.Texts.{goes_on_behind}

-- what is told of a lock that is past, and of one that stands at a place, after so many words
pub record Telling (A : Type 0) : Type 0 where
  pub past : List Bool → Lock → List A
  pub standing : List Bool → ℕ → ℕ → List A

-- of the locks that are past, which stand newest first
unfoldable pub told_past : {A : Type 0} → Telling A → List Bool → List Lock → List A
told_past telling bits [] = []
told_past telling bits (lock ∷ older) = told_past telling bits older ++ telling.past bits lock

-- of the lock that stands, if one does
abbrev pub told_standing : {A : Type 0} → Telling A → List Bool → Now → List A
told_standing telling bits (hunting p) = []
told_standing telling bits (locked p t) = telling.standing bits t (whole_words bits t)

-- of all
abbrev pub told : {A : Type 0} → Telling A → List Bool → List Lock → Now → List A
told telling bits locks now = told_past telling bits locks ++ told_standing telling bits now

-- More bits change nothing that is told of a lock that is past. More words add to what is told of
-- one that stands, and so does its end.
pub record AddsToEnd {A : Type 0} (telling : Telling A) : Type 0 where
  pub past_more : (bits more : List Bool) (lock : Lock) (p : ℕ) → IsPast bits lock p
      → telling.past (bits ++ more) lock ≡ telling.past bits lock
  pub standing_more : (bits more : List Bool) (t n : ℕ) → IsPattern bits t → whole_words bits t ≤ n
      → GoesOnAs (telling.standing bits t (whole_words bits t)) (telling.standing (bits
      ++ more) t n)
  pub over : (bits : List Bool) (lock : Lock)
      → GoesOnAs (telling.standing bits lock.at (lock.last + 1)) (telling.past bits lock)

pub told_past-more : {A : Type 0} (telling : Telling A) → AddsToEnd telling
    → (bits more : List Bool)
    (locks : List Lock) (p : ℕ) → Past bits locks p
    → told_past telling (bits ++ more) locks ≡ told_past telling bits locks
unfolding told_past Past
told_past-more telling adds bits more [] p past = refl
told_past-more telling adds bits more (lock ∷ older) p past =
    ap (λ xs. xs ++ telling.past (bits ++ more) lock)
    (told_past-more telling adds bits more older lock.from past.1)
    ∙ ap (λ w. told_past telling bits older ++ w) (adds.past_more bits more lock p past.0)

-- newer locks add what is told of them
told_past-newer : {A : Type 0} (telling : Telling A) (bits : List Bool) (locks older : List Lock)
    → Extends locks older → GoesOnAs (told_past telling bits older) (told_past telling bits locks)
unfolding told_past
told_past-newer telling bits locks older same = goes_on_as_is (told_past telling bits older)
told_past-newer telling bits (lock ∷ locks) older (newer e) =
    goes_on_twice (told_past telling bits older) (told_past telling bits locks) _
    (told_past-newer telling bits locks older e)
    (record { rest = telling.past bits lock; whole = refl })

-- the words of a lock that stands were heard whole
pub whole_heard : (bits : List Bool) (t : ℕ) → t ≤ length bits
    → t + 7 * whole_words bits t ≤ length bits
whole_heard bits t h = omega arith

fewer_words : (bits more : List Bool) (t : ℕ) → whole_words bits t ≤ whole_words (bits ++ more) t
fewer_words bits more t = omega (arith, length-append bits more)

-- a lock that stood, and is past after more bits, had no more words than it has in all
not_past_yet : (bits more : List Bool) (locks : List Lock) (p : ℕ) (lock : Lock) (q : ℕ)
    → IsNow bits locks (locked p lock.at) → IsPast (bits ++ more) lock q
    → whole_words bits lock.at ≤ lock.last + 1
not_past_yet bits more locks p lock q now past =
    elim (cases_lt (lock.last + 1) (whole_words bits lock.at)) [
      | inl beyond ↦
          let heard : lock.at + 7 * (lock.last + 1) ≤ length bits =
          omega (arith, whole_heard bits lock.at now.found.here.heard) in
          absurd (now.holds lock.last lock.how
          (IsReleased-less bits more lock.at lock.last now.found.here.enough heard
          past.released))
      | inr within ↦ within
    ]

pub past_of : (bits : List Bool) (ls ks : List Lock) (p : ℕ) → Extends ls ks → Past bits ls p
    → (q : ℕ) × Past bits ks q
unfolding Past
past_of bits ls ks p same past = (p, past)
past_of bits (lock ∷ ls) ks p (newer e) past = past_of bits ls ks lock.from e past.1

pub past_now : (bits : List Bool) (locks : List Lock) (now : Now) → IsNow bits locks now
    → (p : ℕ) × Past bits locks p
past_now bits locks (hunting p) is = (p, is.past)
past_now bits locks (locked p t) is = (p, is.past)

past_goes_on : {A : Type 0} (telling : Telling A) → AddsToEnd telling → (bits more : List Bool)
    (ls ks : List Lock) (m : Now) → IsNow bits ls m
    → GoesOnAs (told_past telling (bits ++ more) ls) (told_past telling (bits ++ more) ks)
    → GoesOnAs (told_past telling bits ls) (told_past telling (bits ++ more) ks)
past_goes_on {A = A} telling adds bits more ls ks m is g =
    let past = past_now bits ls m is in
    subst (λ (xs : List A). GoesOnAs xs (told_past telling (bits ++ more) ks))
    (told_past-more telling adds bits more ls past.0 past.1) g

-- the lock that stood is past
over_now : {A : Type 0} (telling : Telling A) → AddsToEnd telling → (bits more : List Bool)
    (ls ks : List Lock) (p : ℕ) (n : Now) (lock : Lock)
    → Extends ks (lock ∷ ls) → IsNow (bits ++ more) ks n → IsNow bits ls (locked p lock.at)
    → GoesOnAs (told telling bits ls (locked p lock.at)) (told_past telling (bits ++ more) ks)
unfolding told_past Past
over_now {A = A} telling adds bits more ls ks p n lock x now is =
    let past = past_now (bits ++ more) ks n now in
    let this = past_of (bits ++ more) ks (lock ∷ ls) past.0 x past.1 in
    let before = telling.standing bits lock.at (whole_words bits lock.at) in
    let whole = telling.past (bits ++ more) lock in
    let all : GoesOnAs before whole =
    goes_on_twice before (telling.standing (bits ++ more) lock.at (lock.last + 1)) whole
    (adds.standing_more bits more lock.at (lock.last + 1) is.found.here
    (not_past_yet bits more ls p lock this.0 is this.1.0))
    (adds.over (bits ++ more) lock) in
    let here : GoesOnAs (told_past telling bits ls ++ before)
    (told_past telling (bits ++ more) (lock ∷ ls)) =
    subst (λ (xs : List A). GoesOnAs (xs ++ before) (told_past telling (bits ++ more) (lock ∷ ls)))
    (told_past-more telling adds bits more ls p is.past)
    (goes_on_behind (told_past telling (bits ++ more) ls) before whole all) in
    goes_on_twice _ _ _ here (told_past-newer telling (bits ++ more) ks (lock ∷ ls) x)

hunted : {A : Type 0} (telling : Telling A) (bits : List Bool) (ls : List Lock) (p : ℕ)
    → told_past telling bits ls ≡ told telling bits ls (hunting p)
hunted telling bits ls p = sym (append-nil (told_past telling bits ls))

goes_on_by : {A : Type 0} (telling : Telling A) → AddsToEnd telling → (bits more : List Bool)
    (ls ks : List Lock) (m n : Now) → IsNow bits ls m → IsNow (bits ++ more) ks n
    → GoesOn ls m ks n → GoesOnAs (told telling bits ls m) (told telling (bits ++ more) ks n)
goes_on_by {A = A} telling adds bits more ls ks (hunting p) n is now hunts_on =
    subst (λ (xs : List A). GoesOnAs xs (told telling (bits ++ more) ls n))
    (hunted telling bits ls p)
    (goes_on_then (told_past telling bits ls) _ _
    (past_goes_on telling adds bits more ls ls (hunting p) is (goes_on_as_is _)))
goes_on_by {A = A} telling adds bits more ls ks (hunting p) n is now finds_one =
    subst (λ (xs : List A). GoesOnAs xs (told telling (bits ++ more) ls n))
    (hunted telling bits ls p)
    (goes_on_then (told_past telling bits ls) _ _
    (past_goes_on telling adds bits more ls ls (hunting p) is (goes_on_as_is _)))
goes_on_by {A = A} telling adds bits more ls ks (locked p t) n is now stands_still =
    let longer : whole_words bits t ≤ whole_words (bits ++ more) t = fewer_words bits more t in
    subst (λ (xs : List A). GoesOnAs (xs ++ told_standing telling bits (locked p t))
    (told telling (bits ++ more) ls (locked p t)))
    (told_past-more telling adds bits more ls p is.past)
    (goes_on_behind (told_past telling (bits ++ more) ls) _ _
    (adds.standing_more bits more t (whole_words (bits ++ more) t) is.found.here longer))
goes_on_by {A = A} telling adds bits more ls ks (hunting p) n is now (found_and_past lock e x) =
    subst (λ (xs : List A). GoesOnAs xs (told telling (bits ++ more) ks n))
    (hunted telling bits ls p)
    (goes_on_then (told_past telling bits ls) _ _
    (past_goes_on telling adds bits more ls ks (hunting p) is
    (told_past-newer telling (bits ++ more) ks ls (Extends-trans x (newer same)))))
goes_on_by {A = A} telling adds bits more ls ks (locked p t) n is now (is_past lock e a x) =
    let over : GoesOnAs (told telling bits ls (locked p t)) (told_past telling (bits ++ more) ks) =
    subst (λ (u : ℕ). IsNow bits ls (locked p u)
    → GoesOnAs (told telling bits ls (locked p u)) (told_past telling (bits ++ more) ks)) a
    (over_now telling adds bits more ls ks p n lock x now) is in
    goes_on_then _ _ _ over

-- What was told stays, and later things come behind it.
pub told_goes_on : {A : Type 0} (telling : Telling A) → AddsToEnd telling → (bits more : List Bool)
    (ls ks : List Lock) (m n : Now) → IsNow bits ls m → IsNow (bits ++ more) ks n
    → GoesOnAs (told telling bits ls m) (told telling (bits ++ more) ks n)
told_goes_on telling adds bits more ls ks m n is now =
    goes_on_by telling adds bits more ls ks m n is now (goes-on bits more ls ks m n is now)
