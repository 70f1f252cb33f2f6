-- The words that the laws of the locks are said in.
use Rattle.std.specs.Prelude.{◌≡◌, ℕ, zero, suc, ◌+◌, ◌*◌, ◌≤◌, Bool, List, [], ◌∷◌, ◌++◌, length}
use Rattle.nx_sync.specs.declared.step.Role.TheVariants.{Dx}
use Rattle.nx_sync.specs.declared.step.Change.{Change}
use Rattle.nx_code.specs.Table.{elements_of_phasing_1, elements_of_phasing_2}
use Rattle.nx_sync.specs.Words.{first_role, role_of, word_begin}
use Rattle.nx_sync.specs.Locks.{IsReleased, Lock, Now, hunting, locked, IsLocked, IsNow}

-- what stands after these bits, together
pub record WhatStands (bits : List Bool) : Type 0 where
  pub locks : List Lock
  pub now : Now
  pub stands : IsNow bits locks now

-- these past locks are the older ones with, perhaps, newer ones before them in the list
pub data Extends : List Lock → List Lock → Type 0 where
  same : {locks : List Lock} → Extends locks locks
  newer : {lock : Lock} {locks older : List Lock} → Extends locks older
      → Extends (lock ∷ locks) older

-- How what stood goes on when more bits come: hunting, a lock that is found, a lock that still
-- stands; or else the search, or the lock, that stood led to the next past lock.
pub data GoesOn : List Lock → Now → List Lock → Now → Type 0 where
  hunts_on : {locks : List Lock} {p : ℕ} → GoesOn locks (hunting p) locks (hunting p)
  finds_one : {locks : List Lock} {p t : ℕ} → GoesOn locks (hunting p) locks (locked p t)
  stands_still : {locks : List Lock} {p t : ℕ} → GoesOn locks (locked p t) locks (locked p t)
  found_and_past : {older locks : List Lock} {p : ℕ} {now : Now} (lock : Lock) → lock.from ≡ p
      → Extends locks (lock ∷ older) → GoesOn older (hunting p) locks now
  is_past : {older locks : List Lock} {p t : ℕ} {now : Now} (lock : Lock)
      → lock.from ≡ p → lock.at ≡ t → Extends locks (lock ∷ older)
      → GoesOn older (locked p t) locks now

-- what stood after these bits, where these locks and this state stand after more
pub record Stood (bits : List Bool) (locks : List Lock) (now : Now) : Type 0 where
  pub older : List Lock
  pub was : Now
  pub stood : IsNow bits older was
  pub goes_on : GoesOn older was locks now

-- What the last of these bits makes of what stood before it: hunting goes on; a lock is found at
-- it; the lock still stands; or the lock is over, and hunting begins after it.
pub data OneMore (bits : List Bool) : List Lock → Now → List Lock → Now → Type 0 where
  still_hunts : {locks : List Lock} {p : ℕ} → OneMore bits locks (hunting p) locks (hunting p)
  now_finds : {locks : List Lock} {p t : ℕ} → length bits ≡ t
      → OneMore bits locks (hunting p) locks (locked p t)
  still_stands : {locks : List Lock} {p t : ℕ} → OneMore bits locks (locked p t) locks (locked p t)
  now_over : {older : List Lock} {p t q : ℕ} (lock : Lock) → lock.from ≡ p → lock.at ≡ t
      → length bits ≡ q → OneMore bits older (locked p t) (lock ∷ older) (hunting q)

-- no word of the lock at t released it
abbrev pub Holds : List Bool → ℕ → Type 0
Holds bits t = (w : ℕ) (how : Change) → IsReleased bits t w how → ⊥

-- P2 P1, so many times: phasing as it is sent (M.476, M.625)
unfoldable pub phasing : ℕ → List Bool
phasing zero = []
phasing (suc n) = elements_of_phasing_2 ++ elements_of_phasing_1 ++ phasing n

-- The lock at t is on the word limits and roles of a phasing that begins after n bits: word g of
-- it, a DX word, is where pair a of the phasing begins.
pub record IsOnPhasing (bits : List Bool) (n t : ℕ) : Type 0 where
  pub g : ℕ
  pub a : ℕ
  pub place : word_begin t g ≡ n + 14 * a
  pub dx : role_of (first_role bits t) g ≡ Dx

-- the lock at t is on other limits than those of a phasing that begins after n bits
pub record IsBetweenLimits (n t : ℕ) : Type 0 where
  pub apart : (k j : ℕ) → word_begin t k ≡ word_begin n j → ⊥

-- the lock at t is released by a word that is over after m bits at the latest
pub record IsReleasedBy (bits : List Bool) (t m : ℕ) : Type 0 where
  pub word : ℕ
  pub how : Change
  pub by : word_begin t (word + 1) ≤ m
  pub released : IsReleased bits t word how

-- A lock stands after these bits, they end with a word of the lock, and the next one is a DX word.
pub record LockedBeforeDx (bits : List Bool) : Type 0 where
  pub locks : List Lock
  pub p : ℕ
  pub t : ℕ
  pub stands : IsLocked bits locks p t
  pub whole : ℕ
  pub limit : length bits ≡ word_begin t whole
  pub dx : role_of (first_role bits t) whole ≡ Dx
