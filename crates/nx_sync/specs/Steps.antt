-- What one element brings, by what stands after it: the contract of a push.
use Rattle.std.specs.Prelude.{◌≡◌, ℕ, ◌+◌, ◌<◌, ◌≤◌, Bool, List, ◌∷◌, ◌++◌, length, take}
use Rattle.std.specs.Prelude.{slice_index, Option, Some, None}
use Rattle.std.specs.List.{flat_map}
use Rattle.std.specs.Option.{option_to_list}
use Rattle.nx_code.specs.Word.{elements, word_elements, last_element}
use Rattle.nx_sync.specs.declared.step.Role.{Role}
use Rattle.nx_sync.specs.declared.step.Change.{Change}
use Rattle.nx_sync.specs.declared.step.Change.TheVariants.{Locked}
use Rattle.nx_sync.specs.declared.step.Step.{Step}
use Rattle.nx_sync.specs.Words.{role_of, heard_word, word_begin}
use Rattle.nx_sync.specs.Locks.{Lock, Now, hunting, locked, IsLocked, IsNow}

-- a lock stands after these bits
pub record LockStands (bits : List Bool) : Type 0 where
  pub locks : List Lock
  pub p : ℕ
  pub t : ℕ
  pub stands : IsLocked bits locks p t

-- a lock stands after these bits, and the next one is the first of a word
pub record LimitStands (bits : List Bool) : Type 0 where
  pub locks : List Lock
  pub p : ℕ
  pub t : ℕ
  pub stands : IsLocked bits locks p t
  pub whole : ℕ
  pub limit : length bits ≡ word_begin t whole

abbrev pub step : Option (ℕ × Role) → Option Change → Step
step word change = record { word = word; change = change }

-- What the last of these bits brought, by what stands after them. Where that is a lock, it is the
-- lock just found, word k of the lock, or a bit inside a word. Where that is a hunt, it is the word
-- that released the newest past lock, or nothing.
pub data Brings (bits : List Bool) (s : Step) : List Lock → Now → Type 0 where
  found : {locks : List Lock} {p t : ℕ} → length bits ≡ t → s ≡ step None (Some Locked)
      → Brings bits s locks (locked p t)
  word : {locks : List Lock} {p t : ℕ} (k : ℕ) → length bits ≡ word_begin t (k + 1)
      → s ≡ step (Some (heard_word bits t k)) None → Brings bits s locks (locked p t)
  inside : {locks : List Lock} {p t : ℕ} (k r : ℕ) → length bits ≡ word_begin t k + r → 0 < r
      → r < word_elements → s ≡ step None None → Brings bits s locks (locked p t)
  over : {lock : Lock} {older : List Lock} {p : ℕ} → length bits ≡ p
      → s ≡ step (Some (heard_word bits lock.at lock.last)) (Some lock.how)
      → Brings bits s (lock ∷ older) (hunting p)
  hunts : {locks : List Lock} {p : ℕ} → p < length bits → s ≡ step None None
      → Brings bits s locks (hunting p)

-- s is what the last of these bits brought
pub record IsStep (bits : List Bool) (s : Step) : Type 0 where
  pub locks : List Lock
  pub now : Now
  pub stands : IsNow bits locks now
  pub brings : Brings bits s locks now

-- Of these bits, which come after others, the first n are heard by a hunt. The push of none of them
-- answers that a lock was found, nor anything else. The push of the next one, if there is one,
-- answers that a lock was found.
pub record HuntsThrough (before bits : List Bool) (n : ℕ) : Type 0 where
  pub within : n ≤ length bits
  pub quiet : (k : ℕ) → k < n → IsStep (before ++ take (k + 1) bits) (step None None)
  pub locks : n < length bits → IsStep (before ++ take (n + 1) bits) (step None (Some Locked))

-- Seven bits, which come after others, complete one word: the pushes of the first six answer
-- nothing, and that of the last one answers s.
pub record IsWordStep (before bits : List Bool) (s : Step) : Type 0 where
  pub inside : (k : ℕ) → k < last_element → IsStep (before ++ take (k + 1) bits) (step None None)
  pub last : IsStep (before ++ bits) s

-- Of these bits, which come after others, the last one brings s, and those before it nothing: the
-- pushes of these answer nothing, and that of the last one answers s.
pub record IsLastStep (before bits : List Bool) (s : Step) : Type 0 where
  pub quiet : (k : ℕ) → k + 1 < length bits → IsStep (before ++ take (k + 1) bits) (step None None)
  pub last : IsStep (before ++ bits) s

-- These words come after other bits, and none of them brings a change: the pushes of the elements
-- of each answer that word alone. The first one has the role `first`, and roles alternate.
abbrev pub AreQuietWords : List Bool → Role → List ℕ → Type 0
AreQuietWords before first words = (k : ℕ) → k < length words
    → IsWordStep (before ++ flat_map elements (take k words)) (elements (slice_index words k))
    (step (Some (slice_index words k, role_of first k)) None)

-- the word that a step completed, as a list of one, or of none
abbrev pub word_of_step : Step → List (ℕ × Role)
word_of_step s = option_to_list s.word
