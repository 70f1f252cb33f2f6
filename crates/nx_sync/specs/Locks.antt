-- The locks of a receiver, over the whole list of bits that it has heard. When a lock begins, which
-- role its words have, what releases it and where the next search begins is this profile's.
use Rattle.std.specs.Prelude.{◌≡◌, ℕ, ◌+◌, ◌-◌, ◌<◌, ◌≤◌, Bool, ◌⊎◌, List, [], ◌∷◌, length}
use Rattle.std.specs.Prelude.{take, drop}
use Rattle.std.specs.List.{flat_map}
use Rattle.nx_sync.specs.declared.step.Role.{Role}
use Rattle.nx_sync.specs.declared.step.Role.TheVariants.{Dx}
use Rattle.nx_sync.specs.declared.step.Change.{Change}
use Rattle.nx_sync.specs.declared.step.Change.TheVariants.{Ended, LostLock}
use Rattle.nx_code.specs.Table.{phasing_1, phasing_2}
use Rattle.nx_code.specs.Word.{elements}
use Rattle.nx_sync.specs.Words.{losing_count, word_of_lock, first_role, role_of, wrong_until}
use Rattle.nx_sync.specs.Words.{lock_words, word_begin}

-- How many elements the patterns have that give a lock: four words (this profile).
abbrev pub pattern_elements : ℕ
pattern_elements = 28

-- The two patterns of bits that give a lock: P2 P1 P2 P1, after which a DX word follows, and P1 P2
-- P1 P2, after which an RX word follows (this profile).
unfoldable pub before_dx : List Bool
before_dx = flat_map elements (phasing_2 ∷ phasing_1 ∷ phasing_2 ∷ phasing_1 ∷ [])

unfoldable pub before_rx : List Bool
before_rx = flat_map elements (phasing_1 ∷ phasing_2 ∷ phasing_1 ∷ phasing_2 ∷ [])

-- the last bits before the bit count t, as many as a pattern has
abbrev pub last_elements : List Bool → ℕ → List Bool
last_elements bits t = take pattern_elements (drop (t - pattern_elements) bits)

-- the last bits before the bit count t are there, and are one of the two patterns (this profile)
pub record IsPattern (bits : List Bool) (t : ℕ) : Type 0 where
  pub enough : pattern_elements ≤ t
  pub heard : t ≤ length bits
  pub pattern : (last_elements bits t ≡ before_dx) ⊎ (last_elements bits t ≡ before_rx)

-- A search from p finds t: the least bit count greater than p with a pattern before it. The bits of
-- the pattern may begin before p (this profile).
pub record Finds (bits : List Bool) (p t : ℕ) : Type 0 where
  pub after : p < t
  pub here : IsPattern bits t
  pub least : (s : ℕ) → p < s → s < t → IsPattern bits s → ⊥

-- Word k is the second of two DX words in a row that are phasing signal 1. It is a DX word, at
-- least word 2, and it and word k - 2 are phasing signal 1. That is the end of an emission (M.625,
-- mode B).
pub record IsSecondPhasing1 (first : Role) (words : ℕ → ℕ) (k : ℕ) : Type 0 where
  pub two : 2 ≤ k
  pub dx : role_of first k ≡ Dx
  pub this : words k ≡ phasing_1
  pub before : words (k - 2) ≡ phasing_1

-- how many words behind a second phasing signal 1 the lock is ended (this profile)
abbrev pub words_to_end : ℕ
words_to_end = 3

-- Ended at word w: so many words behind the least word that is a second phasing signal 1 (this
-- profile).
pub record EndedAt (first : Role) (words : ℕ → ℕ) (w : ℕ) : Type 0 where
  pub late : words_to_end ≤ w
  pub here : IsSecondPhasing1 first words (w - words_to_end)
  pub least : (k : ℕ) → k < w - words_to_end → IsSecondPhasing1 first words k → ⊥

-- Lost at word w (this profile): the least word up to which as many of the last 64 words are wrong
-- as lose a lock (`losing_count`). Where there are fewer than 64 up to it, all of them count.
pub record LostAt (words : ℕ → ℕ) (w : ℕ) : Type 0 where
  pub here : losing_count ≤ wrong_until words w
  pub least : (k : ℕ) → k < w → wrong_until words k < losing_count

-- Word w is the earlier of the word of Ended and the word of Lost; where they are the same, it is
-- Ended (this profile).
pub data IsEarlier (first : Role) (words : ℕ → ℕ) (w : ℕ) : Change → Type 0 where
  ended : EndedAt first words w → ((v : ℕ) → LostAt words v → w ≤ v) → IsEarlier first words w Ended
  lost : LostAt words w → ((v : ℕ) → EndedAt first words v → w < v)
      → IsEarlier first words w LostLock

-- The lock at t is released after word w, the earlier of the two. It is the last word of the lock,
-- and all its bits were heard.
pub record IsReleased (bits : List Bool) (t w : ℕ) (how : Change) : Type 0 where
  pub heard : word_begin t (w + 1) ≤ length bits
  pub earlier : IsEarlier (first_role bits t) (word_of_lock bits t) w how

-- a lock that was released: from where it was searched, the bit count where it began, its last
-- word, and how it was released
pub record Lock : Type 0 where
  pub from : ℕ
  pub at : ℕ
  pub last : ℕ
  pub how : Change

-- the words of a lock that was released, each with its role, the releasing word among them
abbrev pub words_of_past : List Bool → Lock → List (ℕ × Role)
words_of_past bits lock = lock_words bits lock.at (lock.last + 1)

-- the lock was found by a search from its `from`, and was released, and p is the bit count after
-- its last word
pub record IsPast (bits : List Bool) (lock : Lock) (p : ℕ) : Type 0 where
  pub found : Finds bits lock.from lock.at
  pub released : IsReleased bits lock.at lock.last lock.how
  pub next : p ≡ word_begin lock.at (lock.last + 1)

-- The locks that were released, the newest first, and the bit count p from which is searched after
-- them. The first search is from 0, each other one from the bit count after the word that released
-- the lock before (this profile).
unfoldable pub Past : List Bool → List Lock → ℕ → Type 0
Past bits [] p = p ≡ 0
Past bits (lock ∷ older) p = IsPast bits lock p × Past bits older lock.from

-- what stands: hunting since the bit count p, or a lock at t that was searched from p
pub data Now : Type 0 where
  hunting : ℕ → Now
  locked : ℕ → ℕ → Now

-- These locks are past, and the search after them is from p. It finds nothing in these bits.
pub record IsHunting (bits : List Bool) (locks : List Lock) (p : ℕ) : Type 0 where
  pub past : Past bits locks p
  pub none : (s : ℕ) → p < s → IsPattern bits s → ⊥

-- These locks are past, and the search after them is from p. It found t, and no word released the
-- lock that began there.
pub record IsLocked (bits : List Bool) (locks : List Lock) (p t : ℕ) : Type 0 where
  pub past : Past bits locks p
  pub found : Finds bits p t
  pub holds : (w : ℕ) (how : Change) → IsReleased bits t w how → ⊥

-- what stands after these bits: the locks before, and whether a lock stands
abbrev pub IsNow : List Bool → List Lock → Now → Type 0
IsNow bits locks (hunting p) = IsHunting bits locks p
IsNow bits locks (locked p t) = IsLocked bits locks p t
