-- What lies before the end of the bits is the same when more bits come.
use Rattle.std.proofs.Common.{◌≡◌, ℕ, zero, suc, ◌+◌, ◌-◌, ◌*◌, ◌<◌, ◌≤◌, List, [], ◌∷◌, ◌++◌}
use Rattle.std.proofs.Common.{length, Bool, refl, sym, ap, ap₂, ◌∙◌, inl, inr, arith, length-append}
use Rattle.nx_code.specs.Word.{number_of, is_wrong, wrong_in}
use Rattle.nx_sync.specs.declared.step.Role.{Role}
use Rattle.nx_sync.specs.Words.{marked_words, word_of_lock, first_role, role_of, wrong_until}
use Rattle.nx_code.proofs.lemmas.WordCounts.{one_if}
use Rattle.nx_sync.specs.Locks.{last_elements, IsPattern, Finds, IsSecondPhasing1, IsReleased, Lock}
use Rattle.nx_sync.specs.Locks.{IsPast, Past}
use Rattle.nx_sync.specs.private.Releases.{releases_as_ended, change_at, release}
use Rattle.nx_sync.proofs.lemmas.states.Lists.{part-append}
use Rattle.nx_sync.proofs.lemmas.words.Computed.{released-from, released-to}

-- a count looks at its words alone
pub wrong_in-same : (f g : ℕ → ℕ) (i n : ℕ) → ((j : ℕ) → j < i + n → f j ≡ g j)
    → wrong_in f i n ≡ wrong_in g i n
unfolding wrong_in
wrong_in-same f g i zero same = refl
wrong_in-same f g i (suc n) same =
    ap₂ ◌+◌ (wrong_in-same f g i n (λ j h. same j (omega arith)))
    (ap (λ w. one_if (is_wrong w)) (same (i + n) (omega arith)))

-- what word k would bring looks at the words to k alone
pub change_at-same : (first : Role) (f g : ℕ → ℕ) (k : ℕ) → ((j : ℕ) → j ≤ k → f j ≡ g j)
    → change_at first f k ≡ change_at first g k
unfolding change_at releases_as_ended
change_at-same first f g k same =
    simp (
      same (k - 3) (omega arith),
      same (k - 5) (omega arith),
      wrong_in-same f g
          (k + 1 - marked_words) (k + 1 - (k + 1 - marked_words)) (λ j h. same j (omega arith)),
    )

module _ (bits more : List Bool) where
  pub word_at-more : (t k : ℕ) → t + 7 * (k + 1) ≤ length bits
      → word_of_lock (bits ++ more) t k ≡ word_of_lock bits t k
  unfolding word_of_lock
  word_at-more t k h = ap number_of (part-append (t + 7 * k) 7 bits more (omega arith))

  pub first_role-more : (t : ℕ) → 28 ≤ t → t ≤ length bits
      → first_role (bits ++ more) t ≡ first_role bits t
  unfolding first_role
  first_role-more t low h = simp (part-append (t - 7) 7 bits more (omega arith))

  pub release-more : (t k : ℕ) → 28 ≤ t → t + 7 * (k + 1) ≤ length bits
      → release (bits ++ more) t k ≡ release bits t k
  release-more t k low h =
      ap (λ role. change_at role (word_of_lock (bits ++ more) t) k)
      (first_role-more t low (omega arith))
      ∙ change_at-same (first_role bits t) (word_of_lock (bits ++ more) t) (word_of_lock bits t) k
      (λ j le. word_at-more t j (omega arith))

  pub last_elements-more : (t : ℕ) → 28 ≤ t → t ≤ length bits
      → last_elements (bits ++ more) t ≡ last_elements bits t
  last_elements-more t low h = part-append (t - 28) 28 bits more (omega arith)

  pub IsPattern-more : (t : ℕ) → IsPattern bits t → IsPattern (bits ++ more) t
  IsPattern-more t here =
      let same = last_elements-more t here.enough here.heard in
      record {
        enough = here.enough;
        heard = simp length-append (omega (arith, here.heard));
        pattern = elim here.pattern [ inl d ↦ inl (same ∙ d) | inr r ↦ inr (same ∙ r) ];
      }

  pub IsPattern-less : (t : ℕ) → t ≤ length bits → IsPattern (bits ++ more) t → IsPattern bits t
  IsPattern-less t h here =
      let same = sym (last_elements-more t here.enough h) in
      record {
        enough = here.enough;
        heard = h;
        pattern = elim here.pattern [ inl d ↦ inl (same ∙ d) | inr r ↦ inr (same ∙ r) ];
      }

  pub Finds-more : (p t : ℕ) → Finds bits p t → Finds (bits ++ more) p t
  Finds-more p t f = record {
    after = f.after;
    here = IsPattern-more t f.here;
    least = λ s after before here. f.least s after before
        (IsPattern-less s (omega (arith, f.here.heard)) here);
  }

  pub IsReleased-more : (t w : ℕ) {how : _} → 28 ≤ t → IsReleased bits t w how
      → IsReleased (bits ++ more) t w how
  IsReleased-more t w {how} low r =
      let c = released-from bits t w how r in
      released-to (bits ++ more) t w how (simp length-append (omega (arith, r.heard)))
      (release-more t w low r.heard ∙ c.here)
      (λ j h. release-more t j low (omega (arith, r.heard)) ∙ c.least j h)

  pub IsReleased-less : (t w : ℕ) {how : _} → 28 ≤ t → t + 7 * (w + 1) ≤ length bits
      → IsReleased (bits ++ more) t w how → IsReleased bits t w how
  IsReleased-less t w {how} low heard r =
      let c = released-from (bits ++ more) t w how r in
      released-to bits t w how heard
      (sym (release-more t w low heard) ∙ c.here)
      (λ j h. sym (release-more t j low (omega (arith, heard))) ∙ c.least j h)

  -- the two tests of a word look at the words to it alone
  pub wrong_until-more : (t k : ℕ) → t + 7 * (k + 1) ≤ length bits
      → wrong_until (word_of_lock (bits ++ more) t) k ≡ wrong_until (word_of_lock bits t) k
  wrong_until-more t k h =
      wrong_in-same (word_of_lock (bits ++ more) t) (word_of_lock bits t) (k + 1 - marked_words)
      (k + 1 - (k + 1 - marked_words)) (λ j s. word_at-more t j (omega arith))

  pub IsSecondPhasing1-more : (t k : ℕ) → 28 ≤ t → t + 7 * (k + 1) ≤ length bits
      → IsSecondPhasing1 (first_role bits t) (word_of_lock bits t) k
      → IsSecondPhasing1 (first_role (bits ++ more) t) (word_of_lock (bits ++ more) t) k
  IsSecondPhasing1-more t k low h second = record {
    two = second.two;
    dx = ap (λ first. role_of first k) (first_role-more t low (omega arith)) ∙ second.dx;
    this = word_at-more t k h ∙ second.this;
    before = word_at-more t (k - 2) (omega arith) ∙ second.before;
  }

  pub IsSecondPhasing1-less : (t k : ℕ) → 28 ≤ t → t + 7 * (k + 1) ≤ length bits
      → IsSecondPhasing1 (first_role (bits ++ more) t) (word_of_lock (bits ++ more) t) k
      → IsSecondPhasing1 (first_role bits t) (word_of_lock bits t) k
  IsSecondPhasing1-less t k low h second = record {
    two = second.two;
    dx = ap (λ first. role_of first k) (sym (first_role-more t low (omega arith))) ∙ second.dx;
    this = sym (word_at-more t k h) ∙ second.this;
    before = sym (word_at-more t (k - 2) (omega arith)) ∙ second.before;
  }

  pub IsPast-more : (lock : Lock) (p : ℕ) → IsPast bits lock p → IsPast (bits ++ more) lock p
  IsPast-more lock p past = record {
    found = Finds-more lock.from lock.at past.found;
    released = IsReleased-more lock.at lock.last past.found.here.enough past.released;
    next = past.next;
  }

  pub Past-more : (locks : List Lock) (p : ℕ) → Past bits locks p → Past (bits ++ more) locks p
  unfolding Past
  Past-more [] p past = past
  Past-more (lock ∷ older) p past = (IsPast-more lock p past.0, Past-more older lock.from past.1)

-- a search after past locks begins within the bits
pub Past-within : (bits : List Bool) (locks : List Lock) (p : ℕ) → Past bits locks p
    → p ≤ length bits
unfolding Past
Past-within bits [] p past = omega arith
Past-within bits (lock ∷ older) p past = omega (arith, past.0.next, past.0.released.heard)
