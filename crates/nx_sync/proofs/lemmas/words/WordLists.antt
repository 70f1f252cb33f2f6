-- The words of a lock that were heard whole, as a list: what one more bit, and what more bits, make
-- of it.
use Rattle.std.proofs.Common.{◌≡◌, ℕ, zero, suc, ◌+◌, ◌*◌, ◌≤◌, List, [], ◌∷◌, ◌++◌, length, Bool}
use Rattle.std.proofs.Common.{refl, sym, ap, ap₂, subst₂, ◌∙◌, arith, append-nil, Some, None}
use Rattle.std.proofs.lemmas.List.{length_push}
use Rattle.nx_sync.specs.declared.step.Role.{Role}
use Rattle.nx_sync.specs.declared.step.Step.{Step}
use Rattle.nx_sync.specs.Words.{role_of, heard_word, lock_words, whole_words, words_heard}
use Rattle.nx_sync.specs.private.Releases.{release}
use Rattle.nx_sync.specs.Locks.{Finds, Lock, Past, Now, hunting, locked, IsHunting, IsLocked}
use Rattle.nx_sync.specs.Locks.{words_of_past}
use Rattle.nx_sync.specs.Steps.{step, Brings, found, word, inside, over, hunts, IsStep}
use Rattle.nx_sync.specs.Steps.{word_of_step}
use Rattle.nx_sync.proofs.lemmas.words.Computed.{released-from, holds-from}
use Rattle.nx_sync.proofs.lemmas.states.KeptPast.{word_at-more, first_role-more, release-more}
use Rattle.nx_sync.proofs.lemmas.states.UniqueStates.{locks-unique, now-unique}

-- one more word
pub words_of-next : (bits : List Bool) (t k : ℕ)
    → lock_words bits t (k + 1) ≡ lock_words bits t k ++ heard_word bits t k ∷ []
unfolding lock_words
words_of-next bits t k = let e : k + 1 ≡ suc k = omega arith in ap (lock_words bits t) e

module _ (bits more : List Bool) where
  heard_word-more : (t k : ℕ) → 28 ≤ t → t + 7 * (k + 1) ≤ length bits
      → heard_word (bits ++ more) t k ≡ heard_word bits t k
  heard_word-more t k low h =
      let make : ℕ → Role → ℕ × Role = λ w r. (w, r) in
      ap₂ make (word_at-more bits more t k h)
      (ap (λ r. role_of r k) (first_role-more bits more t low (omega arith)))

  -- more bits leave the words that were heard whole
  pub words_of-more : (t n : ℕ) → 28 ≤ t → t + 7 * n ≤ length bits
      → lock_words (bits ++ more) t n ≡ lock_words bits t n
  unfolding lock_words
  words_of-more t zero low h = refl
  words_of-more t (suc n) low h =
      ap₂ (λ ws w. ws ++ w ∷ []) (words_of-more t n low (omega arith))
      (heard_word-more t n low (omega arith))

-- a lock that was just found has no words
pub words_heard-found : (bits : List Bool) (p t : ℕ) → Finds bits p t → length bits ≡ t
    → words_heard bits t ≡ []
unfolding lock_words
words_heard-found bits p t f e =
    let z : whole_words bits t ≡ 0 = omega (arith, e) in
    ap (lock_words bits t) z

module _ (bits : List Bool) (b : Bool) where
  -- k words before the bit, and one more with it
  completed : (t k : ℕ) (s : Step) → 28 ≤ t → length (bits ++ b ∷ []) ≡ t + 7 * (k + 1)
      → word_of_step s ≡ heard_word (bits ++ b ∷ []) t k ∷ []
      → lock_words (bits ++ b ∷ []) t (k + 1) ≡ words_heard bits t ++ word_of_step s
  completed t k s low e w =
      let n : whole_words bits t ≡ k = omega (arith, e, length_push bits b) in
      words_of-next (bits ++ b ∷ []) t k
      ∙ (ap (λ ws. ws ++ heard_word (bits ++ b ∷ []) t k ∷ [])
      (words_of-more bits (b ∷ []) t k low (omega (arith, e, length_push bits b))
      ∙ ap (lock_words bits t) (sym n))
      ∙ ap (λ ws. words_heard bits t ++ ws) (sym w))

  -- what a step adds to the words of a lock that stands on
  pub words_heard-stands : (s : Step) (locks : List Lock) (p t : ℕ) → IsLocked bits locks p t
      → Brings (bits ++ b ∷ []) s locks (locked p t)
      → words_heard (bits ++ b ∷ []) t ≡ words_heard bits t ++ word_of_step s
  words_heard-stands s locks p t now (found e h) =
      absurd (omega (arith, e, length_push bits b, now.found.here.heard))
  words_heard-stands s locks p t now (word k e h) =
      let n : whole_words (bits ++ b ∷ []) t ≡ k + 1 = omega (arith, e) in
      ap (lock_words (bits ++ b ∷ []) t) n
      ∙ completed t k s now.found.here.enough e (ap word_of_step h)
  words_heard-stands s locks p t now (inside k r e low high h) =
      let n : whole_words (bits ++ b ∷ []) t ≡ k = omega (arith, e) in
      let m : whole_words bits t ≡ k = omega (arith, e, length_push bits b) in
      ap (lock_words (bits ++ b ∷ []) t) n
      ∙ (words_of-more bits (b ∷ []) t k now.found.here.enough
      (omega (arith, e, length_push bits b))
      ∙ (ap (lock_words bits t) (sym m)
      ∙ (sym (append-nil (words_heard bits t))
      ∙ ap (λ ws. words_heard bits t ++ ws) (sym (ap word_of_step h)))))

  -- what the releasing step adds to them
  pub words_heard-over : (s : Step) (lock : Lock) (older : List Lock) (p q : ℕ)
      → IsLocked bits older p lock.at → IsHunting (bits ++ b ∷ []) (lock ∷ older) q
      → Brings (bits ++ b ∷ []) s (lock ∷ older) (hunting q)
      → words_of_past (bits ++ b ∷ []) lock ≡ words_heard bits lock.at ++ word_of_step s
  unfolding Past
  words_heard-over s lock older p q was now (over e h) =
      let at = now.past.0.next in
      completed lock.at lock.last s was.found.here.enough (omega (arith, e, at)) (ap word_of_step h)
  words_heard-over s lock older p q was now (hunts l h) =
      let past = now.past.0 in
      let heard : lock.at + 7 * (lock.last + 1) ≤ length bits =
      omega (arith, l, past.next, length_push bits b) in
      let none : release bits lock.at lock.last ≡ None =
      holds-from bits lock.at was.holds lock.last heard in
      let some : release bits lock.at lock.last ≡ Some lock.how =
      sym (release-more bits (b ∷ []) lock.at lock.last was.found.here.enough heard)
      ∙ (released-from (bits ++ b ∷ []) lock.at lock.last lock.how past.released).here in
      cc

-- what a step brings is one thing, by what stands after it
same_brought : (bits : List Bool) (s r : Step) (locks : List Lock) (now : Now)
    → Brings bits s locks now → Brings bits r locks now → s ≡ r
same_brought bits s r locks (locked p t) (found e h) (found f g) = h ∙ sym g
same_brought bits s r locks (locked p t) (found e h) (word k f g) = absurd (omega (arith, e, f))
same_brought bits s r locks (locked p t) (found e h) (inside k m f low high g) =
    absurd (omega (arith, e, f))
same_brought bits s r locks (locked p t) (word k e h) (found f g) = absurd (omega (arith, e, f))
same_brought bits s r locks (locked p t) (word k e h) (word j f g) =
    let same : k ≡ j = omega (arith, e, f) in
    h ∙ (ap (λ i. step (Some (heard_word bits t i)) None) same ∙ sym g)
same_brought bits s r locks (locked p t) (word k e h) (inside j m f low high g) =
    absurd (omega (arith, e, f))
same_brought bits s r locks (locked p t) (inside k n e low high h) (found f g) =
    absurd (omega (arith, e, f))
same_brought bits s r locks (locked p t) (inside k n e low high h) (word j f g) =
    absurd (omega (arith, e, f))
same_brought bits s r locks (locked p t) (inside k n e low high h) (inside j m f low2 high2 g) =
    h ∙ sym g
same_brought bits s r (lock ∷ older) (hunting q) (over e h) (over f g) = h ∙ sym g
same_brought bits s r (lock ∷ older) (hunting q) (over e h) (hunts f g) =
    absurd (omega (arith, e, f))
same_brought bits s r (lock ∷ older) (hunting q) (hunts e h) (over f g) =
    absurd (omega (arith, e, f))
same_brought bits s r locks (hunting q) (hunts e h) (hunts f g) = h ∙ sym g

-- what the last of these bits brought is one thing
pub same_step : (bits : List Bool) (s r : Step) → IsStep bits s → IsStep bits r → s ≡ r
same_step bits s r a b =
    let locks = locks-unique bits a.locks b.locks a.now b.now a.stands b.stands in
    let now = now-unique bits a.locks b.locks a.now b.now a.stands b.stands in
    same_brought bits s r b.locks b.now (subst₂ (λ ls n. Brings bits s ls n) locks now a.brings)
    b.brings
