-- What stands after one more bit.
use Rattle.std.proofs.Common.{◌≡◌, ℕ, ◌+◌, ◌*◌, List, [], ◌∷◌, ◌++◌, length, Bool, subst, ◌∙◌, inl}
use Rattle.std.proofs.Common.{inr, arith, Some, None}
use Rattle.std.proofs.lemmas.List.{length_push}
use Rattle.std.proofs.lemmas.Bool.{cases_lt}
use Rattle.nx_sync.specs.declared.step.Change.{Change}
use Rattle.nx_sync.specs.Locks.{IsPattern, Lock, Past, IsHunting, IsLocked}
use Rattle.nx_sync.specs.private.Releases.{release}
use Rattle.nx_sync.proofs.lemmas.words.Computed.{released-to, holds-from, holds-to}
use Rattle.nx_sync.proofs.lemmas.states.KeptPast.{release-more, IsPattern-less, Finds-more, Past-more}
use Rattle.nx_sync.proofs.lemmas.states.KeptPast.{Past-within}

module _ (bits : List Bool) (b : Bool) where
  -- hunting goes on where no pattern ends with the bit
  pub hunts_on : (locks : List Lock) (p : ℕ) → IsHunting bits locks p
      → (IsPattern (bits ++ b ∷ []) (length bits + 1) → ⊥) → IsHunting (bits ++ b ∷ []) locks p
  hunts_on locks p now absent = record {
    past = Past-more bits (b ∷ []) locks p now.past;
    none = λ s after here. elim (cases_lt (length bits) s) [
      | inl new ↦
          let e : s ≡ length bits + 1 = omega (arith, here.heard, length_push bits b) in
          absent (subst (λ x. IsPattern (bits ++ b ∷ []) x) e here)
      | inr old ↦ now.none s after (IsPattern-less bits (b ∷ []) s old here)
    ];
  }

  -- a lock is found where a pattern ends with the bit
  pub locks_now : (locks : List Lock) (p : ℕ) → IsHunting bits locks p
      → IsPattern (bits ++ b ∷ []) (length bits + 1)
      → IsLocked (bits ++ b ∷ []) locks p (length bits + 1)
  locks_now locks p now here = record {
    past = Past-more bits (b ∷ []) locks p now.past;
    found = record {
      after = omega (arith, Past-within bits locks p now.past);
      here = here;
      least = λ s after before at. now.none s after
          (IsPattern-less bits (b ∷ []) s (omega arith) at);
    };
    holds = λ w how r. absurd (omega (arith, r.heard, length_push bits b));
  }

  -- a lock stands on where a word that the bit completes brings no change
  pub stands_on : (locks : List Lock) (p t : ℕ) → IsLocked bits locks p t
      → ((k : ℕ) → length bits + 1 ≡ t + 7 * (k + 1) → release (bits ++ b ∷ []) t k ≡ None)
      → IsLocked (bits ++ b ∷ []) locks p t
  stands_on locks p t now quiet = record {
    past = Past-more bits (b ∷ []) locks p now.past;
    found = Finds-more bits (b ∷ []) p t now.found;
    holds = holds-to (bits ++ b ∷ []) t (λ k h. elim (cases_lt (length bits) (t + 7 * (k + 1))) [
      | inl new ↦ quiet k (omega (arith, length_push bits b))
      | inr old ↦ release-more bits (b ∷ []) t k now.found.here.enough old
          ∙ holds-from bits t now.holds k old
    ]);
  }

  -- a lock is released where the word that the bit completes brings a change
  pub ends_now : (locks : List Lock) (p t k : ℕ) (how : Change) → IsLocked bits locks p t
      → length bits + 1 ≡ t + 7 * (k + 1) → release (bits ++ b ∷ []) t k ≡ Some how
      → IsHunting (bits ++ b ∷ []) (record { from = p; at = t; last = k; how = how } ∷ locks)
      (length bits + 1)
  unfolding Past
  ends_now locks p t k how now e change = record {
    past = (
      record {
        found = Finds-more bits (b ∷ []) p t now.found;
        released = released-to (bits ++ b ∷ []) t k how (omega (arith, length_push bits b)) change
            (λ j before. release-more bits (b ∷ []) t j now.found.here.enough (omega arith)
            ∙ holds-from bits t now.holds j (omega arith));
        next = e;
      },
      Past-more bits (b ∷ []) locks p now.past,
    );
    none = λ s after here. absurd (omega (arith, here.heard, length_push bits b));
  }
