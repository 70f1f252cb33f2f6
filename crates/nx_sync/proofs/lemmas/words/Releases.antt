-- What keeps a lock.
use Rattle.std.proofs.Common.{◌≡◌, ℕ, suc, ◌+◌, ◌-◌, ◌*◌, ◌<◌, ◌≤◌, List, ◌++◌, length, Bool, refl}
use Rattle.std.proofs.Common.{sym, ap, ◌∙◌, inl, inr, arith}
use Rattle.std.proofs.lemmas.Bool.{cases_lt, false_from_ne_true}
use Rattle.nx_sync.specs.declared.step.Role.{Role}
use Rattle.nx_sync.specs.declared.step.Role.TheVariants.{Dx, Rx}
use Rattle.nx_code.specs.Table.{phasing_1}
use Rattle.nx_sync.specs.Words.{marked_words, losing_count, other_role, role_of, wrong_until}
use Rattle.nx_sync.specs.Words.{word_of_lock, first_role}
use Rattle.nx_code.specs.Word.{wrong_in}
use Rattle.nx_sync.specs.Locks.{IsSecondPhasing1, Finds, Lock, Past, IsLocked}
use Rattle.nx_sync.proofs.lemmas.words.Computed.{IsSecondPhasing1-from, change-none, holds-from, holds-to}
use Rattle.nx_sync.proofs.lemmas.states.KeptPast.{release-more, Finds-more, Past-more}

-- a lock that no later word releases stands on
pub stands_longer : (bits more : List Bool) (locks : List Lock) (p t : ℕ) → IsLocked bits locks p t
    → ((k : ℕ) → length bits < t + 7 * (k + 1) → t + 7 * (k + 1) ≤ length (bits ++ more)
    → wrong_until (word_of_lock (bits ++ more) t) k < losing_count)
    → ((k : ℕ) → length bits < t + 7 * (k + 4) → t + 7 * (k + 4) ≤ length (bits ++ more)
    → IsSecondPhasing1 (first_role (bits ++ more) t) (word_of_lock (bits ++ more) t) k → ⊥)
    → IsLocked (bits ++ more) locks p t
stands_longer bits more locks p t now few goes = record {
  past = Past-more bits more locks p now.past;
  found = Finds-more bits more p t now.found;
  holds = holds-to (bits ++ more) t (λ k heard. elim (cases_lt (length bits) (t + 7 * (k + 1))) [
    | inl new ↦ change-none (first_role (bits ++ more) t) (word_of_lock (bits ++ more) t) k
        (false_from_ne_true _ (λ e.
        let end = IsSecondPhasing1-from (first_role (bits ++ more) t)
        (word_of_lock (bits ++ more) t) k e in
        goes (k - 3) (omega (arith, end.0)) (omega (arith, end.0)) end.1))
        (few k new heard)
    | inr old ↦ release-more bits more t k now.found.here.enough old
        ∙ holds-from bits t now.holds k old
  ]);
}

-- two words on, the role is the same
two_turns : (role : Role) → other_role (other_role role) ≡ Dx → role ≡ Dx
two_turns Dx h = refl
two_turns Rx h = absurd (cc)

-- a lock is kept by runs of few wrong words, and by DX words of which no two in a row are phasing
-- signal 1
pub kept : (bits : List Bool) (locks : List Lock) (p t : ℕ) → Past bits locks p → Finds bits p t
    → ((i n : ℕ) → n ≤ marked_words → t + 7 * (i + n) ≤ length bits
    → wrong_in (word_of_lock bits t) i n < losing_count)
    → ((k : ℕ) → t + 7 * (k + 3) ≤ length bits → role_of (first_role bits t) k ≡ Dx
    → word_of_lock bits t k ≡ phasing_1 → word_of_lock bits t (k + 2) ≡ phasing_1 → ⊥)
    → IsLocked bits locks p t
unfolding role_of
kept bits locks p t past found few apart = record {
  past = past;
  found = found;
  holds = holds-to bits t (λ k heard. change-none (first_role bits t) (word_of_lock bits t) k
      (false_from_ne_true _ (λ e.
      let end = IsSecondPhasing1-from (first_role bits t) (word_of_lock bits t) k e in
      let at : k - 3 ≡ suc (suc (k - 3 - 2)) = omega (arith, end.0) in
      let at' : k - 3 - 2 + 2 ≡ k - 3 = omega (arith, end.0) in
      apart (k - 3 - 2) (omega (arith, end.0))
      (two_turns (role_of (first_role bits t) (k - 3 - 2))
      (sym (ap (role_of (first_role bits t)) at) ∙ end.1.dx)) end.1.before
      (ap (word_of_lock bits t) at' ∙ end.1.this)))
      (few (k + 1 - marked_words) (k + 1 - (k + 1 - marked_words)) (omega arith) (omega arith)));
}
