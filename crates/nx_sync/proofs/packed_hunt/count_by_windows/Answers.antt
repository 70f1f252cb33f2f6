use Rattle.std.proofs.Common.{◌≡◌, ℕ, ◌+◌, ◌/◌, ◌%◌, ◌^◌, sym, ap, ◌∙◌, inl, inr, arith}
use Rattle.std.proofs.lemmas.Nat.{shr-shr}
use Rattle.std.proofs.lemmas.Bool.{cases_lt}
use Rattle.nx_sync.specs.Windows.{is_lock_window}
use Rattle.nx_sync.specs.private.Windows.{joined, window_in}
use Rattle.nx_sync.proofs.packed_hunt.count_by_windows.Goals as goal

-- the window one place later
later : (j rest at : ℕ) → rest ≡ j / 2 ^ at → rest / 2 ≡ j / 2 ^ (at + 1)
later j rest at is = ap (λ n. n / 2) is ∙ shr-shr j at 1

pub returns-then-is_lock_window : goal.returns-then-is_lock_window
returns-then-is_lock_window c =
    let j : ℕ = joined c.args.window c.args.number in
    let at : ℕ = c.loop-at.at in
    record {
      within = omega arith;
      clear = c.loop-at.invariant.clear;
      here = λ h. ap (λ r. is_lock_window (r % 2 ^ 28))
          (sym (later j c.loop-at.rest at c.loop-at.invariant.rest))
          ∙ (sym c.is_lock_window.ensures ∙ c.if-is_lock_window.true);
    }

pub loop-at-preserved : goal.loop-at-preserved
loop-at-preserved c =
    let j : ℕ = joined c.args.window c.args.number in
    let at : ℕ = c.loop-at.at in
    let next = later j c.loop-at.rest at c.loop-at.invariant.rest in
    record {
      within = omega arith;
      rest = next;
      clear = λ k h. elim (cases_lt k at) [
        | inl before ↦ c.loop-at.invariant.clear k before
        | inr last ↦
            let same : k + 1 ≡ at + 1 = omega arith in
            ap is_lock_window (ap (window_in j) same ∙ ap (λ r. r % 2 ^ 28) (sym next))
            ∙ (sym c.is_lock_window.ensures ∙ c.if-is_lock_window.false)
      ];
    }
