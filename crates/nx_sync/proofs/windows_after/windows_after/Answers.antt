use Rattle.std.proofs.Common.{◌≡◌, ◌+◌, ◌<◌, ◌^◌, false, take, get_or, refl, sym, ap, subst, ◌∙◌}
use Rattle.std.proofs.Common.{inl, inr, arith, length-set}
use Rattle.std.proofs.lemmas.Bool.{cases_lt}
use Rattle.nx_sync.specs.private.Windows.{next_window, window_after}
use Rattle.nx_sync.proofs.lemmas.states.Hearing.{window_after-none, window_after-more, window_after-lt, set_here}
use Rattle.nx_sync.proofs.lemmas.states.Hearing.{set_before}
use Rattle.nx_sync.proofs.windows_after.windows_after.Goals as goal

pub loop-place-init : goal.loop-place-init
loop-place-init c = (
  refl,
  c.requires.window,
  sym (window_after-none c.args.window),
  λ k h. absurd
      (omega arith),
)

pub loop-place-preserved : goal.loop-place-preserved
loop-place-preserved c =
    let i = c.loop-place.invariant in
    let at = c.loop-place.place in
    let e = c.next_window-last.ensures.value
    ∙ (ap (λ w. next_window w (get_or c.args.bits.now at false)) i.2
    ∙ sym (window_after-more c.args.bits.now at c.args.window c.loop-place-test.true)) in
    let few = c.requires.few in (
      simp length-set i.0,
      c.next_window-last.ensures.within,
      e,
      λ k h. elim (cases_lt k at) [
        | inl before ↦ set_before c.loop-place.windows at k c.next_window-last.result before
            ∙ i.3 k before
        | inr here ↦
            let same : k ≡ at = omega arith in
            set_here c.loop-place.windows at k c.next_window-last.result same (omega (arith, i.0))
            ∙ (e ∙ ap (λ j. window_after c.args.window (take (j + 1) c.args.bits.now))
            (sym same))
      ],
    )

pub returns-clause-within : goal.returns-clause-within
returns-clause-within c k h =
    subst (λ n. n < 2 ^ 28) (sym (c.loop-place.invariant.3 k (omega arith)))
    (window_after-lt (take (k + 1) c.args.bits.now) c.args.window c.requires.window)
