use Rattle.std.proofs.Common.{◌≡◌, ◌+◌, ◌≤◌, ℕ, min, sym, ap, subst, subst₂, arith}
use Rattle.nx_code.specs.Word.{elements_from}
use Rattle.nx_sync.specs.private.Windows.{window_after}
use Rattle.nx_sync.specs.Synchroniser.{Held}
use Rattle.nx_sync.specs.private.Calls.{Passes}
use Rattle.nx_sync.proofs.lemmas.hunting.Blocks.{skips_number}
use Rattle.nx_sync.proofs.lemmas.hunting.Hunting.{passes_of}
use Rattle.nx_sync.proofs.synchroniser.Synchroniser.hear_clear.Goals as goal

pub returns-clause-heard : goal.returns-clause-heard
returns-clause-heard c h =
    let number : ℕ = c.args.number in
    let held : Held = record {
      recent = c.self.inside.recent;
      seen = c.self.inside.seen;
      track =
          c.self.inside.track;
      wrong = c.self.inside.marks;
    } in
    let view : held ≡ c.args.self.now = c.self.view_is in
    let late : 27 ≤ held.seen = omega (arith, c.requires, ap (λ h. h.seen) view) in
    let seen : min (held.seen + 64) 28 ≡ 28 = omega arith in
    subst (λ h. Passes h (elements_from 64 number) 64 (record held {
      recent = c.window_after_whole-self-inside.result;
      seen = 28;
    })) view
    (subst₂ (λ w k. Passes held (elements_from 64 number) 64 (record held { recent = w; seen = k }))
    (sym (c.window_after_whole-self-inside.ensures.value held.recent c.self.invariant.0)) seen
    (passes_of held (elements_from 64 number) 64 (record held {
      recent = window_after held.recent (elements_from 64 number);
      seen = min (held.seen + 64) 28;
    })
    (skips_number held number 64 64 late c.self.invariant.0
    (c.has_no_lock.ensures c.if-not-has_no_lock.false 64 (omega arith)))))
