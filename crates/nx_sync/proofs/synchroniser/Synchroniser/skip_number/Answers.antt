use Rattle.std.proofs.Common.{◌≡◌, ◌≤◌, ℕ, sym, ap, subst, subst₂, arith}
use Rattle.nx_code.specs.Word.{elements_from}
use Rattle.nx_sync.specs.Synchroniser.{Held}
use Rattle.nx_sync.specs.private.Calls.{Skips}
use Rattle.nx_sync.proofs.lemmas.hunting.Blocks.{skips_number}
use Rattle.nx_sync.proofs.synchroniser.Synchroniser.skip_number.Goals as goal

pub returns : goal.returns
returns c =
    let number : ℕ = c.args.number in
    let n : ℕ = c.args.count in
    let heard : ℕ = c.count_before_lock_in-heard.result in
    let held : Held = record {
      recent = c.self.inside.recent;
      seen = c.self.inside.seen;
      track =
          c.self.inside.track;
      wrong = c.self.inside.marks;
    } in
    let view : held ≡ c.args.self.now = c.self.view_is in
    let late : 27 ≤ held.seen = omega (arith, c.requires.seen, ap (λ h. h.seen) view) in
    subst (λ h. Skips h (elements_from n number) heard (record held {
      recent = c.window_after_number-self-inside.result;
      seen = c.min-self-inside.result;
    })) view
    (subst₂ (λ w k. Skips held (elements_from n number) heard
    (record held { recent = w; seen = k }))
    (sym c.window_after_number-self-inside.ensures.value) (sym c.min-self-inside.ensures)
    (skips_number held number n heard late c.self.invariant.0 c.count_before_lock_in-heard.ensures))
