use Rattle.std.proofs.Common.{◌≡◌, ℕ, ◌+◌, ◌-◌, ◌≤◌, List, Bool, length, take, get_or, refl, sym}
use Rattle.std.proofs.Common.{ap, subst, ◌∙◌, arith}
use Rattle.nx_sync.specs.private.Windows.{window_after}
use Rattle.nx_sync.specs.Synchroniser.{Held}
use Rattle.nx_sync.specs.private.Calls.{heard_all, Skips}
use Rattle.nx_sync.proofs.lemmas.states.Hearing.{heard_all-none}
use Rattle.nx_sync.proofs.lemmas.hunting.Hunting.{Counted, counted_by, skips_by_windows, moved}
use Rattle.nx_sync.proofs.synchroniser.Synchroniser.skip_block.Goals as goal

pub invariant_of-self : goal.invariant_of-self
invariant_of-self c =
    let i = c.self.invariant in
    let n = counted_by c.windows_after-windows.result (length c.args.block.now)
    c.count_before_lock-count.result (omega arith) c.count_before_lock-count.ensures in
    let within = n.within in (
      c.windows_after-windows.ensures.within (c.count_before_lock-count.result - 1) (omega arith),
      omega arith,
      λ track is. ((i.2 track is).0, refl),
    )

pub returns-then-count-gt0 : goal.returns-then-count-gt0
returns-then-count-gt0 c =
    let block : List Bool = c.args.block.now in
    let windows : List ℕ = c.windows_after-windows.result in
    let count : ℕ = c.count_before_lock-count.result in
    let held : Held = record {
      recent = c.self.inside.recent;
      seen = c.self.inside.seen;
      track =
          c.self.inside.track;
      wrong = c.self.inside.marks;
    } in
    let n : Counted windows (length block) count =
    counted_by windows (length block) count (omega arith) c.count_before_lock-count.ensures in
    let within = n.within in
    let late : 27 ≤ held.seen = omega (arith, c.requires.seen, ap (λ h. h.seen) c.self.view_is) in
    let i : count - 1 + 1 ≡ count = omega arith in
    let last = c.windows_after-windows.ensures.values (count - 1) (omega arith)
    ∙ ap (λ i. window_after held.recent (take i block)) i in
    subst (λ h. Skips h block count
    (record held { recent = get_or windows (count - 1) 0; seen = 28 })) c.self.view_is
    (skips_by_windows held block windows count
    (record held { recent = get_or windows (count - 1) 0; seen = 28 }) late
    c.windows_after-windows.ensures.values n
    (moved held block count (get_or windows (count - 1) 0) (omega arith) within late last))

pub returns-else-count-gt0 : goal.returns-else-count-gt0
returns-else-count-gt0 c =
    let block : List Bool = c.args.block.now in
    let windows : List ℕ = c.windows_after-windows.result in
    let count : ℕ = c.count_before_lock-count.result in
    let old : Held = c.args.self.now in
    let n : Counted windows (length block) count =
    counted_by windows (length block) count (omega arith) c.count_before_lock-count.ensures in
    let z : 0 ≡ count = omega arith in
    let seen : old.seen ≤ 28 = omega (arith, c.self.invariant.1, ap (λ h. h.seen) c.self.view_is) in
    let recent = ap (λ h. h.recent) c.self.view_is in
    let late : 27 ≤ old.seen = omega (arith, c.requires.seen) in
    skips_by_windows old block windows count old late
    (λ k h. c.windows_after-windows.ensures.values k h
    ∙ ap (λ w. window_after w (take (k + 1) block)) recent) n
    (sym (heard_all-none old seen) ∙ ap (λ i. heard_all old (take i block)) z)
