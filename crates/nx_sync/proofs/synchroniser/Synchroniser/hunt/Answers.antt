use Rattle.std.proofs.Common.{◌≡◌, ℕ, ◌+◌, ◌-◌, ◌≤◌, List, Bool, length, take, drop, arith}
use Rattle.std.proofs.Common.{length-take, length-drop}
use Rattle.nx_sync.specs.private.Calls.{Skips}
use Rattle.nx_sync.proofs.lemmas.hunting.Hunting.{passes_on, passes_of, passes_early, skips_of, part_stops}
use Rattle.nx_sync.proofs.lemmas.hunting.Hunting.{hunted_stands, hunted_pushes, no_track}
use Rattle.nx_sync.proofs.synchroniser.Synchroniser.hunt.Goals as goal

pub loop-at-init : goal.loop-at-init
loop-at-init c =
    let e = c.skip_early-at.ensures in (
      passes_early c.args.self.now c.args.bits.now c.skip_early-at.result
          c.skip_early-at.new.self e,
      λ h. omega (arith, e.late h),
    )

pub loop-at-preserved : goal.loop-at-preserved
loop-at-preserved c =
    let bits : List Bool = c.args.bits.now in
    let at : ℕ = c.loop-at.at in
    let n : ℕ = c.min.result - at in
    let m : ℕ = c.skip_part-count.result in
    let i = c.loop-at.invariant in
    let s = c.skip_part-count.ensures in
    let room : at + n ≤ length bits = omega (arith, c.min.ensures) in (
      passes_on c.args.self.now bits at n m c.loop-at.self c.skip_part-count.new.self i.0
          (passes_of c.loop-at.self (take n (drop at bits)) m c.skip_part-count.new.self s) room,
      λ h. omega (arith, i.1 c.loop-at-test.true),
    )

-- a part has an element that ends a pattern
stopped : (c : goal.Then-count-part) → Skips c.args.self.now c.args.bits.now
    (c.loop-at.at + c.skip_part-count.result) c.skip_part-count.new.self
stopped c =
    let bits : List Bool = c.args.bits.now in
    let at : ℕ = c.loop-at.at in
    let n : ℕ = c.min.result - at in
    let m : ℕ = c.skip_part-count.result in
    let i = c.loop-at.invariant in
    let s = c.skip_part-count.ensures in
    let l : length (take n (drop at bits)) ≡ n =
    simp (length-take, length-drop) (omega (arith, c.min.ensures)) in
    let room : at + n ≤ length bits = omega (arith, c.min.ensures) in
    skips_of c.args.self.now bits (at + m) c.skip_part-count.new.self
    (passes_on c.args.self.now bits at n m c.loop-at.self c.skip_part-count.new.self i.0
    (passes_of c.loop-at.self (take n (drop at bits)) m c.skip_part-count.new.self s) room)
    (λ h. part_stops c.args.self.now bits at n m c.loop-at.self c.skip_part-count.new.self
    i.0.held s (omega (arith, l)) room)

pub returns-then-count-part-clause-stands : goal.returns-then-count-part-clause-stands
returns-then-count-part-clause-stands c h a =
    hunted_stands c.args.self.now c.skip_part-count.new.self h c.args.bits.now _ a
    (no_track c.args.self.now c.requires) (stopped c)

pub returns-then-count-part-clause-pushes : goal.returns-then-count-part-clause-pushes
returns-then-count-part-clause-pushes c h a =
    hunted_pushes c.args.self.now c.skip_part-count.new.self h c.args.bits.now _ a
    (no_track c.args.self.now c.requires) (stopped c)

-- all elements were heard
ended : (c : goal.After-loop-at) → Skips c.args.self.now c.args.bits.now c.loop-at.at c.loop-at.self
ended c =
    skips_of c.args.self.now c.args.bits.now c.loop-at.at c.loop-at.self c.loop-at.invariant.0
    (λ h. absurd (omega (arith, h, c.loop-at-test.false)))

pub returns-clause-stands : goal.returns-clause-stands
returns-clause-stands c h a =
    hunted_stands c.args.self.now c.loop-at.self h c.args.bits.now c.loop-at.at a
    (no_track c.args.self.now c.requires) (ended c)

pub returns-clause-pushes : goal.returns-clause-pushes
returns-clause-pushes c h a =
    hunted_pushes c.args.self.now c.loop-at.self h c.args.bits.now c.loop-at.at a
    (no_track c.args.self.now c.requires) (ended c)
