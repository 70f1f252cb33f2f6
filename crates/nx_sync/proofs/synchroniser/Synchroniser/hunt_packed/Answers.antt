use Rattle.std.proofs.Common.{ℕ, ◌-◌, List, Bool, take, drop, sym, subst, arith}
use Rattle.nx_code.specs.Packed.{packed_part}
use Rattle.nx_sync.specs.private.Calls.{Skips, SkipsSome}
use Rattle.nx_sync.proofs.lemmas.hunting.Hunting.{passes_on, passes_early, late_after, stops_on, skips_of}
use Rattle.nx_sync.proofs.lemmas.hunting.Hunting.{hunted_stands, hunted_pushes, no_track}
use Rattle.nx_sync.proofs.lemmas.hunting.PackedParts.{part_of_part, length-part}
use Rattle.nx_sync.proofs.synchroniser.Synchroniser.hunt_packed.Goals as goal

pub loop-at-init : goal.loop-at-init
loop-at-init c =
    let bits : List Bool = packed_part c.args.numbers.now c.args.from c.args.count in
    let all = length-part c.args.numbers.now c.args.from c.args.count c.requires.room in
    let e = c.skip_packed_early-at.ensures in (
      passes_early c.args.self.now bits c.skip_packed_early-at.result
          c.skip_packed_early-at.new.self e,
      omega (arith, all, e.within),
      λ h. omega (arith, e.late (omega (arith, all, h))),
    )

pub skip_some-heard-requires-clause-seen : goal.skip_some-heard-requires-clause-seen
skip_some-heard-requires-clause-seen c =
    omega (
      arith,
      late_after c.args.self.now (packed_part c.args.numbers.now c.args.from c.args.count)
          c.loop-at.at c.loop-at.self c.loop-at.invariant.0
          (c.loop-at.invariant.2 c.loop-at-test.true),
    )

pub loop-at-preserved : goal.loop-at-preserved
loop-at-preserved c =
    let bits : List Bool = packed_part c.args.numbers.now c.args.from c.args.count in
    let at : ℕ = c.loop-at.at in
    let n : ℕ = c.args.count - at in
    let i = c.loop-at.invariant in
    let all = length-part c.args.numbers.now c.args.from c.args.count c.requires.room in
    let part = part_of_part c.args.numbers.now c.args.from c.args.count at n (omega (arith, i.1)) in
    let s : SkipsSome c.loop-at.self (take n (drop at bits)) c.skip_some-heard.result
    c.skip_some-heard.new.self =
    subst (λ xs. SkipsSome c.loop-at.self xs c.skip_some-heard.result c.skip_some-heard.new.self)
    (sym part) c.skip_some-heard.ensures in
    let p = passes_on c.args.self.now bits at n c.skip_some-heard.result c.loop-at.self
    c.skip_some-heard.new.self i.0 s.passes (omega (arith, all, i.1)) in (
      p,
      omega (arith, all, p.within),
      λ h. omega (arith, i.2 c.loop-at-test.true),
    )

-- the next element ends a pattern
stopped : (c : goal.Then-heard-eq0) → Skips c.args.self.now
    (packed_part c.args.numbers.now c.args.from c.args.count) c.loop-at.at
    c.skip_some-heard.new.self
stopped c =
    let bits : List Bool = packed_part c.args.numbers.now c.args.from c.args.count in
    let at : ℕ = c.loop-at.at in
    let n : ℕ = c.args.count - at in
    let i = c.loop-at.invariant in
    let all = length-part c.args.numbers.now c.args.from c.args.count c.requires.room in
    let part = part_of_part c.args.numbers.now c.args.from c.args.count at n (omega (arith, i.1)) in
    let s : SkipsSome c.loop-at.self (take n (drop at bits)) c.skip_some-heard.result
    c.skip_some-heard.new.self =
    subst (λ xs. SkipsSome c.loop-at.self xs c.skip_some-heard.result c.skip_some-heard.new.self)
    (sym part) c.skip_some-heard.ensures in
    stops_on c.args.self.now bits at n c.skip_some-heard.result c.loop-at.self
    c.skip_some-heard.new.self i.0 s c.if-heard-eq0.true (omega (arith, c.loop-at-test.true))
    (omega (arith, all, i.1))

pub returns-then-heard-eq0-clause-stands : goal.returns-then-heard-eq0-clause-stands
returns-then-heard-eq0-clause-stands c h a =
    hunted_stands c.args.self.now c.skip_some-heard.new.self h
    (packed_part c.args.numbers.now c.args.from c.args.count) c.loop-at.at a
    (no_track c.args.self.now c.requires.hunting) (stopped c)

pub returns-then-heard-eq0-clause-pushes : goal.returns-then-heard-eq0-clause-pushes
returns-then-heard-eq0-clause-pushes c h a =
    hunted_pushes c.args.self.now c.skip_some-heard.new.self h
    (packed_part c.args.numbers.now c.args.from c.args.count) c.loop-at.at a
    (no_track c.args.self.now c.requires.hunting) (stopped c)

-- all elements were heard
ended : (c : goal.After-loop-at) → Skips c.args.self.now
    (packed_part c.args.numbers.now c.args.from c.args.count) c.loop-at.at c.loop-at.self
ended c =
    let all = length-part c.args.numbers.now c.args.from c.args.count c.requires.room in
    skips_of c.args.self.now (packed_part c.args.numbers.now c.args.from c.args.count) c.loop-at.at
    c.loop-at.self c.loop-at.invariant.0 (λ h. absurd (omega (arith, h, all, c.loop-at-test.false)))

pub returns-clause-stands : goal.returns-clause-stands
returns-clause-stands c h a =
    hunted_stands c.args.self.now c.loop-at.self h
    (packed_part c.args.numbers.now c.args.from c.args.count) c.loop-at.at a
    (no_track c.args.self.now c.requires.hunting) (ended c)

pub returns-clause-pushes : goal.returns-clause-pushes
returns-clause-pushes c h a =
    hunted_pushes c.args.self.now c.loop-at.self h
    (packed_part c.args.numbers.now c.args.from c.args.count) c.loop-at.at a
    (no_track c.args.self.now c.requires.hunting) (ended c)
