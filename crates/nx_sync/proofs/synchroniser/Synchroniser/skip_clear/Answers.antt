use Rattle.std.proofs.Common.{◌≡◌, ℕ, ◌+◌, ◌*◌, ◌≤◌, List, Bool, take, drop, refl, ap, subst, arith}
use Rattle.nx_code.specs.Packed.{packed_part}
use Rattle.nx_sync.specs.private.Calls.{Passes}
use Rattle.nx_sync.proofs.lemmas.hunting.Hunting.{passes_none, passes_on, late_after}
use Rattle.nx_sync.proofs.lemmas.hunting.PackedParts.{whole_number, length-part}
use Rattle.nx_sync.proofs.synchroniser.Synchroniser.skip_clear.Goals as goal

pub loop-at-init : goal.loop-at-init
loop-at-init c =
    let seen : c.args.self.now.seen ≤ 28 =
    omega (arith, c.self.invariant.1, ap (λ h. h.seen) c.self.view_is) in (
      passes_none c.args.self.now
          (packed_part c.args.numbers.now (64 * c.args.first) (64 * c.args.count)) seen,
      omega arith,
      λ h. refl,
    )

pub hear_clear-requires : goal.hear_clear-requires
hear_clear-requires c =
    omega (
      arith,
      late_after c.args.self.now
          (packed_part c.args.numbers.now (64 * c.args.first) (64 * c.args.count))
          (64 * c.loop-at.at) c.loop-at.self c.loop-at.invariant.0 (omega (arith, c.requires.seen)),
    )

pub loop-at-preserved : goal.loop-at-preserved
loop-at-preserved c =
    let ws : List ℕ = c.args.numbers.now in
    let first : ℕ = c.args.first in
    let count : ℕ = c.args.count in
    let at : ℕ = c.loop-at.at in
    let bits : List Bool = packed_part ws (64 * first) (64 * count) in
    let i = c.loop-at.invariant in
    let all = length-part ws (64 * first) (64 * count) (omega (arith, c.requires.room)) in
    let part = whole_number ws first count at c.requires.room c.loop-at-test.true in
    let s : Passes c.loop-at.self (take 64 (drop (64 * at) bits)) 64 c.hear_clear.new.self =
    subst (λ xs. Passes c.loop-at.self xs 64 c.hear_clear.new.self) part
    (c.hear_clear.ensures.heard c.if-not-hear_clear.false) in
    let next : 64 * at + 64 ≡ 64 * (at + 1) = omega arith in (
      subst (λ k. Passes c.args.self.now bits k c.hear_clear.new.self) next
          (passes_on c.args.self.now bits (64 * at) 64 64 c.loop-at.self c.hear_clear.new.self i.0 s
          (omega (arith, all, c.loop-at-test.true))),
      omega (arith, c.loop-at-test.true),
      λ h. absurd (omega arith),
    )
