use Rattle.std.proofs.Common.{◌≡◌, ◌<◌, ◌+◌, ap, length, max, refl, sym, take, ◌∙◌, arith}
use Rattle.std.proofs.lemmas.List.{drop-set-lt}
use Rattle.std.proofs.Math.ListN.{set}
use Rattle.nx_combine.specs.Joining.{joined_position}
use Rattle.nx_combine.proofs.lemmas.Joined.{joined-nil, joined-place-behind, joined-place-within}
use Rattle.nx_combine.proofs.family_place.join_in.Goals as goal
use Rattle.nx_combine.proofs.family_place.join_in.Goals.{then-index-count, else-index-count}

pub loop-index-init : goal.loop-index-init
loop-index-init c =
    let count : max c.args.count 0 ≡ c.args.count = omega arith in (
      ap (λ n. take n c.args.room.now) count ∙ sym (joined-nil (take c.args.count c.args.room.now)),
      refl,
    )

pub loop-index-preserved : goal.loop-index-preserved
loop-index-preserved c =
    let all = max c.args.count (length c.args.copy.now) in
    let within : c.loop-index.index < all = omega (arith, c.loop-index-test.true) in
    elim c.if-index-count.branch [
      | then-index-count w ↦
          let is : c.if-index-count.room ≡ joined_position w.index-room-index.result
          c.index-copy-index.result = w.room-is ∙ w.join.ensures in (
            ap (λ v. take (max c.args.count (c.loop-index.index + 1))
                (set c.loop-index.room c.loop-index.index v)) is
                ∙ joined-place-within (take c.args.count c.args.room.now) c.args.copy.now
                c.loop-index.room c.args.count c.loop-index.index w.index-room-index.result
                c.index-copy-index.result c.loop-index.invariant.0 c.loop-index-test.true
                w.if-index-count.true (omega (arith, c.requires.count, c.loop-index.auto.room))
                w.index-room-index.is c.index-copy-index.is,
            drop-set-lt all c.loop-index.room c.loop-index.index c.if-index-count.room within
                ∙ c.loop-index.invariant.1,
          )
      | else-index-count w ↦ (
        ap (λ v. take (max c.args.count (c.loop-index.index + 1))
            (set c.loop-index.room c.loop-index.index v)) w.room-is
            ∙ joined-place-behind (take c.args.count c.args.room.now) c.args.copy.now
            c.loop-index.room c.args.count c.loop-index.index c.index-copy-index.result
            c.loop-index.invariant.0 c.loop-index-test.true w.if-index-count.false
            (omega (arith, c.requires.short, c.loop-index.auto.room, c.loop-index-test.true))
            c.index-copy-index.is,
        drop-set-lt all c.loop-index.room c.loop-index.index c.if-index-count.room within
            ∙ c.loop-index.invariant.1,
      )
    ]
