use Rattle.std.proofs.Common.{◌≡◌, ◌↔◌, ◌<◌, eqb, get_or, take, sym, subst, arith, w8}
use Rattle.std.specs.Int.{bit_at}
use Rattle.std.proofs.lemmas.List.{length-take-le}
use Rattle.std.proofs.lemmas.Simd.{bitmask_splat}
use Rattle.nx_fec.proofs.lemmas.lines.Feed.{feed-bit}
use Rattle.nx_fec.proofs.air_files.line_feeds.feeds.Goals as goal

pub returns : goal.returns
returns c k =
    let piece = c.args.piece.now in
    subst (λ m. (bit_at m k ≡ 1) ↔ ((k < 32) × (get_or piece k 0 ≡ 10)))
    (sym (bitmask_splat w8 eqb (take 32 piece) 32 10 (length-take-le 32 piece c.requires)
    (omega arith))) (feed-bit piece k c.requires)
