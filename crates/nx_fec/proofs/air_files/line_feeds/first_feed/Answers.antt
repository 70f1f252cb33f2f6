use Rattle.std.proofs.Common.{arith, w64}
use Rattle.std.proofs.lemmas.Nat.Bits.{bit_at-trailing_zeros}
use Rattle.nx_fec.proofs.lemmas.lines.Feed.{first-feed}
use Rattle.nx_fec.proofs.air_files.line_feeds.first_feed.Goals as goal

pub returns-then-near-ne0 : goal.returns-then-near-ne0
returns-then-near-ne0 c =
    let lowest = bit_at-trailing_zeros w64 c.feeds-near.result (omega (arith, c.if-near-ne0.true))
    c.feeds-near.type_inv in
    first-feed c.args.piece.now c.feeds-near.result _ c.if-piece-ge-BYTES_AT_ONCE.true
    c.feeds-near.ensures
    lowest.1 lowest.2
