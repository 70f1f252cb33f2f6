use Rattle.std.proofs.Common.{◌≡◌, ◌+◌, ◌≤◌, ◌++◌, ◌∙◌, length, take, ap, arith, sym}
use Rattle.std.specs.Simd.Lanes.{put_chunk}
use Rattle.std.proofs.lemmas.List.{length-take-le, take-take}
use Rattle.std.proofs.lemmas.Simd.{take_more_put_chunk}
use Rattle.std.proofs.Math.Seq.{take-append-add}
use Rattle.nx_fec.proofs.air_files.bounded_bytes.BoundedBytes.append_front.Goals as goal

pub returns-then-length-ge-SHORT : goal.returns-then-length-ge-SHORT
returns-then-length-ge-SHORT g c =
    let places = c.self.inside.bytes in
    let first = c.self.inside.length in
    let front = take 32 c.args.bytes.now in
    let count = c.args.count in
    let copied = put_chunk first places front in
    let fits : first + 32 ≤ length places =
    omega (arith, c.self.told, c.if-length-ge-SHORT.true) in
    let wide = length-take-le 32 c.args.bytes.now c.if-bytes-ge-SHORT.true in
    let kept : length (take first places) ≡ first =
    length-take-le first places (omega (arith, fits)) in
    sym (take-take (first + count) (first + 32) copied (omega (arith, c.if-count-le-SHORT.true)))
    ∙ ap (take (first + count))
    (take_more_put_chunk first places front (first + 32) (omega (arith, wide)) fits)
    ∙ ap (λ n. take (n + count) (take first places ++ front)) (sym kept)
    ∙ take-append-add (take first places) front count
    ∙ ap (λ l. take first places ++ l)
    (take-take count 32 c.args.bytes.now c.if-count-le-SHORT.true)
    ∙ ap (λ l. l ++ take count c.args.bytes.now) c.self.view_is
