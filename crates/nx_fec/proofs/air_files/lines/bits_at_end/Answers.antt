use Rattle.std.proofs.Common.{◌-◌, ◌∙◌, ap, drop, length, map}
use Rattle.std.proofs.lemmas.List.{take_rest}
use Rattle.nx_fec.specs.private.Packing.{is_one}
use Rattle.nx_fec.proofs.lemmas.lines.Kept.{tail-line}
use Rattle.nx_fec.proofs.air_files.lines.bits_at_end.Goals as goal

pub returns : goal.returns
returns c =
    let line = c.args.line.now in
    c.unpack.ensures ∙ ap (map is_one) (take_rest line (length line - c.len.result))
    ∙ ap (λ n. map is_one (drop (length line - n) line)) c.len.ensures.count
    ∙ (tail-line c.requires.0 c.args.elements.now line c.requires.1).ones
