use Rattle.std.proofs.Common.{◌-◌, ◌∙◌, ap, drop, length, map, sym}
use Rattle.std.proofs.lemmas.List.{take_rest}
use Rattle.nx_fec.specs.air_files.Scanner.{elements_kept}
use Rattle.nx_fec.specs.private.Packing.{is_one}
use Rattle.nx_fec.specs.private.ScannerFields.{kept-back}
use Rattle.nx_fec.proofs.lemmas.lines.Kept.{tail-kept}
use Rattle.nx_fec.proofs.air_files.scanner.Scanner.unpacked.Goals as goal

pub returns : goal.returns
returns c =
    let ended = c.self.inside.progress.ended in
    let bits = c.self.inside.elements in
    let kept = c.self.inside.kept in
    let line = c.as_slice-line.result.now in
    c.unpack.ensures ∙ ap (map is_one) (take_rest line (length line - c.len.result))
    ∙ ap (λ n. map is_one (drop (length line - n) line)) c.len.ensures.count
    ∙ ap (λ l. map is_one (drop (length l - length bits) l)) c.as_slice-line.ensures
    ∙ (tail-kept ended bits kept c.self.invariant.1).ones
    ∙ sym (kept-back ended bits kept c.self.invariant.1).elements
    ∙ ap (λ s. elements_kept s.latest) c.self.view_is
