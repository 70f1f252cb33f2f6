use Rattle.std.proofs.Common.{◌≡◌, false, Option, Some, None, refl, sym, ◌∙◌}
use Rattle.std.specs.Option.{is_some}
use Rattle.nx_envelope.specs.declared.found.How.{How}
use Rattle.nx_envelope.proofs.lemmas.finder.EightBytes.{four_bytes}
use Rattle.nx_envelope.proofs.markers.is_marker.Goals as goal

no-end : (end : Option How) → is_some end ≡ false → end ≡ None
no-end None e = refl
no-end (Some how) e = cc

pub returns : goal.returns
returns c = λ none back four e.
    sym (c.marker_of.ensures back (c.to_le_bytes.ensures ∙ four_bytes c.args.four back four e))
    ∙ no-end c.marker_of.result (sym c.is_some.ensures ∙ none)
