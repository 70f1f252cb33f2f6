use Rattle.std.proofs.Common.{◌≡◌, None, sym, ap, ◌∙◌, get_or}
use Rattle.std.proofs.lemmas.Option.{unwrap_or-slice_get}
use Rattle.std.specs.Option.{option_copied, unwrap_or}
use Rattle.std.specs.Prelude.{slice_get}
use Rattle.nx_combine.specs.Judging.{HeldFamilies}
use Rattle.nx_combine.proofs.families.FamiliesHoldsFamilies.printed.Goals as goal

pub returns-in-None : goal.returns-in-None
returns-in-None c =
    let gone : None ≡ slice_get c.self.inside.printed.items c.args.index =
    ap option_copied (sym c.in-None.is) ∙ c.get.ensures in
    ap (λ o. unwrap_or o None) gone
    ∙ unwrap_or-slice_get c.self.inside.printed.items c.args.index None
    ∙ ap (λ (v : HeldFamilies). get_or v.printed c.args.index None) c.self.view_is
