use Rattle.std.proofs.Common.{◌≡◌, ◌<◌, Some, List, length, refl, sym, ap, ◌∙◌, subst}
use Rattle.std.specs.Prelude.{slice_get}
use Rattle.nx_combine.specs.Families.{Family, joined_by}
use Rattle.nx_combine.specs.PositionEnds.{HasRead}
use Rattle.nx_combine.proofs.lemmas.Combine.{heard_with, joined_at-length, joined_at-there}
use Rattle.nx_combine.proofs.combiner.Combiner.join_at.Goals as goal

pub positions-joined-requires-clause-there : goal.positions-joined-requires-clause-there
positions-joined-requires-clause-there g c =
    let held = g.S.HoldsFamilies.held c.args.self.now.store c.args.places.now in
    let heard = heard_with c.args.head.now c.args.positions.now in
    subst (λ n. c.args.index < n)
    (sym (ap length (c.join.ensures.joined heard refl)
    ∙ joined_at-length held.families heard c.args.index))
    c.requires.there

pub returns-clause-read : goal.returns-clause-read
returns-clause-read g c = λ heard family is there.
    let held = g.S.HoldsFamilies.held c.args.self.now.store c.args.places.now in
    let after = g.S.HoldsFamilies.held c.join.new.self c.join.new.places in
    let here : slice_get after.families c.args.index ≡ Some (joined_by heard family) =
    ap (λ (l : List Family). slice_get l c.args.index) (c.join.ensures.joined heard is)
    ∙ joined_at-there held.families heard c.args.index family there in
    subst (HasRead c.read_positions-end.new.finder c.args.head.now.identity)
    (c.positions-joined.ensures (joined_by heard family) here) c.read_positions-end.ensures.copy
