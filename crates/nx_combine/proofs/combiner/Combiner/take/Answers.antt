use Rattle.std.proofs.Common.{take, length, sym, ap, ◌∙◌}
use Rattle.nx_copies.specs.copies.FoundCopies.{headed_copy}
use Rattle.nx_combine.specs.Families.{families_after_holding}
use Rattle.nx_combine.proofs.lemmas.Judged.{comes_by, cut_same, stands_taken}
use Rattle.nx_combine.proofs.combiner.Combiner.take.Goals as goal

pub returns-clause-stands : goal.returns-clause-stands
returns-clause-stands g c = λ families before heard is stands.
    let most = g.S.HoldsFamilies.most c.args.places.now in
    let held = g.S.HoldsFamilies.held c.args.self.now.store c.args.places.now in
    let now = g.S.HoldsFamilies.held c.combine.new.self.store c.combine.new.places in
    let same = (cut_same most families heard (headed_copy c.args.head.now c.args.text.now
    c.args.selected)
    c.args.positions.now is).after in
    stands_taken most families (families_after_holding most families heard) held.families
    now.families before held.printed now.printed c.args.self.now.finder c.combine.new.self.finder
    c.combine.result.begins stands
    (c.combine.ensures.after families stands.held ∙ ap (take most) same)
    (ap length (sym same) ∙ c.combine.ensures.begins families stands.held)
    c.combine.ensures.printed

pub returns-clause-comes_to : goal.returns-clause-comes_to
returns-clause-comes_to g c = λ families before heard is stands.
    comes_by (g.S.HoldsFamilies.most c.args.places.now) families heard c.args.head.now
    c.args.text.now c.args.selected c.args.positions.now c.combine.new.self.finder.text
    c.combine.result is
    (c.combine.ensures.combined families stands.held)

pub returns-clause-sendings : goal.returns-clause-sendings
returns-clause-sendings g c = λ families before heard is stands.
    let most = g.S.HoldsFamilies.most c.args.places.now in
    sym (c.combine.ensures.combined families stands.held).sendings
    ∙ (cut_same most families heard
    (headed_copy c.args.head.now c.args.text.now c.args.selected) c.args.positions.now is).sendings
