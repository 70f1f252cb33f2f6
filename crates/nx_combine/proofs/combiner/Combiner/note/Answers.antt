use Rattle.std.proofs.Common.{◌≡◌, ◌-◌, ◌∷◌, List, Some, length, refl, sym, ap, ◌∙◌, subst}
use Rattle.std.proofs.Math.ListN.{set}
use Rattle.std.specs.Prelude.{slice_get}
use Rattle.std.specs.Option.{option_map}
use Rattle.nx_copies.specs.copies.FoundCopies.{headed_copy}
use Rattle.nx_copies.specs.declared.entry.EntryHead.{EntryHead}
use Rattle.nx_combine.specs.Families.{Family}
use Rattle.nx_combine.specs.Judging.{StandsHolding, head_of}
use Rattle.nx_combine.proofs.lemmas.Judged.{found_at, head_is, stands_noted, stands_unnoted, within_some}
use Rattle.nx_combine.proofs.combiner.Combiner.note.Goals as goal

pub returns-in_default-clause-stands : goal.returns-in_default-clause-stands
returns-in_default-clause-stands g c = λ families before one text selected stands errors comes.
    let most = g.S.HoldsFamilies.most c.args.places.now in
    let held = g.S.HoldsFamilies.held c.args.self.now.store c.args.places.now in
    stands_unnoted most families held.families before one held.printed
    c.args.self.now.finder c.args.self.now.finder stands
    (comes.of_family ∙ ap (option_map (λ i. length families - 1 - i)) c.in_default.is)

pub returns-clause-stands : goal.returns-clause-stands
returns-clause-stands g c = λ families before one text selected stands errors comes.
    let most = g.S.HoldsFamilies.most c.args.places.now in
    let held = g.S.HoldsFamilies.held c.args.self.now.store c.args.places.now in
    let now = g.S.HoldsFamilies.held c.note.new.self c.note.new.places in
    let index = c.in-Some.index in
    let finder = c.args.self.now.finder in
    let at = found_at most families held.families before one held.printed finder c.args.family
    index (headed_copy c.args.head text selected) (slice_get held.printed index) stands comes
    c.in-Some.is c.requires.within refl in
    let noted : now.printed ≡ set held.printed index (Some (head_of one.copy)) =
    c.note.ensures.printed
    ∙ ap (λ (h : EntryHead). set held.printed index (Some h))
    (sym (head_is one c.args.head text selected comes.is errors)) in
    subst (λ (l : List Family). StandsHolding most
    (record { families = l; printed = now.printed; finder = finder }) families (one ∷ before))
    (sym c.note.ensures.families)
    (stands_noted most families held.families before one held.printed now.printed finder finder
    index stands
    (within_some c.args.family index (length held.families) c.in-Some.is c.requires.within) at.of
    noted)
