use Rattle.std.proofs.Common.{◌≡◌, ◌-◌, None, length, refl, sym, ap, ◌∙◌}
use Rattle.std.proofs.lemmas.Option.{get_or_from_slice_get}
use Rattle.std.specs.Prelude.{slice_get}
use Rattle.std.specs.Option.{option_map}
use Rattle.nx_envelope.specs.Copies.{errors_of}
use Rattle.nx_copies.specs.copies.FoundCopies.{TaggedCopy, headed_copy}
use Rattle.nx_combine.specs.Judging.{last_printed}
use Rattle.nx_combine.proofs.lemmas.Judged.{better_alone, better_last, better_none, found_at}
use Rattle.nx_combine.proofs.combiner.Combiner.is_better_than_before.Goals as goal

pub returns-in_default : goal.returns-in_default
returns-in_default g c = λ families before one text selected stands errors comes.
    sym (better_alone before one
    (comes.of_family ∙ ap (option_map (λ i. length families - 1 - i)) c.in_default.is))

pub returns-in-Some-printed : goal.returns-in-Some-printed
returns-in-Some-printed g c = λ families before one text selected stands errors comes.
    let most = g.S.HoldsFamilies.most c.args.places.now in
    let held = g.S.HoldsFamilies.held c.args.self.now.store c.args.places.now in
    let index = c.in-Some.index in
    let number = length families - 1 - index in
    let at = found_at most families held.families before one held.printed
    c.args.self.now.finder c.args.family index (headed_copy c.args.head.now text selected)
    (slice_get held.printed index) stands comes c.in-Some.is c.requires.within refl in
    let is : c.printed.result ≡ last_printed before number =
    c.printed.ensures
    ∙ get_or_from_slice_get held.printed index (last_printed before number) None at.is in
    better_last before one number c.in-Some-printed.last c.is_better.result at.of
    (sym is ∙ c.in-Some-printed.is)
    (λ other how own. c.is_better.ensures one.copy other
    (ap (λ (t : TaggedCopy). t.how) comes.is)
    (errors ∙ ap (λ (t : TaggedCopy). errors_of t.text) (sym comes.is))
    how own)

pub returns-in-None : goal.returns-in-None
returns-in-None g c = λ families before one text selected stands errors comes.
    let most = g.S.HoldsFamilies.most c.args.places.now in
    let held = g.S.HoldsFamilies.held c.args.self.now.store c.args.places.now in
    let index = c.in-Some.index in
    let number = length families - 1 - index in
    let at = found_at most families held.families before one held.printed
    c.args.self.now.finder c.args.family index (headed_copy c.args.head.now text selected)
    (slice_get held.printed index) stands comes c.in-Some.is c.requires.within refl in
    let is : c.printed.result ≡ last_printed before number =
    c.printed.ensures
    ∙ get_or_from_slice_get held.printed index (last_printed before number) None at.is in
    sym (better_none before one number at.of (sym is ∙ c.in-None.is))
