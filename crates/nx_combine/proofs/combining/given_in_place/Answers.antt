use Rattle.std.proofs.Common.{not, refl, sym, ap, ◌∙◌}
use Rattle.nx_envelope.specs.Copies.{errors_of}
use Rattle.nx_copies.specs.copies.FoundCopies.{headed_copy}
use Rattle.nx_combine.specs.Families.{given_by}
use Rattle.nx_combine.proofs.lemmas.Combine.{chosen_own, given_chosen, gives, how_given, text_given}
use Rattle.nx_combine.proofs.combining.given_in_place.Goals as goal

pub returns-then-is_better-clause-copy : goal.returns-then-is_better-clause-copy
returns-then-is_better-clause-copy c = λ positions identity text selected read errors.
    let copy = headed_copy c.args.head.now text selected in
    let g = gives c.args.finder.now identity positions c.in-Some.found read c.in-Some.ensures.head in
    chosen_own positions copy c.is_better.result
    (c.is_better.ensures copy (given_by positions copy) refl errors
    (how_given positions copy ∙ sym g.how)
    (g.errors ∙ ap errors_of (sym (text_given positions copy))))
    c.if-is_better.true

pub returns-else-is_better-clause-copy : goal.returns-else-is_better-clause-copy
returns-else-is_better-clause-copy c = λ positions identity text selected read errors.
    let copy = headed_copy c.args.head.now text selected in
    let g = gives c.args.finder.now identity positions c.in-Some.found read c.in-Some.ensures.head in
    given_chosen positions c.args.head.now c.in-Some.found text c.args.finder.now.text selected
    c.is_better.result g read.text
    (c.is_better.ensures copy (given_by positions copy) refl errors
    (how_given positions copy ∙ sym g.how)
    (g.errors ∙ ap errors_of (sym (text_given positions copy))))
    c.if-is_better.false

pub returns-else-is_better-clause-errors : goal.returns-else-is_better-clause-errors
returns-else-is_better-clause-errors c = λ positions identity read.
    let g = gives c.args.finder.now identity positions c.in-Some.found read c.in-Some.ensures.head in
    g.errors ∙ ap errors_of (sym read.text)

pub returns-then-is_better-clause-given : goal.returns-then-is_better-clause-given
returns-then-is_better-clause-given c = λ positions identity text selected read errors.
    let copy = headed_copy c.args.head.now text selected in
    let g = gives c.args.finder.now identity positions c.in-Some.found read c.in-Some.ensures.head in
    ap not (sym c.if-is_better.true
    ∙ c.is_better.ensures copy (given_by positions copy) refl errors
    (how_given positions copy ∙ sym g.how)
    (g.errors ∙ ap errors_of (sym (text_given positions copy))))

pub returns-else-is_better-clause-given : goal.returns-else-is_better-clause-given
returns-else-is_better-clause-given c = λ positions identity text selected read errors.
    let copy = headed_copy c.args.head.now text selected in
    let g = gives c.args.finder.now identity positions c.in-Some.found read c.in-Some.ensures.head in
    ap not (sym c.if-is_better.false
    ∙ c.is_better.ensures copy (given_by positions copy) refl errors
    (how_given positions copy ∙ sym g.how)
    (g.errors ∙ ap errors_of (sym (text_given positions copy))))
