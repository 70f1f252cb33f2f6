use Rattle.std.proofs.Common.{◌≡◌, ◌==◌, ◌&&◌, ◌||◌, false, not, sym, ap, ◌∙◌, rules}
use Rattle.nx_memory.specs.Memory.{is_known}
use Rattle.nx_copies.specs.copies.Printing.{is_good}
use Rattle.nx_copies.specs.copies.FoundCopies.{headed_copy}
use Rattle.nx_copies.proofs.lemmas.printing.Judging.{content_grows, content_stays, entered, made_false}
use Rattle.nx_copies.proofs.lemmas.printing.Judging.{newest_is_last, printed_as}
use Rattle.nx_copies.proofs.judging.judge.Goals as goal

pub returns-then-identity-ne0-clause-printed : goal.returns-then-identity-ne0-clause-printed
returns-then-identity-ne0-clause-printed g c entries h =
    let head = c.args.head.now in
    let known = is_known head.identity c.args.head.now.moment (g.M.Recall.content c.args.memory.now) in
    let printed : c.if-selected.printed
    ≡ (c.args.selected && ((head.identity.number == 0) || not known)) = search rules in
    printed_as entries _ (headed_copy head c.args.text.now c.args.selected) _ h
    printed

pub returns-then-identity-ne0-clause-entered : goal.returns-then-identity-ne0-clause-entered
returns-then-identity-ne0-clause-entered g c entries h =
    let head = c.args.head.now in
    let copy = headed_copy head c.args.text.now c.args.selected in
    let known = is_known head.identity c.args.head.now.moment (g.M.Recall.content c.args.memory.now) in
    let printed : c.if-selected.printed
    ≡ (c.args.selected && ((head.identity.number == 0) || not known)) = search rules in
    let good : c.if-eq.is_good ≡ is_good copy = search rules in
    let numbered : (head.identity.number == 0) ≡ false = search rules in
    content_grows entries _ _ _ _ h c.enter.ensures
    (entered entries copy
    (sym (printed_as entries _ copy _ h printed) ∙ c.if-printed.true)
    (sym good ∙ c.if-is_good.true) numbered)

pub returns-then-identity-ne0-clause-not_before : goal.returns-then-identity-ne0-clause-not_before
returns-then-identity-ne0-clause-not_before g c =
    newest_is_last (g.M.Recall.content c.args.memory.now) _ c.args.head.now.identity
    c.args.head.now.moment
    c.enter.ensures

pub returns-else-printed-clause-printed : goal.returns-else-printed-clause-printed
returns-else-printed-clause-printed g c entries h =
    let head = c.args.head.now in
    let known = is_known head.identity c.args.head.now.moment (g.M.Recall.content c.args.memory.now) in
    let printed : c.if-selected.printed
    ≡ (c.args.selected && ((head.identity.number == 0) || not known)) = search rules in
    printed_as entries _ (headed_copy head c.args.text.now c.args.selected) _ h
    printed

pub returns-else-printed-clause-entered : goal.returns-else-printed-clause-entered
returns-else-printed-clause-entered g c entries h =
    let head = c.args.head.now in
    let copy = headed_copy head c.args.text.now c.args.selected in
    let known = is_known head.identity c.args.head.now.moment (g.M.Recall.content c.args.memory.now) in
    let printed : c.if-selected.printed
    ≡ (c.args.selected && ((head.identity.number == 0) || not known)) = search rules in
    let good : c.if-eq.is_good ≡ is_good copy = search rules in
    let none : (c.if-selected.printed && c.if-eq.is_good && not (head.identity.number == 0))
    ≡ false = search rules in
    content_stays entries _ _ h
    (made_false entries copy _ _ (printed_as entries _ copy _ h printed)
    (ap (λ b. c.if-selected.printed && b && not (head.identity.number == 0)) good) none)
