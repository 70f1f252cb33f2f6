use Rattle.std.proofs.Common.{◌≡◌, ◌-◌, ◌<◌, ◌&&◌, if◌then◌else◌, true, List, [], ◌∷◌, ◌++◌}
use Rattle.std.proofs.Common.{length, sym, ap, ap₂, ◌∙◌, subst}
use Rattle.std.specs.Prelude.{is_some}
use Rattle.std.proofs.lemmas.Bool.{and_parts}
use Rattle.nx_envelope.specs.Copies.{errors_of}
use Rattle.nx_envelope.specs.FinderView.{FinderView}
use Rattle.nx_memory.specs.declared.memories.entry.MemoryEntry.{MemoryEntry}
use Rattle.nx_copies.specs.copies.FoundCopies.{TaggedCopy, headed_copy}
use Rattle.nx_copies.specs.copies.Printing.{entry_of, is_good}
use Rattle.nx_copies.proofs.lemmas.printing.Judging.{content_grows, content_stays, newest_is_last}
use Rattle.nx_combine.specs.CombinedPrinting.{entry_made_combined, is_printed_combined}
use Rattle.nx_combine.specs.Combining.{meant}
use Rattle.nx_combine.specs.Families.{CombinedCopy, combined_copy_holding}
use Rattle.nx_combine.specs.Families.{families_after_holding}
use Rattle.nx_combine.specs.Judging.{StandsHolding, all_copies, combiner_of}
use Rattle.nx_combine.specs.Judging.{text_printed}
use Rattle.nx_combine.proofs.lemmas.Judged.{comes_as, made_printed, made_unprinted}
use Rattle.nx_combine.proofs.lemmas.Judged.{numbered_some, printed, some_as, unprinted}
use Rattle.nx_combine.proofs.combiner.Combiner.judge.Goals as goal

pub returns-then-not-prints-clause-stands : goal.returns-then-not-prints-clause-stands
returns-then-not-prints-clause-stands g c = λ entries families before heard is held stands.
    let head = c.args.head.now in
    let own = c.args.text.now in
    let selected = c.args.selected in
    let read = c.take-combined.new.self.finder.text in
    let shown = c.printed_as-one.result in
    let text = text_printed shown read own in
    let most = g.S.HoldsFamilies.most c.args.places.now in
    let after = families_after_holding most families heard in
    let one = combined_copy_holding most families heard in
    let stood = c.take-combined.ensures.stands families before heard is stands in
    let there = subst (λ m. StandsHolding m
    (combiner_of (g.S.HoldsFamilies.held c.take-combined.new.self.store
    c.take-combined.new.places) c.take-combined.new.self.finder) after before)
    (sym c.take-combined.ensures.room) stood in
    let errors : shown.head.errors ≡ errors_of text =
    c.printed_as-one.ensures.errors read own c.requires.errors c.take-combined.ensures.errors in
    let comes = comes_as one after c.take-combined.result.family
    (meant c.take-combined.result.given read (headed_copy head own selected))
    (headed_copy shown.head text selected)
    (c.take-combined.ensures.comes_to families before heard is stands)
    (c.printed_as-one.ensures.copy read own selected) in
    let prints : c.prints.result ≡ is_printed_combined entries before one =
    c.prints.ensures entries after before one text held there errors comes in
    subst (λ (l : List CombinedCopy). StandsHolding most
    (combiner_of (g.S.HoldsFamilies.held c.take-combined.new.self.store
    c.take-combined.new.places) c.take-combined.new.self.finder) after (l ++ before))
    (sym (unprinted entries before one (sym prints ∙ c.if-not-prints.true))) stood

pub returns-then-not-prints-clause-entered : goal.returns-then-not-prints-clause-entered
returns-then-not-prints-clause-entered g c = λ entries families before heard is held stands.
    let head = c.args.head.now in
    let own = c.args.text.now in
    let selected = c.args.selected in
    let read = c.take-combined.new.self.finder.text in
    let shown = c.printed_as-one.result in
    let text = text_printed shown read own in
    let most = g.S.HoldsFamilies.most c.args.places.now in
    let after = families_after_holding most families heard in
    let one = combined_copy_holding most families heard in
    let stood = c.take-combined.ensures.stands families before heard is stands in
    let there = subst (λ m. StandsHolding m
    (combiner_of (g.S.HoldsFamilies.held c.take-combined.new.self.store
    c.take-combined.new.places) c.take-combined.new.self.finder) after before)
    (sym c.take-combined.ensures.room) stood in
    let errors : shown.head.errors ≡ errors_of text =
    c.printed_as-one.ensures.errors read own c.requires.errors c.take-combined.ensures.errors in
    let comes = comes_as one after c.take-combined.result.family
    (meant c.take-combined.result.given read (headed_copy head own selected))
    (headed_copy shown.head text selected)
    (c.take-combined.ensures.comes_to families before heard is stands)
    (c.printed_as-one.ensures.copy read own selected) in
    let prints : c.prints.result ≡ is_printed_combined entries before one =
    c.prints.ensures entries after before one text held there errors comes in
    content_stays entries (entry_made_combined entries before one)
    (g.M.Recall.content c.args.memory.now) held
    (made_unprinted entries before one (sym prints ∙ c.if-not-prints.true))

pub returns-then-not-prints-clause-printed : goal.returns-then-not-prints-clause-printed
returns-then-not-prints-clause-printed g c = λ entries families before heard is held stands.
    let head = c.args.head.now in
    let own = c.args.text.now in
    let selected = c.args.selected in
    let read = c.take-combined.new.self.finder.text in
    let shown = c.printed_as-one.result in
    let text = text_printed shown read own in
    let most = g.S.HoldsFamilies.most c.args.places.now in
    let after = families_after_holding most families heard in
    let one = combined_copy_holding most families heard in
    let stood = c.take-combined.ensures.stands families before heard is stands in
    let there = subst (λ m. StandsHolding m
    (combiner_of (g.S.HoldsFamilies.held c.take-combined.new.self.store
    c.take-combined.new.places) c.take-combined.new.self.finder) after before)
    (sym c.take-combined.ensures.room) stood in
    let errors : shown.head.errors ≡ errors_of text =
    c.printed_as-one.ensures.errors read own c.requires.errors c.take-combined.ensures.errors in
    let comes = comes_as one after c.take-combined.result.family
    (meant c.take-combined.result.given read (headed_copy head own selected))
    (headed_copy shown.head text selected)
    (c.take-combined.ensures.comes_to families before heard is stands)
    (c.printed_as-one.ensures.copy read own selected) in
    let prints : c.prints.result ≡ is_printed_combined entries before one =
    c.prints.ensures entries after before one text held there errors comes in
    ap all_copies (unprinted entries before one (sym prints ∙ c.if-not-prints.true))

pub renew-requires-clause-numbered : goal.renew-requires-clause-numbered
renew-requires-clause-numbered g c =
    let shown = c.printed_as-one.result in
    let read = c.take-combined.new.self.finder.text in
    let same : c.text_of.result.now ≡ text_printed shown read c.args.text.now =
    c.text_of.ensures.text
    ∙ ap (λ (f : FinderView). text_printed shown f.text c.args.text.now) c.note.ensures.finder in
    let errors = c.printed_as-one.ensures.errors read c.args.text.now c.requires.errors
    c.take-combined.ensures.errors in
    let of : is_some c.take-combined.result.family ≡ true =
    (and_parts (is_good (headed_copy shown.head c.text_of.result.now c.args.selected))
    (is_some c.take-combined.result.family)
    (sym (c.is_entered.ensures c.args.selected (errors ∙ ap errors_of (sym same)))
    ∙ c.if-is_entered.true)).1 in
    numbered_some c.take-combined.result.family (0 < c.args.head.now.identity.number) of
    c.take-combined.ensures.numbered

pub returns-then-is_entered-clause-stands : goal.returns-then-is_entered-clause-stands
returns-then-is_entered-clause-stands g c = λ entries families before heard is held stands.
    let head = c.args.head.now in
    let own = c.args.text.now in
    let selected = c.args.selected in
    let read = c.take-combined.new.self.finder.text in
    let shown = c.printed_as-one.result in
    let text = text_printed shown read own in
    let most = g.S.HoldsFamilies.most c.args.places.now in
    let after = families_after_holding most families heard in
    let one = combined_copy_holding most families heard in
    let stood = c.take-combined.ensures.stands families before heard is stands in
    let there = subst (λ m. StandsHolding m
    (combiner_of (g.S.HoldsFamilies.held c.take-combined.new.self.store
    c.take-combined.new.places) c.take-combined.new.self.finder) after before)
    (sym c.take-combined.ensures.room) stood in
    let errors : shown.head.errors ≡ errors_of text =
    c.printed_as-one.ensures.errors read own c.requires.errors c.take-combined.ensures.errors in
    let comes = comes_as one after c.take-combined.result.family
    (meant c.take-combined.result.given read (headed_copy head own selected))
    (headed_copy shown.head text selected)
    (c.take-combined.ensures.comes_to families before heard is stands)
    (c.printed_as-one.ensures.copy read own selected) in
    let prints : c.prints.result ≡ is_printed_combined entries before one =
    c.prints.ensures entries after before one text held there errors comes in
    subst (λ (l : List CombinedCopy). StandsHolding most
    (combiner_of (g.S.HoldsFamilies.held c.note.new.self.store c.note.new.places)
    c.note.new.self.finder) after (l ++ before))
    (sym (printed entries before one (sym prints ∙ c.if-not-prints.false)))
    (subst (λ m. StandsHolding m
    (combiner_of (g.S.HoldsFamilies.held c.note.new.self.store c.note.new.places)
    c.note.new.self.finder) after (one ∷ before)) c.take-combined.ensures.room
    (c.note.ensures.stands after before one text selected there errors comes))

pub returns-then-is_entered-clause-entered : goal.returns-then-is_entered-clause-entered
returns-then-is_entered-clause-entered g c = λ entries families before heard is held stands.
    let head = c.args.head.now in
    let own = c.args.text.now in
    let selected = c.args.selected in
    let read = c.take-combined.new.self.finder.text in
    let shown = c.printed_as-one.result in
    let text = text_printed shown read own in
    let most = g.S.HoldsFamilies.most c.args.places.now in
    let after = families_after_holding most families heard in
    let one = combined_copy_holding most families heard in
    let stood = c.take-combined.ensures.stands families before heard is stands in
    let there = subst (λ m. StandsHolding m
    (combiner_of (g.S.HoldsFamilies.held c.take-combined.new.self.store
    c.take-combined.new.places) c.take-combined.new.self.finder) after before)
    (sym c.take-combined.ensures.room) stood in
    let errors : shown.head.errors ≡ errors_of text =
    c.printed_as-one.ensures.errors read own c.requires.errors c.take-combined.ensures.errors in
    let comes = comes_as one after c.take-combined.result.family
    (meant c.take-combined.result.given read (headed_copy head own selected))
    (headed_copy shown.head text selected)
    (c.take-combined.ensures.comes_to families before heard is stands)
    (c.printed_as-one.ensures.copy read own selected) in
    let prints : c.prints.result ≡ is_printed_combined entries before one =
    c.prints.ensures entries after before one text held there errors comes in
    let same : c.text_of.result.now ≡ text =
    c.text_of.ensures.text
    ∙ ap (λ (f : FinderView). text_printed shown f.text own) c.note.ensures.finder in
    let entered : c.is_entered.result ≡ (is_good one.copy && is_some one.family) =
    c.is_entered.ensures selected (errors ∙ ap errors_of (sym same))
    ∙ ap (λ t. is_good (headed_copy shown.head t selected) && is_some c.take-combined.result.family)
    same
    ∙ ap₂ (λ (t : TaggedCopy) b. is_good t && b) (sym comes.is)
    (sym (ap is_some comes.of_family
    ∙ some_as (λ i. length after - 1 - i) c.take-combined.result.family)) in
    let entry : MemoryEntry = record { identity = head.identity; moment = head.moment } in
    let named : entry_of one.copy ≡ entry =
    ap entry_of comes.is
    ∙ ap₂ (λ i m. let made : MemoryEntry = record { identity = i; moment = m } in made)
    c.printed_as-one.ensures.identity c.printed_as-one.ensures.moment in
    content_grows entries (entry_made_combined entries before one)
    (g.M.Recall.content c.args.memory.now) (g.M.Recall.content c.renew.new.self) entry held
    c.renew.ensures
    (made_printed entries before one c.is_entered.result (sym prints
    ∙ c.if-not-prints.false) entered
    ∙ ap (λ b. if b then entry_of one.copy ∷ [] else []) c.if-is_entered.true
    ∙ ap (λ (e : MemoryEntry). e ∷ []) named)

pub returns-then-is_entered-clause-printed : goal.returns-then-is_entered-clause-printed
returns-then-is_entered-clause-printed g c = λ entries families before heard is held stands.
    let head = c.args.head.now in
    let own = c.args.text.now in
    let selected = c.args.selected in
    let read = c.take-combined.new.self.finder.text in
    let shown = c.printed_as-one.result in
    let text = text_printed shown read own in
    let most = g.S.HoldsFamilies.most c.args.places.now in
    let after = families_after_holding most families heard in
    let one = combined_copy_holding most families heard in
    let stood = c.take-combined.ensures.stands families before heard is stands in
    let there = subst (λ m. StandsHolding m
    (combiner_of (g.S.HoldsFamilies.held c.take-combined.new.self.store
    c.take-combined.new.places) c.take-combined.new.self.finder) after before)
    (sym c.take-combined.ensures.room) stood in
    let errors : shown.head.errors ≡ errors_of text =
    c.printed_as-one.ensures.errors read own c.requires.errors c.take-combined.ensures.errors in
    let comes = comes_as one after c.take-combined.result.family
    (meant c.take-combined.result.given read (headed_copy head own selected))
    (headed_copy shown.head text selected)
    (c.take-combined.ensures.comes_to families before heard is stands)
    (c.printed_as-one.ensures.copy read own selected) in
    let prints : c.prints.result ≡ is_printed_combined entries before one =
    c.prints.ensures entries after before one text held there errors comes in
    ap all_copies (printed entries before one (sym prints ∙ c.if-not-prints.false))
    ∙ ap (λ (t : TaggedCopy). t ∷ []) comes.is
    ∙ ap (λ (f : FinderView). headed_copy shown.head (text_printed shown f.text own) selected ∷ [])
    (sym c.note.ensures.finder)

pub returns-then-is_entered-clause-not_before : goal.returns-then-is_entered-clause-not_before
returns-then-is_entered-clause-not_before g c =
    newest_is_last (g.M.Recall.content c.args.memory.now) (g.M.Recall.content c.renew.new.self)
    c.args.head.now.identity c.args.head.now.moment c.renew.ensures

pub returns-else-is_entered-clause-stands : goal.returns-else-is_entered-clause-stands
returns-else-is_entered-clause-stands g c = λ entries families before heard is held stands.
    let head = c.args.head.now in
    let own = c.args.text.now in
    let selected = c.args.selected in
    let read = c.take-combined.new.self.finder.text in
    let shown = c.printed_as-one.result in
    let text = text_printed shown read own in
    let most = g.S.HoldsFamilies.most c.args.places.now in
    let after = families_after_holding most families heard in
    let one = combined_copy_holding most families heard in
    let stood = c.take-combined.ensures.stands families before heard is stands in
    let there = subst (λ m. StandsHolding m
    (combiner_of (g.S.HoldsFamilies.held c.take-combined.new.self.store
    c.take-combined.new.places) c.take-combined.new.self.finder) after before)
    (sym c.take-combined.ensures.room) stood in
    let errors : shown.head.errors ≡ errors_of text =
    c.printed_as-one.ensures.errors read own c.requires.errors c.take-combined.ensures.errors in
    let comes = comes_as one after c.take-combined.result.family
    (meant c.take-combined.result.given read (headed_copy head own selected))
    (headed_copy shown.head text selected)
    (c.take-combined.ensures.comes_to families before heard is stands)
    (c.printed_as-one.ensures.copy read own selected) in
    let prints : c.prints.result ≡ is_printed_combined entries before one =
    c.prints.ensures entries after before one text held there errors comes in
    subst (λ (l : List CombinedCopy). StandsHolding most
    (combiner_of (g.S.HoldsFamilies.held c.note.new.self.store c.note.new.places)
    c.note.new.self.finder) after (l ++ before))
    (sym (printed entries before one (sym prints ∙ c.if-not-prints.false)))
    (subst (λ m. StandsHolding m
    (combiner_of (g.S.HoldsFamilies.held c.note.new.self.store c.note.new.places)
    c.note.new.self.finder) after (one ∷ before)) c.take-combined.ensures.room
    (c.note.ensures.stands after before one text selected there errors comes))

pub returns-else-is_entered-clause-entered : goal.returns-else-is_entered-clause-entered
returns-else-is_entered-clause-entered g c = λ entries families before heard is held stands.
    let head = c.args.head.now in
    let own = c.args.text.now in
    let selected = c.args.selected in
    let read = c.take-combined.new.self.finder.text in
    let shown = c.printed_as-one.result in
    let text = text_printed shown read own in
    let most = g.S.HoldsFamilies.most c.args.places.now in
    let after = families_after_holding most families heard in
    let one = combined_copy_holding most families heard in
    let stood = c.take-combined.ensures.stands families before heard is stands in
    let there = subst (λ m. StandsHolding m
    (combiner_of (g.S.HoldsFamilies.held c.take-combined.new.self.store
    c.take-combined.new.places) c.take-combined.new.self.finder) after before)
    (sym c.take-combined.ensures.room) stood in
    let errors : shown.head.errors ≡ errors_of text =
    c.printed_as-one.ensures.errors read own c.requires.errors c.take-combined.ensures.errors in
    let comes = comes_as one after c.take-combined.result.family
    (meant c.take-combined.result.given read (headed_copy head own selected))
    (headed_copy shown.head text selected)
    (c.take-combined.ensures.comes_to families before heard is stands)
    (c.printed_as-one.ensures.copy read own selected) in
    let prints : c.prints.result ≡ is_printed_combined entries before one =
    c.prints.ensures entries after before one text held there errors comes in
    let same : c.text_of.result.now ≡ text =
    c.text_of.ensures.text
    ∙ ap (λ (f : FinderView). text_printed shown f.text own) c.note.ensures.finder in
    let entered : c.is_entered.result ≡ (is_good one.copy && is_some one.family) =
    c.is_entered.ensures selected (errors ∙ ap errors_of (sym same))
    ∙ ap (λ t. is_good (headed_copy shown.head t selected) && is_some c.take-combined.result.family)
    same
    ∙ ap₂ (λ (t : TaggedCopy) b. is_good t && b) (sym comes.is)
    (sym (ap is_some comes.of_family
    ∙ some_as (λ i. length after - 1 - i) c.take-combined.result.family)) in
    content_stays entries (entry_made_combined entries before one)
    (g.M.Recall.content c.args.memory.now) held
    (made_printed entries before one c.is_entered.result (sym prints
    ∙ c.if-not-prints.false) entered
    ∙ ap (λ b. if b then entry_of one.copy ∷ [] else []) c.if-is_entered.false)

pub returns-else-is_entered-clause-printed : goal.returns-else-is_entered-clause-printed
returns-else-is_entered-clause-printed g c = λ entries families before heard is held stands.
    let head = c.args.head.now in
    let own = c.args.text.now in
    let selected = c.args.selected in
    let read = c.take-combined.new.self.finder.text in
    let shown = c.printed_as-one.result in
    let text = text_printed shown read own in
    let most = g.S.HoldsFamilies.most c.args.places.now in
    let after = families_after_holding most families heard in
    let one = combined_copy_holding most families heard in
    let stood = c.take-combined.ensures.stands families before heard is stands in
    let there = subst (λ m. StandsHolding m
    (combiner_of (g.S.HoldsFamilies.held c.take-combined.new.self.store
    c.take-combined.new.places) c.take-combined.new.self.finder) after before)
    (sym c.take-combined.ensures.room) stood in
    let errors : shown.head.errors ≡ errors_of text =
    c.printed_as-one.ensures.errors read own c.requires.errors c.take-combined.ensures.errors in
    let comes = comes_as one after c.take-combined.result.family
    (meant c.take-combined.result.given read (headed_copy head own selected))
    (headed_copy shown.head text selected)
    (c.take-combined.ensures.comes_to families before heard is stands)
    (c.printed_as-one.ensures.copy read own selected) in
    let prints : c.prints.result ≡ is_printed_combined entries before one =
    c.prints.ensures entries after before one text held there errors comes in
    ap all_copies (printed entries before one (sym prints ∙ c.if-not-prints.false))
    ∙ ap (λ (t : TaggedCopy). t ∷ []) comes.is
    ∙ ap (λ (f : FinderView). headed_copy shown.head (text_printed shown f.text own) selected ∷ [])
    (sym c.note.ensures.finder)
