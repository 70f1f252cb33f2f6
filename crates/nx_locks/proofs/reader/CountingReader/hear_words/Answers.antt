use Rattle.std.proofs.Common.{◌+◌, ◌-◌, ◌^◌, ◌∙◌, ap, refl, subst, take}
use Rattle.std.specs.Prelude.{min}
use Rattle.nx_sync.specs.declared.step.Role.TheVariants.{Dx}
use Rattle.nx_locks.specs.private.Reader.{Reading, ShowsWords}
use Rattle.nx_locks.proofs.lemmas.PlainWords.{plain_shown}
use Rattle.nx_locks.proofs.reader.CountingReader.hear_words.Goals as goal

pub returns-clause-shows : goal.returns-clause-shows
returns-clause-shows c is =
    let printed = c.in-Some.printed in
    let i = c.self.inside in
    let old : Reading = record {
      lock = i.reader;
      words = i.words;
      wrong = i.wrong;
      copies = i.copies;
      is_line_open = i.is_line_open;
    } in
    let new : Reading = record {
      lock = c.read_words.new.self;
      words = c.saturating_add-self-inside.result;
      wrong = c.saturating_add-self-inside-2.result;
      copies = i.copies;
      is_line_open = c.is_open_after-self-inside.result;
    } in
    let before = c.args.shown.now.items in
    let after = c.append_some.new.shown.items in
    subst (λ r. ShowsWords r new Dx c.args.words.now before after) c.self.view_is
    (plain_shown old new (take printed.count printed.bytes) c.args.words.now before after _ refl
    (c.read_words.ensures.reads printed c.in-Some.is) c.saturating_add-self-inside.ensures
    (c.saturating_add-self-inside-2.ensures
    ∙ ap (λ n. min (i.wrong + n) (2 ^ 64 - 1)) c.wrong_among.ensures) refl
    c.is_open_after-self-inside.ensures c.append_some.ensures.items)
