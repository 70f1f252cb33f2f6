use Rattle.std.proofs.Common.{Option, Some, None, ℕ, ap, ◌∙◌, arith, append-nil, sym}
use Rattle.std.specs.Option.{option_map}
use Rattle.nx_envelope.specs.declared.found.TextEvent.{TextEvent}
use Rattle.nx_copies.specs.copies.LockText.{text_after}
use Rattle.nx_locks.specs.private.Reader.{Reading}
use Rattle.nx_locks.proofs.lemmas.ReaderWords.{heard_none, heard_some, is_counted}
use Rattle.nx_locks.proofs.reader.CountingReader.hear_word.Goals as goal

-- the byte that a word printed
abbrev printed_of : Option (ℕ × TextEvent) → Option ℕ
printed_of read = option_map (λ (printed : ℕ × TextEvent). printed.0) read

pub returns-in-Some-clause-shows : goal.returns-in-Some-clause-shows
returns-in-Some-clause-shows c =
    let mid_is = c.self.view_is ∙ c.count.ensures in
    let read = c.read_word in
    record {
      printed = Some c.in-Some.byte;
      hears = record {
        hears = λ first words n r is_word is_role few.
            let counted' = is_counted c.args.self.now _ c.args.word first words n mid_is r is_word
            few in
            heard_some _ c.take.new.self read.new.self (printed_of read.result) c.in-Some.byte first
            words n counted' few
            (read.ensures.reads first words n counted'.reads is_word is_role)
            (ap printed_of c.in-Some.is)
            (c.take.ensures.headers (text_after first words n) read.new.self.finder
            (read.ensures.brings c.in-Some.byte c.in-Some.event c.in-Some.is
            (text_after first words n) counted'.reads.finder))
            c.take.ensures.kept;
        few = omega (arith, ap (λ (r : Reading). r.copies) mid_is, c.take.ensures.few);
      };
      spelled = c.push.ensures.items;
    }

pub returns-in_default-clause-shows : goal.returns-in_default-clause-shows
returns-in_default-clause-shows c =
    let mid_is = c.self.view_is ∙ c.count.ensures in
    let read = c.read_word in
    record {
      printed = None;
      hears = record {
        hears = λ first words n r is_word is_role few.
            let counted' = is_counted c.args.self.now _ c.args.word first words n mid_is r is_word
            few in
            heard_none _ read.new.self (printed_of read.result) first words n counted'
            (read.ensures.reads first words n counted'.reads is_word is_role)
            (ap printed_of c.in_default.is);
        few = omega (arith, ap (λ (r : Reading). r.copies) mid_is);
      };
      spelled = sym (append-nil c.args.shown.now.items);
    }
