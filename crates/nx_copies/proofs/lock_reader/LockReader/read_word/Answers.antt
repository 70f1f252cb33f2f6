use Rattle.std.proofs.Common.{ℕ, List, ◌++◌, refl, sym, ap, ◌∙◌, subst, append-nil}
use Rattle.nx_envelope.specs.Finder.{StandsAfter}
use Rattle.nx_fec.specs.emissions.Pairing.{counts_as}
use Rattle.nx_sync.specs.declared.step.Role.{Role}
use Rattle.nx_copies.specs.private.LockPrinter.{HasPrintedWords}
use Rattle.nx_copies.specs.LockReader.{HasReadWords, LockReading, ReadsLock}
use Rattle.nx_copies.specs.copies.LockText.{text_after}
use Rattle.nx_copies.proofs.lemmas.locks.ReaderWords.{has_read_dx, has_read_rx, printer_of, prints_lock, reads_on}
use Rattle.nx_copies.proofs.lock_reader.LockReader.read_word.Goals as goal

-- the printer was given a word, and the finder heard what that printed
word_read : {new : LockReading} {first : Role} {words : ℕ → ℕ} {n : ℕ} {bytes : List ℕ}
    → HasPrintedWords (printer_of new) first words n 1 bytes
    → StandsAfter new.finder (text_after first words n ++ bytes)
    → HasReadWords new first words n 1 bytes
word_read printed found = record { stands = reads_on printed found; grows = printed.grows }

pub returns-in-Dx-clause-reads : goal.returns-in-Dx-clause-reads
returns-in-Dx-clause-reads c first words n reads is_word is_role =
    let before = subst (λ r. ReadsLock r first words n) (sym c.self.view_is) reads in
    let new : LockReading = record {
      diversity = c.dx_by_word.new.self;
      printer = c.self.inside.printer.printer;
      finder = c.self.inside.finder;
    } in
    word_read {new = new}
    (has_read_dx (prints_lock before) (sym is_role ∙ c.in-Dx.is) (ap counts_as (sym is_word))
    c.dx_by_word.ensures.stands refl)
    (subst (StandsAfter new.finder) (sym (append-nil (text_after first words n))) before.finder)

pub returns-in-Some-clause-reads : goal.returns-in-Some-clause-reads
returns-in-Some-clause-reads c first words n reads is_word is_role =
    let before = subst (λ r. ReadsLock r first words n) (sym c.self.view_is) reads in
    let new : LockReading = record {
      diversity = c.self.inside.printer.diversity;
      printer = c.step_by_class.new.self;
      finder = c.hear.new.self;
    } in
    word_read {new = new}
    (has_read_rx (prints_lock before) (sym is_role ∙ c.in-Rx.is) (ap counts_as (sym is_word))
    c.rx_by_word-class.ensures.stands refl c.in-Some.ensures.printed
    c.step_by_class.ensures.shift)
    (c.hear.ensures.stands (text_after first words n) before.finder)

pub returns-in-None-clause-reads : goal.returns-in-None-clause-reads
returns-in-None-clause-reads c first words n reads is_word is_role =
    let before = subst (λ r. ReadsLock r first words n) (sym c.self.view_is) reads in
    let new : LockReading = record {
      diversity = c.self.inside.printer.diversity;
      printer = c.step_by_class.new.self;
      finder = c.self.inside.finder;
    } in
    word_read {new = new}
    (has_read_rx (prints_lock before) (sym is_role ∙ c.in-Rx.is) (ap counts_as (sym is_word))
    c.rx_by_word-class.ensures.stands refl c.in-None.ensures.printed
    c.step_by_class.ensures.shift)
    (subst (StandsAfter new.finder) (sym (append-nil (text_after first words n))) before.finder)
