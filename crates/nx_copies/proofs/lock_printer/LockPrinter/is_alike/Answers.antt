use Rattle.std.proofs.Common.{◌∙◌, ap}
use Rattle.nx_code.specs.Taken.{reception_of}
use Rattle.nx_fec.specs.emissions.Pairing.{third_last}
use Rattle.nx_copies.specs.private.AlikeClasses.{are_alike_by}
use Rattle.nx_copies.proofs.lemmas.locks.AlikeWords.{alike_by_classes}
use Rattle.nx_copies.proofs.lock_printer.LockPrinter.is_alike.Goals as goal

pub returns : goal.returns
returns c = λ sent latest.
    let class = c.rx_by_word-class.result in
    let alone = reception_of c.rx-dx.result in
    c.alike_by.ensures
    ∙ ap (λ rx. are_alike_by class rx alone) c.class_of.ensures.class
    ∙ alike_by_classes (third_last sent) c.args.word class alone
    (c.rx_by_word-class.ensures.stands sent latest) (c.rx-dx.ensures.stands sent latest)
