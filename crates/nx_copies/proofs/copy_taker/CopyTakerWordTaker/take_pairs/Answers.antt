use Rattle.std.proofs.Common.{◌≡◌, ℕ, List, arith, length, subst₂, sym, take}
use Rattle.std.proofs.lemmas.List.{length-take-le}
use Rattle.std.specs.List.{flat_map}
use Rattle.nx_code.specs.Word.{elements}
use Rattle.nx_copies.specs.hearing.CopyTaker.{Hears}
use Rattle.nx_copies.proofs.lemmas.copy_hearer.WordsTaken.{words_taken}
use Rattle.nx_copies.proofs.copy_taker.CopyTakerWordTaker.take_pairs.Goals as goal

pub returns-clause-hears : goal.returns-clause-hears
returns-clause-hears c = λ old new brings.
    let heard = c.hear_pairs-heard in
    let count = heard.result.0 in
    let words : List ℕ = take count c.args.words.now in
    let size : length words ≡ count = length-take-le count c.args.words.now heard.ensures.within in
    subst₂ (λ taker over. Hears old c.args.self.now (flat_map elements words) new taker over)
    (sym c.meet.ensures.tag) (sym c.meet.ensures.over)
    (words_taken c.args.self.now heard.new.self heard.result.1 words old new
    (omega (arith, size, heard.ensures.some)) heard.ensures.hears brings)
