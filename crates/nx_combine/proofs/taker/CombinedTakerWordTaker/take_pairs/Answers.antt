use Rattle.std.proofs.Common.{arith, subst, sym}
use Rattle.std.specs.List.{flat_map}
use Rattle.nx_code.specs.Word.{elements}
use Rattle.nx_sync.specs.Ahead.{BringsWords}
use Rattle.nx_combine.specs.CombinedTaker.{Hears}
use Rattle.nx_combine.proofs.lemmas.TakerPairs.{first_two, takes_pair}
use Rattle.nx_combine.proofs.taker.CombinedTakerWordTaker.take_pairs.Goals as goal

pub returns-clause-hears : goal.returns-clause-hears
returns-clause-hears c = λ old new brings.
    let dx = c.index-words-0.result in
    let rx = c.index-words-1.result in
    let two = first_two c.args.words.now dx rx
    (omega (arith, c.requires.pairs.some, c.requires.pairs.even)) c.index-words-0.is
    c.index-words-1.is in
    subst (λ words. Hears old c.args.self.now (flat_map elements words) new c.take_pair.new.self
    c.take_pair.result) (sym two)
    (takes_pair c.args.self.now c.take_pair.new.self dx rx c.take_pair.result old new
    c.take_pair.ensures (subst (BringsWords old new) two brings))
