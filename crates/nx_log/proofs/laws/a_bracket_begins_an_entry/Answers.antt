use Rattle.nx_log.proofs.lemmas.reading.Brackets.{entry_bracket}
use Rattle.nx_log.proofs.laws.a_bracket_begins_an_entry.Goals as goal

pub returns : goal.returns
returns c = λ one bytes l.
    let b = entry_bracket one bytes l in
    (b.more, b.is, b.none)
