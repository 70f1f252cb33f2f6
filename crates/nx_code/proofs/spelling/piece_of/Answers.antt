use Rattle.std.proofs.Common.{◌≡◌, ◌≢◌, [], ◌∷◌, Some, sym, subst, ap, ◌∙◌}
use Rattle.std.proofs.lemmas.Bool.{false≢true}
use Rattle.nx_code.specs.Reading.{character_of, holds_in}
use Rattle.nx_code.specs.Spelling.{Spells}
use Rattle.nx_code.proofs.lemmas.Spelling.{spells_newline, spells_here, spells_there}
use Rattle.nx_code.proofs.lemmas.Spelling.{after_character, after_there, holds_in-other}
use Rattle.nx_code.proofs.spelling.piece_of.Goals as goal

pub returns-then-character-eq-NEWLINE-clause-spells :
    goal.returns-then-character-eq-NEWLINE-clause-spells
returns-then-character-eq-NEWLINE-clause-spells c =
    subst (λ n. Spells (n ∷ []) c.args.shift (27 ∷ 28 ∷ [])) (sym c.if-character-eq-NEWLINE.true)
    (spells_newline c.args.shift)

pub returns-then-stands_in-clause-spells : goal.returns-then-stands_in-clause-spells
returns-then-stands_in-clause-spells c =
    let comb = c.unwrap-case.result.0 in
    let prints = rw c.unwrap-case.ensures at c.char_to_code.ensures.printed in
    spells_here c.args.shift comb.number c.args.character comb.from_one comb.to_thirty_two
    (prints c.args.shift (sym c.if-stands_in.ensures)) c.if-character-eq-NEWLINE.false

pub returns-then-stands_in-clause-shift : goal.returns-then-stands_in-clause-shift
returns-then-stands_in-clause-shift c =
    let comb = c.unwrap-case.result.0 in
    let prints = rw c.unwrap-case.ensures at c.char_to_code.ensures.printed in
    sym (after_character c.args.shift comb.number c.args.character comb.to_thirty_two
    (prints c.args.shift (sym c.if-stands_in.ensures)))

pub returns-clause-spells : goal.returns-clause-spells
returns-clause-spells c =
    let comb = c.unwrap-case.result.0 in
    let prints = rw c.unwrap-case.ensures at c.char_to_code.ensures.printed in
    let found = rw c.unwrap-case.ensures at
    (c.char_to_code.ensures.found comb.number c.args.shift comb.from_one comb.to_thirty_two) in
    let there : character_of comb.number c.other-shift.result ≡ Some c.args.character =
    prints c.other-shift.result
    (ap (holds_in c.unwrap-case.result.1) c.other-shift.ensures
    ∙ holds_in-other c.unwrap-case.result.1 c.args.shift (sym c.if-stands_in.ensures)) in
    let elsewhere : character_of comb.number c.args.shift ≢ Some c.args.character =
    λ h. false≢true (c.if-stands_in.ensures ∙ (found h).1) in
    spells_there c.other-shift.result c.args.shift c.comb.result.number comb.number c.args.character
    c.other-shift.ensures c.comb.ensures.sets comb.from_one comb.to_thirty_two there elsewhere
    c.if-character-eq-NEWLINE.false

pub returns-clause-shift : goal.returns-clause-shift
returns-clause-shift c =
    let comb = c.unwrap-case.result.0 in
    let prints = rw c.unwrap-case.ensures at c.char_to_code.ensures.printed in
    let there : character_of comb.number c.other-shift.result ≡ Some c.args.character =
    prints c.other-shift.result
    (ap (holds_in c.unwrap-case.result.1) c.other-shift.ensures
    ∙ holds_in-other c.unwrap-case.result.1 c.args.shift (sym c.if-stands_in.ensures)) in
    after_there c.other-shift.result c.args.shift c.comb.result.number comb.number c.args.character
    c.comb.ensures.sets comb.to_thirty_two there
