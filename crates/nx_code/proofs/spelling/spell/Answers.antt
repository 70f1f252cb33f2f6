use Rattle.std.proofs.Common.{◌≡◌, ◌++◌, get_or, map, not, subst, sym, take}
use Rattle.std.proofs.lemmas.Bool.{not-false}
use Rattle.std.proofs.lemmas.List.{take_more}
use Rattle.nx_code.specs.Reading.{is_in_code}
use Rattle.nx_code.specs.Spelling.{Spells}
use Rattle.nx_code.specs.private.Pieces.{numbers_of_piece}
use Rattle.nx_code.specs.declared.signals.Comb.{Comb}
use Rattle.nx_code.proofs.lemmas.Spelling.{position-None, Spells-push, shift-push}
use Rattle.nx_code.proofs.spelling.spell.Goals as goal

pub piece_of-piece-requires : goal.piece_of-piece-requires
piece_of-piece-requires c =
    not-false _ (position-None (λ byte. not (is_in_code byte)) c.args.text.now
    c.loop-character.character-index 0 (sym c.in_default.ensures) c.loop-character-test.true)

pub loop-character-preserved : goal.loop-character-preserved
loop-character-preserved c =
    let i = c.loop-character.invariant in
    let text = c.args.text.now in
    let at = c.loop-character.character-index in
    let old = map (λ (comb : Comb). comb.number) c.loop-character.combs.items in
    let new = map (λ (comb : Comb). comb.number) c.push_piece.new.combs.items in
    let piece = c.piece_of-piece.result in
    let ys = numbers_of_piece piece in
    let z : new ≡ old ++ ys = c.in_ok-push_piece.ensures in (
      subst (λ l. Spells l c.args.from new) (sym (take_more text at 0 c.loop-character-test.true))
          (Spells-push (take at text) (get_or text at 0) c.args.from c.loop-character.shift old ys
          new i.0 i.1 c.piece_of-piece.ensures.spells z),
      shift-push c.args.from c.loop-character.shift piece.shift old ys new i.1
          c.piece_of-piece.ensures.shift z,
    )
