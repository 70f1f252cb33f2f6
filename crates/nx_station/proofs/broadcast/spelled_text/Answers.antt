use Rattle.std.proofs.Common.{ap, ◌∙◌, Err}
use Rattle.nx_station.proofs.lemmas.broadcasts.Broadcast.{all-in_code, text-in_code}
use Rattle.nx_station.proofs.broadcast.spelled_text.Goals as goal

pub unreachable-requires : goal.unreachable-requires
unreachable-requires c =
    let at = c.in-Err-NoSuchCharacter.field-0-0 in
    let refused = (c.spell.ensures.no_such_character at).0
    (c.in-Err-NoSuchCharacter.is ∙ ap Err c.in-Err-NoSuchCharacter.field-0-is) in
    let text = c.deref.ensures.value ∙ c.in_ok-text.ensures.text in
    all-in_code c.deref.result.now at refused
    (rw text (text-in_code c.args.message.now.lines c.in_ok-text.ensures.sound))
