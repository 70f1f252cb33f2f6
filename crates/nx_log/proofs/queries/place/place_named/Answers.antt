use Rattle.std.proofs.Common.{subst, sym}
use Rattle.std.specs.Char.{IsAsciiDigit}
use Rattle.std.specs.Prelude.{All}
use Rattle.std.proofs.lemmas.Bool.{true≢false}
use Rattle.nx_log.proofs.lemmas.texts.TimeTexts.{numeral}
use Rattle.nx_log.proofs.queries.place.place_named.Goals as goal

pub written_place-requires : goal.written_place-requires
written_place-requires c =
    numeral.to c.args.text.now
    (subst (All IsAsciiDigit) c.as_bytes.ensures.value
    (c.is_of_digits.ensures.0 c.if-is_of_digits.true))

pub returns-else-is_of_digits-clause-found : goal.returns-else-is_of_digits-clause-found
returns-else-is_of_digits-clause-found c = λ place said.
    absurd (true≢false (sym (c.if-is_of_digits.ensures.1
    (subst (All IsAsciiDigit) (sym c.as_bytes.ensures.value)
    (numeral.from c.args.text.now said.digits.1)))))
