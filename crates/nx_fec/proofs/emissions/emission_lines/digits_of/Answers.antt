use Rattle.std.proofs.Common.{◌*◌, ◌∙◌, ap, arith, take, bit_and, bit_or}
use Rattle.std.specs.Int.{to_le_bytes, w64}
use Rattle.nx_fec.proofs.lemmas.emissions.EmissionLine.{digits-spread}
use Rattle.nx_fec.proofs.emissions.emission_lines.digits_of.Goals as goal

pub returns : goal.returns
returns c =
    ap (λ n. take 7 (to_le_bytes w64
    (bit_or (bit_and (n * 567382630219905) 282578800148737) 13563782407139376)))
    (c.from.ensures ∙ c.number.ensures.number)
    ∙ digits-spread c.args.word (omega (arith, c.number.ensures.range, c.number.ensures.number))
