use Rattle.std.proofs.Common.{◌≡◌, ◌+◌, ◌-◌, ◌*◌, ◌∙◌, ap, sym, arith, map}
use Rattle.nx_fec.specs.emissions.Emission.{rx_word, sent_position, word_sent}
use Rattle.nx_fec.proofs.lemmas.emissions.Emission.{phasing_1-words, sent_position-at, word_sent-early}
use Rattle.nx_fec.proofs.lemmas.emissions.Emission.{word_sent-rx}
use Rattle.nx_fec.proofs.emissions.emission_lines.rx_behind.Goals as goal

pub returns-then-index-lt2 : goal.returns-then-index-lt2
returns-then-index-lt2 c =
    c.word_of.ensures ∙ phasing_1-words
    ∙ sym (word_sent-early (map sent_position c.args.positions.now) (2 * c.args.index + 1)
    (omega arith) (omega (arith, c.if-index-lt2.true)))

pub returns : goal.returns
returns c =
    let sent = map sent_position c.args.positions.now in
    let e : 2 * (c.args.index - 2) + 5 ≡ 2 * c.args.index + 1 =
    omega (arith, c.if-index-lt2.false) in
    c.rx.ensures
    ∙ ap rx_word (sent_position-at c.args.positions.now (c.args.index - 2)
    c.index-positions-index.result (omega (arith, c.requires)) c.index-positions-index.is)
    ∙ sym (word_sent-rx sent (c.args.index - 2)) ∙ ap (word_sent sent) e
