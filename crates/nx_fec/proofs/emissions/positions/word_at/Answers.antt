use Rattle.std.proofs.Common.{◌-◌, ◌/◌, sym, ap, ◌∙◌, map, Some, arith}
use Rattle.std.proofs.lemmas.List.{length-map}
use Rattle.nx_fec.specs.emissions.Emission.{dx_word, sent_position, rx_word}
use Rattle.nx_fec.proofs.lemmas.emissions.Emission.{phasing_1-words, sent_position-at, slice_get-emission_even}
use Rattle.nx_fec.proofs.lemmas.emissions.Emission.{slice_get-emission_early, slice_get-emission_late}
use Rattle.nx_fec.proofs.lemmas.emissions.Emission.{slice_get-emission_none}
use Rattle.nx_fec.proofs.emissions.positions.word_at.Goals as goal

pub returns-in_err-get : goal.returns-in_err-get
returns-in_err-get c =
    let past = c.in_err-get.ensures.lookup.3 in
    let n = length-map c.args.positions.now sent_position in
    c.from_residual.ensures ∙ sym
    (slice_get-emission_none (map sent_position c.args.positions.now) c.args.slot (omega arith))

pub returns-then-slot-eq0 : goal.returns-then-slot-eq0
returns-then-slot-eq0 c =
    let at = c.in_ok-get.ensures.lookup in
    let n = length-map c.args.positions.now sent_position in
    let e = sent_position-at c.args.positions.now (c.args.slot / 2) c.in_ok-get.field-0.now at.3.0
    at.1 in
    ap Some (c.dx.ensures ∙ ap dx_word e)
    ∙ sym (slice_get-emission_even (map sent_position c.args.positions.now) c.args.slot
    (omega arith) (omega (arith, at.3.0)))

pub returns-in_err-get-2 : goal.returns-in_err-get-2
returns-in_err-get-2 c =
    let past = c.in_err-get-2.ensures.lookup.3 in
    let n = length-map c.args.positions.now sent_position in
    c.from_residual-in_err-get-2.ensures
    ∙ sym (slice_get-emission_none (map sent_position c.args.positions.now) c.args.slot
    (omega arith))

pub returns-then-slot-lt-SPREAD : goal.returns-then-slot-lt-SPREAD
returns-then-slot-lt-SPREAD c =
    let at = c.in_ok-get-2.ensures.lookup in
    let n = length-map c.args.positions.now sent_position in
    ap Some (c.word_of.ensures ∙ phasing_1-words)
    ∙ sym (slice_get-emission_early (map sent_position c.args.positions.now) c.args.slot
    (omega arith) (omega arith) (omega (arith, at.3.0)))

pub returns : goal.returns
returns c =
    let next = c.in_ok-get-2.ensures.lookup in
    let at = c.in_ok-get-3.ensures.lookup in
    let n = length-map c.args.positions.now sent_position in
    let e = sent_position-at c.args.positions.now ((c.args.slot - 5) / 2) c.in_ok-get-3.field-0.now
    at.3.0 at.1 in
    ap Some (c.rx.ensures ∙ ap rx_word e)
    ∙ sym (slice_get-emission_late (map sent_position c.args.positions.now) c.args.slot
    (omega arith) (omega arith) (omega (arith, next.3.0)))
