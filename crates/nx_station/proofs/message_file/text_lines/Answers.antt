use Rattle.std.proofs.Common.{◌+◌, refl, ◌∙◌, ap, sym, length, map, arith}
use Rattle.std.proofs.lemmas.Bool.{eqb-true, eq-eqb, false≢true}
use Rattle.std.proofs.lemmas.List.{length-append, length-map, nil_from_length}
use Rattle.nx_envelope.specs.Message.{text_of}
use Rattle.nx_station.proofs.lemmas.message_files.FileReading.{body-open, body-cut, text-long, some-left}
use Rattle.nx_station.proofs.message_file.text_lines.Goals as goal

pub returns-then-is_empty-clause-fault : goal.returns-then-is_empty-clause-fault
returns-then-is_empty-clause-fault c subject number named =
    let before = c.loop-line.invariant in
    body-open subject number c.args.before (c.args.before + 1) c.args.bytes.now c.loop-line.rest.now
    (map (λ line. line.now) c.loop-line.lines.items) named before.whole
    (nil_from_length c.loop-line.rest.now (eqb-true _ _ (sym c.if-is_empty.ensures))) before.inside
    refl

pub overflow_add-result-3 : goal.overflow_add-result-3
overflow_add-result-3 c =
    let before = c.loop-line.invariant in
    let lines = map (λ line. line.now) c.loop-line.lines.items in
    omega (
      arith,
      c.requires,
      c.len.ensures,
      text-long lines,
      ap length before.whole,
      length-append
          (text_of lines) c.loop-line.rest.now,
      length-map c.loop-line.lines.items (λ line. line.now),
      c.loop-line.lines.ok.0,
    )

pub returns-clause-fault : goal.returns-clause-fault
returns-clause-fault c subject number named =
    let before = c.loop-line.invariant in
    let lines = map (λ line. line.now) c.loop-line.lines.items in
    body-cut subject number c.args.before _ c.args.bytes.now c.loop-line.rest.now lines named
    before.whole (some-left c.loop-line.rest.now
    (λ e. false≢true (c.if-is_empty.ensures ∙ eq-eqb _ _ e)))
    (rw c.in_default.is at c.split_line.ensures.none refl) before.inside
    (omega (
      arith,
      c.len.ensures,
      length-map c.loop-line.lines.items (λ line. line.now),
      c.loop-line.lines.ok.0,
    ))
