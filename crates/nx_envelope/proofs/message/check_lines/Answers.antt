use Rattle.std.proofs.lemmas.Grind.{common_steps}
use Rattle.std.proofs.Common.{◌<◌, List, ℕ, [], length, map, arith}
use Rattle.std.proofs.lemmas.List.{get_or-map, length-map}
use Rattle.std.proofs.lemmas.List.Elements.{All-more}
use Rattle.std.proofs.lemmas.Result.{err_from_is_err_and}
use Rattle.nx_envelope.specs.Message.{IsMessageLine}
use Rattle.nx_envelope.proofs.lemmas.messages.MessageLines.{first_fault, text_more}
use Rattle.nx_envelope.proofs.message.check_lines.Goals as goal

pub returns-in_err-check_line-clause-fault : goal.returns-in_err-check_line-clause-fault
returns-in_err-check_line-clause-fault c =
    let p = err_from_is_err_and c.from_residual.result c.from_residual.ensures.1 in
    let lt : c.loop-line.line-index < length c.args.lines.now = omega arith in
    let here = get_or-map (λ line. line.now) c.args.lines.now c.loop-line.line-index record
    { ref_ptr = (0, 0); now = [] } [] lt in
    let in_map : c.loop-line.line-index < length (map (λ line. line.now) c.args.lines.now) =
    omega (arith, length-map c.args.lines.now (λ line. line.now)) in
    rw (p.1, p.2) (first_fault _ c.loop-line.line-index c.loop-line.number
    c.in_err-check_line.field-0.0 c.loop-line.invariant.counted in_map
    c.loop-line.invariant.good (rw here c.in_err-check_line.ensures.fault))

pub loop-line-preserved : goal.loop-line-preserved
loop-line-preserved c =
    let lines : List (List ℕ) = map (λ line. line.now) c.args.lines.now in
    let lt : c.loop-line.line-index < length c.args.lines.now = omega arith in
    let in_map : c.loop-line.line-index < length lines =
    omega (arith, length-map c.args.lines.now (λ line. line.now)) in
    let here = get_or-map (λ line. line.now) c.args.lines.now c.loop-line.line-index record
    { ref_ptr = (0, 0); now = [] } [] lt in
    let text = text_more lines c.loop-line.line-index in_map in
    let sum = c.saturating_add-text_len.ensures in
    record {
      counted = omega arith;
      good = All-more IsMessageLine lines c.loop-line.line-index [] in_map
          c.loop-line.invariant.good (rw here c.in_ok-check_line.ensures.good);
      text = rw (text, here) (omega (arith, sum, c.loop-line.invariant.text));
    }

pub returns-clause-good : goal.returns-clause-good
returns-clause-good c = grind (arith, common_steps)
