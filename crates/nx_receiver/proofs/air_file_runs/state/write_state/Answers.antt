use Rattle.std.proofs.Common.{◌∷◌, [], ◌++◌, take, sym, ap, ◌∙◌, subst, arith}
use Rattle.std.proofs.lemmas.Option.{slice_get_within}
use Rattle.std.proofs.lemmas.Result.{err_from_is_err_and}
use Rattle.nx_code.specs.Reading.{newline}
use Rattle.nx_fec.specs.air_files.LineRuns.{HasGiven}
use Rattle.nx_fec.specs.Transfers.{WroteSome}
use Rattle.nx_memory.specs.StateText.{text_2}
use Rattle.nx_receiver.specs.air_file_runs.State.{ended_lines, state_bytes}
use Rattle.nx_receiver.proofs.lemmas.state.Bounds.{few_lines_2}
use Rattle.nx_receiver.proofs.lemmas.state.Writing.{given-next, sent-all, sent-some}
use Rattle.nx_receiver.proofs.lemmas.state.Writing.{state_bytes-is, take-all, wrote-front}
use Rattle.nx_receiver.proofs.air_file_runs.state.write_state.Goals as goal

pub loop-line-smaller : goal.loop-line-smaller
loop-line-smaller g c =
    omega (
      arith,
      slice_get_within (text_2 c.args.states.now) c.loop-line.place
          c.in-Some.line.items (sym c.in-Some.ensures.line),
    )

pub overflow_add-place : goal.overflow_add-place
overflow_add-place g c =
    omega (
      arith,
      few_lines_2 c.args.states.now c.state_line.ensures.sound,
      slice_get_within (text_2 c.args.states.now) c.loop-line.place
          c.in-Some.line.items (sym c.in-Some.ensures.line),
    )

pub loop-line-preserved : goal.loop-line-preserved
loop-line-preserved g c =
    let contents = g.W.Write.contents in
    let bytes = c.deref-in-Some.ensures.0 ∙ c.ended.ensures
    ∙ ap (λ l. l ++ newline ∷ []) c.deref.ensures.0 in
    record {
      none = c.in_ok-give.ensures.counts.none;
      within = omega (
        arith,
        slice_get_within (text_2 c.args.states.now) c.loop-line.place
            c.in-Some.line.items (sym c.in-Some.ensures.line),
      );
      given = given-next (contents c.args.writer.now.inner) (contents c.give.new.writer.inner)
          c.give.new.self (text_2 c.args.states.now) c.loop-line.place c.in-Some.line.items
          (sym c.in-Some.ensures.line)
          (subst (λ l. HasGiven (contents c.args.writer.now.inner)
          (contents c.give.new.writer.inner) c.give.new.self
          (ended_lines (take c.loop-line.place (text_2 c.args.states.now)) ++ l)) bytes
          (c.in_ok-give.ensures.bytes (contents c.args.writer.now.inner)
          (ended_lines (take c.loop-line.place (text_2 c.args.states.now)))
          c.loop-line.invariant.given));
    }

pub returns-in_err-give-clause-err : goal.returns-in_err-give-clause-err
returns-in_err-give-clause-err g c =
    let contents = g.W.Write.contents in
    let bytes = c.deref-in-Some.ensures.0 ∙ c.ended.ensures
    ∙ ap (λ l. l ++ newline ∷ []) c.deref.ensures.0 in
    let p = err_from_is_err_and c.from_residual.result c.from_residual.ensures.1 in
    let written = c.in_err-give.field-0.0.written in
    rw p.1 (rw p.2 (subst (λ l. WroteSome (contents c.args.writer.now.inner)
    (contents c.give.new.writer.inner) l written) (sym (state_bytes-is c.args.states.now))
    (wrote-front (contents c.args.writer.now.inner)
    (contents c.give.new.writer.inner) (text_2 c.args.states.now) c.loop-line.place
    c.in-Some.line.items written (sym c.in-Some.ensures.line)
    (subst (λ l. WroteSome (contents c.args.writer.now.inner)
    (contents c.give.new.writer.inner)
    (ended_lines (take c.loop-line.place (text_2 c.args.states.now)) ++ l) written) bytes
    (c.in_err-give.ensures.bytes (contents c.args.writer.now.inner)
    (ended_lines (take c.loop-line.place (text_2 c.args.states.now)))
    c.loop-line.invariant.given)))))

pub returns-clause-ok : goal.returns-clause-ok
returns-clause-ok g c =
    let contents = g.W.Write.contents in
    let given = ended_lines (take c.loop-line.place (text_2 c.args.states.now)) in
    sent-all c.send.result (contents c.args.writer.now.inner) (contents c.send.new.writer.inner)
    c.send.new.self given (state_bytes c.args.states.now) (ap ended_lines
    (take-all (text_2 c.args.states.now) c.loop-line.place (sym c.in_default.ensures.line))
    ∙ sym (state_bytes-is c.args.states.now))
    (c.send.ensures.bytes (contents c.args.writer.now.inner) given c.loop-line.invariant.given)
    c.send.ensures.empty

pub returns-clause-err : goal.returns-clause-err
returns-clause-err g c =
    let contents = g.W.Write.contents in
    let given = ended_lines (take c.loop-line.place (text_2 c.args.states.now)) in
    sent-some c.send.result (contents c.args.writer.now.inner) (contents c.send.new.writer.inner)
    c.send.new.self given (state_bytes c.args.states.now) (ap ended_lines
    (take-all (text_2 c.args.states.now) c.loop-line.place (sym c.in_default.ensures.line))
    ∙ sym (state_bytes-is c.args.states.now))
    (c.send.ensures.bytes (contents c.args.writer.now.inner) given c.loop-line.invariant.given)
