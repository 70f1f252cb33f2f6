use Rattle.std.proofs.Common.{◌++◌, take, sym, ap, ◌∙◌, subst, arith}
use Rattle.std.proofs.lemmas.Option.{slice_get_within}
use Rattle.nx_memory.specs.StateText.{text_2}
use Rattle.nx_receiver.specs.air_file_runs.State.{ended_lines}
use Rattle.nx_receiver.proofs.lemmas.state.Bounds.{few_lines_2}
use Rattle.nx_receiver.proofs.lemmas.state.Writing.{state_bytes-is, take-all}
use Rattle.nx_handle.specs.CallerRoom.{IsCopiedOut, room}
use Rattle.nx_handle.proofs.lemmas.State.{ended-next}
use Rattle.nx_handle.proofs.saving.copy_state_out.Goals as goal

pub loop-line-init : goal.loop-line-init
loop-line-init c = record {
  within = omega arith;
  few = omega (arith, c.copy_out.ensures.counted);
  copied = c.copy_out.ensures;
}

pub copy_more_out-requires : goal.copy_more_out-requires
copy_more_out-requires c =
    omega (
      arith,
      c.loop-line.invariant.few,
      few_lines_2 c.args.states.now c.state_line.ensures.sound,
      slice_get_within (text_2 c.args.states.now) c.loop-line.place
          c.in-Some.line.items (sym c.in-Some.ensures.line),
      c.deref.ensures.1,
    )

pub copy_more_out-requires-in-Some : goal.copy_more_out-requires-in-Some
copy_more_out-requires-in-Some c =
    omega (
      arith,
      c.loop-line.invariant.few,
      few_lines_2 c.args.states.now c.state_line.ensures.sound,
      slice_get_within (text_2 c.args.states.now) c.loop-line.place
          c.in-Some.line.items (sym c.in-Some.ensures.line),
      c.copy_more_out.ensures.count,
      c.deref.ensures.1,
    )

pub overflow_add-place : goal.overflow_add-place
overflow_add-place c =
    omega (
      arith,
      few_lines_2 c.args.states.now c.state_line.ensures.sound,
      slice_get_within (text_2 c.args.states.now) c.loop-line.place
          c.in-Some.line.items (sym c.in-Some.ensures.line),
    )

pub loop-line-smaller : goal.loop-line-smaller
loop-line-smaller c =
    omega (
      arith,
      slice_get_within (text_2 c.args.states.now) c.loop-line.place
          c.in-Some.line.items (sym c.in-Some.ensures.line),
    )

pub loop-line-preserved : goal.loop-line-preserved
loop-line-preserved c =
    let lines = text_2 c.args.states.now in
    let place = c.loop-line.place in
    let line = c.in-Some.line.items in
    let before = ended_lines (take place lines) in
    record {
      within = omega (arith, slice_get_within lines place line (sym c.in-Some.ensures.line));
      few = omega (
        arith,
        c.loop-line.invariant.few,
        c.copy_more_out.ensures.count,
        c.copy_more_out-in-Some.ensures.count,
        c.deref.ensures.1,
      );
      copied = subst (λ t. IsCopiedOut t
          (room c.args.space.now c.copy_more_out-in-Some.new.space
          c.copy_more_out-in-Some.new.written))
          (ended-next lines place line (sym c.in-Some.ensures.line))
          (c.copy_more_out-in-Some.ensures.copied c.args.space.now (before ++ line)
          (subst (λ l. IsCopiedOut (before ++ l)
          (room c.args.space.now c.copy_more_out.new.space c.copy_more_out.new.written))
          c.deref.ensures.0
          (c.copy_more_out.ensures.copied c.args.space.now before c.loop-line.invariant.copied)));
    }

pub returns-clause-copied : goal.returns-clause-copied
returns-clause-copied c =
    subst (λ t. IsCopiedOut t (room c.args.space.now c.loop-line.space c.loop-line.written))
    (ap ended_lines (take-all (text_2 c.args.states.now) c.loop-line.place
    (sym c.in_default.ensures.line)) ∙ sym (state_bytes-is c.args.states.now))
    c.loop-line.invariant.copied
