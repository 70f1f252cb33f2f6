use Rattle.std.proofs.Common.{refl}
use Rattle.nx_receiver.specs.air_file_runs.State.{state_bytes}
use Rattle.nx_promises.proofs.resuming.a_run_writes_its_log_or_its_state.Goals as goal

pub returns : goal.returns
returns c = record {
  log = λ input old new report h. let l = h.here.0.1 in (
    h.text,
    h.more,
    l.log,
    h.whole,
    record {
      states = h.states;
      stands_for = h.stands_for;
      logged = (l.lines, l.copies, l.heard);
    },
    l.written,
  );
  state = λ input old new report h. let l = h.here.1 in (
    h.text,
    h.more,
    state_bytes l.left,
    h.whole,
    record {
      states = h.states;
      stands_for = h.stands_for;
      leaves = record { left = l.left; sound = l.sound; gone = l.gone; here = refl };
    },
    l.here,
  );
}
