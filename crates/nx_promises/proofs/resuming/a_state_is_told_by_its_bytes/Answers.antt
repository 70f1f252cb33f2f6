use Rattle.std.proofs.Common.{ap, refl}
use Rattle.nx_memory.proofs.lemmas.StateLaws.{one_text}
use Rattle.nx_receiver.specs.air_file_runs.State.{ended_lines, state_bytes}
use Rattle.nx_receiver.proofs.lemmas.state.Answers.{no_text_begins, one_state_bytes, written_stands}
use Rattle.nx_promises.proofs.resuming.a_state_is_told_by_its_bytes.Goals as goal

pub returns : goal.returns
returns c = record {
  one_state = one_state_bytes;
  one_text_1 = λ lines others states one other.
      ap ended_lines ((one_text lines others states).0 one other);
  one_text_2 = λ lines others states one other.
      ap ended_lines ((one_text lines others states).1 one other);
  written = written_stands;
  read_back = λ states more are. record {
    text = state_bytes states;
    more = more;
    states = states;
    whole = refl;
    stands_for = written_stands states are;
    here = refl;
  };
  none_begins = λ text more states others is all.
      (no_text_begins text more states others is all).0;
}
