use Rattle.std.proofs.Common.{inr, refl}
use Rattle.nx_memory.proofs.lemmas.StateLaws.{none_begins, one_state, one_text, text_short}
use Rattle.nx_memory.proofs.laws.a_state_text_stands_for_one_state.Goals as goal

pub returns : goal.returns
returns c = record {
  one_state = one_state;
  one_text_1 = λ lines others states. (one_text lines others states).0;
  one_text_2 = λ lines others states. (one_text lines others states).1;
  written = λ states are. inr (record { sound = are; spelled = refl });
  none_begins = none_begins;
  short = text_short;
}
