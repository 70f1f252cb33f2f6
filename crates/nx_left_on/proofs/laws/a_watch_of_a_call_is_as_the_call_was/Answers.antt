use Rattle.nx_left_on.proofs.laws.a_watch_of_a_call_is_as_the_call_was.Goals as goal

pub returns : goal.returns
returns g c = λ a now log end file watch called. (
  called.started,
  called.ended,
  called.left,
  called.goes_on,
  called.consumed,
  called.read,
  called.took,
)
