use Rattle.std.proofs.Common.{arith}
use Rattle.std.proofs.lemmas.List.{length-map}
use Rattle.nx_memory.specs.StateText.{said, spelling}
use Rattle.nx_memory.proofs.lemmas.StateWriting.{at_line, past_lines}
use Rattle.nx_memory.proofs.state.state_text.channel_line.Goals as goal

pub returns-in-Some-line : goal.returns-in-Some-line
returns-in-Some-line c =
    at_line c.args.head.now (said c.args.saved.now) c.args.place c.in-Some.place c.in-Some-line.line
    c.bytes.result.items (omega arith) c.in-Some-line.ensures.line c.bytes.ensures

pub returns-in-None : goal.returns-in-None
returns-in-None c =
    let past = past_lines (said c.args.saved.now) c.in-Some.place c.in-None.ensures.line in
    omega (arith, length-map (said c.args.saved.now) spelling, c.lines-lines.ensures.lines)
