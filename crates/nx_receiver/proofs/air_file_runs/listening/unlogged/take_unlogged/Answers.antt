use Rattle.std.proofs.Common.{ap}
use Rattle.nx_fec.specs.air_files.AirFile.{elements}
use Rattle.nx_fec.specs.air_files.Scanner.{line_with}
use Rattle.nx_receiver.proofs.lemmas.listening.Lines.{heard-as, heard-elements, heard-same, kind-with}
use Rattle.nx_receiver.proofs.air_file_runs.listening.unlogged.take_unlogged.Goals as goal

pub returns-in-Elements : goal.returns-in-Elements
returns-in-Elements c = λ starts lines h.
    let made = c.hear_unlogged in
    let mark = c.in-Elements.mark in
    let bits = c.args.packed.now in
    heard-same starts c.args.listener.now made.new.listener lines (line_with c.args.kind bits)
    (elements mark bits) made.result (ap (λ kind. line_with kind bits) c.in-Elements.is)
    (heard-elements starts c.args.listener.now made.new.listener lines mark c.of.result bits h.0
    made.result
    c.of.ensures h.1 made.ensures.heard made.ensures.moment)

pub returns-in_default : goal.returns-in_default
returns-in_default c = λ starts lines h.
    let line = line_with c.args.kind c.args.packed.now in
    heard-as starts c.args.listener.now c.take_setting.new.listener lines line h.0
    c.take_setting.result
    (c.take_setting.ensures starts lines line h.0 (kind-with c.args.kind c.args.packed.now) h.1)
