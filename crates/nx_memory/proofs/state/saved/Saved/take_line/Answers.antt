use Rattle.nx_memory.proofs.lemmas.StateLines.{is_taken, section_more, sound_after, refused_untaken}
use Rattle.nx_memory.proofs.lemmas.StateLines.{refused_unsaid}
use Rattle.std.proofs.Common.{sym, ◌∙◌}
use Rattle.nx_memory.proofs.state.saved.Saved.take_line.Goals as goal

pub returns-in-Some-clause-taken : goal.returns-in-Some-clause-taken
returns-in-Some-clause-taken c = λ yes.
    let taken = is_taken c.args.self.now c.in-Some.said c.add.ensures.sound
    c.in-Some.ensures.found.0 (sym c.add.ensures.taken ∙ yes) in
    section_more c.args.self.now c.add.new.self c.in-Some.said c.args.line.now
    (c.add.ensures.added yes) taken c.in-Some.ensures.found.1

pub returns-in-Some-clause-refused : goal.returns-in-Some-clause-refused
returns-in-Some-clause-refused c = λ untaken.
    refused_untaken c.args.self.now c.in-Some.said c.args.line.now c.add.ensures.sound
    c.in-Some.ensures.found.1 c.in-Some.ensures.found.0 (sym c.add.ensures.taken ∙ untaken)

pub returns-in-Some-clause-sound : goal.returns-in-Some-clause-sound
returns-in-Some-clause-sound c =
    sound_after c.args.self.now c.add.new.self c.in-Some.said c.add.result c.add.ensures.sound
    c.in-Some.ensures.found.0 c.add.ensures.taken c.add.ensures.added c.add.ensures.unchanged

pub returns-in-None-clause-refused : goal.returns-in-None-clause-refused
returns-in-None-clause-refused c = λ _.
    refused_unsaid c.args.self.now c.args.line.now c.lines.ensures.sound c.in-None.ensures.none
