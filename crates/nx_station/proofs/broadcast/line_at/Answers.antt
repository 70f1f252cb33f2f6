use Rattle.std.proofs.Common.{◌+◌, [], ◌∙◌}
use Rattle.std.proofs.lemmas.Option.{slice_get-get_or}
use Rattle.nx_station.proofs.lemmas.broadcasts.Broadcast.{line-in_code, text-line, text-few}
use Rattle.nx_station.proofs.broadcast.line_at.Goals as goal

-- the line that was found is that of the place
pub returns-clause-line : goal.returns-clause-line
returns-clause-line c =
    let lines = c.args.message.now.lines in
    let found = c.line.ensures.line ∙ slice_get-get_or lines c.args.i [] c.requires in
    let here = rw c.unwrap.ensures at found in
    cc

pub returns-clause-in_code : goal.returns-clause-in_code
returns-clause-in_code c =
    rw (returns-clause-line c) (line-in_code _ (c.line.ensures.sound.each c.args.i [] c.requires))

pub returns-clause-text : goal.returns-clause-text
returns-clause-text c =
    rw (returns-clause-line c) (text-line c.args.message.now.lines c.args.i c.requires)

pub returns-clause-few : goal.returns-clause-few
returns-clause-few c = text-few c.args.message.now.lines (c.args.i + 1) c.line.ensures.sound
