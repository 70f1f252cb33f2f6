use Rattle.std.proofs.Common.{◌++◌, ◌∷◌, [], length-append, arith, take}
use Rattle.nx_envelope.specs.Message.{text_of}
use Rattle.nx_station.proofs.lemmas.broadcasts.Broadcast.{IsExtent-line}
use Rattle.nx_station.proofs.broadcast.extent_of_text.Goals as goal

pub loop-i-preserved : goal.loop-i-preserved
loop-i-preserved c =
    let before = c.loop-i.invariant in
    let lines = c.args.message.now.lines in
    let line = c.line_at-line.result.now in
    let long = rw c.unwrap-more.ensures at c.extent_of.ensures.length in
    let after = rw c.unwrap-more.ensures at c.extent_of.ensures.shift in
    let few = rw c.unwrap-more.ensures at c.extent_of.ensures.few in
    let text = c.line_at-line.ensures.text in
    record {
      spells = rw text (IsExtent-line (text_of (take c.loop-i.i lines)) line c.loop-i.extent
          c.unwrap-more.result before.spells c.line_at-line.ensures.in_code long after);
      few = rw text (omega (
        arith,
        before.few,
        few,
        length-append (text_of (take c.loop-i.i lines))
            (line ++ (10 ∷ [])),
        length-append line (10 ∷ []),
      ));
    }
