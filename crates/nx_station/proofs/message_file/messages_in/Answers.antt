use Rattle.std.proofs.Common.{◌≡◌, ◌++◌, ◌∷◌, [], ◌∙◌, ap, map, length, length-append, arith}
use Rattle.std.proofs.lemmas.List.{map-append}
use Rattle.nx_station.specs.MessageFile.{file_message_of, file_message_bytes}
use Rattle.nx_station.proofs.lemmas.message_files.FileReading.{file-more, entries-more, of_station-more, lines-more}
use Rattle.nx_station.proofs.lemmas.message_files.FileReading.{spelling-long}
use Rattle.nx_station.proofs.message_file.messages_in.Goals as goal

pub loop-rest-preserved : goal.loop-rest-preserved
loop-rest-preserved c =
    let before = c.loop-rest.invariant in
    let part = c.in_ok-part.part in
    let old = map file_message_of c.loop-rest.messages.items in
    let entry = file_message_of part.message in
    let pushed = c.in_default.ensures.items in
    let long = spelling-long entry in
    let taken = c.in_ok-part.ensures.whole in
    let items : map file_message_of c.push.new.self.items ≡ old ++ (entry ∷ []) =
    ap (map file_message_of) pushed
    ∙ map-append file_message_of c.loop-rest.messages.items (part.message ∷ []) in
    record {
      whole = rw items (file-more c.args.file.now c.loop-rest.rest.now part.rest.now old entry
          before.whole taken);
      each = rw items (entries-more old entry before.each c.in_ok-part.ensures.sound);
      station = rw pushed (of_station-more _ c.loop-rest.messages.items part.message before.station
          c.in_ok-part.ensures.station);
      counted = rw items (omega
          (arith, before.counted, c.in_ok-part.ensures.lines, lines-more old entry));
      room = omega (
        arith,
        before.room,
        long,
        c.in_ok-part.ensures.lines,
        ap length taken,
        length-append (file_message_bytes entry) part.rest.now,
      );
    }
