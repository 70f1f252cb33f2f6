use Rattle.std.proofs.Common.{◌∙◌, Ok, ap, subst, sym}
use Rattle.nx_fec.specs.Transfers.{devices}
use Rattle.nx_watch.specs.ToldFirst.{TellsBeforeChange}
use Rattle.nx_watch.specs.Stamps.{counted_of, cut_notes, stamps_of}
use Rattle.nx_program.specs.WatchCommand.{WatchesFile, beside}
use Rattle.nx_program.specs.declared.arguments.Sendings.{Sendings}
use Rattle.nx_program.proofs.watch_command.watch_log.Goals as goal

pub returns-in-Alone : goal.returns-in-Alone
returns-in-Alone g c =
    let d = devices g.R.Read.remaining g.W.Write.contents (counted_of c.args.reader.now)
    (counted_of c.watch.new.reader) c.args.writer.now c.watch.new.writer in
    let b = beside c.args.files g.F.LogFiles.gives c.ended.result.1 g.F.Disk.DiskFile
    g.E.Write.contents c.args.faults.now c.watch.new.notices
    (stamps_of c.watch.new.reader) (cut_notes c.watch.new.reader) in (
      Ok c.in-Ok.disk,
      subst (λ n. g.F.LogFiles.gives c.args.files n (Ok c.in-Ok.disk)) c.as_str.ensures
          c.in-Ok.ensures,
      (
        c.watch.result.1,
        c.ended.ensures.file,
        c.watch.result.0,
        subst (λ (taken : Sendings). WatchesFile d b taken c.args.moment c.in-Ok.disk
            c.watch.result.1 c.watch.result.0) (sym c.in-Alone.is) (record {
              watched = c.watch.ensures.watched;
              damaged = c.watch.ensures.damaged;
              first = c.watch.ensures.first;
              foreign = λ start explained none.
                  let only = c.watch.ensures.foreign start explained none in (
                    only.0,
                    ap counted_of only.1,
                    only.2,
                    only.3,
                    ap stamps_of only.1 ∙ c.requires.reader.none_made,
                    ap cut_notes only.1 ∙ c.requires.unnoted,
                  );
              stamps = c.watch.ensures.stamps;
              refused = c.watch.ensures.refused;
              cause = c.watch.ensures.cause;
              within = c.watch.ensures.within;
              explained = c.watch.ensures.explained;
              told_first = λ start explained.
                  subst (λ none. TellsBeforeChange g.F.Disk.DiskFile g.E.Write.contents
                  c.in-Ok.disk c.args.faults.now none (cut_notes c.watch.new.reader) start
                  c.watch.result.1) c.requires.unnoted
                  (c.watch.ensures.told_first start explained);
              told = c.watch.ensures.told;
            }),
        c.ended.ensures.outcome,
      ),
    )

pub returns-in-Together : goal.returns-in-Together
returns-in-Together g c =
    let d = devices g.R.Read.remaining g.W.Write.contents (counted_of c.args.reader.now)
    (counted_of c.watch_combined.new.reader) c.args.writer.now c.watch_combined.new.writer in
    let b = beside c.args.files g.F.LogFiles.gives c.ended-in-Together.result.1 g.F.Disk.DiskFile
    g.E.Write.contents c.args.faults.now c.watch_combined.new.notices
    (stamps_of c.watch_combined.new.reader) (cut_notes c.watch_combined.new.reader) in (
      Ok c.in-Ok.disk,
      subst (λ n. g.F.LogFiles.gives c.args.files n (Ok c.in-Ok.disk)) c.as_str.ensures
          c.in-Ok.ensures,
      (
        c.watch_combined.result.1,
        c.ended-in-Together.ensures.file,
        c.watch_combined.result.0,
        subst (λ (taken : Sendings). WatchesFile d b taken c.args.moment c.in-Ok.disk
            c.watch_combined.result.1 c.watch_combined.result.0) (sym c.in-Together.is) (record {
              watched = c.watch_combined.ensures.watched;
              damaged = c.watch_combined.ensures.damaged;
              first = c.watch_combined.ensures.first;
              foreign = λ start explained none.
                  let only = c.watch_combined.ensures.foreign start explained none in (
                    only.0,
                    ap counted_of only.1,
                    only.2,
                    only.3,
                    ap stamps_of only.1 ∙ c.requires.reader.none_made,
                    ap cut_notes only.1 ∙ c.requires.unnoted,
                  );
              stamps = c.watch_combined.ensures.stamps;
              refused = c.watch_combined.ensures.refused;
              cause = c.watch_combined.ensures.cause;
              within = c.watch_combined.ensures.within;
              explained = c.watch_combined.ensures.explained;
              told_first = λ start explained.
                  subst (λ none. TellsBeforeChange g.F.Disk.DiskFile g.E.Write.contents
                  c.in-Ok.disk c.args.faults.now none (cut_notes c.watch_combined.new.reader) start
                  c.watch_combined.result.1) c.requires.unnoted
                  (c.watch_combined.ensures.told_first start explained);
              told = c.watch_combined.ensures.told;
            }),
        c.ended-in-Together.ensures.outcome,
      ),
    )
