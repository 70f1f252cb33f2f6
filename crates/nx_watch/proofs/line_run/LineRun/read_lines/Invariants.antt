use Rattle.std.proofs.Common.{◌≡◌, true, false, ◌+◌, ◌*◌, ◌≤◌, ◌++◌, ℕ, List, [], length}
use Rattle.std.specs.Io.KnownBytes.{Consumes}
use Rattle.nx_receiver.specs.Listener.{starts_by}
use Rattle.nx_watch.specs.Acting.{most_bytes}
use Rattle.nx_watch.specs.Stamp.{AreTheReads}
use Rattle.nx_watch.specs.Stamps.{bytes_given, counted_of, cut_notes, stamps_of}
use Rattle.nx_watch.specs.private.LoggingListener.{LoggingTo, TakesLines, logging_to}
use Rattle.nx_watch.specs.declared.lines.line_effects.StartMoments.{StartMoments}
use Rattle.nx_watch.specs.private.Running.{IsBeside, IsRunning, ToldBefore, ToldBeside, beside}
use Rattle.nx_watch.specs.private.Stamping.{RunsStamped, telling}
use Rattle.nx_watch.proofs.line_run.LineRun.read_lines.Given as goal

-- the lines so far were taken, and so it was at each read
abbrev pub invariant-loop-has_failed : goal.invariant-loop-has_failed
invariant-loop-has_failed g l = record {
  writer : l.writer.failures ≡ 0;
  reader : (counted_of l.reader).failures ≡ 0;
  stamps : AreTheReads (stamps_of l.reader) (bytes_given l.reader);
  cuts : cut_notes l.reader ≡ cut_notes l.fn.reader;
  consumed : (bytes : List ℕ)
      × Consumes (g.R.Read.remaining (counted_of l.fn.reader).inner)
      (g.R.Read.remaining (counted_of l.reader).inner) bytes
      × (length bytes ≡ bytes_given l.reader);
  given : bytes_given l.reader + l.self.lines.room ≡ l.fn.self.lines.room;
  room : l.self.lines.room + length l.self.lines.piece ≤ l.self.lines.scanner.scanner.allowance;
  within : l.self.lines.scanner.scanner.allowance ≤ most_bytes;
  few : l.self.effects.lines + (length l.self.lines.piece + l.self.lines.room)
      ≤ l.fn.self.lines.room;
  fewer : l.self.effects.without_effect ≤ l.self.effects.lines;
  failed : l.had_failed ≡ true → l.logging.keeper.has_failed ≡ true;
  read : (start : LoggingTo g.row.D.Denot g.row.C.Denot g.row.W.Denot) (first : StartMoments)
      (old : ToldBefore)
      → (starts_by g.C.ChannelReceiver.kind start.logging.listener).moment ≡ first.newest
      → l.fn.logging.keeper.has_failed ≡ false
      → IsRunning (TakesLines g.C.ChannelReceiver.kind g.D.DiskFile g.W.Write.contents) start
      (logging_to l.fn.logging l.fn.writer) first l.fn.self (beside old)
      (g.F.Write.contents l.fn.notices.inner) l.fn.notices.failures []
      → (bytes : List ℕ)
      × Consumes (g.R.Read.remaining (counted_of l.fn.reader).inner)
      (g.R.Read.remaining (counted_of l.reader).inner) (bytes ++ l.self.lines.piece)
      × (length bytes + (length l.self.lines.piece + l.self.lines.room) ≡ l.fn.self.lines.room)
      × (told : ToldBeside) × IsBeside old l.had_failed told
      × RunsStamped (telling g.C.ChannelReceiver.kind g.D.DiskFile g.W.Write.contents
      g.F.Write.contents old) first bytes
      l.self.effects.lines start
      (λ since. IsRunning (TakesLines g.C.ChannelReceiver.kind g.D.DiskFile g.W.Write.contents)
      since
      (logging_to l.logging l.writer) first l.self told
      (g.F.Write.contents l.notices.inner) l.notices.failures bytes) (stamps_of l.reader);
}

abbrev pub decreases-loop-has_failed : goal.decreases-loop-has_failed
decreases-loop-has_failed g l = 2 * l.self.lines.room + length l.self.lines.piece
