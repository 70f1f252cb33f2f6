-- A message that is heard in time in an air file has one entry in the log that `listen` writes of
-- it.
use Rattle.std.proofs.Common.{ℕ, List, Result, Ok, Err, subst}
use Rattle.nx_envelope.specs.Message.{MessageView}
use Rattle.nx_fec.specs.air_files.AirFile.{Line}
use Rattle.nx_fec.specs.Transfers.{Contents, Devices}
use Rattle.nx_fec.proofs.lemmas.lines.LineLaws.{IsAirFile-unique}
use Rattle.nx_fec.specs.air_files.Lines.{air_limit}
use Rattle.nx_fec.specs.declared.air_files.channel.Channel.{Channel}
use Rattle.nx_copies.specs.copies.InTurn.{PrintAllToEnd}
use Rattle.nx_receiver.specs.air_file_runs.Listen.{HasListened, IsLogOfFile, Listens, events_on, given_by}
use Rattle.nx_receiver.specs.air_file_runs.ListenOnce.{HasPrintedOnce, IsHeardInTimeOn, ListensOnce}
use Rattle.nx_copies.specs.laws.Once.{IsPrintedOnce}
use Rattle.nx_copies.specs.copies.Shares.{MarkedCopy, Starts, copies_on, start_on}
use Rattle.nx_receiver.specs.declared.air_file_runs.listen_fault.ListenFault.{ListenFault}
use Rattle.nx_receiver.specs.declared.air_file_runs.listening.Report.{Report}
use Rattle.nx_copies.proofs.lemmas.channels.Shares.{to_end-on}
use Rattle.nx_copies.proofs.lemmas.once.Found.{printed_once}

-- it has one entry of its channel in the log of the file
pub one-entry : (starts : Starts) (file log : List ℕ) (lines : List Line) (copies : List MarkedCopy)
    (channel : Channel) (message : MessageView)
    → IsLogOfFile starts file lines copies log → IsHeardInTimeOn channel starts file message
    → IsPrintedOnce message (copies_on channel copies)
one-entry starts file log lines copies channel message l h =
    let same = IsAirFile-unique air_limit file lines h.lines l.file h.spelled in
    let prints = subst (λ (ls : List Line). PrintAllToEnd starts (given_by ls) copies) same
    l.printed in
    printed_once (start_on starts channel) (events_on channel h.lines) h.parts message h.heard
    (copies_on channel copies) (to_end-on starts (given_by h.lines) copies channel prints)

pub printed-once : (starts : Starts) (contents : Contents) (file : List ℕ) (report : Report)
    → HasListened starts contents file report → HasPrintedOnce starts contents file
printed-once starts contents file report h = record {
  report = report;
  listened = h;
  once = λ channel message k. one-entry starts file h.log h.lines h.copies channel message h.heard
      k;
}

-- a run that listens keeps both halves of the headline
pub listens-once : {R W : Type 0} (starts : Starts) (d : Devices R W)
    (outcome : Result Report ListenFault) → Listens starts d outcome → ListensOnce starts d outcome
listens-once starts d (Ok report) h =
    record { run = h; once = printed-once starts _ h.bytes report h.answer.1 }
listens-once starts d (Err fault) h = record { run = h; once = tt }
