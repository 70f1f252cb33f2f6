-- The second half of the headline, over bytes: what has to be met in an air file, so that a message
-- is printed once; and that it is (this profile).
use Rattle.std.specs.Prelude.{ℕ, List, Result, OnOk}
use Rattle.nx_envelope.specs.Message.{MessageView}
use Rattle.nx_fec.specs.air_files.AirFile.{Line}
use Rattle.nx_fec.specs.air_files.Lines.{air_limit, IsAirFile}
use Rattle.nx_fec.specs.Transfers.{Contents, Devices, contents_of}
use Rattle.nx_fec.specs.declared.air_files.channel.Channel.{Channel}
use Rattle.nx_station.specs.reception.Sendings.{Part}
use Rattle.nx_receiver.specs.air_file_runs.Listen.{HasListened, Listens, events_on}
use Rattle.nx_copies.specs.laws.Once.{IsHeardInTime, IsPrintedOnce}
use Rattle.nx_copies.specs.copies.Shares.{Starts, copies_on, start_on}
use Rattle.nx_receiver.specs.declared.air_file_runs.listen_fault.ListenFault.{ListenFault}
use Rattle.nx_receiver.specs.declared.air_file_runs.listening.Report.{Report}

-- What has to be met on a channel of an air file, so that a message is printed once. The file has
-- these lines. In what they give to the channel's receiver, which begins with this start, the
-- message is heard in time, in these parts.
pub record IsHeardInTimeOn (channel : Channel) (starts : Starts) (file : List ℕ)
    (message : MessageView)
    : Type 0 where
  pub lines : List Line
  pub spelled : IsAirFile air_limit file lines
  pub parts : List Part
  pub heard : IsHeardInTime (start_on starts channel) (events_on channel lines) parts message

-- Both halves of the headline. The log of the file of these bytes was written. For each message
-- that is heard in time on a channel, exactly one of its entries on that channel bears its
-- identity. It is full, has 0 errors, and its text is the message's, letter for letter.
pub record HasPrintedOnce (starts : Starts) (contents : Contents) (file : List ℕ) : Type 0 where
  pub report : Report
  pub listened : HasListened starts contents file report
  pub once : (channel : Channel) (message : MessageView)
      → IsHeardInTimeOn channel starts file message
      → IsPrintedOnce message (copies_on channel listened.copies)

-- A run that listens, with this start, and where it answers Ok, keeps both halves of the headline
-- for the bytes that it read.
pub record ListensOnce {R W : Type 0} (starts : Starts) (d : Devices R W)
    (outcome : Result Report ListenFault) : Type 0 where
  pub run : Listens starts d outcome
  pub once : OnOk outcome (HasPrintedOnce starts (contents_of d) run.bytes)
