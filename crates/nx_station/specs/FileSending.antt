-- What sending a message file answers (this profile).
use Rattle.std.specs.Prelude.{◌≡◌, ℕ, ◌<◌, List, [], ◌∷◌, length, map, Result, Ok, Err, ⊤}
use Rattle.std.specs.Io.KnownBytes.{Appends}
use Rattle.nx_envelope.specs.Message.{MessageView}
use Rattle.nx_fec.specs.air_files.AirFile.{moment}
use Rattle.nx_fec.specs.air_files.BitLines.{bit_lines}
use Rattle.nx_fec.specs.Transfers.{Contents, Devices, Extent, Manner, Transfers, WroteSome}
use Rattle.nx_fec.specs.Transfers.{at_the_end, contents_of}
use Rattle.nx_fec.specs.emissions.Emission.{SentPosition, bits_of, emission}
use Rattle.nx_fec.specs.air_files.Lines.{file_of}
use Rattle.nx_fec.specs.Runs.{IsWithin, file_limit}
use Rattle.nx_station.specs.Broadcast.{IsBroadcast}
use Rattle.nx_station.specs.MessageFile.{IsMessageFile, HasFirstFault, bad_line, bad_text, line_cut, not_ended, file_message_of}
use Rattle.nx_station.specs.Sendable.{AreOf, HavePositions, IsSendable, max_positions}
use Rattle.nx_station.specs.Slots.{HasNoSlot, IsNextSlot}
use Rattle.nx_station.specs.declared.fault.SendFault.{SendFault}
use Rattle.nx_station.specs.declared.fault.SendFault.TheVariants as refusal
use Rattle.nx_station.specs.declared.fault.SendRunFault.{SendRunFault}
use Rattle.nx_station.specs.declared.fault.SendRunFault.TheVariants.{Read, FileTooLong, BadLine, Text, LineCut, Open, Send, Write, Memory}
use Rattle.nx_station.specs.declared.sending.Sent.{Sent}

-- The air file that is written of a message file. It has messages, all of that station, which may
-- be sent. Its first line is the moment at which the station's next slot begins, and the others are
-- the elements of the emission, in lines that name no channel.
pub record IsTransmission (station from : ℕ) (file written : List ℕ) (sent : Sent) : Type 0 where
  pub messages : List MessageView
  pub is_file : IsMessageFile file (map file_message_of messages)
  pub of_station : AreOf station messages
  pub sendable : IsSendable messages
  pub next : IsNextSlot station from sent.slot
  pub positions : List SentPosition
  pub broadcast : IsBroadcast messages positions
  pub whole : written ≡ file_of (moment sent.slot ∷ bit_lines (bits_of (emission positions)))
  pub count : sent.positions ≡ length positions
  pub all : sent.messages ≡ length messages

-- the file has messages of that station, which has no slot from that moment on, up to the last
-- moment
pub record IsLate (station from : ℕ) (file : List ℕ) : Type 0 where
  pub messages : List MessageView
  pub is_file : IsMessageFile file (map file_message_of messages)
  pub of_station : AreOf station messages
  pub none : HasNoSlot station from

-- the file has messages of that station, which has a next slot, and they have so many positions,
-- too many for it
pub record IsTooLong (station from : ℕ) (file : List ℕ) (count : ℕ) : Type 0 where
  pub messages : List MessageView
  pub is_file : IsMessageFile file (map file_message_of messages)
  pub of_station : AreOf station messages
  pub slot : ℕ
  pub next : IsNextSlot station from slot
  pub positions : HavePositions messages count
  pub too_many : max_positions < count

-- what a refusal to send says of the file of messages
abbrev pub ExplainsRefusal : ℕ → ℕ → List ℕ → SendFault → Type 0
ExplainsRefusal station from file refusal.NoMessages = IsMessageFile file []
ExplainsRefusal station from file (refusal.MixedStations at) = ⊥
ExplainsRefusal station from file refusal.NoSlot = IsLate station from file
ExplainsRefusal station from file (refusal.SlotFull positions) =
    IsTooLong station from file positions
ExplainsRefusal station from file (refusal.Memory error) = ⊥

-- what a fault says of a whole message file
abbrev pub ExplainsFile : List ℕ → SendRunFault → Type 0
ExplainsFile file (BadLine line) = HasFirstFault file (bad_line line)
ExplainsFile file (Text line fault) = HasFirstFault file (bad_text line fault)
ExplainsFile file (LineCut line) = HasFirstFault file (line_cut line)
ExplainsFile file (Open line) = HasFirstFault file (not_ended line)
ExplainsFile file (Memory error) = ⊤
ExplainsFile file _ = ⊥

-- the fault is of the reader or of memory
abbrev pub IsOutside : SendRunFault → Type 0
IsOutside Read = ⊤
IsOutside (Memory error) = ⊤
IsOutside _ = ⊥

-- What sending as this station, from this moment on, answers.
module _ (station from : ℕ) where
  -- What a fault of sending says of bytes of this extent of the file. That the file is too long
  -- says that the bytes are too many. A failed read and want of memory say nothing. Each other
  -- fault comes only where the bytes are all and not too many: a refusal, the first fault of the
  -- file, or a write that failed after the first bytes of the air file.
  abbrev pub ExplainsSending : Extent → List ℕ → Contents → SendRunFault → Type 0
  ExplainsSending extent file contents Read = ⊤
  ExplainsSending extent file contents (Memory error) = ⊤
  ExplainsSending extent file contents FileTooLong = file_limit < length file
  ExplainsSending extent file contents (Send refused) =
      extent.at_end × IsWithin file_limit file × ExplainsRefusal station from file refused
  ExplainsSending extent file contents (Write written) =
      extent.at_end × IsWithin file_limit file
      × (air : List ℕ) × (sent : Sent) × IsTransmission station from file air sent
      × WroteSome contents.before contents.after air written
  ExplainsSending extent file contents fault =
      extent.at_end × IsWithin file_limit file × ExplainsFile file fault

  -- what it answers to bytes of this extent of a message file, which is written as an air file
  abbrev pub AnswersSending : Extent → List ℕ → Contents → Result Sent SendRunFault → Type 0
  AnswersSending extent file contents (Ok sent) =
      extent.at_end × IsWithin file_limit file
      × (air : List ℕ) × IsTransmission station from file air sent
      × Appends contents.before contents.after air
  AnswersSending extent file contents (Err fault) =
      ExplainsSending extent file contents fault

-- the manner of a run that sends: it writes nothing before all else succeeded
abbrev pub sending_run : Manner SendRunFault
sending_run = record {
  read = Read;
  write = λ written. Write written;
  behind = λ fault bytes. IsOutside fault → IsWithin file_limit bytes;
  writing = at_the_end;
}

-- A run that sends: it answers so to the bytes that it read, and to the whole file, however it
-- came.
abbrev pub Sends : {R W : Type 0} → Devices R W → ℕ → ℕ → Result Sent SendRunFault → Type 0
Sends d station from outcome = Transfers sending_run d outcome
    (λ extent bytes. AnswersSending station from extent bytes (contents_of d) outcome)
