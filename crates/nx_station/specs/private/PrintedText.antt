-- What the private functions answer that read the printed text of messages back.
use Rattle.std.specs.Prelude.{◌≢◌, ℕ, List, ◌∷◌, ◌++◌, ⊤}
use Rattle.std.specs.List.{flat_map, AllByRecursion}
use Rattle.nx_code.specs.Reading.{newline}
use Rattle.nx_envelope.specs.Header.{end_marker}
use Rattle.nx_envelope.specs.Message.{AreLines, text_of, MessageView}
use Rattle.nx_station.specs.Broadcast.{printed_text}
use Rattle.nx_station.specs.MessageFile.{IsOneLine}
use Rattle.nx_station.specs.declared.fault.EmissionFault.{EmissionFault}
use Rattle.nx_station.specs.declared.fault.EmissionFault.TheVariants.{BadEnvelope, Memory}

-- a line of a printed text that doesn't end a message
pub record IsTextLine (line : List ℕ) : Type 0 where
  pub one_line : IsOneLine line
  pub goes_on : line ≢ end_marker

-- lines, and after them the end of a message, as they are printed
abbrev pub ended_lines : List (List ℕ) → List ℕ → List ℕ
ended_lines lines more = text_of lines ++ (end_marker ++ newline ∷ more)

-- the lines of each message are those of a message
abbrev pub AreSound : List MessageView → Type 0
AreSound messages = AllByRecursion (λ (message : MessageView). AreLines message.lines) messages

-- what a fault says of a printed text: it begins with no lines that are ended, with no message, or
-- is that of no messages
abbrev pub ExplainsPrintedLines : List ℕ → EmissionFault → Type 0
ExplainsPrintedLines bytes BadEnvelope =
    (lines : List (List ℕ)) (more : List ℕ) → AllByRecursion IsTextLine lines
    → bytes ≢ ended_lines lines more
ExplainsPrintedLines bytes (Memory error) = ⊤
ExplainsPrintedLines bytes _ = ⊥

abbrev pub ExplainsFirstPrinted : List ℕ → EmissionFault → Type 0
ExplainsFirstPrinted bytes BadEnvelope =
    (message : MessageView) (more : List ℕ) → AreLines message.lines
    → bytes ≢ printed_text message ++ more
ExplainsFirstPrinted bytes (Memory error) = ⊤
ExplainsFirstPrinted bytes _ = ⊥

abbrev pub ExplainsPrinted : List ℕ → EmissionFault → Type 0
ExplainsPrinted bytes BadEnvelope = (messages : List MessageView) → AreSound messages
    → bytes ≢ flat_map printed_text messages
ExplainsPrinted bytes (Memory error) = ⊤
ExplainsPrinted bytes _ = ⊥
