-- What the private functions answer of one message: of its text, and of its lines in a file.
use Rattle.std.specs.Prelude.{◌≡◌, ℕ, List, length, map, ⊤}
use Rattle.nx_code.specs.Reading.{combination, shift_after_all}
use Rattle.nx_code.specs.Spelling.{Spells}
use Rattle.nx_code.specs.declared.shifts.Shift.TheVariants.{Figures}
use Rattle.nx_code.specs.declared.spelling.Extent.{Extent}
use Rattle.nx_envelope.specs.declared.message.MessageFault.{MessageFault}
use Rattle.nx_envelope.specs.declared.message.MessageFault.TheVariants as message
use Rattle.nx_station.specs.MessageFile.{IsFirstFault, bad_line, bad_text, line_cut, not_ended}
use Rattle.nx_station.specs.declared.fault.SendRunFault.{SendRunFault}
use Rattle.nx_station.specs.declared.fault.SendRunFault.TheVariants.{BadLine, Text, LineCut, Open, Memory}

-- the extent of the spelling of a text, from the figure shift on
pub record IsExtent (bytes : List ℕ) (extent : Extent) : Type 0 where
  pub numbers : List ℕ
  pub spells : Spells bytes Figures numbers
  pub long : extent.length ≡ length numbers
  pub after : extent.shift ≡ shift_after_all (map combination numbers) Figures

-- the fault of a run for the fault of the lines of the message that begins at a line
abbrev pub text_fault : ℕ → MessageFault → SendRunFault
text_fault line (message.Memory error) = Memory error
text_fault line fault = Text line fault

-- what a fault says of the first message of these bytes, before which so many lines stand; want of
-- memory says nothing
abbrev pub ExplainsFirst : ℕ → List ℕ → SendRunFault → Type 0
ExplainsFirst before bytes (BadLine line) = IsFirstFault before bytes (bad_line line)
ExplainsFirst before bytes (Text line fault) = IsFirstFault before bytes (bad_text line fault)
ExplainsFirst before bytes (LineCut line) = IsFirstFault before bytes (line_cut line)
ExplainsFirst before bytes (Open line) = IsFirstFault before bytes (not_ended line)
ExplainsFirst before bytes (Memory error) = ⊤
ExplainsFirst before bytes _ = ⊥
