-- What a run over an air file answers (this profile).
use Rattle.std.specs.Prelude.{◌≡◌, ℕ, ◌<◌, ◌≤◌, Bool, not, List, length, position, Option, Some, Result, Ok, Err, ⊤}
use Rattle.std.specs.Global.{Vec}
use Rattle.std.specs.Io.KnownBytes.{Appends}
use Rattle.nx_fec.specs.air_files.Lines.{HasFault, IsBitFile, IsFaultless, file_of}
use Rattle.nx_fec.specs.emissions.Aligned.{aligned_text, words_of, AreWhole}
use Rattle.nx_fec.specs.texts.WordLines.{word_lines}
use Rattle.nx_fec.specs.Transfers.{AnswersToEnd, Contents, CountedDevice, Devices, Extent, Manner}
use Rattle.nx_fec.specs.Transfers.{Reads, Transfers, WroteSome, at_the_end, contents_of, input}
use Rattle.nx_fec.specs.declared.fault.AirFault.{AirFault}
use Rattle.nx_fec.specs.declared.fault.AirFault.TheVariants as air
use Rattle.nx_fec.specs.declared.fault.LineFault.{LineFault}
use Rattle.nx_fec.specs.declared.fault.LineFault.TheVariants as file
use Rattle.nx_fec.specs.air_files.BitLines.{bit_lines}
use Rattle.nx_fec.specs.emissions.Emission.{bits_of, emission, framed_positions}
use Rattle.nx_code.specs.Reading.{is_in_code}
use Rattle.nx_code.specs.Spelling.{Spells}
use Rattle.nx_code.specs.declared.shifts.Shift.TheVariants.{Letters}
use Rattle.nx_code.specs.declared.spelling.SpellFault.{SpellFault}
use Rattle.nx_code.specs.declared.spelling.SpellFault.TheVariants as spelling
use Rattle.nx_fec.specs.declared.emissions.aligned.AlignedFault.{AlignedFault}
use Rattle.nx_fec.specs.declared.emissions.aligned.AlignedFault.TheVariants as words
use Rattle.nx_fec.specs.declared.fault.ReadFault.{ReadFault}
use Rattle.nx_fec.specs.declared.fault.ReadFault.TheVariants as read
use Rattle.nx_fec.specs.declared.fault.RunFault.{RunFault}
use Rattle.nx_fec.specs.declared.fault.RunFault.TheVariants.{Read, FileTooLong, LineLong, LineCut, BadLine, Ragged, NoSuchCharacter, Write, Memory}

-- the most bytes of a file, but for the air files that are read line by line: 2 ^ 20
abbrev pub file_limit : ℕ
file_limit = 1048576

-- the fault of a run that stands for the fault of its file
abbrev pub run_fault : LineFault → RunFault
run_fault file.TooLong = FileTooLong
run_fault (file.LineLong line) = LineLong line
run_fault (file.LineCut line) = LineCut line
run_fault (file.BadLine line) = BadLine line

-- and for the fault of its lines
abbrev pub air_run_fault : AirFault → RunFault
air_run_fault air.Read = Read
air_run_fault (air.Line why) = run_fault why

-- the fault of a run that stands for the fault of reading a file whole
abbrev pub reading_fault : ReadFault → RunFault
reading_fault read.Read = Read
reading_fault read.FileTooLong = FileTooLong
reading_fault (read.Memory error) = Memory error

-- the fault of a run that stands for the fault of its words
abbrev pub aligned_fault : AlignedFault → RunFault
aligned_fault (words.Ragged bits) = Ragged bits
aligned_fault (words.Memory error) = Memory error

-- the fault of a run that stands for the fault of a spelling
abbrev pub spell_fault : SpellFault → RunFault
spell_fault (spelling.NoSuchCharacter at) = NoSuchCharacter at
spell_fault (spelling.Memory error) = Memory error

-- What a fault of reading elements says of bytes of this extent: a fault of the file is theirs. Of
-- a failed read and a want of memory `Reads` says what stands before them, and here they say
-- nothing. There are no other faults.
abbrev pub ExplainsReading : Extent → ℕ → List ℕ → RunFault → Type 0
ExplainsReading extent limit bytes Read = ⊤
ExplainsReading extent limit bytes (Memory error) = ⊤
ExplainsReading extent limit bytes FileTooLong = HasFault limit bytes file.TooLong
ExplainsReading extent limit bytes (LineLong line) = HasFault limit bytes (file.LineLong line)
ExplainsReading extent limit bytes (LineCut line) =
    extent.at_end × HasFault limit bytes (file.LineCut line)
ExplainsReading extent limit bytes (BadLine line) = HasFault limit bytes (file.BadLine line)
ExplainsReading extent limit bytes _ = ⊥

-- the fault is of the reader or of memory
abbrev pub IsOutside : RunFault → Type 0
IsOutside Read = ⊤
IsOutside (Memory error) = ⊤
IsOutside _ = ⊥

-- What a run that reads an air file to its end says of its reader. The elements of the file's lines
-- are those of the bytes that the run read, which are then all, or a fault is theirs. And so it is
-- for the whole file, however it came.
abbrev pub ReadsElements : {R : Type 0} → (R → Option (List ℕ)) → CountedDevice R → CountedDevice R
    → Result (Vec Bool) RunFault → Type 0
ReadsElements remaining old new outcome =
    Reads (input remaining old new) Read
    (λ fault bytes. IsOutside fault → IsFaultless file_limit bytes) outcome
    (AnswersToEnd (λ bits bytes. IsBitFile file_limit bytes bits.items)
    (λ extent bytes fault. ExplainsReading extent file_limit bytes fault) outcome)

-- the text of a file of elements, whose first word is that of slot 0
pub record IsDecoded (limit : ℕ) (bytes text : List ℕ) : Type 0 where
  pub bits : List Bool
  pub file : IsBitFile limit bytes bits
  pub whole : AreWhole bits
  pub read : text ≡ aligned_text (words_of bits)

-- What a fault of a run over the words of a file says: its elements are no whole words, or their
-- text was written in part. `IsText` holds of that text and of what the run counts. Each other
-- fault is one of reading elements.
abbrev pub ExplainsWordRun : (List ℕ → ℕ → Type 0) → Extent → List ℕ → Contents → RunFault → Type 0
ExplainsWordRun IsText extent bytes contents (Ragged given) =
    extent.at_end × (bits : List Bool) × IsBitFile file_limit bytes bits × (given ≡ length bits)
    × ¬ AreWhole bits
ExplainsWordRun IsText extent bytes contents (Write written) =
    extent.at_end × (text : List ℕ) × (count : ℕ) × IsText text count
    × WroteSome contents.before contents.after text written
ExplainsWordRun IsText extent bytes contents fault =
    ExplainsReading extent file_limit bytes fault

-- what a run over the words of a file answers to bytes of this extent: its count, with the text
-- written, or a fault
abbrev pub AnswersWordRun : (List ℕ → ℕ → Type 0) → Extent → List ℕ → Contents → Result ℕ RunFault
    → Type 0
AnswersWordRun IsText extent bytes contents (Ok count) =
    extent.at_end × (text : List ℕ) × IsText text count
    × Appends contents.before contents.after text
AnswersWordRun IsText extent bytes contents (Err fault) =
    ExplainsWordRun IsText extent bytes contents fault

-- The manner of a run that reads its file to the end, and writes nothing before all else succeeded.
-- The reader or memory fails only behind bytes of which `faultless` holds.
abbrev pub reads_then_writes : (List ℕ → Type 0) → Manner RunFault
reads_then_writes faultless = record {
  read = Read;
  write = λ written. Write written;
  behind = λ fault bytes. IsOutside fault → faultless bytes;
  writing = at_the_end;
}

-- A run over the words of a file: it answers so to the bytes that it read, and to the whole file,
-- however it came; and it writes nothing before all else succeeded.
abbrev pub IsWordRun : {R W : Type 0} → (List ℕ → List ℕ → ℕ → Type 0) → Devices R W
    → Result ℕ RunFault → Type 0
IsWordRun IsText d outcome = Transfers (reads_then_writes (IsFaultless file_limit)) d outcome
    (λ extent bytes. AnswersWordRun (IsText bytes) extent bytes (contents_of d) outcome)

-- a run that decodes: it writes the text of the words, and counts its bytes
abbrev pub Decodes : {R W : Type 0} → Devices R W → Result ℕ RunFault → Type 0
Decodes d outcome =
    IsWordRun (λ bytes text count. IsDecoded file_limit bytes text
    × (count ≡ length text)) d outcome

-- the lines of the words of a file of elements, and how many words there are
pub record IsShown (limit : ℕ) (bytes text : List ℕ) (count : ℕ) : Type 0 where
  pub bits : List Bool
  pub file : IsBitFile limit bytes bits
  pub whole : AreWhole bits
  pub shown : text ≡ word_lines (words_of bits)
  pub count_is : count ≡ length (words_of bits)

-- a run that shows words: it writes their lines, and counts them
abbrev pub Shows : {R W : Type 0} → Devices R W → Result ℕ RunFault → Type 0
Shows d outcome = IsWordRun (λ bytes text count. IsShown file_limit bytes text count) d outcome

-- no fault stands in the bytes of a text that is read whole: it isn't too long
abbrev pub IsWithin : ℕ → List ℕ → Type 0
IsWithin limit bytes = length bytes ≤ limit

-- what a fault of reading a text whole says of its bytes: it is too long, or the reader or memory
-- failed
abbrev pub ExplainsWhole : ℕ → List ℕ → ReadFault → Type 0
ExplainsWhole limit bytes read.Read = ⊤
ExplainsWhole limit bytes read.FileTooLong = limit < length bytes
ExplainsWhole limit bytes (read.Memory error) = ⊤

-- the fault of reading a text whole is of the reader or of memory
abbrev pub IsOutsideWhole : ReadFault → Type 0
IsOutsideWhole read.Read = ⊤
IsOutsideWhole read.FileTooLong = ⊥
IsOutsideWhole (read.Memory error) = ⊤

-- What a run says of its reader that reads a file whole: the text is the bytes that it read, which
-- are then all, or a fault is theirs. And so it is for the whole file, however it came.
abbrev pub ReadsWhole : {R : Type 0} → (R → Option (List ℕ)) → CountedDevice R → CountedDevice R
    → Result (Vec ℕ) ReadFault → Type 0
ReadsWhole remaining old new outcome =
    Reads (input remaining old new) read.Read
    (λ fault bytes. IsOutsideWhole fault → IsWithin file_limit bytes) outcome
    (AnswersToEnd (λ text bytes. IsWithin file_limit bytes × (text.items ≡ bytes))
    (λ extent bytes fault. ExplainsWhole file_limit bytes fault) outcome)

-- The file that a text is encoded as, and how many positions it has. The text is spelled from
-- letters, with four positions of phasing before it and three of the end after it. The bits of
-- their emission stand in lines.
pub record IsEncoded (text file : List ℕ) (positions : ℕ) : Type 0 where
  pub numbers : List ℕ
  pub spells : Spells text Letters numbers
  pub written : file ≡ file_of (bit_lines (bits_of (emission (framed_positions numbers))))
  pub count : positions ≡ length (framed_positions numbers)

-- What a fault of encoding says of bytes of this extent of a text. It is too long. Or the bytes are
-- all of it, and not too many: one of them isn't in the code, the first at this index; or the file
-- that they are encoded as was written in part. A failed read and want of memory say nothing here,
-- and there are no other faults.
abbrev pub ExplainsEncoding : Extent → List ℕ → Contents → RunFault → Type 0
ExplainsEncoding extent bytes contents Read = ⊤
ExplainsEncoding extent bytes contents (Memory error) = ⊤
ExplainsEncoding extent bytes contents FileTooLong = file_limit < length bytes
ExplainsEncoding extent bytes contents (NoSuchCharacter at) =
    extent.at_end × IsWithin file_limit bytes
    × (position (λ byte. not (is_in_code byte)) bytes ≡ Some at)
ExplainsEncoding extent bytes contents (Write written) =
    extent.at_end × IsWithin file_limit bytes × (file : List ℕ) × (positions : ℕ)
    × IsEncoded bytes file positions × WroteSome contents.before contents.after file written
ExplainsEncoding extent bytes contents _ = ⊥

-- what encoding answers to bytes of this extent of a text: the count of its positions, whose file
-- was written, or a fault
abbrev pub AnswersEncoding : Extent → List ℕ → Contents → Result ℕ RunFault → Type 0
AnswersEncoding extent bytes contents (Ok positions) =
    extent.at_end × IsWithin file_limit bytes × (file : List ℕ) × IsEncoded bytes file positions
    × Appends contents.before contents.after file
AnswersEncoding extent bytes contents (Err fault) =
    ExplainsEncoding extent bytes contents fault

-- A run that encodes: it answers so to the bytes that it read, and to the whole text, however it
-- came; and it writes nothing before all else succeeded.
abbrev pub Encodes : {R W : Type 0} → Devices R W → Result ℕ RunFault → Type 0
Encodes d outcome = Transfers (reads_then_writes (IsWithin file_limit)) d outcome
    (λ extent bytes. AnswersEncoding extent bytes (contents_of d) outcome)
