-- What a run says of its devices: of the bytes that it read and wrote, and of the calls that failed
-- (this profile).
use Rattle.std.specs.Prelude.{◌≡◌, ◌≢◌, ◌<◌, ◌≤◌, ◌↔◌, ℕ, List, [], length, take, Option, Result, Err, IfErr, IfSome, IsErrOf, MatchResult, ⊤, IsErr, OnErr, OnOk, min, ◌+◌, ◌-◌, ◌^◌}
use Rattle.std.specs.Io.KnownBytes.{Consumes, IsAtEnd, Keeps, Appends}
use Rattle.nx_fec.specs.declared.devices.pieces.Piece.{Piece}
use Rattle.nx_fec.specs.declared.devices.pieces.Piece.TheVariants.{End, Failed, Bytes}

-- the number that counts so many, at most the greatest of 64 bits
abbrev pub count_of : ℕ → ℕ
count_of n = min n (2 ^ 64 - 1)

-- a reader or a writer, and how many calls on it failed
pub record CountedDevice (T : Type 0) : Type 0 where
  pub inner : T
  pub failures : ℕ

-- One call: a success leaves the count, and a failure raises it by one, up to its greatest value.
-- Once the count is above 0, the call fails and isn't passed on.
pub record Counts {T R E : Type 0} (old new : CountedDevice T) (result : Result R E) : Type 0 where
  pub ok : OnOk result (new.failures ≡ old.failures)
  pub err : OnErr result (new.failures ≡ count_of (old.failures + 1))
  pub stopped : 0 < old.failures → IsErr result × (new.inner ≡ old.inner)

-- A run over a device that counted no failure: it is over at the first one, which it then answers,
-- so the count is 1 after a fault, and else 0.
pub record FailsOnce {T N F : Type 0} (new : CountedDevice T) (result : Result N F) : Type 0 where
  pub failed : IsErr result ↔ (new.failures ≡ 1)
  pub once : new.failures ≤ 1
  pub none : OnOk result (new.failures ≡ 0)

-- A failed write: the writer took some first of these bytes, but not all, and `written` counts
-- them, at most to the greatest number of 64 bits.
pub record WroteSome (old new : Option (List ℕ)) (bytes : List ℕ) (written : ℕ) : Type 0 where
  pub taken : ℕ
  pub fewer : taken < length bytes
  pub counted : written ≡ count_of taken
  pub appended : Appends old new (take taken bytes)

-- These bytes were written, and `count` counts them, at most to the greatest number of 64 bits.
pub record HasWritten (old new : Option (List ℕ)) (bytes : List ℕ) (count : ℕ) : Type 0 where
  pub counted : count ≡ count_of (length bytes)
  pub appended : Appends old new bytes

-- What a read gave: the end of the input, a failure, or so many bytes, at least one, at the front
-- of the buffer.
abbrev pub IsNextPiece : {R : Type 0} → (R → Option (List ℕ)) → CountedDevice R → CountedDevice R
    → List ℕ → Piece → Type 0
IsNextPiece remaining old new buffer End =
    Keeps (remaining old.inner) (remaining new.inner) × IsAtEnd (remaining new.inner)
    × (new.failures ≡ 0)
IsNextPiece remaining old new buffer Failed =
    Keeps (remaining old.inner) (remaining new.inner) × (new.failures ≡ 1)
IsNextPiece remaining old new buffer (Bytes count) =
    (0 < count) × (count ≤ length buffer)
    × Consumes (remaining old.inner) (remaining new.inner) (take count buffer) × (new.failures ≡ 0)

-- the most bytes that one read gives
abbrev pub max_piece : ℕ
max_piece = 65536

-- these are all bytes that a read gave
abbrev pub HasLength : List ℕ → Piece → Type 0
HasLength bytes End = bytes ≡ []
HasLength bytes Failed = bytes ≡ []
HasLength bytes (Bytes count) = length bytes ≡ count

-- what a run says of its writer: the count of failures is 1 where the outcome is a fault `write`,
-- and else 0
pub record Writes {W N F : Type 0} (new : CountedDevice W) (write : ℕ → F)
    (outcome : Result N F) : Type 0 where
  pub failed : ((written : ℕ) × (outcome ≡ Err (write written))) ↔ (new.failures ≡ 1)
  pub once : new.failures ≤ 1

-- A reader and a writer, as they stand before a run and after it, and what they tell of their
-- bytes: those that are left to read, and those that are written.
pub record Devices (R W : Type 0) : Type 0 where
  pub remaining : R → Option (List ℕ)
  pub contents : W → Option (List ℕ)
  pub reader : CountedDevice R
  pub reader_after : CountedDevice R
  pub writer : CountedDevice W
  pub writer_after : CountedDevice W

-- these devices, before a run and after it
abbrev pub devices : {R W : Type 0} → (R → Option (List ℕ)) → (W → Option (List ℕ))
    → CountedDevice R → CountedDevice R → CountedDevice W → CountedDevice W → Devices R W
devices remaining contents reader reader_after writer writer_after = record {
  remaining = remaining;
  contents = contents;
  reader = reader;
  reader_after = reader_after;
  writer = writer;
  writer_after = writer_after;
}

-- what a writer held before a run, and holds after it, where that is known
pub record Contents : Type 0 where
  pub before : Option (List ℕ)
  pub after : Option (List ℕ)

-- what the writer of these devices held and holds
abbrev pub contents_of : {R W : Type 0} → Devices R W → Contents
contents_of d = record {
  before = d.contents d.writer.inner;
  after = d.contents d.writer_after.inner;
}

-- the reader alone: as it stands before a run and after it, and what it tells of its bytes
pub record Input (R : Type 0) : Type 0 where
  pub remaining : R → Option (List ℕ)
  pub reader : CountedDevice R
  pub reader_after : CountedDevice R

-- this reader, before a run and after it
abbrev pub input : {R : Type 0} → (R → Option (List ℕ)) → CountedDevice R → CountedDevice R
    → Input R
input remaining reader reader_after =
    record { remaining = remaining; reader = reader; reader_after = reader_after }

-- the reader of these devices
abbrev pub input_of : {R W : Type 0} → Devices R W → Input R
input_of d = input d.remaining d.reader d.reader_after

-- no input is left
abbrev pub IsReadOut : {R W : Type 0} → Devices R W → Type 0
IsReadOut d = IsAtEnd (d.remaining d.reader_after.inner)

-- How much of an input some bytes are: `at_end` holds where they are all of it, and `is_left` of
-- the bytes that a failed read left behind them.
pub record Extent : Type 1 where
  pub at_end : Type 0
  pub is_left : List ℕ → Type 0

-- the bytes that were read, which are all where this holds
abbrev pub read_to : Type 0 → Extent
read_to AtEnd = record { at_end = AtEnd; is_left = λ more. more ≡ [] }

-- the bytes that were read from this input
abbrev pub read_from : {R : Type 0} → Input R → Extent
read_from i = read_to (IsAtEnd (i.remaining i.reader_after.inner))

-- the bytes that were read from these devices
abbrev pub as_read : {R W : Type 0} → Devices R W → Extent
as_read d = read_to (IsReadOut d)

-- The whole input. After a failed read some of it may be left, and these may be any bytes.
abbrev pub whole_input : Extent
whole_input = record { at_end = Unit {0}; is_left = λ more. Unit {0} }

-- What a run says of its reader. It read these bytes, and answers so to them, whatever the reader
-- tells of its bytes. Where those are known, it answers so to all that was left, however it came. A
-- fault comes only where `behind` holds of it and of the bytes that were read. It is the fault
-- `read` exactly where the count of failures is 1; else the count is 0.
pub record Reads {R N F : Type 0} (i : Input R) (read : F) (behind : F → List ℕ → Type 0)
    (outcome : Result N F) (answers : Extent → List ℕ → Type 0) : Type 0 where
  pub bytes : List ℕ
  pub consumed : Consumes (i.remaining i.reader.inner) (i.remaining i.reader_after.inner) bytes
  pub answer : answers (read_from i) bytes
  pub file : IfSome (i.remaining i.reader.inner) (answers whole_input)
  pub before : IfErr outcome (λ fault. behind fault bytes)
  pub failed : IsErrOf outcome read ↔ (i.reader_after.failures ≡ 1)
  pub once : i.reader_after.failures ≤ 1

-- What reading a file to its end answers to bytes of this extent: an answer that is good for them,
-- which are then all, or a fault that explains itself by them.
abbrev pub AnswersToEnd : {N F : Type 0} → (N → List ℕ → Type 0)
    → (Extent → List ℕ → F → Type 0) → Result N F → Extent → List ℕ → Type 0
AnswersToEnd good explains outcome extent bytes =
    MatchResult outcome (λ answer. extent.at_end × good answer bytes) (explains extent bytes)

-- when a run writes: only after all else succeeded, or while it reads
pub data Writing : Type 0 where
  at_the_end : Writing
  on_the_way : Writing

-- a run that writes only at the end wrote nothing before a fault that isn't one of writing
abbrev pub IsUnwritten : {R W N F : Type 0} → Writing → (ℕ → F) → Devices R W → Result N F → Type 0
IsUnwritten at_the_end write d outcome =
    IfErr outcome (λ why. ((written : ℕ) → why ≢ write written) → d.writer_after ≡ d.writer)
IsUnwritten on_the_way write d outcome = ⊤

-- The manner of a run from a reader to a writer: its faults for a failed read and a failed write,
-- what holds of the bytes behind which a fault comes, and when it writes.
pub record Manner (F : Type 0) : Type 1 where
  pub read : F
  pub write : ℕ → F
  pub behind : F → List ℕ → Type 0
  pub writing : Writing

-- that of a run whose faults come behind any bytes, and that writes while it reads
abbrev pub line_by_line : {F : Type 0} → F → (ℕ → F) → Manner F
line_by_line read write =
    record { read = read; write = write; behind = λ fault bytes. ⊤; writing = on_the_way }

-- what a run from a reader to a writer says of both: it answers so to the bytes that it read, and
-- to the whole input, however it came
pub record Transfers {R W N F : Type 0} (manner : Manner F) (d : Devices R W)
    (outcome : Result N F) (answers : Extent → List ℕ → Type 0) : Type 0 where
  pub reads : Reads (input_of d) manner.read manner.behind outcome answers
  pub writes : Writes d.writer_after manner.write outcome
  pub unwritten : IsUnwritten manner.writing manner.write d outcome
