-- A run over a kept log: what it reads, what it writes of it, and what it answers (this profile).
use Rattle.std.specs.Prelude.{◌≡◌, ◌⊎◌, ◌↔◌, ℕ, ◌<◌, ◌≤◌, Bool, true, false, List, [], ◌++◌, length, Result, Ok, Err, IsErrOf}
use Rattle.std.specs.Io.KnownBytes.{Appends, Consumes}
use Rattle.nx_fec.specs.Transfers.{Devices, IsReadOut, contents_of}
use Rattle.nx_log.specs.KeptLog.{HoldKept, StandForPlaced, StopKept}
use Rattle.nx_log.specs.LogRun.{HasReadFailed, WrotePlaced, WrotePlacedPart, WrotePlacedToEnd, most_read}
use Rattle.nx_log.specs.Places.{PlacedCopy, chosen_placed}
use Rattle.nx_log.specs.declared.writing.form.Form.{Form}
use Rattle.nx_log.specs.declared.log_fault.LogFault.{LogFault}
use Rattle.nx_log.specs.declared.log_fault.LogFault.TheVariants.{Read, Write, BadLog, Memory}
use Rattle.nx_log.specs.declared.queries.query.Query.{Query}

-- some first of the bytes hold these entries
pub record BeginKept (from : ℕ) (bytes : List ℕ) (entries : List PlacedCopy) : Type 0 where
  pub front : List ℕ
  pub more : List ℕ
  pub split : bytes ≡ front ++ more
  pub hold : HoldKept from front entries

-- A run over a kept log, or what stands in one behind so many bytes, by this query, in this form.
module _ {R W : Type 0} (query : Query) (form : Form) (from : ℕ) (d : Devices R W) where
  -- these bytes are all: none is left, or there are as many as are read
  abbrev pub AreAllKept : List ℕ → Type 0
  AreAllKept bytes = IsReadOut d ⊎ (length bytes ≡ most_read)

  -- memory ran out before anything was read; or, where the last entries alone are asked for, also
  -- behind some first of the bytes, and nothing was written
  abbrev pub KeptRanOut : Bool → List ℕ → Type 0
  KeptRanOut false bytes =
      (bytes ≡ []) × (d.reader_after ≡ d.reader) × (d.writer_after ≡ d.writer)
  KeptRanOut true bytes = (entries : List PlacedCopy) × BeginKept from bytes entries
      × Appends (contents_of d).before (contents_of d).after []

  -- What it answers of the bytes that it read. Where they are all and stand for entries, it is how
  -- many of these the query chooses, and the output of all was written to its end. After a failed
  -- read the output of all whole entries of the bytes was written, so it comes before each further
  -- read. Damaged bytes stand for none from this line on; the output of the entries before that
  -- was written to its end. After a failed write the first bytes were written of the output of
  -- entries with which they begin.
  abbrev pub AnswersKeptRun : Result ℕ LogFault → List ℕ → Type 0
  AnswersKeptRun (Ok count) bytes =
      AreAllKept bytes × (entries : List PlacedCopy) × StandForPlaced from bytes entries
      × WrotePlacedToEnd query form (contents_of d) entries
      × (count ≡ length (chosen_placed query entries))
  AnswersKeptRun (Err Read) bytes = (entries : List PlacedCopy) × HoldKept from bytes entries
      × WrotePlaced query form (contents_of d) entries
  AnswersKeptRun (Err (BadLog line)) bytes =
      (entries : List PlacedCopy) × (stop : StopKept from bytes entries line)
      × ((stop.place < length bytes) ⊎ AreAllKept bytes)
      × WrotePlacedToEnd query form (contents_of d) entries
  AnswersKeptRun (Err (Write written)) bytes =
      (entries : List PlacedCopy) × BeginKept from bytes entries
      × WrotePlacedPart query form (contents_of d) entries written
  AnswersKeptRun (Err (Memory error)) bytes = KeptRanOut query.last bytes

-- A run over a kept log. It answers so to the bytes that it read, at most 2^63 - 1, however they
-- came. A read failed, at most one, where the outcome is `Read`, and a write of the output exactly
-- where it is `Write`.
pub record RunsOverKept {R W : Type 0} (query : Query) (form : Form) (from : ℕ) (d : Devices R W)
    (outcome : Result ℕ LogFault) : Type 0 where
  pub bytes : List ℕ
  pub consumed : Consumes (d.remaining d.reader.inner) (d.remaining d.reader_after.inner) bytes
  pub within : length bytes ≤ most_read
  pub answer : AnswersKeptRun query form from d outcome bytes
  pub unread : IsErrOf outcome Read → d.reader_after.failures ≡ 1
  pub read_failed : d.reader_after.failures ≡ 1 → HasReadFailed query outcome
  pub read_once : d.reader_after.failures ≤ 1
  pub unwritten : ((written : ℕ) × (outcome ≡ Err (Write written)))
      ↔ (d.writer_after.failures ≡ 1)
  pub write_once : d.writer_after.failures ≤ 1
