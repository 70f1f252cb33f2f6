-- A run over a log: what it reads, what it writes of it, and what it answers (this profile).
use Rattle.std.specs.Prelude.{◌≡◌, ◌⊎◌, ◌↔◌, ℕ, ◌-◌, ◌^◌, ◌≤◌, Bool, true, false, List, [], ◌∷◌, ◌++◌, length, map, Some}
use Rattle.std.specs.Prelude.{Result, Ok, Err, IsErrOf}
use Rattle.std.specs.List.{AllZip, concat}
use Rattle.std.specs.Io.KnownBytes.{Appends, Consumes}
use Rattle.nx_fec.specs.Transfers.{Contents, Devices, IsReadOut, WroteSome, contents_of}
use Rattle.nx_copies.specs.copies.Shares.{MarkedCopy}
use Rattle.nx_kept.specs.Kept.{closed_gate, open_gate}
use Rattle.nx_log.specs.Json.{IsPlacedLine}
use Rattle.nx_log.specs.Logged.{IsLoggedAs}
use Rattle.nx_log.specs.Places.{PlacedCopy, chosen_placed, unplaced}
use Rattle.nx_log.specs.Query.{chosen}
use Rattle.nx_log.specs.Notices.{HaveToldAll, HaveToldTorn, Notice, Notices}
use Rattle.nx_log.specs.Reading.{HoldEntries, HoldEntriesToEnd, StopAtLine}
use Rattle.nx_log.specs.Salvage.{Salvage, SalvageToEnd, Stretch, first_line}
use Rattle.nx_log.specs.declared.damage.Damaged.{Damaged}
use Rattle.nx_log.specs.declared.damage.Damaged.TheVariants.{PassedOver, Refused}
use Rattle.nx_log.specs.declared.writing.form.Form.{Form}
use Rattle.nx_log.specs.declared.writing.form.Form.TheVariants.{Log, Json, Kept}
use Rattle.nx_log.specs.declared.log_fault.LogFault.{LogFault}
use Rattle.nx_log.specs.declared.log_fault.LogFault.TheVariants.{Read, Write, BadLog, Memory}
use Rattle.nx_log.specs.declared.queries.query.Query.{Query}

-- the most bytes that are read; a reader that gives more is stopped there, as at an end
abbrev pub most_read : ℕ
most_read = 2 ^ 63 - 1

-- what an entry is in a kept log: its bytes behind an open gate
abbrev pub IsBehindGate : MarkedCopy → List ℕ → Type 0
IsBehindGate one text = (bytes : List ℕ) × IsLoggedAs one bytes × (text ≡ open_gate ∷ bytes)

-- the text of an entry in this form: its bytes in a log, its line of JSON, or what it is in a kept
-- log
abbrev pub IsInForm : Form → PlacedCopy → List ℕ → Type 0
IsInForm Log placed text = IsLoggedAs placed.one text
IsInForm Json placed text = IsPlacedLine placed.one placed.places text
IsInForm Kept placed text = IsBehindGate placed.one text

-- what stands behind the last of entries in this form: behind those of a kept log, where there are
-- any, a closed gate
abbrev pub end_of : {A : Type 0} → Form → List A → List ℕ
end_of Log entries = []
end_of Json entries = []
end_of Kept [] = []
end_of Kept (one ∷ entries) = closed_gate ∷ []

-- Output of entries: the texts of those that the query chooses, in order, and nothing between.
pub record IsOutput (query : Query) (form : Form) (entries : List PlacedCopy) (output : List ℕ)
    : Type 0 where
  pub texts : List (List ℕ)
  pub each : AllZip (IsInForm form) (chosen_placed query entries) texts
  pub joined : output ≡ concat texts

-- some first of the bytes hold these entries, whole, and the torn ones on these lines
pub record BeginWithEntries (bytes : List ℕ) (entries : List MarkedCopy) (torn : List ℕ)
    : Type 0 where
  pub front : List ℕ
  pub more : List ℕ
  pub split : bytes ≡ front ++ more
  pub hold : HoldEntries front entries torn

-- some first of the bytes are salvaged so
pub record BeginSalvage (stretches : List Stretch) (bytes : List ℕ) (entries : List MarkedCopy)
    (told : List Notice) : Type 0 where
  pub front : List ℕ
  pub more : List ℕ
  pub split : bytes ≡ front ++ more
  pub salvage : Salvage stretches front entries told

-- the output of these entries, for this query and in this form, was written
pub record WrotePlaced (query : Query) (form : Form) (contents : Contents)
    (entries : List PlacedCopy) : Type 0 where
  pub output : List ℕ
  pub is_output : IsOutput query form entries output
  pub written : Appends contents.before contents.after output

-- the same, and what stands behind the last of those that are chosen
pub record WrotePlacedToEnd (query : Query) (form : Form) (contents : Contents)
    (entries : List PlacedCopy) : Type 0 where
  pub output : List ℕ
  pub is_output : IsOutput query form entries output
  pub written : Appends contents.before contents.after
      (output ++ end_of form (chosen_placed query entries))

-- a write of these failed: some first bytes of the output and of its end were written, but not all,
-- and `written` counts them
pub record WrotePlacedPart (query : Query) (form : Form) (contents : Contents)
    (entries : List PlacedCopy) (written : ℕ) : Type 0 where
  pub output : List ℕ
  pub is_output : IsOutput query form entries output
  pub part : WroteSome contents.before contents.after
      (output ++ end_of form (chosen_placed query entries)) written

-- the same of entries whose places aren't told
abbrev pub WroteOutput : Query → Form → Contents → List MarkedCopy → Type 0
WroteOutput query form contents entries =
    WrotePlaced query form contents (map unplaced entries)

abbrev pub WroteToEnd : Query → Form → Contents → List MarkedCopy → Type 0
WroteToEnd query form contents entries =
    WrotePlacedToEnd query form contents (map unplaced entries)

abbrev pub WrotePart : Query → Form → Contents → List MarkedCopy → ℕ → Type 0
WrotePart query form contents entries written =
    WrotePlacedPart query form contents (map unplaced entries) written

-- A run over a log by this query, in this form, on these devices.
module _ {R W : Type 0} (query : Query) (form : Form) (d : Devices R W) (n : Notices) where
  -- these bytes are all: none is left, or there are as many as are read
  abbrev pub AreAll : List ℕ → Type 0
  AreAll bytes = IsReadOut d ⊎ (length bytes ≡ most_read)

  -- Memory ran out before anything was read, written or told. Where the last entries alone are
  -- asked for, it may also run out later: nothing was written then, and what was told is that of
  -- some first of the bytes.
  abbrev pub RanOutFirst : List ℕ → Type 0
  RanOutFirst bytes = (bytes ≡ []) × (d.reader_after ≡ d.reader) × (d.writer_after ≡ d.writer)
      × HaveToldTorn n []

  abbrev pub RanOut : Bool → List ℕ → Type 0
  RanOut false bytes = RanOutFirst bytes
  RanOut true bytes =
      (entries : List MarkedCopy) × (torn : List ℕ) × BeginWithEntries bytes entries torn
      × Appends (contents_of d).before (contents_of d).after [] × HaveToldTorn n torn

  -- What it answers of the bytes that it read, and what it told. Where they are all and a log, it
  -- is how many of their entries the query chooses; the output of all was written to its end, and
  -- each torn one was told. After a failed read the output of all whole entries of the bytes was
  -- written, and each torn one told, so both come before each further read. A bad log stops being
  -- one at this line; the output of the entries before that was written to its end, and each torn
  -- one told. After a failed write the first bytes were written of the output of entries with which
  -- they begin, and what was told is that of the same front.
  abbrev pub AnswersLogRun : Result ℕ LogFault → List ℕ → Type 0
  AnswersLogRun (Ok count) bytes =
      AreAll bytes × (entries : List MarkedCopy) × (torn : List ℕ)
      × HoldEntriesToEnd bytes entries torn × WroteToEnd query form (contents_of d) entries
      × HaveToldTorn n torn × (count ≡ length (chosen query entries))
  AnswersLogRun (Err Read) bytes =
      (entries : List MarkedCopy) × (torn : List ℕ) × HoldEntries bytes entries torn
      × WroteOutput query form (contents_of d) entries × HaveToldTorn n torn
  AnswersLogRun (Err (BadLog line)) bytes =
      (entries : List MarkedCopy) × (torn : List ℕ) × StopAtLine bytes entries torn line
      × WroteToEnd query form (contents_of d) entries × HaveToldTorn n torn
  AnswersLogRun (Err (Write written)) bytes =
      (entries : List MarkedCopy) × (torn : List ℕ) × BeginWithEntries bytes entries torn
      × WrotePart query form (contents_of d) entries written × HaveToldTorn n torn
  AnswersLogRun (Err (Memory error)) bytes = RanOut query.last bytes

  abbrev pub SalvageRanOut : Bool → List ℕ → Type 0
  SalvageRanOut false bytes = RanOutFirst bytes
  SalvageRanOut true bytes =
      (stretches : List Stretch) × (entries : List MarkedCopy) × (told : List Notice)
      × BeginSalvage stretches bytes entries told
      × Appends (contents_of d).before (contents_of d).after [] × HaveToldAll n told

  -- The same where it passes over what is not of a log. Where the bytes are a log it answers as
  -- above. Else it reads them all, and answers at their end: `BadLog` has the first line that isn't
  -- of a log, the output of all entries that were salvaged was written to its end, and each stretch
  -- and each torn entry was told. After a failed read or write that is said of what was read by
  -- then.
  abbrev pub AnswersSalvage : Result ℕ LogFault → List ℕ → Type 0
  AnswersSalvage (Ok count) bytes = AnswersLogRun (Ok count) bytes
  AnswersSalvage (Err Read) bytes =
      (stretches : List Stretch) × (entries : List MarkedCopy) × (told : List Notice)
      × Salvage stretches bytes entries told × WroteOutput query form (contents_of d) entries
      × HaveToldAll n told
  AnswersSalvage (Err (BadLog line)) bytes =
      AreAll bytes × (stretches : List Stretch) × (entries : List MarkedCopy)
      × (told : List Notice) × SalvageToEnd stretches bytes entries told
      × WroteToEnd query form (contents_of d) entries × HaveToldAll n told
      × (first_line stretches ≡ Some line)
  AnswersSalvage (Err (Write written)) bytes =
      (stretches : List Stretch) × (entries : List MarkedCopy) × (told : List Notice)
      × BeginSalvage stretches bytes entries told
      × WrotePart query form (contents_of d) entries written × HaveToldAll n told
  AnswersSalvage (Err (Memory error)) bytes = SalvageRanOut query.last bytes

  -- what is not of a log is refused, or passed over
  abbrev pub AnswersRun : Damaged → Result ℕ LogFault → List ℕ → Type 0
  AnswersRun Refused outcome bytes = AnswersLogRun outcome bytes
  AnswersRun PassedOver outcome bytes = AnswersSalvage outcome bytes

-- A read failed in a run with this outcome: the outcome is `Read`. Where the last entries alone are
-- asked for, they are written behind it, and a write may fail then.
abbrev pub HasReadFailed : {A : Type 0} → Query → Result A LogFault → Type 0
HasReadFailed query outcome = IsErrOf outcome Read
    ⊎ ((query.last ≡ true) × ((written : ℕ) × (outcome ≡ Err (Write written))))

-- A run over a log. It answers so to the bytes that it read, at most 2^63 - 1, however they came. A
-- read failed, at most one, where the outcome is `Read`, and a write of the output exactly where it
-- is `Write`.
pub record RunsOverLog {R W : Type 0} (query : Query) (form : Form) (damaged : Damaged)
    (d : Devices R W) (n : Notices) (outcome : Result ℕ LogFault) : Type 0 where
  pub bytes : List ℕ
  pub consumed : Consumes (d.remaining d.reader.inner) (d.remaining d.reader_after.inner) bytes
  pub within : length bytes ≤ most_read
  pub answer : AnswersRun query form d n damaged outcome bytes
  pub unread : IsErrOf outcome Read → d.reader_after.failures ≡ 1
  pub read_failed : d.reader_after.failures ≡ 1 → HasReadFailed query outcome
  pub read_once : d.reader_after.failures ≤ 1
  pub unwritten : ((written : ℕ) × (outcome ≡ Err (Write written)))
      ↔ (d.writer_after.failures ≡ 1)
  pub write_once : d.writer_after.failures ≤ 1
