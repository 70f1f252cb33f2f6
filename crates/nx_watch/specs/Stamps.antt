-- What stood at each read of the input of a watch (this profile).
use Rattle.std.specs.Prelude.{◌≡◌, ℕ, List, [], length, Option}
use Rattle.std.specs.Io.KnownBytes.{Consumes}
use Rattle.nx_fec.specs.Transfers.{CountedDevice}
use Rattle.nx_fec.specs.declared.devices.pieces.Piece.{Piece}
use Rattle.nx_fec.specs.declared.devices.pieces.Piece.TheVariants.{End, Failed, Bytes}
use Rattle.nx_watch.specs.declared.stamped.StampedReader.{StampedReader}
use Rattle.nx_watch.specs.declared.stamped.cut_notes.CutNotes.{CutNotes}
use Rattle.nx_watch.specs.Stamp.{AreTheReads, CutNote, Stamp}

-- how many bytes a read gave
abbrev pub size_of_piece : Piece → ℕ
size_of_piece End = 0
size_of_piece Failed = 0
size_of_piece (Bytes count) = count

-- what was noted as a start told what it cuts, the last note first
abbrev pub notes_of : {D N : Type 0} → CutNotes D N → List (CutNote D N)
notes_of notes = notes.stamps.items

module _ {R D W N : Type 0} where
  -- the counted reader that a stamped one reads from
  abbrev pub counted_of : StampedReader R D W N → CountedDevice R
  counted_of reader = reader.reader

  -- how many bytes it gave
  abbrev pub bytes_given : StampedReader R D W N → ℕ
  bytes_given reader = reader.given

  -- what stood at each of its reads, the last one first
  abbrev pub stamps_of : StampedReader R D W N → List (Stamp D W N)
  stamps_of reader = reader.stamps.items

  -- what was noted in it as a start told what it cuts, the last note first
  abbrev pub cut_notes : StampedReader R D W N → List (CutNote D N)
  cut_notes reader = notes_of reader.cuts

  -- From old to new it read some bytes, and its stamps are the reads of them.
  abbrev pub HasStampedReads : (R → Option (List ℕ)) → StampedReader R D W N
      → StampedReader R D W N → Type 0
  HasStampedReads remaining old new =
      (bytes : List ℕ) × Consumes (remaining (counted_of old).inner)
      (remaining (counted_of new).inner) bytes × AreTheReads (stamps_of new) (length bytes)

  -- it made no read yet, and no call failed
  pub record IsFresh (reader : StampedReader R D W N) : Type 0 where
    pub well : reader.reader.failures ≡ 0
    pub none_given : reader.given ≡ 0
    pub none_made : reader.stamps.items ≡ []
