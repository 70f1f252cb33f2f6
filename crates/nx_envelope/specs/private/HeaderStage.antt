-- How far a header has come at the end of a text.
use Rattle.std.specs.Prelude.{◌≡◌, ℕ, Bool, true, false, Option, Some, None, List}
use Rattle.nx_envelope.specs.private.Backward.{spaces_back, station_back, subject_back, tens_back}
use Rattle.nx_envelope.specs.declared.digit.Digit.{Digit}
use Rattle.nx_envelope.specs.declared.letter.Letter.{Letter}
use Rattle.nx_envelope.specs.declared.header_stage.HeaderStage.{HeaderStage}
use Rattle.nx_envelope.specs.declared.header_stage.HeaderStage.TheVariants.{Nowhere, Spaces, Station, Subject, Tens}

abbrev pub is_spaces : HeaderStage → Bool
is_spaces Nowhere = false
is_spaces Spaces = true
is_spaces (Station b1) = false
is_spaces (Subject b1 b2) = false
is_spaces (Tens b1 b2 tens) = false

abbrev pub station_in : HeaderStage → Option Letter
station_in Nowhere = None
station_in Spaces = None
station_in (Station b1) = Some b1
station_in (Subject b1 b2) = None
station_in (Tens b1 b2 tens) = None

abbrev pub subject_in : HeaderStage → Option (Letter × Letter)
subject_in Nowhere = None
subject_in Spaces = None
subject_in (Station b1) = None
subject_in (Subject b1 b2) = Some (b1, b2)
subject_in (Tens b1 b2 tens) = None

abbrev pub tens_in : HeaderStage → Option ((Letter × Letter) × Digit)
tens_in Nowhere = None
tens_in Spaces = None
tens_in (Station b1) = None
tens_in (Subject b1 b2) = None
tens_in (Tens b1 b2 tens) = Some ((b1, b2), tens)

-- the stage is what the text, read from its end, ends with of a header
pub record IsStageOf (stage : HeaderStage) (back : List ℕ) : Type 0 where
  pub spaces : spaces_back back ≡ is_spaces stage
  pub station : station_back back ≡ station_in stage
  pub subject : subject_back back ≡ subject_in stage
  pub tens : tens_back back ≡ tens_in stage
