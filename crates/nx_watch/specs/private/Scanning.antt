-- How a scanner of any bytes stands.
use Rattle.std.specs.Prelude.{◌≡◌, ℕ, ◌<◌, ◌≤◌, Bool, true, false, List, [], ◌∷◌, ◌++◌}
use Rattle.std.specs.Prelude.{length, map, take, slice_index, Option, Some, None, option_to_list, ⊤}
use Rattle.nx_code.specs.Reading.{newline}
use Rattle.nx_fec.specs.air_files.AirFile.{IsNoLine, Line}
use Rattle.nx_fec.specs.air_files.Lines.{Scans, max_line_bytes}
use Rattle.nx_fec.specs.declared.fault.LineFault.{LineFault}
use Rattle.nx_fec.specs.declared.fault.LineFault.TheVariants as file
use Rattle.nx_fec.specs.declared.fault.LineFault.TheVariants.{LineLong, LineCut, BadLine}
use Rattle.nx_watch.specs.Acting.{most_bytes}
use Rattle.nx_watch.specs.AnyLines.{AreLines, HasNoLineEnd, cut_line}
use Rattle.nx_watch.specs.LinesTold.{IsReason}
use Rattle.nx_watch.specs.declared.lines.any_scanner.AnyScanner.{AnyScanner}
use Rattle.nx_watch.specs.declared.lines.any_scanner.Ended.{Ended}
use Rattle.nx_watch.specs.declared.lines.any_scanner.Ended.TheVariants.{Nothing, Line as ALine, Unknown}
use Rattle.nx_watch.specs.declared.lines.no_effect.NoEffect.{NoEffect}
use Rattle.nx_watch.specs.declared.lines.no_effect.NoEffect.TheVariants.{NoLine, TooLong, NoEnd}

-- the lines that were ended
abbrev pub lines_ended : Ended → Option Line → List (Option Line)
lines_ended Nothing latest = []
lines_ended ALine latest = map Some (option_to_list latest)
lines_ended (Unknown why) latest = None ∷ []

-- where a line of an air file was ended, this holds
abbrev pub OnLine : Ended → Type 0 → Type 0
OnLine Nothing P = ⊤
OnLine ALine P = P
OnLine (Unknown why) P = ⊤

-- where a line that isn't understood was ended, behind these lines of the bytes, it has no effect
-- for the reason that is said, whatever comes behind these
abbrev pub OnUnknown : Ended → List ℕ → List (Option Line) → Type 0
OnUnknown Nothing bytes lines = ⊤
OnUnknown ALine bytes lines = ⊤
OnUnknown (Unknown why) bytes lines =
    (more : List ℕ) → IsReason (bytes ++ more) lines None why

-- these bytes behind those that the scanner took are passed over: the open line is too long
abbrev pub ArePassed : Bool → List ℕ → List ℕ → Type 0
ArePassed false since passed = passed ≡ []
ArePassed true since passed = (since ≡ []) × HasNoLineEnd passed × (max_line_bytes < length passed)

-- The bytes ended these lines: those before the inner scanner began, and those that it scanned.
pub record IsScanning (now : AnyScanner) (bytes : List ℕ) (lines : List (Option Line))
    : Type 0 where
  pub before : List ℕ
  pub earlier : List (Option Line)
  pub whole : AreLines before earlier []
  pub since : List ℕ
  pub found : List Line
  pub scans : Scans most_bytes now.scanner since found
  pub passed : List ℕ
  pub over : ArePassed now.is_passing since passed
  pub bytes_are : bytes ≡ (before ++ since) ++ passed
  pub lines_are : lines ≡ earlier ++ map Some found

-- why a line has no effect at which a scanner stopped
abbrev pub reason_of_fault : LineFault → NoEffect
reason_of_fault (BadLine line) = NoLine
reason_of_fault (LineCut line) = NoEnd
reason_of_fault (LineLong line) = TooLong
reason_of_fault file.TooLong = TooLong

-- for this reason a line of this text has no effect that isn't understood and has its end
abbrev pub IsForText : NoEffect → List ℕ → Type 0
IsForText NoLine text = length text ≤ max_line_bytes
IsForText TooLong text = max_line_bytes < length text
IsForText why text = ⊥

-- The open line of these bytes isn't understood, wherever in the piece it ends, for this reason;
-- and where it doesn't end there, it is too long.
pub record IsPassedOver (why : NoEffect) (part piece : List ℕ) : Type 0 where
  pub line : (at : ℕ) → at < length piece → slice_index piece at ≡ newline
      → HasNoLineEnd (take at piece)
      → IsNoLine (part ++ take at piece) × IsForText why (part ++ take at piece)
  pub long : HasNoLineEnd piece → max_line_bytes < length (part ++ piece)

-- the lines that an end cuts
abbrev pub lines_cut : Option NoEffect → List (Option Line)
lines_cut None = []
lines_cut (Some why) = None ∷ []

-- the line that the end of the bytes cuts behind these has no effect for this reason
abbrev pub IsReasonOfCut : List ℕ → List (Option Line) → Option NoEffect → Type 0
IsReasonOfCut bytes lines None = ⊤
IsReasonOfCut bytes lines (Some why) = IsReason bytes lines None why

-- The bytes are these lines, and a line is open, which has no effect for this reason, or none is.
pub record CutsAs (why : Option NoEffect) (bytes : List ℕ) (lines : List (Option Line)) : Type 0
  where
    pub rest : List ℕ
    pub are : AreLines bytes lines rest
    pub cut : cut_line rest ≡ lines_cut why
    pub reason : IsReasonOfCut bytes lines why
