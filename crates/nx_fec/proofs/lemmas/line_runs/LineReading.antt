-- A reader of lines, step by step.
use Rattle.std.proofs.Common.{◌≡◌, ◌∙◌, Bool, ℕ, ◌<◌, ◌≤◌, true, false, length, take, drop, Option, None, Some}
use Rattle.std.proofs.Common.{List, [], ◌∷◌, ◌++◌, refl, sym, ap, subst, append_assoc, append-nil}
use Rattle.std.proofs.Common.{option_to_list, take-append-drop, if◌then◌else◌, arith, ◌≢◌, ◌↔◌}
use Rattle.std.proofs.Common.{Result, Ok, Err, IsErrOf}
use Rattle.std.proofs.lemmas.List.{drop_all}
use Rattle.std.specs.Io.KnownBytes.{Consumes, IsAtEnd, Keeps}
use Rattle.std.proofs.KnownBytes.{Consumes-kept}
use Rattle.nx_fec.specs.air_files.AirFile.{IsLine, Line}
use Rattle.nx_fec.specs.air_files.Lines.{IsAtByte, IsCause, Scanning, Scans, StopsIn}
use Rattle.nx_fec.specs.air_files.LineReading.{GivesNext, HasFirstFault, HasGivenLines, HasPassed}
use Rattle.nx_fec.specs.air_files.LineReading.{LeavesFewer, SaysLatest, SaysOver, answers_left, counted_of}
use Rattle.nx_fec.specs.air_files.LineReading.{is_over, latest_of}
use Rattle.nx_fec.specs.air_files.Scanner.{kind_kept, kind_of}
use Rattle.nx_fec.specs.declared.air_files.lines.LineKind.{LineKind}
use Rattle.nx_fec.specs.declared.air_files.line_reader.LineReader.{LineReader}
use Rattle.nx_fec.specs.declared.air_files.line_reader.NextLine.{NextLine}
use Rattle.nx_fec.specs.declared.air_files.line_reader.NextLine.TheVariants as next
use Rattle.nx_fec.specs.declared.fault.AirFault.{AirFault}
use Rattle.nx_fec.specs.declared.fault.AirFault.TheVariants as air
use Rattle.nx_fec.specs.declared.fault.LineFault.{LineFault}
use Rattle.nx_fec.proofs.lemmas.line_runs.LineRun.{IsCutOnlyAtEnd-at_byte, IsCutOnlyAtEnd-end, StopsAt-cause}
use Rattle.nx_fec.proofs.lemmas.line_runs.LineRun.{StopsAt-end}
use Rattle.nx_fec.proofs.lemmas.lines.ReadingLaws.{Scans-faultless}

-- the line that was ended, by its kind
pub record IsEnded (limit : ℕ) (s : Scanning) (bytes : List ℕ) (lines : List Line)
    (latest : Option Line) : Type 0 where
  pub line : Line
  pub is : latest ≡ Some line
  pub scans : Scans limit s bytes (lines ++ line ∷ [])

pub ended-line : (limit : ℕ) (s : Scanning) (bytes : List ℕ) (lines : List Line)
    (latest : Option Line) (kind : LineKind) → Some kind ≡ kind_kept latest
    → Scans limit s bytes (lines ++ option_to_list latest) → IsEnded limit s bytes lines latest
ended-line limit s bytes lines None kind is scans = absurd (cc)
ended-line limit s bytes lines (Some line) kind is scans =
    record { line = line; is = refl; scans = scans }

-- or none was
pub ended-none : (limit : ℕ) (s : Scanning) (bytes : List ℕ) (lines : List Line)
    (latest : Option Line) → ◌≡◌ {A = Option LineKind} None (kind_kept latest)
    → Scans limit s bytes (lines ++ option_to_list latest) → Scans limit s bytes lines
ended-none limit s bytes lines None none scans =
    subst (Scans limit s bytes) (append-nil lines) scans
ended-none limit s bytes lines (Some line) none scans = absurd (cc)

pub no-latest : (latest : Option Line) → ◌≡◌ {A = Option LineKind} None (kind_kept latest)
    → latest ≡ None
no-latest None none = refl
no-latest (Some line) none = absurd (cc)

module _ {R : Type 0} (remaining : R → Option (List ℕ)) (limit : ℕ) (first : Option (List ℕ)) where
  -- the next bytes of the piece were looked at
  pub looked-on : (old new : LineReader R) (lines all : List Line) (piece : List ℕ) (count : ℕ)
      → new.reader.now ≡ old.reader.now → piece ≡ old.piece → new.piece ≡ drop count old.piece
      → (h : HasGivenLines remaining limit first old lines)
      → Scans limit new.scanner (h.looked_at ++ take count piece) all
      → (new.is_over ≡ true → new.piece ≡ []) → HasGivenLines remaining limit first new all
  looked-on old new lines all piece count same is rest h scans spent = record {
    looked_at = h.looked_at ++ take count old.piece;
    scans = subst (λ l. Scans limit new.scanner (h.looked_at ++ take count l) all) is scans;
    consumed = subst (λ l. Consumes first (remaining new.reader.now.inner) l)
        (ap (λ l. h.looked_at ++ l) (sym (take-append-drop count old.piece))
        ∙ sym (append_assoc h.looked_at (take count old.piece) (drop count old.piece))
        ∙ ap (λ l. (h.looked_at ++ take count old.piece) ++ l) (sym rest))
        (subst (λ r. Consumes first (remaining r.inner) (h.looked_at ++ old.piece)) (sym same)
        h.consumed);
    spent = spent;
  }

  -- the piece has a fault
  pub piece-fault : (old new : LineReader R) (lines : List Line) (piece : List ℕ) (why : LineFault)
      → new.reader.now ≡ old.reader.now → piece ≡ old.piece
      → (h : HasGivenLines remaining limit first old lines)
      → IsAtByte why → StopsIn limit new.scanner h.looked_at piece lines why
      → HasFirstFault remaining limit first new lines why
  piece-fault old new lines piece why same is h at_byte stops = record {
    bytes = (h.looked_at ++ old.piece) ++ [];
    consumed = subst (λ r. Consumes first (remaining r.inner) ((h.looked_at ++ old.piece) ++ []))
        (sym same)
        (subst (λ l. Consumes first (remaining old.reader.now.inner) l)
        (sym (append-nil (h.looked_at ++ old.piece))) h.consumed);
    cut_only_at_end = IsCutOnlyAtEnd-at_byte _ why at_byte;
    stops = StopsAt-cause limit new.scanner h.looked_at old.piece lines why
        (λ before. before ≡ lines)
        (subst (λ l. StopsIn limit new.scanner h.looked_at l lines why) is stops) refl [];
  }

  -- all bytes were looked at
  pub looked-all : (reader : LineReader R) (lines : List Line)
      → (h : HasGivenLines remaining limit first reader lines) → reader.piece ≡ []
      → Consumes first (remaining reader.reader.now.inner) h.looked_at
  looked-all reader lines h none =
      subst (λ l. Consumes first (remaining reader.reader.now.inner) l)
      (ap (λ l. h.looked_at ++ l) none ∙ append-nil h.looked_at) h.consumed

  -- the end of the file cuts its last line
  pub end-fault : (old new : LineReader R) (lines : List Line) (why : LineFault)
      → Keeps (remaining old.reader.now.inner) (remaining new.reader.now.inner)
      → IsAtEnd (remaining new.reader.now.inner) → old.piece ≡ []
      → (h : HasGivenLines remaining limit first old lines)
      → IsCause limit (length h.looked_at) lines old.scanner.part [] why
      → HasFirstFault remaining limit first new lines why
  end-fault old new lines why keeps end none h cause = record {
    bytes = h.looked_at;
    consumed = Consumes-kept _ _ _ h.looked_at (looked-all old lines h none) keeps;
    cut_only_at_end = IsCutOnlyAtEnd-end _ why end;
    stops = StopsAt-end limit old.scanner h.looked_at lines _ h.scans (
      subst (λ l. IsCause limit (length l) lines old.scanner.part [] why) h.scans.splits.whole
          cause,
      refl,
    );
  }

  -- no fault stands in the bytes that were looked at, which are all
  pub passed-all : (reader : LineReader R) (lines : List Line)
      → HasGivenLines remaining limit first reader lines → reader.piece ≡ []
      → HasPassed remaining limit first reader
  passed-all reader lines h none = record {
    bytes = h.looked_at;
    consumed = looked-all reader lines h none;
    faultless = Scans-faultless limit reader.scanner h.looked_at lines h.scans;
  }

-- all of a piece was taken
pub taken-all : (piece rest new : List ℕ) (count : ℕ) → rest ≡ piece → count ≡ length rest
    → new ≡ drop count piece → new ≡ []
taken-all piece rest new count is all dropped =
    dropped ∙ drop_all count piece (omega (arith, all, ap length is))

-- a line that was given next, behind these
pub record IsNextLine {R : Type 0} (remaining : R → Option (List ℕ)) (limit : ℕ)
    (first : Option (List ℕ)) (reader : LineReader R) (lines : List Line) (kind : LineKind)
    : Type 0 where
  pub line : Line
  pub latest : latest_of reader ≡ Some line
  pub good : IsLine line
  pub kind_is : kind ≡ kind_of line
  pub given : HasGivenLines remaining limit first reader (lines ++ line ∷ [])

pub next-line : {R : Type 0} (remaining : R → Option (List ℕ)) (limit : ℕ)
    (first : Option (List ℕ)) (reader : LineReader R) (lines : List Line) (kind : LineKind)
    (given : NextLine) → given ≡ next.Line kind
    → GivesNext remaining limit first reader lines given → SaysLatest (latest_of reader) given
    → IsNextLine remaining limit first reader lines kind
next-line remaining limit first reader lines kind given is gives says =
    let h = subst (GivesNext remaining limit first reader lines) is gives in
    let said = subst (λ o. SaysLatest o (next.Line kind)) h.1
    (subst (SaysLatest (latest_of reader)) is says) in
    record { line = h.0; latest = h.1; good = said.0; kind_is = said.1; given = h.2 }

-- a call that failed no read counted none
pub unfailed : {N : Type 0} (failures : ℕ) (outcome : Result N AirFault)
    → (outcome ≡ Err air.Read → ⊥) → IsErrOf outcome air.Read ↔ (failures ≡ 1) → failures ≤ 1
    → failures ≡ 0
unfailed failures outcome other failed once =
    let none : failures ≢ 1 = λ one. other (failed.1 one) in omega (arith, once, none)

pub Line-not_read : {N : Type 0} (why : LineFault)
    → ◌≡◌ {A = Result N AirFault} (Err (air.Line why)) (Err air.Read) → ⊥
Line-not_read why e = cc

pub Given-not_read : {N : Type 0} (given : N)
    → ◌≡◌ {A = Result N AirFault} (Ok given) (Err air.Read) → ⊥
Given-not_read given e = cc

asked : (was : Bool) (before after : ℕ) → (was ≡ false → after ≡ before) → before ≡ 0 → after ≡ 1
    → was ≡ true
asked true before after unread none one = refl
asked false before after unread none one = absurd (omega (arith, unread refl, none, one))

-- a read failed only where all lines so far were given
pub asked-read : {R : Type 0} (old new : LineReader R)
    → (is_over old ≡ false → counted_of new ≡ counted_of old)
    → (counted_of old).failures ≡ 0 → (counted_of new).failures ≡ 1 → is_over old ≡ true
asked-read old new unread none one =
    asked (is_over old) (counted_of old).failures (counted_of new).failures
    (λ h. ap (λ r. r.failures) (unread h)) none one
