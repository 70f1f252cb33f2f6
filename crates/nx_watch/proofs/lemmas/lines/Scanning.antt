-- A scanner of any bytes.
use Rattle.std.proofs.Common.{◌≡◌, ◌≢◌, ℕ, ◌+◌, ◌≤◌, ◌<◌, Bool, true, false, List, []}
use Rattle.std.proofs.Common.{◌∷◌, ◌++◌, length, map, take, get_or, Option, Some, None}
use Rattle.std.proofs.Common.{option_to_list, refl, sym, ap, ◌∙◌, subst, append_assoc, append-nil}
use Rattle.std.proofs.Common.{arith, length-append, Result, Ok, Err}
use Rattle.std.specs.Option.{is_some}
use Rattle.std.specs.Prelude.{MatchResult}
use Rattle.nx_fec.specs.air_files.Scanner.{kind_kept}
use Rattle.nx_fec.specs.declared.air_files.lines.LineKind.{LineKind}
use Rattle.std.specs.Result.{is_err}
use Rattle.std.proofs.ByRecursion.{All-append}
use Rattle.std.proofs.lemmas.List.{append_cancel_left, map-append, take_all}
use Rattle.nx_fec.specs.air_files.AirFile.{Line}
use Rattle.nx_fec.specs.air_files.Lines.{IsAirFile, IsCause, Scanning, Scans, StopsIn, file_of}
use Rattle.nx_fec.specs.declared.fault.LineFault.{LineFault}
use Rattle.nx_fec.specs.declared.fault.LineFault.TheVariants.{TooLong, LineLong, LineCut, BadLine}
use Rattle.nx_watch.specs.Acting.{most_bytes}
use Rattle.nx_watch.specs.AnyLines.{AreLines, HasNoLineEnd, cut_line}
use Rattle.nx_watch.specs.LinesTold.{StandsBehind}
use Rattle.nx_watch.specs.private.Scanning.{ArePassed, CutsAs, IsPassedOver, IsScanning}
use Rattle.nx_watch.specs.private.Scanning.{reason_of_fault}
use Rattle.nx_watch.specs.declared.lines.no_effect.NoEffect.{NoEffect}
use Rattle.nx_watch.specs.declared.lines.no_effect.NoEffect.TheVariants as reason
use Rattle.nx_watch.specs.declared.lines.no_effect.NoEffect.TheVariants.{NoEnd}
use Rattle.nx_watch.specs.declared.lines.any_scanner.AnyScanner.{AnyScanner}
use Rattle.nx_watch.proofs.lemmas.lines.AnyLine.{AreLines-append, AreLines-bad, AreLines-ended}
use Rattle.nx_watch.proofs.lemmas.lines.AnyLine.{AreLines-part, passed-long, passed-stop, with-end}

-- ---- a scanner before the first byte

pub fresh-stands : (now : AnyScanner) → Scans most_bytes now.scanner [] [] → now.is_passing ≡ false
    → (before : List ℕ) (lines : List (Option Line)) → AreLines before lines []
    → IsScanning now before lines
fresh-stands now scans idle before lines are = record {
  before = before;
  earlier = lines;
  whole = are;
  since = [];
  found = [];
  scans = scans;
  passed = [];
  over = subst (λ b. ArePassed b [] []) (sym idle) refl;
  bytes_are = sym (append-nil (before ++ []) ∙ append-nil before);
  lines_are = sym (append-nil lines);
}

-- ---- what stands behind the lines that were ended

none-passed : (b : Bool) (since passed : List ℕ) → ArePassed b since passed → HasNoLineEnd passed
none-passed false since passed h = subst HasNoLineEnd (sym h) tt
none-passed true since passed h = h.1

pub record Parts (now : AnyScanner) (bytes : List ℕ) (lines : List (Option Line)) (passed : List ℕ)
    : Type 0 where
  pub front : List ℕ
  pub are : AreLines front lines []
  pub whole : bytes ≡ front ++ (now.scanner.part ++ passed)
  pub none : HasNoLineEnd (now.scanner.part ++ passed)

pub parts : (now : AnyScanner) (bytes : List ℕ) (lines : List (Option Line))
    → (h : IsScanning now bytes lines) → Parts now bytes lines h.passed
parts now bytes lines h = record {
  front = h.before ++ file_of h.found;
  are = subst (λ l. AreLines (h.before ++ file_of h.found) l []) (sym h.lines_are)
      (AreLines-append h.before (file_of h.found) h.earlier (map Some h.found) [] h.whole
      (AreLines-ended most_bytes now.scanner h.since h.found h.scans));
  whole = h.bytes_are
      ∙ ap (λ l. (h.before ++ l) ++ h.passed) h.scans.splits.whole
      ∙ ap (λ l. l ++ h.passed) (sym (append_assoc h.before (file_of h.found) now.scanner.part))
      ∙ append_assoc (h.before ++ file_of h.found) now.scanner.part h.passed;
  none = All-append (λ byte. byte ≢ 10) now.scanner.part h.passed h.scans.splits.part.none
      (none-passed now.is_passing h.since h.passed h.over);
}

pub Parts-lines : (now : AnyScanner) (bytes : List ℕ) (lines : List (Option Line))
    (passed : List ℕ) → Parts now bytes lines passed
    → AreLines bytes lines (now.scanner.part ++ passed)
Parts-lines now bytes lines passed p =
    subst (λ l. AreLines l lines (now.scanner.part ++ passed)) (sym p.whole)
    (subst (λ l. AreLines (p.front ++ (now.scanner.part ++ passed)) l (now.scanner.part ++ passed))
    (append-nil lines)
    (AreLines-append p.front (now.scanner.part ++ passed) lines [] (now.scanner.part ++ passed)
    p.are (AreLines-part (now.scanner.part ++ passed) p.none)))

-- ---- the end of the bytes

cut-some : (rest : List ℕ) → 0 < length rest → cut_line rest ≡ None ∷ []
cut-some [] h = absurd (omega arith)
cut-some (b ∷ rest) h = refl

-- the line that is open
open-line : (now : AnyScanner) (bytes : List ℕ) (lines : List (Option Line)) (passed : List ℕ)
    → Parts now bytes lines passed → StandsBehind bytes lines (now.scanner.part ++ passed) []
open-line now bytes lines passed p = record {
  front = p.front;
  are = p.are;
  unended = p.none;
  whole = p.whole ∙ ap (λ l. p.front ++ l) (sym (append-nil (now.scanner.part ++ passed)));
}

pub cuts-passing : (now : AnyScanner) (bytes : List ℕ) (lines : List (Option Line))
    → now.is_passing ≡ true → IsScanning now bytes lines → CutsAs (Some reason.TooLong) bytes lines
cuts-passing now bytes lines passing h =
    let over = subst (λ b. ArePassed b h.since h.passed) passing h.over in
    let p = parts now bytes lines h in
    let rest = now.scanner.part ++ h.passed in
    record {
      rest = rest;
      are = Parts-lines now bytes lines h.passed p;
      cut = cut-some rest (omega (arith, over.2, length-append now.scanner.part h.passed));
      reason = (
        rest,
        [],
        open-line now bytes lines h.passed p,
        omega (arith, over.2, length-append now.scanner.part h.passed),
      );
    }

not-passing : (now : AnyScanner) (bytes : List ℕ) (lines : List (Option Line))
    → now.is_passing ≡ false → (h : IsScanning now bytes lines) → h.passed ≡ []
not-passing now bytes lines idle h = subst (λ b. ArePassed b h.since h.passed) idle h.over

cuts-open : (now : AnyScanner) (bytes : List ℕ) (lines : List (Option Line)) (why : LineFault)
    → now.is_passing ≡ false → IsScanning now bytes lines
    → ((limit : ℕ) (since : List ℕ) (found : List Line) → Scans limit now.scanner since found
    → IsCause limit (length since) found now.scanner.part [] why)
    → CutsAs (Some NoEnd) bytes lines
cuts-open now bytes lines why idle h end =
    let p = parts now bytes lines h in
    let rest = now.scanner.part ++ h.passed in
    record {
      rest = rest;
      are = Parts-lines now bytes lines h.passed p;
      cut = cut-some rest (omega (
        arith,
        cut-cause (length h.since) h.found now.scanner.part why
            (end most_bytes h.since h.found h.scans),
        length-append now.scanner.part h.passed,
      ));
      reason = (
        rest,
        open-line now bytes lines h.passed p,
        omega (
          arith,
          h.scans.splits.part.short,
          ap length (not-passing now bytes lines idle h),
          length-append now.scanner.part h.passed,
        ),
      );
    }
  where
    cut-cause : (front : ℕ) (found : List Line) (part : List ℕ) (why : LineFault)
        → IsCause most_bytes front found part [] why → 0 < length part
    cut-cause front found part TooLong c = absurd c
    cut-cause front found part (LineLong line) c = absurd c
    cut-cause front found part (LineCut line) c = c.1
    cut-cause front found part (BadLine line) c = absurd c

cuts-none : (now : AnyScanner) (bytes : List ℕ) (lines : List (Option Line))
    → now.is_passing ≡ false → IsScanning now bytes lines
    → ((limit : ℕ) (since : List ℕ) (found : List Line) → Scans limit now.scanner since found
    → IsAirFile limit since found)
    → CutsAs None bytes lines
cuts-none now bytes lines idle h end =
    let none : now.scanner.part ≡ [] = append_cancel_left (file_of h.found) now.scanner.part []
    (sym h.scans.splits.whole ∙ (end most_bytes h.since h.found h.scans).whole
    ∙ sym (append-nil (file_of h.found))) in
    let empty : now.scanner.part ++ h.passed ≡ [] =
    ap (λ l. l ++ h.passed) none ∙ not-passing now bytes lines idle h in
    record {
      rest = [];
      are = subst (λ l. AreLines bytes lines l) empty
          (Parts-lines now bytes lines h.passed (parts now bytes lines h));
      cut = refl;
      reason = tt;
    }

-- ---- more bytes

-- the inner scanner took them
pub on-scanned : (old new : AnyScanner) (bytes more : List ℕ) (lines : List (Option Line))
    (latest : Option Line)
    → old.is_passing ≡ false → new.is_passing ≡ false → IsScanning old bytes lines
    → ((since : List ℕ) (found : List Line) → Scans most_bytes old.scanner since found
    → Scans most_bytes new.scanner (since ++ more) (found ++ option_to_list latest))
    → IsScanning new (bytes ++ more) (lines ++ map Some (option_to_list latest))
on-scanned old new bytes more lines latest idle still h taken =
    let none = not-passing old bytes lines idle h in
    record {
      before = h.before;
      earlier = h.earlier;
      whole = h.whole;
      since = h.since ++ more;
      found = h.found ++ option_to_list latest;
      scans = taken h.since h.found h.scans;
      passed = [];
      over = subst (λ b. ArePassed b (h.since ++ more) []) (sym still) refl;
      bytes_are = ap (λ l. l ++ more) (h.bytes_are
          ∙ ap (λ l. (h.before ++ h.since) ++ l) none ∙ append-nil (h.before ++ h.since))
          ∙ append_assoc h.before h.since more
          ∙ sym (append-nil (h.before ++ (h.since ++ more)));
      lines_are = ap (λ l. l ++ map Some (option_to_list latest)) h.lines_are
          ∙ append_assoc h.earlier (map Some h.found) (map Some (option_to_list latest))
          ∙ ap (λ l. h.earlier ++ l) (sym (map-append Some h.found (option_to_list latest)));
    }

-- the open line is passed over: it is too long already
pub on-passing : (old : AnyScanner) (bytes more piece : List ℕ) (lines : List (Option Line))
    (Holds : List ℕ → List (Option Line) → Type 0)
    → old.is_passing ≡ true → IsScanning old bytes lines
    → ((before : List ℕ) (lines : List (Option Line)) (part : List ℕ)
    → AreLines before lines [] → HasNoLineEnd part → IsPassedOver reason.TooLong part piece
    → Holds ((before ++ part) ++ more) lines)
    → Holds (bytes ++ more) lines
on-passing old bytes more piece lines Holds passing h pass =
    let p = parts old bytes lines h in
    let over = subst (λ b. ArePassed b h.since h.passed) passing h.over in
    let part = old.scanner.part ++ h.passed in
    subst (λ l. Holds (l ++ more) lines) (sym p.whole)
    (pass p.front lines part p.are p.none (passed-long part piece
    (omega (arith, over.2, length-append old.scanner.part h.passed))))

-- or the inner scanner stopped in the piece
pub on-stopped : (old : AnyScanner) (t : Scanning) (bytes more piece : List ℕ)
    (lines : List (Option Line)) (fault : LineFault) (why : NoEffect)
    (Holds : List ℕ → List (Option Line) → Type 0)
    → why ≡ reason_of_fault fault
    → old.is_passing ≡ false → length piece ≤ old.scanner.allowance → IsScanning old bytes lines
    → ((limit : ℕ) (since : List ℕ) (found : List Line) → Scans limit old.scanner since found
    → StopsIn limit t since piece found fault)
    → ((before : List ℕ) (lines : List (Option Line)) (part : List ℕ)
    → AreLines before lines [] → HasNoLineEnd part → IsPassedOver why part piece
    → Holds ((before ++ part) ++ more) lines)
    → Holds (bytes ++ more) lines
on-stopped old t bytes more piece lines fault why Holds is idle room h stop pass =
    let p = parts old bytes lines h in
    let only : old.scanner.part ++ h.passed ≡ old.scanner.part =
    ap (λ l. old.scanner.part ++ l) (not-passing old bytes lines idle h)
    ∙ append-nil old.scanner.part in
    subst (λ l. Holds (l ++ more) lines)
    (sym (p.whole ∙ ap (λ l. p.front ++ l) only))
    (pass p.front lines old.scanner.part p.are h.scans.splits.part.none
    (subst (λ r. IsPassedOver r old.scanner.part piece) (sym is)
    (passed-stop most_bytes old.scanner t h.since piece h.found fault room h.scans
    (stop most_bytes h.since h.found h.scans))))

-- ---- bytes that are passed over

-- up to the end of the line
pub over-ended : (now : AnyScanner) (piece : List ℕ) (at : ℕ) (before : List ℕ)
    (lines : List (Option Line)) (part : List ℕ)
    → Scans most_bytes now.scanner [] [] → now.is_passing ≡ false
    → at < length piece → get_or piece at 0 ≡ 10 → HasNoLineEnd (take at piece)
    → AreLines before lines [] → HasNoLineEnd part → (why : NoEffect) → IsPassedOver why part piece
    → IsScanning now ((before ++ part) ++ take (at + 1) piece) (lines ++ None ∷ [])
over-ended now piece at before lines part scans idle within feed none are open' why over =
    let text = part ++ take at piece in
    fresh-stands now scans idle _ _
    (subst (λ l. AreLines l (lines ++ None ∷ []) []) (with-end before part piece at within feed)
    (AreLines-append before (text ++ 10 ∷ []) lines (None ∷ []) [] are
    (AreLines-bad text (All-append (λ byte. byte ≢ 10) part (take at piece) open' none)
    (over.line at within feed none).0)))

-- all of them
pub over-all : (now : AnyScanner) (piece : List ℕ) (before : List ℕ) (lines : List (Option Line))
    (part : List ℕ)
    → Scans most_bytes now.scanner [] [] → now.is_passing ≡ true
    → HasNoLineEnd (take (length piece) piece)
    → AreLines before lines [] → HasNoLineEnd part → (why : NoEffect) → IsPassedOver why part piece
    → IsScanning now ((before ++ part) ++ take (length piece) piece) (lines ++ [])
over-all now piece before lines part scans passing none are open' why over =
    let all : take (length piece) piece ≡ piece = take_all (length piece) piece (omega arith) in
    let none' = subst HasNoLineEnd all none in
    record {
      before = before;
      earlier = lines;
      whole = are;
      since = [];
      found = [];
      scans = scans;
      passed = part ++ piece;
      over = subst (λ b. ArePassed b [] (part ++ piece)) (sym passing)
          (refl, All-append (λ byte. byte ≢ 10) part piece open' none', over.long none');
      bytes_are = ap (λ l. (before ++ part) ++ l) all
          ∙ append_assoc before part piece
          ∙ ap (λ l. l ++ (part ++ piece)) (sym (append-nil before));
      lines_are = refl;
    }

-- ---- what a scanner answered

pub no-latest : (latest : Option Line) (kind : Option LineKind) → is_some kind ≡ false
    → kind ≡ kind_kept latest → latest ≡ None
no-latest None kind h e = refl
no-latest (Some line) kind h e = let both : true ≡ false = ap is_some (sym e) ∙ h in cc

pub ended-none : (now : AnyScanner) (bytes : List ℕ) (lines : List (Option Line))
    (latest : Option Line) → latest ≡ None
    → IsScanning now bytes (lines ++ map Some (option_to_list latest))
    → IsScanning now bytes (lines ++ [])
ended-none now bytes lines latest none h =
    subst (λ l. IsScanning now bytes (lines ++ map Some (option_to_list l))) none h

-- the inner scanner has a line open
pub cuts-err : {N : Type 0} (now : AnyScanner) (bytes : List ℕ) (lines : List (Option Line))
    (end : Result N LineFault) → is_err end ≡ true
    → now.is_passing ≡ false → IsScanning now bytes lines
    → ((limit : ℕ) (since : List ℕ) (found : List Line) → Scans limit now.scanner since found
    → MatchResult end (λ _. IsAirFile limit since found)
    (λ why. IsCause limit (length since) found now.scanner.part [] why))
    → CutsAs (Some NoEnd) bytes lines
cuts-err now bytes lines (Ok v) is idle h end = let both : false ≡ true = is in cc
cuts-err now bytes lines (Err why) is idle h end = cuts-open now bytes lines why idle h end

-- or none
pub cuts-ok : {N : Type 0} (now : AnyScanner) (bytes : List ℕ) (lines : List (Option Line))
    (end : Result N LineFault) → is_err end ≡ false
    → now.is_passing ≡ false → IsScanning now bytes lines
    → ((limit : ℕ) (since : List ℕ) (found : List Line) → Scans limit now.scanner since found
    → MatchResult end (λ _. IsAirFile limit since found)
    (λ why. IsCause limit (length since) found now.scanner.part [] why))
    → CutsAs None bytes lines
cuts-ok now bytes lines (Ok v) is idle h end = cuts-none now bytes lines idle h end
cuts-ok now bytes lines (Err why) is idle h end = let both : true ≡ false = is in cc
