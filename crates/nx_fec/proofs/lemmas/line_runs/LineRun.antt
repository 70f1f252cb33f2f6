-- A run over lines, step by step.
use Rattle.std.proofs.Common.{◌≡◌, ℕ, ◌<◌, ◌≤◌, length, take, drop}
use Rattle.std.proofs.Common.{◌⊎◌, inl, inr, Option}
use Rattle.std.proofs.Common.{List, [], ◌∷◌, ◌++◌, sym, ap, ◌∙◌, subst, append_assoc}
use Rattle.std.proofs.Common.{append-nil, arith}
use Rattle.std.specs.Io.KnownBytes.{Appends}
use Rattle.std.proofs.lemmas.List.{length-append}
use Rattle.std.proofs.lemmas.List.Concat.{flat_map-append}
use Rattle.nx_fec.specs.air_files.AirFile.{Line, spelling}
use Rattle.nx_fec.specs.Transfers.{HasWritten}
use Rattle.nx_fec.specs.air_files.Lines.{IsAtByte, IsCause, Scanning, Scans, StopsIn, file_of}
use Rattle.nx_fec.specs.air_files.Lines.{StopsAt, line_bytes}
use Rattle.nx_fec.specs.air_files.LineRuns.{HasGiven}
use Rattle.nx_fec.specs.private.LineRuns.{HasTaken}
use Rattle.nx_fec.specs.air_files.LineRuns.{IsCutOnlyAtEnd}
use Rattle.nx_fec.specs.air_files.LineRuns.{Waiting}
use Rattle.nx_fec.specs.private.LineRuns.{TakerRelation}
use Rattle.nx_fec.specs.declared.fault.LineFault.{LineFault}
use Rattle.nx_fec.specs.declared.fault.LineFault.TheVariants.{TooLong, LineLong, LineCut, BadLine}
use Rattle.nx_fec.proofs.lemmas.devices.Piece.{piece-parts}
use Rattle.nx_fec.proofs.lemmas.lines.ReadingLaws.{IsCause-more}

pub IsCutOnlyAtEnd-at_byte : (AtEnd : Type 0) (why : LineFault) → IsAtByte why
    → IsCutOnlyAtEnd AtEnd why
IsCutOnlyAtEnd-at_byte AtEnd TooLong at = tt
IsCutOnlyAtEnd-at_byte AtEnd (LineLong line) at = tt
IsCutOnlyAtEnd-at_byte AtEnd (LineCut line) at = absurd at
IsCutOnlyAtEnd-at_byte AtEnd (BadLine line) at = tt

-- the file of one line more
pub file_of-one : (lines : List Line) (line : Line)
    → file_of (lines ++ line ∷ []) ≡ file_of lines ++ line_bytes line
file_of-one lines line = flat_map-append line_bytes lines (line ∷ [])
    ∙ ap (λ l. file_of lines ++ l) (append-nil (line_bytes line))

-- the bytes of a piece that a run still has to take, after those that the scanner took
whole-after : (limit : ℕ) (s : Scanning) (bytes piece more : List ℕ) (count : ℕ) (lines : List Line)
    → Scans limit s (bytes ++ take count piece) lines
    → (bytes ++ piece) ++ more ≡ (file_of lines ++ s.part) ++ (drop count piece ++ more)
whole-after limit s bytes piece more count lines scans =
    piece-parts bytes piece more count
    ∙ ap (λ l. l ++ (drop count piece ++ more)) scans.splits.whole

-- a cause in the next piece
pub StopsAt-cause : (limit : ℕ) (s : Scanning) (bytes piece : List ℕ) (lines : List Line)
    (why : LineFault) (P : List Line → Type 0) → StopsIn limit s bytes piece lines why → P lines
    → (more : List ℕ) → StopsAt ((bytes ++ piece) ++ more)
    (λ lines rest more. IsCause limit (length (file_of lines ++ rest)) lines rest more why
    × P lines)
StopsAt-cause limit s bytes piece lines why P stops here more = record {
  lines = lines;
  rest = s.part;
  more = drop stops.count piece ++ more;
  whole = whole-after limit s bytes piece more stops.count lines stops.scans;
  each = stops.scans.splits.each;
  part = stops.scans.splits.part;
  here = (
    subst (λ l. IsCause limit (length l) lines s.part (drop stops.count piece ++ more) why)
        stops.scans.splits.whole (stops.cause more),
    here,
  );
}

-- the scanner stands so after bytes, of which any more may follow
pub StopsAt-scans : (limit : ℕ) (s : Scanning) (bytes more : List ℕ) (lines : List Line)
    (P : List Line → List ℕ → List ℕ → Type 0) → Scans limit s bytes lines → P lines s.part more
    → StopsAt (bytes ++ more) P
StopsAt-scans limit s bytes more lines P scans here = record {
  lines = lines;
  rest = s.part;
  more = more;
  whole = ap (λ l. l ++ more) scans.splits.whole;
  each = scans.splits.each;
  part = scans.splits.part;
  here = here;
}

-- or none
pub StopsAt-end : (limit : ℕ) (s : Scanning) (bytes : List ℕ) (lines : List Line)
    (P : List Line → List ℕ → List ℕ → Type 0) → Scans limit s bytes lines → P lines s.part []
    → StopsAt bytes P
StopsAt-end limit s bytes lines P scans here =
    subst (λ l. StopsAt l P) (append-nil bytes) (StopsAt-scans limit s bytes [] lines P scans here)

pub scanned-within : (limit : ℕ) (s : Scanning) (bytes : List ℕ) (lines : List Line)
    → Scans limit s bytes lines → length (file_of lines ++ s.part) ≤ limit
scanned-within limit s bytes lines scans =
    omega (arith, scans.allowance, ap length scans.splits.whole)

pub IsCutOnlyAtEnd-end : (AtEnd : Type 0) (why : LineFault) → AtEnd → IsCutOnlyAtEnd AtEnd why
IsCutOnlyAtEnd-end AtEnd TooLong end = tt
IsCutOnlyAtEnd-end AtEnd (LineLong line) end = tt
IsCutOnlyAtEnd-end AtEnd (LineCut line) end = end
IsCutOnlyAtEnd-end AtEnd (BadLine line) end = tt

pub HasTaken-map : {T : Type 0} (stands : TakerRelation T) (first now : T) (lines : List Line)
    (P Q : List ℕ → Type 0) → ((given : List ℕ) → P given → Q given)
    → HasTaken stands first now lines P → HasTaken stands first now lines Q
HasTaken-map stands first now lines P Q f h =
    record { given = h.given; stood = h.stood; here = f h.given h.here }

-- what was given is written when the batch is empty
pub HasGiven-empty : (old new : Option (List ℕ)) (batch : Waiting) (given : List ℕ)
    → batch.bytes ≡ [] → HasGiven old new batch given → Appends old new given
HasGiven-empty old new batch given empty h =
    subst (Appends old new) (sym (h.whole ∙ ap (λ l. h.done ++ l) empty ∙ append-nil h.done))
    h.written.appended

pub HasGiven-written : (old new : Option (List ℕ)) (batch : Waiting) (given : List ℕ) (count : ℕ)
    → batch.bytes ≡ [] → count ≡ batch.sent → HasGiven old new batch given
    → HasWritten old new given count
HasGiven-written old new batch given count empty is h =
    let all : given ≡ h.done = h.whole ∙ ap (λ l. h.done ++ l) empty ∙ append-nil h.done in
    subst (λ l. HasWritten old new l count) (sym all)
    (record { counted = is ∙ h.written.counted; appended = h.written.appended })

-- the length of the last line that a scanner has ended
pub last-within : (limit : ℕ) (s : Scanning) (bytes : List ℕ) (lines : List Line) (line : Line)
    → Scans limit s bytes (lines ++ line ∷ []) → length (file_of lines ++ spelling line) < limit
last-within limit s bytes lines line scans =
    omega (
      arith,
      scans.allowance,
      ap length scans.splits.whole,
      length-append (file_of (lines ++ line ∷ [])) s.part,
      ap length (file_of-one lines line),
      length-append (file_of lines) (line_bytes line),
      length-append (spelling line) (10 ∷ []),
      length-append (file_of lines) (spelling line),
    )

-- what a run stops at, where what is said there says more
pub StopsAt-map : (bytes : List ℕ) (P Q : List Line → List ℕ → List ℕ → Type 0)
    → ((lines : List Line) (rest more : List ℕ) → P lines rest more → Q lines rest more)
    → StopsAt bytes P → StopsAt bytes Q
StopsAt-map bytes P Q f h = record {
  lines = h.lines;
  rest = h.rest;
  more = h.more;
  whole = h.whole;
  each = h.each;
  part = h.part;
  here = f h.lines h.rest h.more h.here;
}

pub StopsAt-more : (ys : List ℕ) (P Q : List Line → List ℕ → List ℕ → Type 0) (bytes : List ℕ)
    → ((lines : List Line) (rest more : List ℕ) → P lines rest more → Q lines rest (more ++ ys))
    → StopsAt bytes P → StopsAt (bytes ++ ys) Q
StopsAt-more ys P Q bytes f h = record {
  lines = h.lines;
  rest = h.rest;
  more = h.more ++ ys;
  whole = ap (λ l. l ++ ys) h.whole ∙ append_assoc (file_of h.lines ++ h.rest) h.more ys;
  each = h.each;
  part = h.part;
  here = f h.lines h.rest h.more h.here;
}

pub IsCutOnlyAtEnd-left : (ys : List ℕ) (why : LineFault) → IsCutOnlyAtEnd (ys ≡ []) why
    → IsAtByte why ⊎ (ys ≡ [])
IsCutOnlyAtEnd-left ys TooLong h = inl tt
IsCutOnlyAtEnd-left ys (LineLong line) h = inl tt
IsCutOnlyAtEnd-left ys (LineCut line) h = inr h
IsCutOnlyAtEnd-left ys (BadLine line) h = inl tt

pub IsCutOnlyAtEnd-any : (why : LineFault) → IsCutOnlyAtEnd (Unit {0}) why
IsCutOnlyAtEnd-any TooLong = tt
IsCutOnlyAtEnd-any (LineLong line) = tt
IsCutOnlyAtEnd-any (LineCut line) = tt
IsCutOnlyAtEnd-any (BadLine line) = tt

pub cause-longer : (limit front : ℕ) (lines : List Line) (rest more ys : List ℕ) (why : LineFault)
    → IsAtByte why ⊎ (ys ≡ []) → IsCause limit front lines rest more why
    → IsCause limit front lines rest (more ++ ys) why
cause-longer limit front lines rest more ys why (inl at) h =
    IsCause-more limit front lines rest more ys why at h
cause-longer limit front lines rest more ys why (inr none) h =
    subst (λ l. IsCause limit front lines rest l why)
    (sym (ap (λ l. more ++ l) none ∙ append-nil more)) h
