-- What a run over the lines of an air file says of its reader, by what stopped the lines.
use Rattle.std.proofs.Common.{◌≡◌, ◌∙◌, ℕ, ◌≤◌, length, Option, None, Some, IfErr, IfSome}
use Rattle.std.proofs.Common.{Result, Err, List, [], ◌∷◌, ◌++◌, refl, sym, ap, subst}
use Rattle.std.proofs.Common.{append_assoc, append-nil, arith}
use Rattle.std.specs.Io.KnownBytes.{Consumes, IsAtEnd}
use Rattle.std.proofs.lemmas.List.{length-append}
use Rattle.std.proofs.lemmas.Option.{IfSome_then}
use Rattle.nx_code.proofs.lemmas.Each.{each_left}
use Rattle.nx_fec.specs.Transfers.{Extent, Input, Reads, read_from, read_to, whole_input}
use Rattle.nx_fec.specs.air_files.AirFile.{IsLine, Line, spelling}
use Rattle.nx_fec.specs.air_files.LineReading.{HasFirstFault, HasGivenAll, HasGivenLines}
use Rattle.nx_fec.specs.air_files.LineRuns.{IsCutOnlyAtEnd}
use Rattle.nx_fec.specs.air_files.Lines.{IsAirFile, IsCause, IsLineRefused, StopsAt, file_of}
use Rattle.nx_fec.specs.declared.air_files.line_reader.LineReader.{LineReader}
use Rattle.nx_fec.specs.declared.fault.LineFault.{LineFault}
use Rattle.nx_fec.proofs.lemmas.devices.TransferLaws.{IfSome-end, IfSome-front, read_failed-none}
use Rattle.nx_fec.proofs.lemmas.line_runs.LineReading.{looked-all}
use Rattle.nx_fec.proofs.lemmas.line_runs.LineRun.{IsCutOnlyAtEnd-any, IsCutOnlyAtEnd-left, StopsAt-end}
use Rattle.nx_fec.proofs.lemmas.line_runs.LineRun.{StopsAt-more, StopsAt-scans}
use Rattle.nx_fec.proofs.lemmas.line_runs.LineRun.{cause-longer, file_of-one, last-within}
use Rattle.nx_fec.proofs.lemmas.line_runs.LineRun.{scanned-within}
use Rattle.nx_fec.proofs.lemmas.lines.LineLaws.{spelling-IsBeginning}

-- behind these lines and the beginning of one more a read failed
abbrev pub IsUnread : ℕ → List Line → Extent → List ℕ → Type 0
IsUnread limit lines extent bytes = StopsAt bytes (λ before rest more.
    (length (file_of before ++ rest) ≤ limit) × extent.is_left more × (before ≡ lines))

-- there comes this fault, which is the first
abbrev pub IsFaulty : ℕ → List Line → LineFault → Extent → List ℕ → Type 0
IsFaulty limit lines why extent bytes =
    IsCutOnlyAtEnd extent.at_end why × StopsAt bytes (λ before rest more.
    IsCause limit (length (file_of before ++ rest)) before rest more why × (before ≡ lines))

-- there comes this line, of this number
abbrev pub IsBefore : ℕ → List Line → Line → ℕ → List ℕ → Type 0
IsBefore limit lines line number bytes = StopsAt bytes (λ before rest more.
    IsLineRefused (λ front next. (front ≡ lines) × (next ≡ line)) limit before rest more number
    × (before ≡ lines))

-- there comes something
abbrev pub IsBehind : List Line → List ℕ → Type 0
IsBehind lines bytes = StopsAt bytes (λ before rest more. before ≡ lines)

-- the same of the whole file
unread-file : (limit : ℕ) (lines : List Line) (before after : Option (List ℕ)) (bytes : List ℕ)
    → Consumes before after bytes → IsUnread limit lines (read_to (IsAtEnd after)) bytes
    → IfSome before (IsUnread limit lines whole_input)
unread-file limit lines None after bytes consumed h = tt
unread-file limit lines (Some xs) None bytes consumed h = absurd consumed
unread-file limit lines (Some xs) (Some ys) bytes consumed h =
    subst (IsUnread limit lines whole_input) (sym consumed)
    (StopsAt-more ys _ _ bytes (λ before rest more k. (k.0, tt, k.2)) h)

faulty-file : (limit : ℕ) (lines : List Line) (why : LineFault) (before after : Option (List ℕ))
    (bytes : List ℕ) → Consumes before after bytes
    → IsFaulty limit lines why (read_to (IsAtEnd after)) bytes
    → IfSome before (IsFaulty limit lines why whole_input)
faulty-file limit lines why None after bytes consumed h = tt
faulty-file limit lines why (Some xs) None bytes consumed h = absurd consumed
faulty-file limit lines why (Some xs) (Some ys) bytes consumed h =
    subst (IsFaulty limit lines why whole_input) (sym consumed) (
      IsCutOnlyAtEnd-any why,
      StopsAt-more ys _ _ bytes (λ before rest more k. (
        cause-longer limit _ before rest more ys why (IsCutOnlyAtEnd-left ys why h.0) k.0,
        k.1,
      )) h.1,
    )

-- the last of the lines that a scanner ended, with what comes behind it
line-before : {R : Type 0} (remaining : R → Option (List ℕ)) (limit : ℕ)
    (first : Option (List ℕ)) (reader : LineReader R) (lines : List Line) (line : Line)
    (more : List ℕ) → IsLine line
    → (h : HasGivenLines remaining limit first reader (lines ++ line ∷ []))
    → IsBefore limit lines line reader.scanner.lines ((h.looked_at ++ reader.piece) ++ more)
line-before remaining limit first reader lines line more good h =
    let after = reader.scanner.part ++ (reader.piece ++ more) in
    record {
      lines = lines;
      rest = spelling line;
      more = 10 ∷ after;
      whole = append_assoc h.looked_at reader.piece more
          ∙ ap (λ l. l ++ (reader.piece ++ more)) h.scans.splits.whole
          ∙ append_assoc (file_of (lines ++ line ∷ [])) reader.scanner.part (reader.piece ++ more)
          ∙ ap (λ l. l ++ after) (file_of-one lines line
          ∙ sym (append_assoc (file_of lines) (spelling line) (10 ∷ [])))
          ∙ append_assoc (file_of lines ++ spelling line) (10 ∷ []) after;
      each = each_left IsLine lines (line ∷ []) h.scans.splits.each;
      part = spelling-IsBeginning line good;
      here = (
        record {
          line = line;
          after = after;
          good = good;
          spelled = refl;
          ended = refl;
          within = last-within limit reader.scanner h.looked_at lines line h.scans;
          counted = h.scans.count ∙ length-append lines (line ∷ []);
          refused = (refl, refl);
        },
        refl,
      );
    }

module _ {R N F : Type 0} (i : Input R) (read : F) (behind : F → List ℕ → Type 0)
    (outcome : Result N F) (answers : Extent → List ℕ → Type 0) (limit : ℕ) (reader : LineReader R)
    (same : reader.reader.now ≡ i.reader_after) (lines : List Line)
  where
    abbrev before : Option (List ℕ)
    before = i.remaining i.reader.inner

    abbrev after : Option (List ℕ)
    after = i.remaining i.reader_after.inner

    abbrev IsClean : Type 0
    IsClean = (bytes : List ℕ) → IfErr outcome (λ fault. behind fault bytes)

    took : (bytes : List ℕ) → Consumes before (i.remaining reader.reader.now.inner) bytes
        → Consumes before after bytes
    took bytes consumed = subst (λ r. Consumes before (i.remaining r.inner) bytes) same consumed

    -- all lines were given, to the end of the file
    pub read-all : HasGivenAll i.remaining limit before reader lines
        → i.reader_after.failures ≡ 0 → (outcome ≡ Err read → ⊥) → IsClean
        → ((extent : Extent) (bytes : List ℕ) → extent.at_end → IsAirFile limit bytes lines
        → answers extent bytes)
        → Reads i read behind outcome answers
    read-all h none other clean knows =
        let end = subst (λ r. IsAtEnd (i.remaining r.inner)) same h.at_end in
        record {
          bytes = h.bytes;
          consumed = took h.bytes h.consumed;
          answer = knows (read_from i) h.bytes end h.file;
          file = IfSome_then before
              (IfSome-end before after h.bytes (λ xs. IsAirFile limit xs lines)
              (took h.bytes h.consumed) end h.file)
              (λ bytes file. knows whole_input bytes tt file);
          before = clean h.bytes;
          failed = read_failed-none _ _ _ other none;
          once = omega (arith, none);
        }

    -- the file has a fault behind the lines that were given
    pub read-fault : (why : LineFault) → HasFirstFault i.remaining limit before reader lines why
        → i.reader_after.failures ≡ 0 → (outcome ≡ Err read → ⊥) → IsClean
        → ((extent : Extent) (bytes : List ℕ) → IsFaulty limit lines why extent bytes
        → answers extent bytes)
        → Reads i read behind outcome answers
    read-fault why h none other clean knows =
        let faulty : IsFaulty limit lines why (read_from i) h.bytes = (
          subst (λ r. IsCutOnlyAtEnd (IsAtEnd (i.remaining r.inner)) why) same h.cut_only_at_end,
          h.stops,
        ) in
        record {
          bytes = h.bytes;
          consumed = took h.bytes h.consumed;
          answer = knows (read_from i) h.bytes faulty;
          file = IfSome_then before
              (faulty-file limit lines why before after h.bytes (took h.bytes h.consumed) faulty)
              (λ bytes k. knows whole_input bytes k);
          before = clean h.bytes;
          failed = read_failed-none _ _ _ other none;
          once = omega (arith, none);
        }

    -- a read failed behind the lines that were given
    pub read-failed : (h : HasGivenLines i.remaining limit before reader lines) → reader.piece ≡ []
        → i.reader_after.failures ≡ 1 → outcome ≡ Err read
        → IfErr outcome (λ fault. behind fault h.looked_at)
        → ((extent : Extent) (bytes : List ℕ) → IsUnread limit lines extent bytes
        → answers extent bytes)
        → Reads i read behind outcome answers
    read-failed h waits one is clean knows =
        let consumed = took h.looked_at (looked-all i.remaining limit before reader lines h waits) in
        let unread : IsUnread limit lines (read_from i) h.looked_at =
        StopsAt-end limit reader.scanner h.looked_at lines _ h.scans
        (scanned-within limit reader.scanner h.looked_at lines h.scans, refl, refl) in
        record {
          bytes = h.looked_at;
          consumed = consumed;
          answer = knows (read_from i) h.looked_at unread;
          file = IfSome_then before
              (unread-file limit lines before after h.looked_at consumed unread)
              (λ bytes k. knows whole_input bytes k);
          before = clean;
          failed = (λ e. one, λ o. is);
          once = omega (arith, one);
        }

    -- the run stopped behind the lines that were given
    pub read-behind : HasGivenLines i.remaining limit before reader lines
        → i.reader_after.failures ≡ 0 → (outcome ≡ Err read → ⊥) → IsClean
        → ((extent : Extent) (bytes : List ℕ) → IsBehind lines bytes → answers extent bytes)
        → Reads i read behind outcome answers
    read-behind h none other clean knows =
        let all = h.looked_at ++ reader.piece in
        let stops : (more : List ℕ) → IsBehind lines (all ++ more) = λ more.
        subst (IsBehind lines) (sym (append_assoc h.looked_at reader.piece more))
        (StopsAt-scans limit reader.scanner h.looked_at (reader.piece ++ more) lines _ h.scans
        refl) in
        record {
          bytes = all;
          consumed = took all h.consumed;
          answer = knows (read_from i) all (subst (IsBehind lines) (append-nil all) (stops []));
          file = IfSome_then before
              (IfSome-front before after all (IsBehind lines) (took all h.consumed) stops)
              (λ bytes k. knows whole_input bytes k);
          before = clean all;
          failed = read_failed-none _ _ _ other none;
          once = omega (arith, none);
        }

    -- or at the last of them, which it refused
    pub read-before : (line : Line) → IsLine line
        → HasGivenLines i.remaining limit before reader (lines ++ line ∷ [])
        → i.reader_after.failures ≡ 0 → (outcome ≡ Err read → ⊥) → IsClean
        → ((extent : Extent) (bytes : List ℕ)
        → IsBefore limit lines line reader.scanner.lines bytes → answers extent bytes)
        → Reads i read behind outcome answers
    read-before line good h none other clean knows =
        let all = h.looked_at ++ reader.piece in
        let number = reader.scanner.lines in
        let stops : (more : List ℕ) → IsBefore limit lines line number (all ++ more) = λ more.
        line-before i.remaining limit before reader lines line more good h in
        record {
          bytes = all;
          consumed = took all h.consumed;
          answer = knows (read_from i) all
              (subst (IsBefore limit lines line number) (append-nil all) (stops []));
          file = IfSome_then before
              (IfSome-front before after all (IsBefore limit lines line number)
              (took all h.consumed) stops)
              (λ bytes k. knows whole_input bytes k);
          before = clean all;
          failed = read_failed-none _ _ _ other none;
          once = omega (arith, none);
        }
