-- A scanner over the bytes of a piece.
use Rattle.std.proofs.Common.{◌≡◌, ◌≢◌, ℕ, ◌+◌, ◌<◌, ◌≤◌, length, take, drop, get_or}
use Rattle.std.proofs.Common.{option_to_list, Option, None, List, [], ◌∷◌, ◌++◌, sym, ap, ◌∙◌}
use Rattle.std.proofs.Common.{subst, append_assoc, append-nil, arith}
use Rattle.std.proofs.ByRecursion.{All-append, All-drop, All-take}
use Rattle.std.proofs.lemmas.List.{drop-append-le, drop_more, length-append, length-drop}
use Rattle.std.proofs.lemmas.List.{length-take-le, take-append-drop, take-append-le, take_more}
use Rattle.std.proofs.lemmas.List.Concat.{flat_map-append}
use Rattle.nx_fec.specs.air_files.AirFile.{IsLine, Line, spelling}
use Rattle.nx_fec.specs.air_files.Lines.{IsBeginning, IsCause, Scanning, Scans, StopsIn, file_of, line_bytes}
use Rattle.nx_fec.specs.declared.fault.LineFault.{LineFault}
use Rattle.nx_fec.specs.declared.fault.LineFault.TheVariants.{TooLong, LineLong}
use Rattle.nx_fec.proofs.lemmas.lines.LineLaws.{NoFeed}

-- ---- a scanner over bytes of the open line

-- it took some of these, of which none is a line feed, and first opened a line
pub Scans-on : (limit : ℕ) (s o t : Scanning) (before bytes : List ℕ) (lines : List Line)
    (count : ℕ) → NoFeed bytes → count ≤ length bytes → length o.part + count ≤ 514
    → o.part ≡ s.part → o.lines ≡ s.lines → o.allowance ≡ s.allowance
    → t.part ≡ o.part ++ take count bytes → t.lines ≡ o.lines → t.allowance + count ≡ o.allowance
    → Scans limit s before lines → Scans limit t (before ++ take count bytes) lines
Scans-on limit s o t before bytes lines count none within fits part same allowance more same' allowance' h =
    let taken = take count bytes in
    let whole : t.part ≡ s.part ++ taken = more ∙ ap (λ l. l ++ taken) part in
    record {
      splits = record {
        whole = ap (λ l. l ++ taken) h.splits.whole ∙ append_assoc (file_of lines) s.part taken
            ∙ ap (λ l. file_of lines ++ l) (sym whole);
        each = h.splits.each;
        part = record {
          none = subst NoFeed (sym whole)
              (All-append (λ byte. byte ≢ 10) s.part taken h.splits.part.none
              (All-take (λ byte. byte ≢ 10) count bytes none));
          short = omega (
            arith,
            ap length more,
            length-append o.part taken,
            length-take-le count
                bytes within,
            fits,
          );
        };
      };
      count = same' ∙ same ∙ h.count;
      allowance = omega (
        arith,
        allowance,
        allowance',
        h.allowance,
        length-append before taken,
        length-take-le count
            bytes within,
      );
    }

-- what the next byte of the open line is a cause of, where it is refused
cause-on : (limit : ℕ) (t : Scanning) (front : ℕ) (lines : List Line) (bytes more : List ℕ)
    (why : LineFault) → NoFeed bytes → 0 < length bytes
    → ((byte : ℕ) (rest : List ℕ) → byte ≢ 10 → IsCause limit front lines t.part (byte ∷ rest) why)
    → IsCause limit front lines t.part (bytes ++ more) why
cause-on limit t front lines [] more why none some h = absurd (omega arith)
cause-on limit t front lines (b ∷ bytes) more why none some h = h b (bytes ++ more) none.0

-- it took some of these bytes, and stopped
StopsIn-on : (limit : ℕ) (t : Scanning) (before bytes : List ℕ) (lines : List Line) (count : ℕ)
    (why : LineFault) → NoFeed bytes → count < length bytes
    → Scans limit t (before ++ take count bytes) lines
    → ((byte : ℕ) (rest : List ℕ) → byte ≢ 10
    → IsCause limit (length (before ++ take count bytes)) lines t.part (byte ∷ rest) why)
    → StopsIn limit t before bytes lines why
StopsIn-on limit t before bytes lines count why none within scans h = record {
  count = count;
  within = within;
  scans = scans;
  cause = λ more. cause-on limit t _ lines (drop count bytes) more why
      (All-drop (λ byte. byte ≢ 10) count bytes none)
      (omega (arith, length-drop count bytes, within)) h;
}

-- it took as many as the file may still have
pub StopsIn-file : (limit : ℕ) (t : Scanning) (before bytes : List ℕ) (lines : List Line)
    (count : ℕ) → NoFeed bytes → count < length bytes → t.allowance ≡ 0
    → Scans limit t (before ++ take count bytes) lines → StopsIn limit t before bytes lines TooLong
StopsIn-file limit t before bytes lines count none within empty scans =
    StopsIn-on limit t before bytes lines count TooLong none within scans (λ byte rest other.
    let front : length (before ++ take count bytes) ≡ limit = omega (arith, scans.allowance, empty) in
    front)

-- it took as many as the line may still have
pub StopsIn-line : (limit : ℕ) (t : Scanning) (before bytes : List ℕ) (lines : List Line)
    (count line : ℕ) → NoFeed bytes → count < length bytes → 0 < t.allowance → length t.part ≡ 514
    → line ≡ t.lines + 1 → Scans limit t (before ++ take count bytes) lines
    → StopsIn limit t before bytes lines (LineLong line)
StopsIn-line limit t before bytes lines count line none within some full next scans =
    StopsIn-on limit t before bytes lines count (LineLong line) none within scans
    (λ byte rest other.
    (omega (arith, scans.allowance, some), other, full, next ∙ ap (λ n. n + 1) scans.count))

-- ---- a scanner over a piece

-- bytes that ended no line
pub Scans-open : (limit : ℕ) (s : Scanning) (bytes : List ℕ) (lines : List Line)
    (latest : Option Line) → latest ≡ None
    → Scans limit s bytes lines → Scans limit s bytes (lines ++ option_to_list latest)
Scans-open limit s bytes lines latest none scans =
    subst (Scans limit s bytes)
    (sym (append-nil lines) ∙ ap (λ l. lines ++ option_to_list l) (sym none)) scans

-- the line feed of a piece, after the bytes before it
feed-next : (bytes piece : List ℕ) (at : ℕ) → at < length piece → get_or piece at 0 ≡ 10
    → (bytes ++ take at piece) ++ 10 ∷ [] ≡ bytes ++ take (at + 1) piece
feed-next bytes piece at within feed =
    ap (λ b. (bytes ++ take at piece) ++ b ∷ []) (sym feed)
    ∙ append_assoc bytes (take at piece) (get_or piece at 0 ∷ [])
    ∙ ap (λ l. bytes ++ l) (sym (take_more piece at 0 within))

pub Scans-ended : (limit : ℕ) (s : Scanning) (bytes piece : List ℕ) (at : ℕ) (lines : List Line)
    → at < length piece → get_or piece at 0 ≡ 10
    → Scans limit s ((bytes ++ take at piece) ++ 10 ∷ []) lines
    → Scans limit s (bytes ++ take (at + 1) piece) lines
Scans-ended limit s bytes piece at lines within feed scans =
    subst (λ l. Scans limit s l lines) (feed-next bytes piece at within feed) scans

-- the open line is one of an air file, and a line feed ends it
pub Scans-line : (limit : ℕ) (s t : Scanning) (bytes : List ℕ) (lines : List Line) (line : Line)
    → Scans limit s bytes lines → IsLine line → s.part ≡ spelling line → t.part ≡ []
    → t.lines ≡ s.lines + 1 → t.allowance + 1 ≡ s.allowance
    → Scans limit t (bytes ++ 10 ∷ []) (lines ++ line ∷ [])
Scans-line limit s t bytes lines line h good spelled none next allowance = record {
  splits = record {
    whole =
        ap (λ l. l ++ 10 ∷ []) (h.splits.whole ∙ ap (λ l. file_of lines ++ l) spelled)
        ∙ append_assoc (file_of lines) (spelling line) (10 ∷ [])
        ∙ ap (λ l. file_of lines ++ l) (sym (append-nil (spelling line ++ 10 ∷ [])))
        ∙ sym (append-nil _ ∙ flat_map-append line_bytes lines (line ∷ []))
        ∙ ap (λ l. file_of (lines ++ line ∷ []) ++ l) (sym none);
    each = All-append IsLine lines (line ∷ []) h.splits.each (good, tt);
    part = subst IsBeginning (sym none) (record { none = tt; short = omega arith });
  };
  count = next ∙ ap (λ n. n + 1) h.count ∙ sym (length-append lines (line ∷ []));
  allowance = omega (arith, h.allowance, allowance, length-append bytes (10 ∷ []));
}

-- a scanner that stops in the front of a piece stops in the piece
StopsIn-more : (limit : ℕ) (t : Scanning) (bytes front rest : List ℕ) (lines : List Line)
    (why : LineFault) → StopsIn limit t bytes front lines why
    → StopsIn limit t bytes (front ++ rest) lines why
StopsIn-more limit t bytes front rest lines why h =
    let takes : take h.count front ≡ take h.count (front ++ rest) =
    sym (take-append-le h.count front rest (omega (arith, h.within))) in
    record {
      count = h.count;
      within = omega (arith, h.within, length-append front rest);
      scans = subst (λ l. Scans limit t (bytes ++ l) lines) takes h.scans;
      cause = λ more. subst (λ (l : List ℕ). IsCause limit (length (bytes ++ l)) lines t.part
          (drop h.count (front ++ rest) ++ more) why) takes
          (subst (λ l. IsCause limit (length (bytes ++ take h.count front)) lines t.part l why)
          (sym (append_assoc (drop h.count front) rest more)
          ∙ ap (λ l. l ++ more) (sym
          (drop-append-le h.count front rest (omega (arith, h.within)))))
          (h.cause (rest ++ more)));
    }

pub StopsIn-piece : (limit : ℕ) (t : Scanning) (bytes piece : List ℕ) (at : ℕ) (lines : List Line)
    (why : LineFault)
    → StopsIn limit t bytes (take at piece) lines why → StopsIn limit t bytes piece lines why
StopsIn-piece limit t bytes piece at lines why h =
    subst (λ l. StopsIn limit t bytes l lines why) (take-append-drop at piece)
    (StopsIn-more limit t bytes (take at piece) (drop at piece) lines why h)

-- it stops at the line feed
pub StopsIn-feed : (limit : ℕ) (s t : Scanning) (bytes piece : List ℕ) (at : ℕ) (lines : List Line)
    (why : LineFault) → at < length piece → get_or piece at 0 ≡ 10
    → t ≡ s → Scans limit s (bytes ++ take at piece) lines
    → ((more : List ℕ) → IsCause limit (length (bytes ++ take at piece)) lines s.part (10 ∷ more)
    why) → StopsIn limit t bytes piece lines why
StopsIn-feed limit s t bytes piece at lines why within feed same scans cause = record {
  count = at;
  within = within;
  scans = subst (λ u. Scans limit u (bytes ++ take at piece) lines) (sym same) scans;
  cause = λ more. subst (λ (u : Scanning). IsCause limit (length (bytes ++ take at piece)) lines
      u.part (drop at piece ++ more) why) (sym same)
      (subst (λ l. IsCause limit (length (bytes ++ take at piece)) lines s.part (l ++ more) why)
      (ap (λ b. b ∷ drop (at + 1) piece) (sym feed) ∙ sym (drop_more piece at 0 within))
      (cause (drop (at + 1) piece ++ more)));
}
