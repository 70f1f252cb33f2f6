-- The lines of bytes that come piece by piece.
use Rattle.std.proofs.Common.{◌≡◌, ◌≢◌, ℕ, suc, zero, ◌+◌, ◌≤◌, ◌<◌, List, [], ◌∷◌, ◌++◌, length, map}
use Rattle.std.proofs.Common.{take, drop, get_or, Option, Some, None, refl, sym, ap}
use Rattle.std.proofs.Common.{◌∙◌, subst, append_assoc, append-nil, arith, length-append, inl}
use Rattle.std.proofs.Common.{inr}
use Rattle.std.specs.List.{AllByRecursion, AllZip, flat_map}
use Rattle.std.proofs.lemmas.Bool.{cases_lt}
use Rattle.std.proofs.lemmas.List.{append_cancel_left, get_or-take, length-take-le}
use Rattle.std.proofs.lemmas.List.{drop_more, take_more}
use Rattle.std.proofs.ByRecursion.{All-append}
use Rattle.std.proofs.lemmas.List.Concat.{flat_map-append}
use Rattle.nx_fec.specs.air_files.AirFile.{IsLine, IsNoLine, Line, spelling}
use Rattle.nx_fec.specs.air_files.Lines.{IsCause, Scanning, Scans, StopsIn, file_of}
use Rattle.nx_fec.specs.declared.fault.LineFault.{LineFault}
use Rattle.nx_fec.specs.declared.fault.LineFault.TheVariants.{TooLong, LineLong, LineCut, BadLine}
use Rattle.nx_fec.proofs.lemmas.lines.LineLaws.{spelling-IsBeginning}
use Rattle.nx_watch.specs.AnyLines.{AreLines, HasNoLineEnd, Says, ended}
use Rattle.nx_watch.specs.LinesTold.{IsReason, StandsBehind}
use Rattle.nx_watch.specs.private.Scanning.{IsForText, IsPassedOver, reason_of_fault}
use Rattle.nx_watch.specs.declared.lines.no_effect.NoEffect.{NoEffect}
use Rattle.nx_watch.specs.declared.lines.no_effect.NoEffect.TheVariants as reason
use Rattle.nx_watch.specs.declared.lines.no_effect.NoEffect.TheVariants.{NoLine, NoEnd, PastLast}
use Rattle.nx_watch.specs.declared.lines.no_effect.NoEffect.TheVariants.{GoesBack, Vital}
use Rattle.nx_log.proofs.lemmas.runs.Outputs.{AllZip-append}

-- ---- lines one after another

pub AreLines-append : (a b : List ℕ) (la lb : List (Option Line)) (rest : List ℕ)
    → AreLines a la [] → AreLines b lb rest → AreLines (a ++ b) (la ++ lb) rest
AreLines-append a b la lb rest h k = record {
  texts = h.texts ++ k.texts;
  whole = ap (λ l. l ++ b) (h.whole ∙ append-nil (flat_map ended h.texts))
      ∙ ap (λ l. flat_map ended h.texts ++ l) k.whole
      ∙ sym (append_assoc (flat_map ended h.texts) (flat_map ended k.texts) rest)
      ∙ ap (λ l. l ++ rest) (sym (flat_map-append ended h.texts k.texts));
  each = AllZip-append Says h.texts k.texts la lb h.each k.each;
  part = k.part;
}

-- no line, and a part of one
pub AreLines-part : (rest : List ℕ) → HasNoLineEnd rest → AreLines rest [] rest
AreLines-part rest h = record { texts = []; whole = refl; each = tt; part = h }

-- a line that isn't understood
pub AreLines-bad : (text : List ℕ) → HasNoLineEnd text → IsNoLine text
    → AreLines (text ++ 10 ∷ []) (None ∷ []) []
AreLines-bad text h k = record {
  texts = text ∷ [];
  whole = sym (append-nil (text ++ 10 ∷ []))
      ∙ ap (λ l. l ++ []) (sym (append-nil (text ++ 10 ∷ [])));
  each = ((h, k), tt);
  part = tt;
}

-- good lines
file-of_texts : (lines : List Line) → file_of lines ≡ flat_map ended (map spelling lines)
file-of_texts [] = refl
file-of_texts (line ∷ lines) = ap (λ l. (spelling line ++ 10 ∷ []) ++ l) (file-of_texts lines)

each-said : (lines : List Line) → AllByRecursion IsLine lines
    → AllZip Says (map spelling lines) (map Some lines)
each-said [] h = tt
each-said (line ∷ lines) h = ((h.0, refl), each-said lines h.1)

-- and the ended ones of them
pub AreLines-ended : (limit : ℕ) (s : Scanning) (bytes : List ℕ) (lines : List Line)
    → Scans limit s bytes lines → AreLines (file_of lines) (map Some lines) []
AreLines-ended limit s bytes lines h = record {
  texts = map spelling lines;
  whole = file-of_texts lines ∙ sym (append-nil (flat_map ended (map spelling lines)));
  each = each-said lines h.splits.each;
  part = tt;
}

-- ---- a line that isn't understood

pub long-none : (text : List ℕ) → 514 < length text → IsNoLine text
long-none text h = λ line good is.
    omega (arith, h, (spelling-IsBeginning line good).short, ap length is)

no_end-at : (bytes : List ℕ) (k : ℕ) → HasNoLineEnd bytes → k < length bytes → get_or bytes k 0 ≢ 10
no_end-at [] k h below = absurd (omega arith)
no_end-at (b ∷ bytes) zero h below = h.0
no_end-at (b ∷ bytes) (suc k) h below = no_end-at bytes k h.1 (omega arith)

no_end-back : (a b : List ℕ) → HasNoLineEnd (a ++ b) → HasNoLineEnd b
no_end-back [] b h = h
no_end-back (x ∷ a) b h = no_end-back a b h.1

-- an end stands behind bytes that have none
end-behind : (piece : List ℕ) (count at : ℕ) → HasNoLineEnd (take count piece)
    → count ≤ length piece → at < length piece → get_or piece at 0 ≡ 10 → count ≤ at
end-behind piece count at none within below feed =
    elim (cases_lt at count) [
      | inl lt ↦ absurd (no_end-at (take count piece) at none
          (omega (arith, lt, length-take-le count piece within))
          (get_or-take count piece at 0 lt ∙ feed))
      | inr le ↦ le
    ]

-- what an inner scanner that stops says of the open line
stops-part : (limit : ℕ) (s t : Scanning) (since piece : List ℕ) (lines : List Line) (count : ℕ)
    → Scans limit s since lines → Scans limit t (since ++ take count piece) lines
    → t.part ≡ s.part ++ take count piece
stops-part limit s t since piece lines count h k =
    append_cancel_left (file_of lines) t.part (s.part ++ take count piece)
    (sym k.splits.whole ∙ ap (λ l. l ++ take count piece) h.splits.whole
    ∙ append_assoc (file_of lines) s.part (take count piece))

-- up to and with the end of the line
pub with-end : (before part piece : List ℕ) (at : ℕ) → at < length piece → get_or piece at 0 ≡ 10
    → before ++ ((part ++ take at piece) ++ 10 ∷ []) ≡ (before ++ part) ++ take (at + 1) piece
with-end before part piece at within feed =
    ap (λ l. before ++ l) (append_assoc part (take at piece) (10 ∷ []))
    ∙ sym (append_assoc before part (take at piece ++ 10 ∷ []))
    ∙ ap (λ b. (before ++ part) ++ (take at piece ++ b ∷ [])) (sym feed)
    ∙ ap (λ l. (before ++ part) ++ l) (sym (take_more piece at 0 within))

-- by the cause of its fault
passed-cause : (limit front : ℕ) (lines : List Line) (part piece rest : List ℕ) (count : ℕ)
    (byte : ℕ) (why : LineFault)
    → count < length piece → get_or piece count 0 ≡ byte → front < limit
    → HasNoLineEnd (take count piece) → length (part ++ take count piece) ≤ 514
    → IsCause limit front lines (part ++ take count piece) (byte ∷ rest) why
    → IsPassedOver (reason_of_fault why) part piece
passed-cause limit front lines part piece rest count byte TooLong within here room none short
    cause =
    absurd (omega (arith, room, cause))
passed-cause limit front lines part piece rest count byte (LineLong line) within here room none
    short cause =
    let full : length part + count ≡ 514 = omega (
      arith,
      cause.2,
      length-append part (take count piece),
      length-take-le count piece (omega (arith, within)),
    ) in
    record {
      line = λ at below feed unended.
          let behind : count ≤ at = end-behind piece count at none (omega arith) below feed in
          let other : count ≢ at = λ same. cause.1
          (sym here ∙ ap (λ k. get_or piece k 0) same ∙ feed) in
          let long : 514 < length (part ++ take at piece) = omega (
            arith,
            full,
            behind,
            other,
            length-append part (take at piece),
            length-take-le at piece (omega (arith, below)),
          ) in
          (long-none (part ++ take at piece) long, long);
      long = λ unended. omega (arith, full, within, length-append part piece);
    }
passed-cause limit front lines part piece rest count byte (LineCut line) within here room none
    short cause = absurd cause
passed-cause limit front lines part piece rest count byte (BadLine line) within here room none
    short cause =
    let feed' : get_or piece count 0 ≡ 10 = here ∙ cause.1 in
    record {
      line = λ at below feed unended.
          let behind : count ≤ at = end-behind piece count at none (omega arith) below feed in
          let before : at ≤ count = end-behind piece at count unended (omega arith) within feed' in
          let same : count ≡ at = omega arith in
          subst (λ k. IsNoLine (part ++ take k piece) × (length (part ++ take k piece) ≤ 514))
          same (cause.2, short);
      long = λ unended. absurd (no_end-at piece count unended within feed');
    }

pub passed-stop : (limit : ℕ) (s t : Scanning) (since piece : List ℕ) (lines : List Line)
    (why : LineFault)
    → length piece ≤ s.allowance → Scans limit s since lines → StopsIn limit t since piece lines why
    → IsPassedOver (reason_of_fault why) s.part piece
passed-stop limit s t since piece lines why room h stop =
    let count = stop.count in
    let part = stops-part limit s t since piece lines count h stop.scans in
    let none = no_end-back s.part (take count piece)
    (subst HasNoLineEnd part stop.scans.splits.part.none) in
    let rest = drop (count + 1) piece in
    passed-cause limit (length (since ++ take count piece)) lines s.part piece (rest ++ []) count
    (get_or piece count 0) why stop.within refl
    (omega (
      arith,
      room,
      h.allowance,
      stop.within,
      length-append since (take count piece),
      length-take-le count piece (omega (arith, stop.within)),
    ))
    none
    (subst (λ l. length l ≤ 514) part stop.scans.splits.part.short)
    (subst (λ l. IsCause limit (length (since ++ take count piece)) lines l
    (get_or piece count 0 ∷ (rest ++ [])) why) part
    (subst (λ l. IsCause limit (length (since ++ take count piece)) lines t.part (l ++ []) why)
    (drop_more piece count 0 stop.within) (stop.cause [])))

-- a line that is too long already
pub passed-long : (part piece : List ℕ) → 514 < length part → IsPassedOver reason.TooLong part piece
passed-long part piece h = record {
  line = λ at below feed unended.
      let long : 514 < length (part ++ take at piece) =
      omega (arith, h, length-append part (take at piece)) in
      (long-none (part ++ take at piece) long, long);
  long = λ unended. omega (arith, h, length-append part piece);
}

-- ---- why a line has no effect that is passed over

-- the line ends in the piece
pub reason-ended : (why : NoEffect) (before part : List ℕ) (lines : List (Option Line))
    (piece : List ℕ) (at : ℕ)
    → at < length piece → get_or piece at 0 ≡ 10 → HasNoLineEnd (take at piece)
    → AreLines before lines [] → HasNoLineEnd part → IsPassedOver why part piece
    → (more : List ℕ)
    → IsReason (((before ++ part) ++ take (at + 1) piece) ++ more) lines None why
reason-ended why before part lines piece at within feed none are open' over more =
    so why (over.line at within feed none).1
  where
    text : List ℕ
    text = part ++ take at piece

    bytes : List ℕ
    bytes = ((before ++ part) ++ take (at + 1) piece) ++ more

    stands : StandsBehind bytes lines text (10 ∷ more)
    stands = record {
      front = before;
      are = are;
      unended = All-append (λ byte. byte ≢ 10) part (take at piece) open' none;
      whole = ap (λ l. l ++ more) (sym (with-end before part piece at within feed))
          ∙ append_assoc before (text ++ 10 ∷ []) more
          ∙ ap (λ l. before ++ l) (append_assoc text (10 ∷ []) more);
    }

    so : (why : NoEffect) → IsForText why text → IsReason bytes lines None why
    so NoLine h = (text, more, stands, h)
    so reason.TooLong h = (text, 10 ∷ more, stands, h)
    so NoEnd h = absurd h
    so PastLast h = absurd h
    so GoesBack h = absurd h
    so Vital h = absurd h
