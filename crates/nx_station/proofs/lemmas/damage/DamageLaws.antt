-- What damaging answers, by what it took and what stopped the lines.
use Rattle.std.proofs.Common.{Bool, drop, map, take, ◌≡◌, ◌↔◌, ℕ, ◌+◌, ◌-◌, ◌^◌, ◌≤◌, List, []}
use Rattle.std.proofs.Common.{◌∷◌, ◌++◌, length, min, Option, Some, None, Result, Ok, Err, IsErrOf}
use Rattle.std.proofs.Common.{if◌then◌else◌, refl, sym, ap, ◌∙◌, subst, arith, append-nil}
use Rattle.std.proofs.Common.{MatchResult, length-append}
use Rattle.std.specs.List.{flat_map, refill, AllByRecursion}
use Rattle.std.proofs.Math.Seq.{drop-append_seam, take-append_seam}
use Rattle.std.specs.Io.KnownBytes.{Appends}
use Rattle.std.proofs.lemmas.List.{length-map}
use Rattle.std.proofs.lemmas.List.Concat.{flat_map-append}
use Rattle.nx_fec.specs.air_files.AirFile.{Line, IsLine, element_digit, mark_bytes, moment, elements}
use Rattle.nx_fec.specs.air_files.AirFile.{refuse_station, accept_station, refuse_subject, accept_subject}
use Rattle.nx_fec.specs.air_files.AirFile.{spelling}
use Rattle.nx_fec.specs.air_files.Channels.{channel_of, same_channel}
use Rattle.nx_fec.specs.Transfers.{Contents, Devices, Extent, Reads, WroteSome, contents_of, input_of}
use Rattle.nx_fec.specs.air_files.LineReading.{EndsEarly, HasGivenAll, HasGivenLines}
use Rattle.nx_fec.specs.air_files.LineRuns.{HasGiven, Waiting}
use Rattle.nx_fec.specs.air_files.Lines.{IsAirFile, elements_on, file_of, line_bytes}
use Rattle.nx_fec.specs.air_files.Scanner.{kind_of}
use Rattle.nx_fec.specs.declared.air_files.line_reader.LineReader.{LineReader}
use Rattle.nx_fec.specs.declared.air_files.lines.LineKind.{LineKind}
use Rattle.nx_fec.specs.declared.air_files.lines.LineKind.TheVariants.{Elements}
use Rattle.nx_fec.specs.declared.air_files.channel.Channel.{Channel}
use Rattle.nx_fec.specs.declared.air_files.channel.Channel.TheVariants.{Zero, One, Two}
use Rattle.nx_fec.specs.declared.fault.AirFault.{AirFault}
use Rattle.nx_fec.specs.declared.fault.AirFault.TheVariants as air
use Rattle.nx_fec.specs.declared.fault.LineFault.{LineFault}
use Rattle.nx_fec.specs.declared.fault.LineFault.TheVariants as file
use Rattle.nx_fec.specs.declared.fault.WriteFault.{WriteFault}
use Rattle.nx_fec.proofs.lemmas.lines.LineLaws.{IsAirFile-unique, spelling-IsBeginning}
use Rattle.nx_fec.proofs.lemmas.line_runs.LineReading.{Line-not_read, unfailed}
use Rattle.nx_fec.proofs.lemmas.line_runs.LineRun.{StopsAt-map}
use Rattle.nx_fec.proofs.lemmas.line_runs.LinesRead.{IsFaulty, read-all, read-behind, read-failed}
use Rattle.nx_fec.proofs.lemmas.line_runs.LinesRead.{read-fault}
use Rattle.nx_fec.proofs.lemmas.devices.TransferLaws.{Ok-not_err, Writes-none}
use Rattle.nx_station.specs.Damage.{AnswersDamaging, Damage, Damages, ExplainsDamaging, HasDamaged}
use Rattle.nx_station.specs.Damage.{IsDamaged, StopsFor, damaged_elements, damaged_file, damaged_line}
use Rattle.nx_station.specs.Damage.{damaged_lines, damaged_on, inverted_count}
use Rattle.nx_station.specs.Faults.{air_fault}
use Rattle.nx_station.specs.private.DamageTaker.{Damager, HasDigitsFrom, IsAt, IsDamaging, StandsAfter}
use Rattle.nx_station.specs.private.DamageTaker.{IsText, first_for}
use Rattle.nx_station.specs.declared.fault.DamageFault.{DamageFault}
use Rattle.nx_station.specs.declared.fault.DamageFault.TheVariants.{Read, Write}
use Rattle.nx_station.proofs.lemmas.damage.Damage.{inverted-append, inverted-le, length-damaged, length-on}
use Rattle.nx_station.proofs.lemmas.damage.Damage.{lines-append, lines-twice}

-- ---- where it begins, and one line more

elements-more : (lines : List Line) (line : Line)
    → flat_map (elements_on Zero) (lines ++ (line ∷ []))
    ≡ flat_map (elements_on Zero) lines ++ elements_on Zero line
elements-more lines line =
    flat_map-append (elements_on Zero) lines (line ∷ [])
    ∙ ap (λ l. flat_map (elements_on Zero) lines ++ l) (append-nil (elements_on Zero line))

-- how it stands, and what was given
pub record HasMore (damage : Damage) (new : Damager) (lines : List Line) (bytes : List ℕ)
    (line : Line) : Type 0 where
  pub stands : StandsAfter damage new (lines ++ line ∷ [])
  pub whole : damaged_file damage lines ++ bytes ≡ damaged_file damage (lines ++ line ∷ [])

pub taken-more : (damage : Damage) (old new : Damager) (lines : List Line) (line : Line)
    (bytes : List ℕ) → StandsAfter damage old lines
    → ((place : ℕ) → IsAt damage old place → bytes ≡ line_bytes (damaged_line damage place line))
    → ((place : ℕ) → IsAt damage old place
    → IsAt damage new (place + length (elements_on Zero line)))
    → ((place total : ℕ) → IsAt damage old place → old.inverted ≡ min total (2 ^ 64 - 1)
    → new.inverted ≡ min (total + inverted_count damage place (elements_on Zero line)) (2 ^ 64 - 1))
    → HasMore damage new lines bytes line
taken-more damage old new lines line bytes h written moved counted =
    let bits = flat_map (elements_on Zero) lines in
    let more = elements-more lines line in
    let long : length bits + length (elements_on Zero line)
    ≡ length (flat_map (elements_on Zero) (lines ++ (line ∷ []))) =
    sym (ap length more ∙ length-append bits (elements_on Zero line)) in
    let total : inverted_count damage 0 bits + inverted_count damage (length bits)
    (elements_on Zero line)
    ≡ inverted_count damage 0 (flat_map (elements_on Zero) (lines ++ (line ∷ []))) =
    sym (ap (inverted_count damage 0) more ∙ inverted-append damage 0 bits (elements_on Zero line)
    ∙ ap (λ p. inverted_count damage 0 bits + inverted_count damage p (elements_on Zero line))
    (let e : 0 + length bits ≡ length bits = omega arith in e)) in
    let place : 0 + length bits ≡ length bits = omega arith in
    let file : damaged_file damage (lines ++ (line ∷ []))
    ≡ damaged_file damage lines ++ line_bytes (damaged_line damage (length bits) line) =
    ap file_of (lines-append damage 0 lines line)
    ∙ flat_map-append line_bytes _ (damaged_line damage (0 + length bits) line ∷ [])
    ∙ ap (λ l. damaged_file damage lines ++ l)
    (append-nil (line_bytes (damaged_line damage (0 + length bits) line)))
    ∙ ap (λ p. damaged_file damage lines ++ line_bytes (damaged_line damage p line)) place in
    record {
      stands = record {
        at = subst (IsAt damage new) long (moved (length bits) h.at);
        counted = subst (λ n. new.inverted ≡ min n (2 ^ 64 - 1)) total
            (counted (length bits) (inverted_count damage 0 bits) h.at h.counted);
      };
      whole =
          ap (λ l. damaged_file damage lines ++ l) (written (length bits) h.at) ∙ sym file;
    }

-- what was given for one line more waits, or a write failed
pub gave : (damage : Damage) (now : Damager) (lines : List Line) (line : Line)
    (old new : Option (List ℕ)) (batch : Waiting) (bytes : List ℕ)
    (outcome : Result (Unit {0}) WriteFault) → HasMore damage now lines bytes line
    → MatchResult outcome (λ _. HasGiven old new batch (damaged_file damage lines ++ bytes))
    (λ fault. WroteSome old new (damaged_file damage lines ++ bytes) fault.written)
    → MatchResult outcome
    (λ _. IsDamaging damage now old new batch (lines ++ (line ∷ [])))
    (λ fault. WroteSome old new (damaged_file damage (lines ++ (line ∷ []))) fault.written)
gave damage now lines line old new batch bytes (Ok done) more h =
    record { stands = more.stands; given = subst (HasGiven old new batch) more.whole h }
gave damage now lines line old new batch bytes (Err fault) more h =
    subst (λ l. WroteSome old new l fault.written) more.whole h

-- a line of elements on channel 0, by its kind
pub line-of-elements : (line : Line) (mark : Option Channel) → kind_of line ≡ Elements mark
    → channel_of mark ≡ Zero → line ≡ elements mark (elements_on Zero line)
line-of-elements (moment n) mark h zero = cc
line-of-elements (elements other bits) mark h zero =
    let same : other ≡ mark = cc in
    let here : channel_of other ≡ Zero = ap channel_of same ∙ zero in
    ap (λ m. elements m bits) same
    ∙ ap (λ c. elements mark (if same_channel c Zero then bits else [])) (sym here)
line-of-elements (refuse_station other letter) mark h zero = cc
line-of-elements (accept_station other letter) mark h zero = cc
line-of-elements (refuse_subject other letter) mark h zero = cc
line-of-elements (accept_subject other letter) mark h zero = cc

-- what such a line is after the damage
pub damaged-here : (damage : Damage) (place : ℕ) (mark : Option Channel) (bits : List Bool)
    → channel_of mark ≡ Zero
    → damaged_line damage place (elements mark bits)
    ≡ elements mark (damaged_elements damage place bits)
damaged-here damage place mark bits zero =
    ap (λ c. elements mark (damaged_on c damage place bits)) zero

-- what stands before the digits of a line of elements
abbrev pub opening : Option Channel → List ℕ
opening mark = 66 ∷ (mark_bytes mark ++ 32 ∷ [])

opening-long : (mark : Option Channel) → length (opening mark) ≡ 2 + length (mark_bytes mark)
opening-long None = refl
opening-long (Some channel) = refl

elements-bytes : (mark : Option Channel) (bits : List Bool)
    → line_bytes (elements mark bits) ≡ opening mark ++ (map element_digit bits ++ 10 ∷ [])
elements-bytes None bits = refl
elements-bytes (Some channel) bits = refl

-- A line of elements on channel 0 with its end: what it names, its elements, and where its digits
-- stand among its bytes.
pub record HasDigits (line : Line) (bytes : List ℕ) (start n : ℕ) : Type 0 where
  pub mark : Option Channel
  pub is : line ≡ elements mark (elements_on Zero line)
  pub belongs : channel_of mark ≡ Zero
  pub begins : start ≡ length (opening mark)
  pub whole : bytes ≡ opening mark ++ (map element_digit (elements_on Zero line) ++ 10 ∷ [])
  pub long : n ≡ length (elements_on Zero line)

pub has-digits : (kind : LineKind) (text bytes : List ℕ) (line : Line) (start n : ℕ)
    → text ≡ spelling line → kind ≡ kind_of line → HasDigitsFrom kind start
    → bytes ≡ text ++ 10 ∷ [] → n ≡ length bytes → HasDigits line bytes start ((n - 1) - start)
has-digits kind text bytes line start n e here from b count =
    let mark = from.mark in
    let same = line-of-elements line mark (sym here ∙ from.elements) from.belongs in
    let bits = elements_on Zero line in
    let whole = b ∙ ap (λ l. l ++ 10 ∷ []) e
    ∙ ap line_bytes same ∙ elements-bytes mark bits in
    let begins : start ≡ length (opening mark) = from.front ∙ sym (opening-long mark) in
    record {
      mark = mark;
      is = same;
      belongs = from.belongs;
      begins = begins;
      whole = whole;
      long = omega (
        arith,
        count,
        begins,
        ap length whole,
        length-append (opening mark) (map element_digit bits ++ 10 ∷ []),
        length-append (map element_digit bits) (10 ∷ []),
        length-map bits element_digit,
      );
    }

-- its digits stand among its bytes
pub digits-within : (kind : LineKind) (text bytes : List ℕ) (start n : ℕ) → IsText kind text
    → HasDigitsFrom kind start → bytes ≡ text ++ 10 ∷ [] → n ≡ length bytes → start ≤ n - 1
digits-within kind text bytes start n is from b count =
    let h = has-digits kind text bytes is.line start n is.spelled is.kind_is from b count in
    let digits = map element_digit (elements_on Zero is.line) in
    omega (
      arith,
      count,
      h.begins,
      ap length h.whole,
      length-append (opening h.mark) (digits ++ 10 ∷ []),
      length-append digits (10 ∷ []),
    )

-- it has at most 514 bytes
pub text-short : (kind : LineKind) (text : List ℕ) → IsText kind text → length text ≤ 514
text-short kind text is =
    subst (λ l. length l ≤ 514) (sym is.spelled) (spelling-IsBeginning is.line is.good).short

-- its digits
pub line-digits : (line : Line) (bytes : List ℕ) (start n : ℕ) → HasDigits line bytes start n
    → take n (drop start bytes) ≡ map element_digit (elements_on Zero line)
line-digits line bytes start n h =
    let digits = map element_digit (elements_on Zero line) in
    ap (λ l. take n (drop start l)) h.whole
    ∙ ap (λ k. take n (drop k (opening h.mark ++ (digits ++ 10 ∷ [])))) h.begins
    ∙ ap (take n) (drop-append_seam (opening h.mark) (digits ++ 10 ∷ []))
    ∙ ap (λ k. take k (digits ++ 10 ∷ []))
    (h.long ∙ sym (length-map (elements_on Zero line) element_digit))
    ∙ take-append_seam digits (10 ∷ [])

-- its bytes, where others are written over its digits
pub line-refilled : (line : Line) (bytes now new : List ℕ) (start n : ℕ)
    → HasDigits line bytes start n → now ≡ bytes
    → (damage : Damage) (place : ℕ)
    → new ≡ map element_digit (damaged_elements damage place (elements_on Zero line))
    → refill (length bytes) bytes (take start now ++ (new ++ drop n (drop start now)))
    ≡ line_bytes (damaged_line damage place line)
line-refilled line bytes now new start n h same damage place fits =
    let bits = elements_on Zero line in
    let digits = map element_digit bits in
    let after = damaged_elements damage place bits in
    let opened = opening h.mark in
    let e = same ∙ h.whole in
    let behind : drop start now ≡ digits ++ 10 ∷ [] =
    ap (λ l. drop start l) e ∙ ap (λ k. drop k (opened ++ (digits ++ 10 ∷ []))) h.begins
    ∙ drop-append_seam opened (digits ++ 10 ∷ []) in
    let before : take start now ≡ opened =
    ap (λ l. take start l) e ∙ ap (λ k. take k (opened ++ (digits ++ 10 ∷ []))) h.begins
    ∙ take-append_seam opened (digits ++ 10 ∷ []) in
    let rest : drop n (drop start now) ≡ 10 ∷ [] =
    ap (drop n) behind
    ∙ ap (λ k. drop k (digits ++ 10 ∷ [])) (h.long ∙ sym (length-map bits element_digit))
    ∙ drop-append_seam digits (10 ∷ []) in
    let whole : take start now ++ (new ++ drop n (drop start now))
    ≡ opened ++ (new ++ 10 ∷ []) =
    ap (λ l. l ++ (new ++ drop n (drop start now))) before
    ∙ ap (λ l. opened ++ (new ++ l)) rest in
    let size : length bytes ≡ length (opened ++ (new ++ 10 ∷ [])) =
    omega (
      arith,
      ap length h.whole,
      ap length fits,
      length-map after element_digit,
      length-damaged damage place bits,
      length-map bits element_digit,
      length-append digits (10 ∷ []),
      length-append new (10 ∷ []),
      length-append opened (digits ++ 10 ∷ []),
      length-append opened (new ++ 10 ∷ []),
    ) in
    ap (refill (length bytes) bytes) whole
    ∙ ap (λ k. take k ((opened ++ (new ++ 10 ∷ []))
    ++ drop (length (opened ++ (new ++ 10 ∷ []))) bytes)) size
    ∙ take-append_seam (opened ++ (new ++ 10 ∷ [])) _
    ∙ ap (λ l. opened ++ (l ++ 10 ∷ [])) fits
    ∙ sym (elements-bytes h.mark after)
    ∙ ap line_bytes (sym (damaged-here damage place h.mark bits h.belongs))
    ∙ ap (λ l. line_bytes (damaged_line damage place l)) (sym h.is)

-- ---- what was taken is what is damaged

on-few : (channel : Channel) (bits : List Bool)
    → length (if same_channel channel Zero then bits else []) ≤ length bits
on-few Zero bits = omega arith
on-few One bits = omega arith
on-few Two bits = omega arith

elements-few : (lines : List Line)
    → length (flat_map (elements_on Zero) lines) ≤ length (file_of lines)
elements-few [] = omega arith
elements-few (line ∷ lines) =
    omega (
      arith,
      elements-few lines,
      line-few line,
      length-append (elements_on Zero line)
          (flat_map (elements_on Zero) lines),
      length-append (line_bytes line) (file_of lines),
    )
  where
    line-few : (line : Line) → length (elements_on Zero line) ≤ length (line_bytes line)
    line-few (moment n) = omega arith
    line-few (elements mark bits) =
        omega (
          arith,
          ap length (elements-bytes mark bits),
          length-append (opening mark) (map element_digit bits ++ 10 ∷ []),
          length-append (map element_digit bits) (10 ∷ []),
          length-map bits element_digit,
          on-few (channel_of mark) bits,
        )
    line-few (refuse_station mark letter) = omega arith
    line-few (accept_station mark letter) = omega arith
    line-few (refuse_subject mark letter) = omega arith
    line-few (accept_subject mark letter) = omega arith

-- ---- the outcomes, by what stopped the lines

stopped : (extent : Extent) (damage : Damage) (lines : List Line) (contents : Contents)
    (bytes : List ℕ) (why : LineFault) → HasDamaged damage contents lines
    → IsFaulty 268435456 lines why extent bytes
    → ExplainsDamaging extent damage bytes contents (air_fault (air.Line why))
stopped extent damage lines contents bytes why written k =
    by-fault why (
      k.0,
      StopsAt-map bytes _ _ (λ before rest more p. (
        p.0,
        subst (HasDamaged damage contents) (sym p.1) written,
      )) k.1,
    )
  where
    by-fault : (why : LineFault) → StopsFor extent damage bytes contents why
        → ExplainsDamaging extent damage bytes contents (air_fault (air.Line why))
    by-fault file.TooLong h = h
    by-fault (file.LineLong line) h = h
    by-fault (file.LineCut line) h = h
    by-fault (file.BadLine line) h = h

fault-read : (why : LineFault)
    → ◌≡◌ {A = Result ℕ DamageFault} (Err (air_fault (air.Line why))) (Err Read) → ⊥
fault-read file.TooLong e = cc
fault-read (file.LineLong line) e = cc
fault-read (file.LineCut line) e = cc
fault-read (file.BadLine line) e = cc

fault-write : (fault : AirFault) (written : ℕ)
    → ◌≡◌ {A = Result ℕ DamageFault} (Err (air_fault fault)) (Err (Write written)) → ⊥
fault-write air.Read written e = cc
fault-write (air.Line file.TooLong) written e = cc
fault-write (air.Line (file.LineLong line)) written e = cc
fault-write (air.Line (file.LineCut line)) written e = cc
fault-write (air.Line (file.BadLine line)) written e = cc

write-read : (written : ℕ) → ◌≡◌ {A = Result ℕ DamageFault} (Err (Write written)) (Err Read) → ⊥
write-read written e = cc

whole-damaged : (damage : Damage) (now : Damager) (contents : Contents) (lines : List Line)
    (bytes : List ℕ) → StandsAfter damage now lines → HasDamaged damage contents lines
    → IsAirFile 268435456 bytes lines
    → (text : List ℕ) × IsDamaged damage 268435456 bytes text now.inverted
    × Appends contents.before contents.after text
whole-damaged damage now contents lines bytes stands written file =
    let few = elements-few lines in
    let bound = inverted-le damage 0 (flat_map (elements_on Zero) lines) in (
      damaged_file damage lines,
      record {
        lines = lines;
        file = file;
        whole = refl;
        counted = omega (arith, stands.counted, few, bound, file.within, ap length file.whole);
      },
      written,
    )

module _ {R W : Type 0} (damage : Damage) (d : Devices R W) (reader : LineReader R)
    (same : reader.reader.now ≡ d.reader_after) (lines : List Line)
  where
    abbrev answers : Result ℕ DamageFault → Extent → List ℕ → Type 0
    answers outcome extent air = AnswersDamaging extent damage air (contents_of d) outcome

    abbrev first : Option (List ℕ)
    first = d.remaining d.reader.inner

    abbrev before : Option (List ℕ)
    before = d.contents d.writer.inner

    abbrev after_run : Option (List ℕ)
    after_run = d.contents d.writer_after.inner

    after : (failures : ℕ) → reader.reader.now.failures ≡ failures
        → d.reader_after.failures ≡ failures
    after failures is = ap (λ r. r.failures) (sym same) ∙ is

    -- all lines were written, damaged
    pub damaged-all : (now : Damager) → HasGivenAll d.remaining 268435456 first reader lines
        → reader.reader.now.failures ≡ 0 → StandsAfter damage now lines
        → HasDamaged damage (contents_of d) lines → d.writer_after.failures ≡ 0
        → Damages damage d (Ok now.inverted)
    damaged-all now h none stands written well = record {
      reads = read-all (input_of d) Read (λ fault bytes. Unit {0}) (Ok now.inverted)
          (answers (Ok now.inverted)) 268435456 reader same lines h (after 0 none)
          (Ok-not_err now.inverted Read) (λ bytes. tt)
          (λ extent bytes end file. let w = whole-damaged damage now (contents_of d) lines bytes
          stands written file in (end, w.0, w.1, w.2));
      writes = Writes-none _ _ _ (λ count. Ok-not_err now.inverted (Write count)) well;
      unwritten = tt;
    }

    -- so were the lines before a fault
    pub damaged-early : {N : Type 0} (fault : AirFault)
        → EndsEarly d.remaining 268435456 first reader lines fault
        → IsErrOf {T = N} (Err fault) air.Read ↔ (reader.reader.now.failures ≡ 1)
        → reader.reader.now.failures ≤ 1 → HasDamaged damage (contents_of d) lines
        → d.writer_after.failures ≡ 0 → Damages damage d (Err (air_fault fault))
    damaged-early air.Read h failed once written well = record {
      reads = read-failed (input_of d) Read (λ fault bytes. Unit {0}) (Err Read)
          (answers (Err Read)) 268435456 reader same lines h.0 h.1 (after 1 (failed.0 refl)) refl tt
          (λ extent bytes k. StopsAt-map bytes _ _ (λ before rest more p. (
            p.0,
            p.1,
            subst (HasDamaged damage (contents_of d)) (sym p.2) written,
          )) k);
      writes = Writes-none _ _ _ (fault-write air.Read) well;
      unwritten = tt;
    }
    damaged-early {N} (air.Line why) h failed once written well = record {
      reads = read-fault (input_of d) Read (λ fault bytes. Unit {0})
          (Err (air_fault (air.Line why))) (answers (Err (air_fault (air.Line why)))) 268435456
          reader same lines why h
          (after 0 (unfailed {N = N} _ _ (Line-not_read why) failed once)) (fault-read why)
          (λ bytes. tt)
          (λ extent bytes k. stopped extent damage lines (contents_of d) bytes why written k);
      writes = Writes-none _ _ _ (fault-write (air.Line why)) well;
      unwritten = tt;
    }

    -- a write failed, of the lines that were read by then
    lost : (written : ℕ)
        → Reads {N = ℕ} (input_of d) Read (λ fault bytes. Unit {0}) (Err (Write written))
        (answers (Err (Write written))) → d.writer_after.failures ≡ 1
        → Damages damage d (Err (Write written))
    lost written reads one = record {
      reads = reads;
      writes = record {
        failed = (λ w. one, λ o. (written, refl));
        once = omega (arith, one);
      };
      unwritten = tt;
    }

    pub damaged-lost : (written : ℕ) → HasGivenLines d.remaining 268435456 first reader lines
        → reader.reader.now.failures ≡ 0
        → WroteSome before after_run (damaged_file damage lines) written
        → d.writer_after.failures ≡ 1 → Damages damage d (Err (Write written))
    damaged-lost written h none some one =
        lost written (read-behind (input_of d) Read (λ fault bytes. Unit {0}) (Err (Write written))
        (answers (Err (Write written))) 268435456 reader same lines h (after 0 none)
        (write-read written) (λ bytes. tt)
        (λ extent bytes k. StopsAt-map bytes _ _ (λ front rest more p.
        subst (λ l. WroteSome before after_run (damaged_file damage l) written) (sym p) some) k))
        one

    pub damaged-lost-early : {N : Type 0} (fault : AirFault) (written : ℕ)
        → EndsEarly d.remaining 268435456 first reader lines fault
        → IsErrOf {T = N} (Err fault) air.Read ↔ (reader.reader.now.failures ≡ 1)
        → reader.reader.now.failures ≤ 1 → (fault ≡ air.Read → ⊥)
        → WroteSome before after_run (damaged_file damage lines) written
        → d.writer_after.failures ≡ 1 → Damages damage d (Err (Write written))
    damaged-lost-early air.Read written h failed once other some one = absurd (other refl)
    damaged-lost-early {N} (air.Line why) written h failed once other some one =
        lost written (read-fault (input_of d) Read (λ fault bytes. Unit {0}) (Err (Write written))
        (answers (Err (Write written))) 268435456 reader same lines why h
        (after 0 (unfailed {N = N} _ _ (Line-not_read why) failed once)) (write-read written)
        (λ bytes. tt)
        (λ extent bytes k. StopsAt-map bytes _ _ (λ front rest more p.
        subst (λ l. WroteSome before after_run (damaged_file damage l) written) (sym p.1) some)
        k.1)) one

-- ---- twice

-- lines after the damage are lines of an air file
line-is : (damage : Damage) (place : ℕ) (line : Line) → IsLine line
    → IsLine (damaged_line damage place line)
line-is damage place (moment n) h = h
line-is damage place (elements mark bits) h =
    let long = length-on (channel_of mark) damage place bits in
    (omega (arith, h.0, long), omega (arith, h.1, long))
line-is damage place (refuse_station mark letter) h = h
line-is damage place (accept_station mark letter) h = h
line-is damage place (refuse_subject mark letter) h = h
line-is damage place (accept_subject mark letter) h = h

lines-are : (damage : Damage) (place : ℕ) (lines : List Line) → AllByRecursion IsLine lines
    → AllByRecursion IsLine (damaged_lines damage place lines)
lines-are damage place [] h = tt
lines-are damage place (line ∷ lines) h = (
  line-is damage place line h.0,
  lines-are damage (place + length (elements_on Zero line)) lines h.1,
)

pub files-twice : (damage : Damage) (limit : ℕ) (air once twice : List ℕ) (m n : ℕ)
    → IsDamaged damage limit air once m → IsDamaged damage limit once twice n → twice ≡ air
files-twice damage limit air once twice m n h k =
    let lines = IsAirFile-unique limit once k.lines (damaged_lines damage 0 h.lines) k.file record {
      whole = h.whole;
      each = lines-are damage 0 h.lines h.file.each;
      within =
          k.file.within;
    } in
    k.whole ∙ ap (damaged_file damage) lines ∙ ap file_of (lines-twice damage 0 h.lines)
    ∙ sym h.file.whole
