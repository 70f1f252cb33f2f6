-- What checking answers follows from what its steps said; and it gives back what was sent.
use Rattle.std.proofs.Common.{◌≡◌, ℕ, ◌<◌, ◌≤◌, ◌^◌, Bool, List, [], ◌∷◌, ◌++◌, length, get_or}
use Rattle.std.proofs.Common.{Result, Ok, Err, refl, sym, ap, ◌∙◌, subst, arith, length-append}
use Rattle.nx_envelope.specs.Message.{MessageView}
use Rattle.std.specs.List.{flat_map}
use Rattle.nx_fec.specs.air_files.AirFile.{Line, moment}
use Rattle.nx_fec.specs.air_files.BitLines.{bit_lines}
use Rattle.nx_fec.specs.Transfers.{AnswersToEnd, Devices, Reads, WroteSome, input_of}
use Rattle.nx_fec.specs.emissions.Emission.{bits_of, emission}
use Rattle.nx_fec.specs.air_files.Lines.{IsAirFile, IsBitFile, IsFaultless, elements_on, line_bytes}
use Rattle.nx_fec.specs.air_files.Lines.{file_of as air_file_of}
use Rattle.nx_fec.specs.Runs.{ExplainsReading, IsOutside, file_limit}
use Rattle.nx_fec.specs.declared.air_files.channel.Channel.TheVariants.{Zero}
use Rattle.nx_fec.specs.declared.fault.RunFault.{RunFault}
use Rattle.nx_fec.specs.declared.fault.RunFault.TheVariants as run
use Rattle.nx_fec.proofs.lemmas.emissions.EncodingLaws.{bit_lines-IsBitFile}
use Rattle.nx_fec.proofs.lemmas.lines.LineLaws.{IsBitFile-unique}
use Rattle.nx_fec.proofs.lemmas.devices.TransferLaws.{Ok-not_err, Reads-on}
use Rattle.nx_station.specs.Checking.{Checks, IsChecked, report, station_line}
use Rattle.nx_station.specs.FileSending.{IsTransmission}
use Rattle.nx_station.specs.Sendable.{AreOf}
use Rattle.nx_station.specs.StrictReading.{ExplainsEmission, IsEmissionOf}
use Rattle.nx_station.specs.declared.fault.CheckFault.{CheckFault}
use Rattle.nx_station.specs.declared.fault.CheckFault.TheVariants.{Run, Emission}
use Rattle.nx_station.specs.declared.fault.EmissionFault.{EmissionFault}
use Rattle.nx_station.specs.declared.sending.Sent.{Sent}
use Rattle.nx_station.proofs.lemmas.strict_reading.EmissionReading.{emission-one}
use Rattle.nx_station.proofs.lemmas.broadcasts.SendingLaws.{same-station}

-- an outcome of reading elements
abbrev pub as_read : {N : Type 0} → Result N RunFault → Result N RunFault
as_read outcome = outcome

emission-run : (fault : EmissionFault) (other : RunFault)
    → ◌≡◌ {A = Result ℕ CheckFault} (Err (Emission fault)) (Err (Run other)) → ⊥
emission-run fault other e = cc

write-read : (written : ℕ)
    → ◌≡◌ {A = Result ℕ CheckFault} (Err (Run (run.Write written))) (Err (Run run.Read)) → ⊥
write-read written e = cc

-- what reading the elements said
abbrev pub WasRead : {R W N : Type 0} → Devices R W → (N → List Bool) → Result N RunFault → Type 0
WasRead d items outcome = Reads (input_of d) run.Read
    (λ fault bytes. IsOutside fault → IsFaultless file_limit bytes) outcome
    (AnswersToEnd (λ bits bytes. IsBitFile file_limit bytes (items bits))
    (λ extent bytes fault. ExplainsReading extent file_limit bytes fault) outcome)

-- the elements have a fault
pub unread : {R W N : Type 0} (d : Devices R W) (bits : N) (items given : List Bool)
    (fault : EmissionFault)
    → WasRead d (λ _. items) (as_read {N = N} (Ok bits))
    → d.writer_after ≡ d.writer → d.writer.failures ≡ 0 → given ≡ items
    → ExplainsEmission given fault → Checks d (Err (Emission fault))
unread d bits items given fault reads same none is explains =
    let h = subst (λ l. ExplainsEmission l fault) is explains in record {
      reads = Reads-on _ _ _ _ _ _ _ reads (λ extent bytes k. (k.0, items, k.1, h))
          (λ bytes k h outside. absurd outside)
          (λ e. absurd (emission-run fault run.Read e)) (λ e. absurd (Ok-not_err bits run.Read e));
      writes = record {
        failed = (
          λ w. absurd (emission-run fault (run.Write w.0) w.1),
          λ one. absurd
              (omega (arith, ap (λ x. x.failures) same, none, one)),
        );
        once =
            omega (arith, ap (λ x. x.failures) same, none);
      };
      unwritten = λ other. same;
    }

-- the messages of elements, and their report
pub record AreReported (items : List Bool) (text : List ℕ) (count : ℕ) : Type 0 where
  pub messages : List MessageView
  pub emission : IsEmissionOf messages items
  pub station : ℕ
  pub of_station : AreOf station messages
  pub whole : text ≡ report station messages
  pub counted : count ≡ length messages

checked-of : (air : List ℕ) (items : List Bool) (text : List ℕ) (count : ℕ)
    → IsBitFile file_limit air items → AreReported items text count
    → IsChecked file_limit air text count
checked-of air items text count file h = record {
  bits = items;
  file = file;
  messages = h.messages;
  emission = h.emission;
  station = h.station;
  of_station = h.of_station;
  whole = h.whole;
  counted = h.counted;
}

-- the report is written in part
pub unwritten : {R W N : Type 0} (d : Devices R W) (bits : N) (items : List Bool) (text : List ℕ)
    (count written : ℕ)
    → WasRead d (λ _. items) (as_read {N = N} (Ok bits))
    → d.writer_after.failures ≡ 1 → AreReported items text count
    → WroteSome (d.contents d.writer.inner) (d.contents d.writer_after.inner) text written
    → Checks d (Err (Run (run.Write written)))
unwritten d bits items text count written reads one is wrote = record {
  reads = Reads-on _ _ _ _ _ _ _ reads
      (λ extent bytes k. (k.0, text, count, checked-of bytes items text count k.1 is, wrote))
      (λ bytes k h outside. absurd outside) (λ e. absurd (write-read written e))
      (λ e. absurd (Ok-not_err bits run.Read e));
  writes = record { failed = (λ w. one, λ h. (written, refl)); once = omega (arith, one) };
  unwritten = λ other. absurd (other written refl);
}

-- messages of one station are of the first one's
pub of_first : (messages : List MessageView) (first : MessageView) (station other : ℕ)
    → AreOf other messages → first ≡ get_or messages 0 first → first.identity.b1.byte ≡ station
    → AreOf station messages
of_first [] first station other h e is = absurd (h.some refl)
of_first (m ∷ ms) first station other h e is =
    let same : other ≡ station =
    sym h.each.0 ∙ ap (λ (message : MessageView). message.identity.b1.byte) (sym e) ∙ is in
    subst (λ s. AreOf s (m ∷ ms)) same h

-- ---- what was sent is given back

-- the elements of an air file that was sent
sent-bits : (limit station from : ℕ) (file air : List ℕ) (sent : Sent)
    (h : IsTransmission station from file air sent) → length air ≤ limit
    → IsBitFile limit air (bits_of (emission h.positions))
sent-bits limit station from file air sent h within =
    let bits = bits_of (emission h.positions) in
    let lines = moment sent.slot ∷ bit_lines bits in
    let long = ap length h.whole
    ∙ length-append (line_bytes (moment sent.slot)) (air_file_of (bit_lines bits)) in
    let later = bit_lines-IsBitFile limit bits (omega (arith, within, long)) in
    let few : sent.slot < 10 ^ 11 = omega (arith, h.next.in_range) in
    record {
      lines = moment sent.slot ∷ later.lines;
      file = record {
        whole = h.whole ∙ ap (λ l. line_bytes (moment sent.slot) ++ l) later.file.whole;
        each = (few, later.file.each);
        within = within;
      };
      joined = later.joined;
    }

pub sent-emission : (station from : ℕ) (file air : List ℕ) (sent : Sent)
    (h : IsTransmission station from file air sent)
    → IsEmissionOf h.messages (bits_of (emission h.positions))
sent-emission station from file air sent h =
    record { sendable = h.sendable; positions = h.positions; broadcast = h.broadcast; whole = refl }

-- such a file is checked
pub sent-checked : (limit station from : ℕ) (file air : List ℕ) (sent : Sent)
    → IsTransmission station from file air sent → length air ≤ limit
    → IsChecked limit air (station_line station ++ file) sent.messages
sent-checked limit station from file air sent h within = record {
  bits = bits_of (emission h.positions);
  file = sent-bits limit station from file air sent h within;
  messages = h.messages;
  emission = sent-emission station from file air sent h;
  station = station;
  of_station = h.of_station;
  whole = ap (λ l. station_line station ++ l) h.is_file.whole;
  counted = h.all;
}

-- and an air file has one report
pub checked-one : (limit : ℕ) (air one other : List ℕ) (m n : ℕ) → IsChecked limit air one m
    → IsChecked limit air other n → (one ≡ other) × (m ≡ n)
checked-one limit air one other m n h k =
    let bits = IsBitFile-unique limit air h.bits k.bits h.file k.file in
    let messages = emission-one h.messages k.messages k.bits
    (subst (IsEmissionOf h.messages) bits h.emission) k.emission in
    let station = same-station h.station k.station k.messages
    (subst (AreOf h.station) messages h.of_station) k.of_station in (
      h.whole ∙ ap (λ s. report s h.messages) station ∙ ap (report k.station) messages
          ∙ sym k.whole,
      h.counted ∙ ap length messages ∙ sym k.counted,
    )

-- ---- channel 0 alone

-- it has the report of any other air file with the same elements on channel 0
pub checked-alone : (limit most : ℕ) (one other text : List ℕ) (lines more : List Line) (count : ℕ)
    → IsAirFile limit one lines → IsAirFile most other more
    → flat_map (elements_on Zero) lines ≡ flat_map (elements_on Zero) more
    → IsChecked limit one text count → IsChecked most other text count
checked-alone limit most one other text lines more count file that same h = record {
  bits = h.bits;
  file = record {
    lines = more;
    file = that;
    joined = IsBitFile-unique limit one h.bits (flat_map (elements_on Zero) lines) h.file
        record { lines = lines; file = file; joined = refl } ∙ same;
  };
  messages = h.messages;
  emission = h.emission;
  station = h.station;
  of_station = h.of_station;
  whole = h.whole;
  counted = h.counted;
}

-- so one with the elements of an air file that was sent is checked as that is
pub sent-alone : (limit most station from : ℕ) (file air other : List ℕ) (sent : Sent)
    (lines more : List Line) → IsTransmission station from file air sent
    → IsAirFile limit air lines → IsAirFile most other more
    → flat_map (elements_on Zero) lines ≡ flat_map (elements_on Zero) more
    → IsChecked most other (station_line station ++ file) sent.messages
sent-alone limit most station from file air other sent lines more h is that same =
    checked-alone limit most air other (station_line station ++ file) lines more sent.messages is
    that same (sent-checked limit station from file air sent h is.within)
