use Rattle.std.proofs.Common.{◌≡◌, ◌≢◌, ◌++◌, [], ◌∙◌, ap, subst, refl, map, length, arith}
use Rattle.std.proofs.lemmas.Bool.{false≢true, eq-eqb}
use Rattle.std.proofs.lemmas.List.{length-map}
use Rattle.std.proofs.lemmas.Result.{err_from_is_err_and}
use Rattle.nx_fec.specs.air_files.BitLines.{bit_lines}
use Rattle.nx_fec.specs.emissions.Emission.{bits_of, emission, sent_position}
use Rattle.nx_fec.specs.air_files.Lines.{file_of}
use Rattle.nx_fec.specs.Transfers.{devices}
use Rattle.nx_station.specs.Faults.{send_fault}
use Rattle.nx_station.specs.MessageFile.{IsMessageFile, file_message_of}
use Rattle.nx_station.specs.Sendable.{IsRefusal}
use Rattle.nx_station.specs.declared.fault.SendFault.TheVariants as refusal
use Rattle.nx_station.specs.declared.fault.SendRunFault.TheVariants.{Send}
use Rattle.nx_station.proofs.lemmas.broadcasts.SendingLaws.{unsent, unwritten, sent-all, refusal-explains}
use Rattle.nx_station.proofs.lemmas.broadcasts.SendingLaws.{refusal-inside, transmission-of}
use Rattle.nx_station.proofs.sending.send.Goals as goal

pub returns-in_default : goal.returns-in_default
returns-in_default g c =
    let messages = c.in_ok-messages.messages in
    let some : messages.items ≢ [] =
    λ e. false≢true (c.if-is_empty.ensures
    ∙ eq-eqb _ _ (omega (arith, ap length e, messages.ok.0))) in
    let file = subst (λ l. IsMessageFile l (map file_message_of messages.items))
    c.deref.ensures.value c.in_ok-messages.ensures.messages in
    let none = rw c.in_default.is at c.next_slot.ensures.none refl in
    unsent (devices g.R.Read.remaining g.W.Write.contents c.args.reader.now c.read_whole.new.reader
    c.args.writer.now c.args.writer.now) c.args.station.byte c.args.moment
    c.in_ok-file.file c.in_ok-file.file.items (Send refusal.NoSlot) c.in_ok-file.ensures refl
    c.requires.writer tt
    (λ extent end few. (
      end,
      few,
      record {
        messages = messages.items;
        is_file = file;
        of_station =
            record { some = some; each = c.in_ok-messages.ensures.station };
        none = none;
      },
    ))

pub returns-in_err-positions : goal.returns-in_err-positions
returns-in_err-positions g c =
    let p = err_from_is_err_and c.from_residual-in_err-positions.result
    c.from_residual-in_err-positions.ensures.1 in
    let why = c.in_err-positions.field-0.0 in
    let messages = c.in_ok-messages.messages in
    let some : messages.items ≢ [] =
    λ e. false≢true (c.if-is_empty.ensures
    ∙ eq-eqb _ _ (omega (arith, ap length e, messages.ok.0))) in
    let file = subst (λ l. IsMessageFile l (map file_message_of messages.items))
    c.deref.ensures.value c.in_ok-messages.ensures.messages in
    let refused = subst (λ l. IsRefusal l why) c.deref-2.ensures.value
    c.in_err-positions.ensures.refused in
    rw p.1 (rw p.2 (unsent (devices g.R.Read.remaining g.W.Write.contents c.args.reader.now
    c.read_whole.new.reader c.args.writer.now c.args.writer.now) c.args.station.byte
    c.args.moment
    c.in_ok-file.file c.in_ok-file.file.items (send_fault why) c.in_ok-file.ensures refl
    c.requires.writer (refusal-inside why)
    (λ extent end few. refusal-explains extent c.args.station.byte c.args.moment c.in-Some.slot
    c.in_ok-file.file.items messages.items _ why end few file
    record { some = some; each = c.in_ok-messages.ensures.station } c.in-Some.ensures.next
    refused)))

pub returns-in_err-write_air : goal.returns-in_err-write_air
returns-in_err-write_air g c =
    let p = err_from_is_err_and c.from_residual-in_err-write_air.result
    c.from_residual-in_err-write_air.ensures.1 in
    let wrote = c.in_err-write_air.ensures in
    let messages = c.in_ok-messages.messages in
    let positions = map sent_position c.in_ok-positions.positions.items in
    let some : messages.items ≢ [] =
    λ e. false≢true (c.if-is_empty.ensures
    ∙ eq-eqb _ _ (omega (arith, ap length e, messages.ok.0))) in
    let is = transmission-of c.args.station.byte c.args.moment c.in-Some.slot
    c.in_ok-file.file.items c.deref.result.now messages.items c.deref-2.result.now positions
    c.as_bytes.result.now c.deref-4.result.now (length positions) (length messages.items)
    c.deref.ensures.value c.deref-2.ensures.value c.in_ok-messages.ensures.messages
    record { some = some; each = c.in_ok-messages.ensures.station }
    c.in_ok-positions.ensures.sendable c.in-Some.ensures.next
    c.in_ok-positions.ensures.positions
    (c.as_bytes.ensures.value ∙ c.in_ok-line.ensures)
    (c.deref-4.ensures.value ∙ c.in_ok-bits.ensures
    ∙ ap (λ l. bits_of (emission (map sent_position l))) c.deref-3.ensures.value) refl refl in
    rw p.1 (rw p.2 (unwritten
    (devices g.R.Read.remaining g.W.Write.contents c.args.reader.now c.read_whole.new.reader
    c.args.writer.now c.write_air.new.writer) c.args.station.byte c.args.moment
    c.in_ok-file.file c.in_ok-file.file.items
    (c.as_bytes.result.now ++ file_of (bit_lines c.deref-4.result.now)) _
    c.in_err-write_air.field-0.0.written c.in_ok-file.ensures
    (wrote.counts.failed.0 refl) is wrote.err))

pub returns : goal.returns
returns g c =
    let wrote = c.in_ok-write_air.ensures in
    let messages = c.in_ok-messages.messages in
    let positions = map sent_position c.in_ok-positions.positions.items in
    let some : messages.items ≢ [] =
    λ e. false≢true (c.if-is_empty.ensures
    ∙ eq-eqb _ _ (omega (arith, ap length e, messages.ok.0))) in
    let count : c.len.result ≡ length positions =
    omega (
      arith,
      c.len.ensures,
      c.in_ok-positions.positions.ok.0,
      length-map
          c.in_ok-positions.positions.items sent_position,
    ) in
    let all : c.len-2.result ≡ length messages.items =
    omega (arith, c.len-2.ensures, messages.ok.0) in
    let is = transmission-of c.args.station.byte c.args.moment c.in-Some.slot
    c.in_ok-file.file.items c.deref.result.now messages.items c.deref-2.result.now positions
    c.as_bytes.result.now c.deref-4.result.now c.len.result c.len-2.result c.deref.ensures.value
    c.deref-2.ensures.value c.in_ok-messages.ensures.messages
    record { some = some; each = c.in_ok-messages.ensures.station }
    c.in_ok-positions.ensures.sendable c.in-Some.ensures.next
    c.in_ok-positions.ensures.positions
    (c.as_bytes.ensures.value ∙ c.in_ok-line.ensures)
    (c.deref-4.ensures.value ∙ c.in_ok-bits.ensures
    ∙ ap (λ l. bits_of (emission (map sent_position l))) c.deref-3.ensures.value) count all in
    sent-all (devices g.R.Read.remaining g.W.Write.contents c.args.reader.now
    c.read_whole.new.reader c.args.writer.now c.write_air.new.writer) c.args.station.byte
    c.args.moment
    c.in_ok-file.file c.in_ok-file.file.items
    (c.as_bytes.result.now ++ file_of (bit_lines c.deref-4.result.now)) _ c.in_ok-file.ensures
    wrote.counts.none is wrote.ok
