use Rattle.std.proofs.Common.{arith}
use Rattle.std.proofs.lemmas.Grind.{common_steps}
use Rattle.std.proofs.Common.{◌∙◌, ap, length, refl, subst, sym}
use Rattle.std.proofs.lemmas.Result.{err_from_is_err_and}
use Rattle.nx_fec.specs.Transfers.{devices}
use Rattle.nx_station.specs.Checking.{report}
use Rattle.nx_station.specs.StrictReading.{IsEmissionOf}
use Rattle.nx_station.proofs.lemmas.strict_reading.CheckingLaws.{of_first, unread, unwritten}
use Rattle.nx_station.proofs.checking.check_run.Goals as goal

pub returns-in_err-messages : goal.returns-in_err-messages
returns-in_err-messages g c =
    let p = err_from_is_err_and c.from_residual-in_err-messages.result
    c.from_residual-in_err-messages.ensures.1 in
    rw p.1 (rw p.2 (unread (devices g.R.Read.remaining g.W.Write.contents c.args.reader.now
    c.read_bits.new.reader c.args.writer.now c.args.writer.now)
    c.in_ok-bits.bits c.in_ok-bits.bits.items c.deref.result.now c.in_err-messages.field-0.0
    c.in_ok-bits.ensures.reads refl c.requires.writer c.deref.ensures.value
    c.in_err-messages.ensures.fault))

pub returns-in_err-write_out : goal.returns-in_err-write_out
returns-in_err-write_out g c =
    let p = err_from_is_err_and c.from_residual-in_err-write_out.result
    c.from_residual-in_err-write_out.ensures.1 in
    let wrote = c.in_err-write_out.ensures in
    let messages = c.in_ok-messages.messages.items in
    let bits = c.in_ok-bits.bits.items in
    let read = subst (IsEmissionOf messages) c.deref.ensures.value
    c.in_ok-messages.ensures.messages in
    let text = c.deref-3.ensures.value ∙ c.in_ok-text.ensures
    ∙ ap (report c.b1-station.result.byte) c.deref-2.ensures.value in
    let of = of_first messages c.index.result.now c.b1-station.result.byte read.sendable.station
    read.sendable.of_one c.index.ensures
    (ap (λ identity. identity.b1.byte) (sym c.identity.ensures)
    ∙ ap (λ letter. letter.byte) (sym c.b1-station.ensures)) in
    rw p.1 (rw p.2 (unwritten
    (devices g.R.Read.remaining g.W.Write.contents c.args.reader.now c.read_bits.new.reader
    c.args.writer.now c.write_out.new.writer)
    c.in_ok-bits.bits bits c.deref-3.result.now (length messages)
    c.in_err-write_out.field-0.0.written c.in_ok-bits.ensures.reads (wrote.counts.failed.0 refl)
    record {
      messages = messages;
      emission = read;
      station = c.b1-station.result.byte;
      of_station =
          of;
      whole = text;
      counted = refl;
    } wrote.err))

pub returns : goal.returns
returns g c = grind (arith, common_steps)
