use Rattle.std.proofs.Common.{◌≡◌, ℕ, ◌++◌, take}
use Rattle.std.specs.Global.{Vec}
use Rattle.std.proofs.lemmas.Result.{err_from_is_err_and}
use Rattle.std.proofs.KnownBytes.{Consumes-trans}
use Rattle.nx_fec.specs.Runs.{ExplainsWhole, IsOutsideWhole, IsWithin, file_limit}
use Rattle.nx_fec.specs.Transfers.{input}
use Rattle.nx_fec.specs.declared.fault.ReadFault.TheVariants.{Read}
use Rattle.nx_fec.proofs.lemmas.lines.ReadingLaws.{Err-same}
use Rattle.nx_fec.proofs.lemmas.devices.TransferLaws.{Reads-stopped}
use Rattle.nx_fec.proofs.air_files.reading.read_whole.Goals as goal

pub returns-in_err-append_within-in-Bytes : goal.returns-in_err-append_within-in-Bytes
returns-in_err-append_within-in-Bytes g c =
    let p = err_from_is_err_and c.from_residual-in_err-append_within-in-Bytes.result
    c.from_residual-in_err-append_within-in-Bytes.ensures.1 in
    let fault = c.in_err-append_within-in-Bytes in
    rw p.1 (rw p.2 (Reads-stopped
    (input g.R.Read.remaining c.args.reader.now c.next_piece.new.reader) Read
    (λ fault bytes. IsOutsideWhole fault → IsWithin file_limit bytes)
    (λ (text : Vec ℕ) bytes. IsWithin file_limit bytes × (text.items ≡ bytes))
    (λ bytes fault. ExplainsWhole file_limit bytes fault)
    (c.loop-count.bytes.items ++ take c.in-Bytes.count c.next_piece.new.buffer)
    (Consumes-trans _ _ _ _ _ c.loop-count.invariant.read c.in-Bytes.ensures.2)
    fault.field-0.0 fault.ensures.explained.0 fault.ensures.explained.1
    (λ e. fault.ensures.no_read (Err-same _ _ e)) c.in-Bytes.ensures.3))
