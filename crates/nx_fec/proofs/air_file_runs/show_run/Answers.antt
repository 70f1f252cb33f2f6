use Rattle.std.proofs.Common.{◌≡◌, ℕ, List, ◌/◌, length, refl, arith}
use Rattle.std.proofs.lemmas.Result.{err_from_is_err_and}
use Rattle.nx_fec.specs.air_files.Lines.{IsBitFile}
use Rattle.nx_fec.proofs.lemmas.texts.WordLine.{IsShown-of}
use Rattle.nx_fec.proofs.lemmas.devices.RunLaws.{Transfers-cut, Transfers-done, WordRun-refused, WordRun-unread}
use Rattle.nx_fec.proofs.air_file_runs.show_run.Goals as goal

pub returns-in_err-bits : goal.returns-in_err-bits
returns-in_err-bits g c =
    let p = err_from_is_err_and c.from_residual.result c.from_residual.ensures.1 in
    rw p.1 (rw p.2 (WordRun-unread _ _ _ _ _ _ _ c.requires.writer c.in_err-bits.ensures.reads))

pub returns-in_err-lines : goal.returns-in_err-lines
returns-in_err-lines g c =
    let p = err_from_is_err_and c.from_residual-in_err-lines.result
    c.from_residual-in_err-lines.ensures.1 in
    rw p.1 (rw p.2 (WordRun-refused _ _ _ _ _ _ c.in_ok-bits.bits _ _ c.requires.writer
    c.deref.ensures.value c.in_ok-bits.ensures.reads c.in_err-lines.ensures.refused))

pub returns-in_err-write_out : goal.returns-in_err-write_out
returns-in_err-write_out g c =
    let p = err_from_is_err_and c.from_residual-in_err-write_out.result
    c.from_residual-in_err-write_out.ensures.1 in
    let bits = c.in_ok-bits.bits.items in
    let shown = λ (bytes : List ℕ) (file : IsBitFile 1048576 bytes bits). IsShown-of 1048576 bytes
    bits c.deref.result.now c.in_ok-lines.lines.items c.deref-2.result.now (length bits / 7)
    c.deref.ensures.value c.in_ok-lines.ensures.whole c.in_ok-lines.ensures.text
    c.deref-2.ensures.value refl file in
    let wrote = c.in_err-write_out.ensures in
    rw p.1 (rw p.2 (Transfers-cut _ _ _ _ _ _ _ _ _ _ _ _ c.in_ok-bits.ensures.reads
    (λ extent bytes k. (k.0, c.deref-2.result.now, length bits / 7, shown bytes k.1, wrote.err))
    c.in_err-write_out.field-0.0.written (wrote.counts.failed.0 refl)))

pub returns : goal.returns
returns g c =
    let bits = c.in_ok-bits.bits.items in
    let count : c.len.result / 7 ≡ length bits / 7 =
    omega (arith, c.len.ensures, c.in_ok-bits.bits.ok.0) in
    let shown = λ (bytes : List ℕ) (file : IsBitFile 1048576 bytes bits). IsShown-of 1048576 bytes
    bits c.deref.result.now c.in_ok-lines.lines.items c.deref-2.result.now (c.len.result / 7)
    c.deref.ensures.value c.in_ok-lines.ensures.whole c.in_ok-lines.ensures.text
    c.deref-2.ensures.value count file in
    let wrote = c.in_ok-write_out.ensures in
    Transfers-done _ _ _ _ _ _ _ _ _ _ _ _ c.in_ok-bits.ensures.reads
    (λ extent bytes k. (k.0, c.deref-2.result.now, shown bytes k.1, wrote.ok)) _ wrote.counts.none
