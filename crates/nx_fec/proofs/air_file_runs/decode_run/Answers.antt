use Rattle.std.proofs.Common.{◌≡◌, ◌∙◌, ℕ, ◌%◌, Bool, List, length, ap, arith, refl, subst, sym}
use Rattle.std.proofs.lemmas.Result.{err_from_is_err_and}
use Rattle.nx_fec.specs.emissions.Aligned.{aligned_text, words_of}
use Rattle.nx_fec.specs.air_files.Lines.{IsBitFile}
use Rattle.nx_fec.specs.Runs.{IsDecoded}
use Rattle.nx_fec.proofs.lemmas.devices.RunLaws.{Transfers-cut, Transfers-done, WordRun-refused, WordRun-unread}
use Rattle.nx_fec.proofs.air_file_runs.decode_run.Goals as goal

decoded-of : (bytes text items : List ℕ) (bits given : List Bool) → given ≡ bits
    → length given % 7 ≡ 0
    → items ≡ aligned_text (words_of given) → text ≡ items → IsBitFile 1048576 bytes bits
    → IsDecoded 1048576 bytes text
decoded-of bytes text items bits given same whole decoded is file = record {
  bits = bits;
  file = file;
  whole = subst (λ l. length l % 7 ≡ 0) same whole;
  read = is ∙ decoded ∙ ap (λ l. aligned_text (words_of l)) same;
}

pub returns-in_err-bits : goal.returns-in_err-bits
returns-in_err-bits g c =
    let p = err_from_is_err_and c.from_residual.result c.from_residual.ensures.1 in
    rw p.1 (rw p.2 (WordRun-unread _ _ _ _ _ _ _ c.requires.writer c.in_err-bits.ensures.reads))

pub returns-in_err-text : goal.returns-in_err-text
returns-in_err-text g c =
    let p = err_from_is_err_and c.from_residual-in_err-text.result
    c.from_residual-in_err-text.ensures.1 in
    rw p.1 (rw p.2 (WordRun-refused _ _ _ _ _ _ c.in_ok-bits.bits _ _ c.requires.writer
    c.deref.ensures.value c.in_ok-bits.ensures.reads c.in_err-text.ensures.refused))

pub returns-in_err-write_out : goal.returns-in_err-write_out
returns-in_err-write_out g c =
    let p = err_from_is_err_and c.from_residual-in_err-write_out.result
    c.from_residual-in_err-write_out.ensures.1 in
    let bits = c.in_ok-bits.bits.items in
    let text = c.deref-2.result.now in
    let decoded = λ (bytes : List ℕ) (file : IsBitFile 1048576 bytes bits). decoded-of bytes text
    c.in_ok-text.text.items bits c.deref.result.now
    c.deref.ensures.value c.in_ok-text.ensures.whole c.in_ok-text.ensures.text
    c.deref-2.ensures.value file in
    let wrote = c.in_err-write_out.ensures in
    rw p.1 (rw p.2 (Transfers-cut _ _ _ _ _ _ _ _ _ _ _ _ c.in_ok-bits.ensures.reads
    (λ extent bytes k. (k.0, text, length text, (decoded bytes k.1, refl), wrote.err))
    c.in_err-write_out.field-0.0.written (wrote.counts.failed.0 refl)))

pub returns : goal.returns
returns g c =
    let bits = c.in_ok-bits.bits.items in
    let text = c.deref-2.result.now in
    let items : c.len.result ≡ length c.in_ok-text.text.items =
    omega (arith, c.len.ensures, c.in_ok-text.text.ok.0) in
    let count : c.len.result ≡ length text = items ∙ ap length (sym c.deref-2.ensures.value) in
    let decoded = λ (bytes : List ℕ) (file : IsBitFile 1048576 bytes bits). decoded-of bytes text
    c.in_ok-text.text.items bits c.deref.result.now
    c.deref.ensures.value c.in_ok-text.ensures.whole c.in_ok-text.ensures.text
    c.deref-2.ensures.value file in
    let wrote = c.in_ok-write_out.ensures in
    Transfers-done _ _ _ _ _ _ _ _ _ _ _ _ c.in_ok-bits.ensures.reads
    (λ extent bytes k. (k.0, text, (decoded bytes k.1, count), wrote.ok)) _ wrote.counts.none
