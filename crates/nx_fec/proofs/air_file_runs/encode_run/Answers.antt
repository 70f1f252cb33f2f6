use Rattle.std.proofs.Common.{◌≡◌, ◌∙◌, ℕ, List, length, map, Err, ap, arith, refl, subst}
use Rattle.std.proofs.lemmas.Result.{err_from_is_err_and}
use Rattle.nx_code.specs.declared.signals.Comb.{Comb}
use Rattle.nx_fec.specs.emissions.Emission.{bits_of, emission, framed_positions, sent_position}
use Rattle.nx_fec.specs.air_files.Lines.{file_of}
use Rattle.nx_fec.specs.air_files.BitLines.{bit_lines}
use Rattle.nx_fec.specs.Runs.{IsEncoded}
use Rattle.nx_fec.proofs.lemmas.devices.TransferLaws.{Ok-not_err, Reads-on}
use Rattle.nx_fec.proofs.lemmas.emissions.EncodingLaws.{spelling-explains, spell_fault-not_read}
use Rattle.nx_fec.proofs.lemmas.emissions.EncodingLaws.{spell_fault-not_write, IsEncoded-of}
use Rattle.nx_fec.proofs.lemmas.devices.RunLaws.{Encodes-no_memory, Encodes-unread, Transfers-cut}
use Rattle.nx_fec.proofs.lemmas.devices.RunLaws.{Transfers-done}
use Rattle.nx_fec.proofs.air_file_runs.encode_run.Goals as goal

pub returns-in_err-text : goal.returns-in_err-text
returns-in_err-text g c =
    let p = err_from_is_err_and c.from_residual.result c.from_residual.ensures.1 in
    rw p.1 (rw p.2 (Encodes-unread _ _ _ _ _ _ c.requires.writer c.in_err-text.ensures))

pub returns-in_err-combs : goal.returns-in_err-combs
returns-in_err-combs g c =
    let p = err_from_is_err_and c.from_residual-in_err-combs.result
    c.from_residual-in_err-combs.ensures.1 in
    let fault = c.in_err-combs.field-0.0 in
    rw p.1 (rw p.2 (record {
      reads = Reads-on _ _ _ _ _ _ _ c.in_ok-text.ensures
          (λ extent bytes k. spelling-explains extent bytes _ _ fault k.0 k.1.0
          (c.deref.ensures.value ∙ k.1.1)
          (λ at same. (c.in_err-combs.ensures.no_such_character at).0 (ap Err same)))
          (λ bytes k h outside. k.1.0) (λ e. absurd (spell_fault-not_read fault e))
          (λ e. absurd (Ok-not_err _ _ e));
      writes = record {
        failed = (
          λ w. absurd (spell_fault-not_write fault w.0 w.1),
          λ one. absurd
              (omega (arith, c.requires.writer, one)),
        );
        once = omega (arith, c.requires.writer);
      };
      unwritten = λ other. refl;
    }))

pub returns-in_err-positions : goal.returns-in_err-positions
returns-in_err-positions g c =
    let p = err_from_is_err_and c.from_residual-in_err-positions.result
    c.from_residual-in_err-positions.ensures.1 in
    rw p.1 (rw p.2 (Encodes-no_memory _ _ _ _ _ _ _ c.requires.writer c.in_ok-text.ensures))

pub returns-in_err-write_emission : goal.returns-in_err-write_emission
returns-in_err-write_emission g c =
    let p = err_from_is_err_and c.from_residual-in_err-write_emission.result
    c.from_residual-in_err-write_emission.ensures.1 in
    let file = file_of (bit_lines (bits_of (emission (map sent_position c.deref-3.result.now)))) in
    let count = length c.in_ok-positions.positions.items in
    let encoded : (bytes : List ℕ) → c.in_ok-text.text.items ≡ bytes → IsEncoded bytes file count =
    λ bytes same.
    IsEncoded-of bytes c.deref.result.now c.in_ok-combs.combs.items
    c.in_ok-positions.positions.items
    (bits_of (emission (map sent_position c.deref-3.result.now)))
    (c.deref.ensures.value ∙ same) c.in_ok-combs.ensures.spelling
    (c.in_ok-positions.ensures
    ∙ ap (λ l. framed_positions (map (λ (comb : Comb). comb.number) l)) c.deref-2.ensures.value)
    (ap (λ l. bits_of (emission (map sent_position l))) c.deref-3.ensures.value) in
    let wrote = c.in_err-write_emission.ensures in
    rw p.1 (rw p.2 (Transfers-cut _ _ _ _ _ _ _ _ _ _ _ _ c.in_ok-text.ensures
    (λ extent bytes k. (k.0, k.1.0, file, count, encoded bytes k.1.1, wrote.err))
    c.in_err-write_emission.field-0.0.written (wrote.counts.failed.0 refl)))

pub returns : goal.returns
returns g c =
    let file = file_of (bit_lines (bits_of (emission (map sent_position c.deref-3.result.now)))) in
    let count : length c.in_ok-positions.positions.items ≡ c.len.result =
    omega (arith, c.len.ensures, c.in_ok-positions.positions.ok.0) in
    let encoded : (bytes : List ℕ) → c.in_ok-text.text.items ≡ bytes
    → IsEncoded bytes file c.len.result = λ bytes same.
    subst (IsEncoded bytes file) count
    (IsEncoded-of bytes c.deref.result.now c.in_ok-combs.combs.items
    c.in_ok-positions.positions.items
    (bits_of (emission (map sent_position c.deref-3.result.now)))
    (c.deref.ensures.value ∙ same) c.in_ok-combs.ensures.spelling
    (c.in_ok-positions.ensures
    ∙ ap (λ l. framed_positions (map (λ (comb : Comb). comb.number) l)) c.deref-2.ensures.value)
    (ap (λ l. bits_of (emission (map sent_position l))) c.deref-3.ensures.value)) in
    let wrote = c.in_ok-write_emission.ensures in
    Transfers-done _ _ _ _ _ _ _ _ _ _ _ _ c.in_ok-text.ensures
    (λ extent bytes k. (k.0, k.1.0, file, encoded bytes k.1.1, wrote.ok)) _ wrote.counts.none
